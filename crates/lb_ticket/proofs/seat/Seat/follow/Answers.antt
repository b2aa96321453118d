-- For `Seat::follow` of src/seat.rt: reads what another seat drew so far, which that one keeps.
use Rattle.std.proofs.Common.{rules, ◌++◌, map, sym, ap, ◌∙◌, subst}
use Rattle.lb_ticket.specs.Facts.{held_of, HeldBelow}
use Rattle.lb_ticket.specs.Bare.{first_held}
use Rattle.lb_ticket.proofs.BareKeeping.{read_below, all_read_now}
use Rattle.lb_ticket.proofs.seat.Seat.follow.Goals as goal

pub returns-clause-read : goal.returns-clause-read
returns-clause-read g c =
    let old = c.self.inside.token.me.0.read in
    ap (λ w. w.read) c.take_in.ensures.marks.0
    ∙ ap (λ me. old ++ me.0.read) c.tell-told.ensures.views.1
    ∙ ap (λ cs. old ++ first_held cs) c.other.invariant.0.0
    ∙ ap (λ x. x.read ++ map (held_of g.row.I.coded) c.other.inside.list.items) c.self.view_is
    ∙ ap (λ x. c.args.self.now.read ++ map (held_of g.row.I.coded) x.list) c.other.view_is

pub returns-clause-below : goal.returns-clause-below
returns-clause-below g c =
    let m = c.take_in.ensures.marks in
    let now = c.take_in.new.token.me.0 in
    let below : HeldBelow now.seen now.read = subst (λ w. HeldBelow w.seen w.read) (sym m.0) m.3 in
    read_below g.row.I.coded now.seen c.args.self.now.read c.args.other.now.list
    (subst (HeldBelow now.seen) (returns-clause-read g c) below)

pub returns-clause-reads : goal.returns-clause-reads
returns-clause-reads g c =
    all_read_now g.row.I.coded _ c.args.self.now.read _ c.args.other.now.list (returns-clause-read g c)
    (returns-clause-below g c)

pub invariant_of-self : goal.invariant_of-self
invariant_of-self g c =
    let was = c.self.invariant in
    (search rules, was.1, was.2, c.take_in.ensures.below c.self.inside.list.items was.3)
