-- For `take_in` of src/steps.rt: what another knows or tells goes to a seat, which then loads the ticket
-- word.
use Rattle.std.proofs.Common.{ap, arith, subst}
use Rattle.lb_ticket.specs.Bare.{BareMarks}
use Rattle.lb_ticket.proofs.BareKeeping.{bare_learns}
use Rattle.lb_ticket.proofs.Belows.{takes_below}
use Rattle.lb_ticket.proofs.steps.take_in.Goals as goal

pub join_seat-requires : goal.join_seat-requires
join_seat-requires g c =
    let m = g.I.Item.means in
    let v = c.args.token.now in
    let w = c.args.other in
    let o = c.requires.other in (
      c.requires.table.0,
      c.requires.same,
      o.3,
      (let e = c.requires.table.1 in omega arith),
      λ s h at apart there.
          bare_learns m g.row.I.coded g.row.I-Left.coded c.args.shared.now.key v.id w.id v.me.0 w.me.0 o.0 o.1 o.2
          s.words s.views h at apart there,
    )

pub returns-clause-below : goal.returns-clause-below
returns-clause-below g c ds below =
    takes_below ds c.args.token.now.me.0 c.args.other.me.0 c.load.result c.load.new.token.me.0
    (subst (λ v. BareMarks v c.load.result c.load.new.token.me.0)
    (ap (λ me. me.0) c.join_seat.ensures.2) c.load.ensures.marks)
    below
