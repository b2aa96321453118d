-- For `Ended::follow` of src/steps.rt: the seat of one owner follows that of another.
use Rattle.std.proofs.Common.{◌≡◌, List, length, set, sym, subst, ap, ◌∙◌}
use Rattle.std.specs.Vec.{with_items}
use Rattle.std.proofs.lemmas.List.{length-set, with_items_is}
use Rattle.lb_ticket.specs.Seats.{SeatIs}
use Rattle.lb_journal.specs.Journal.{Journal}
use Rattle.lb_journal.specs.declared.journal.Journal.{the_code}
use Rattle.lb_journal.specs.contracts.journal.Left.{the_row}
use Rattle.lb_end.specs.Ends.{EndedIs, EndedKeeps}
use Rattle.lb_end.specs.Seats.{Followed, Follows}
use Rattle.lb_end.specs.contracts.ended.Ended.{the_view}
use Rattle.lb_end.proofs.Keeping.{keeps_followed}
use Rattle.lb_end.proofs.Chaining.{follows}
use Rattle.lb_end.proofs.ended.Ended.follow.Goals as goal

-- the seats as they are now
whole : (g : _) (c : goal.After-self-1 g) → (with_items c.self.inside.seats c.follow.new.seats).items ≡ c.follow.new.seats
whole g c =
    let f = c.follow.ensures in
    with_items_is c.self.inside.seats c.follow.new.seats
    (ap length f.now ∙ (length-set c.deref_mut.result.now c.args.a f.seat' ∙ c.deref_mut.ensures.len))

-- the one has followed the other
now_follows : (g : _) (c : goal.After-self-1 g)
    → Followed the_code c.args.a c.args.b c.self.inside.seats.items (with_items c.self.inside.seats c.follow.new.seats).items
now_follows g c =
    subst (λ (t : Type 0). t)
    (λ i. Followed the_code c.args.a c.args.b (c.deref_mut.ensures.value i) (sym (whole g c) i)) c.follow.ensures

pub invariant_of-self : goal.invariant_of-self
invariant_of-self g c =
    let e : EndedIs = record {
      header = c.self.inside.header;
      book = c.self.inside.book;
      seats = c.self.inside.seats.items;
      queues = c.self.inside.queues.items;
      courses = c.self.inside.courses.items;
      tickets = c.self.inside.tickets.items;
      notes = c.self.inside.notes.items;
    } in
    let n = g.N.Names in
    keeps_followed c.uses_stay.ensures n.header n.book the_code the_row.coded e c.args.a c.args.b
    (with_items c.self.inside.seats c.follow.new.seats).items (now_follows g c) c.self.invariant

pub returns-clause-seats : goal.returns-clause-seats
returns-clause-seats g c =
    subst (λ (e : EndedIs). Follows c.args.a c.args.b e.seats (with_items c.self.inside.seats c.follow.new.seats).items)
    c.self.view_is
    (follows the_code c.args.a c.args.b c.self.inside.seats.items (with_items c.self.inside.seats c.follow.new.seats).items
    c.requires.apart (now_follows g c))

pub returns-clause-same : goal.returns-clause-same
returns-clause-same g c =
    ap (λ (e : EndedIs). record e { seats = (with_items c.self.inside.seats c.follow.new.seats).items }) c.self.view_is
