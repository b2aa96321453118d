-- For `Ended::reserve` of src/booking.rt: makes room for an entry in the list of an owner.
use Rattle.std.proofs.Common.{ℕ, ◌≤◌, OnOk, set, sym, subst, ap, ◌∙◌}
use Rattle.std.specs.Prelude.{slice_get}
use Rattle.lb_journal.specs.Owners.{lists_of}
use Rattle.lb_journal.specs.declared.journal.Journal.{the_code}
use Rattle.lb_journal.specs.contracts.journal.Left.{the_row}
use Rattle.lb_end.specs.Ends.{EndedIs}
use Rattle.lb_end.specs.Seats.{next_at, spare_at}
use Rattle.lb_end.proofs.Seating.{kept_at}
use Rattle.lb_end.proofs.Keeping.{lists_kept}
use Rattle.lb_end.proofs.Parts.{seat_there}
use Rattle.lb_end.proofs.Rooms.{keeps_room, nexts_stay, room_grows, room_now}
use Rattle.lb_end.proofs.ended.Ended.reserve.Goals as goal

pub invariant_of-self : goal.invariant_of-self
invariant_of-self g c =
    let here = seat_there _ _ c.self.view_is c.args.owner _ c.requires.inside c.index_mut.ensures.value in
    let r = c.reserve.ensures in
    keeps_room g.N.Names.header g.N.Names.book the_code the_row.coded _ c.args.owner _ _ here (record {
      table = r.same.0;
      number = r.same.1;
      list = r.list;
      view = r.view;
      room = r.spare;
    }) c.self.invariant

pub returns-clause-ok : goal.returns-clause-ok
returns-clause-ok g c =
    let here = seat_there _ _ c.self.view_is c.args.owner _ c.requires.inside c.index_mut.ensures.value in
    let r = c.reserve.ensures in
    subst (λ (n : ℕ). OnOk c.reserve.result (1 ≤ n)) (sym (room_now c.self.inside.seats.items c.args.owner c.index_mut.result.now c.reserve.new.self here)) r.ok

pub returns-clause-room : goal.returns-clause-room
returns-clause-room g c =
    let here = seat_there _ _ c.self.view_is c.args.owner _ c.requires.inside c.index_mut.ensures.value in
    let r = c.reserve.ensures in
    λ k.
    subst (λ (e : EndedIs). spare_at e.seats k ≤ spare_at (set c.self.inside.seats.items c.args.owner c.reserve.new.self) k) c.self.view_is
    (room_grows _ _ _ _ here (record {
      table = r.same.0;
      number = r.same.1;
      list = r.list;
      view = r.view;
      room = r.spare;
    }) k)

pub returns-clause-lists : goal.returns-clause-lists
returns-clause-lists g c =
    let here = seat_there _ _ c.self.view_is c.args.owner _ c.requires.inside c.index_mut.ensures.value in
    let r = c.reserve.ensures in
    lists_kept _ _ _ _ here r.list ∙ ap (λ (e : EndedIs). lists_of e.seats) c.self.view_is

pub returns-clause-nexts : goal.returns-clause-nexts
returns-clause-nexts g c =
    let here = seat_there _ _ c.self.view_is c.args.owner _ c.requires.inside c.index_mut.ensures.value in
    let r = c.reserve.ensures in
    λ k.
    nexts_stay _ _ _ _ here (record {
      table = r.same.0;
      number = r.same.1;
      list = r.list;
      view = r.view;
      room = r.spare;
    }) k
    ∙ ap (λ (e : EndedIs). next_at e.seats k) c.self.view_is

pub returns-clause-others : goal.returns-clause-others
returns-clause-others g c =
    λ k other. kept_at c.self.inside.seats.items c.args.owner c.reserve.new.self k other ∙ ap (λ (e : EndedIs). slice_get e.seats k) c.self.view_is
