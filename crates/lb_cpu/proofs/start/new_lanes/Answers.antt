-- For `new_lanes` of src/start.rt: the lanes before any entry, in order.
use Rattle.std.proofs.Common.{ℕ, ◌≡◌, ◌+◌, List, [], ◌∷◌, ◌++◌, map, length, ap, sym, subst, ◌∙◌, rules, arith}
use Rattle.std.specs.Vec.Iter.{into_iter_items}
use Rattle.std.proofs.lemmas.List.{append_assoc, map-append, length_push}
use Rattle.lb_trace.specs.declared.trace.Row.{Row}
use Rattle.lb_ticket.specs.Seats.{SeatIs}
use Rattle.lb_journal.specs.Journal.{Journal}
use Rattle.lb_board.specs.Board.{Sight}
use Rattle.lb_topub.specs.Versions.{VersionsSeen}
use Rattle.lb_lane.specs.Lanes.{LaneIs}
use Rattle.lb_cpu.specs.Numbering.{EachFrom}
use Rattle.lb_cpu.specs.Blanks.{FitLanes}
use Rattle.lb_cpu.specs.Starts.{IsNew}
use Rattle.lb_cpu.proofs.Numbering.{each_push}
use Rattle.lb_cpu.proofs.Starting.{next_lane}
use Rattle.lb_cpu.proofs.start.new_lanes.Goals as goal

pub loop-own-preserved : goal.loop-own-preserved
loop-own-preserved g c =
    let h = g.N.Names.header in
    let i = c.loop-own.invariant in
    let l = c.loop-own in
    let lanes = l.lanes.items in
    let lane = c.in_ok-lane.lane in
    let steps = c.in-Some.ensures.steps in
    let f : LaneIs → List Row = λ x. x.rows in
    let rest = into_iter_items c.next.new.self in
    let seats = into_iter_items c.next-in-loop-own.new.self in
    let readers = into_iter_items c.next-in-loop-own-2.new.self in
    let lookers = into_iter_items c.next-in-loop-own-3.new.self in
    let items = c.push_reserved.ensures.items in
    let longer : length c.push_reserved.new.self.items ≡ length lanes + 1 =
    (let a = ap (λ (x : List LaneIs). length x) items in let b = length_push lanes lane in omega arith) in
    let number : c.len-number.result ≡ length lanes = search rules in
    let next = next_lane h g.N.Names.book g.N.Names.board g.N.Versions.versions (length lanes) c.in-Some.own
    c.in-Some-next.seat c.in-Some-next-2.reader c.in-Some-next-3.looker (into_iter_items l.own-iterator) rest
    (into_iter_items l.seats) seats (into_iter_items l.readers) readers (into_iter_items l.lookers) lookers i.rest steps.0
    c.in-Some-next.ensures.items c.in-Some-next-2.ensures.items c.in-Some-next-3.ensures.items in
    record {
      rest =
          subst (λ (k : ℕ). FitLanes h g.N.Names.book g.N.Names.board g.N.Versions.versions k rest seats readers lookers)
          (sym longer) next.rest;
      new =
          subst (λ (x : List LaneIs). EachFrom (IsNew h) 0 x) (sym items)
          (each_push (IsNew h) 0 lanes lane i.new
          (subst (λ (k : ℕ). IsNew h k lane) (omega (arith, number)) c.in_ok-lane.ensures.lane));
      rows =
          ap (λ (x : List LaneIs). map f x ++ rest) items
          ∙ ap (λ (x : List (List Row)). x ++ rest) (map-append f lanes (lane ∷ []))
          ∙ append_assoc (map f lanes) (lane.rows ∷ []) rest
          ∙ ap (λ (r : List Row). map f lanes ++ r ∷ rest) c.in_ok-lane.ensures.rows
          ∙ ap (λ (x : List (List Row)). map f lanes ++ x) (sym steps.0) ∙ i.rows;
      count =
          (let a = ap (λ (x : List (List Row)). length x) steps.0 in
          let b = i.count in
          omega (arith, longer));
      rows_left =
          (let a = ap (λ (x : List (List Row)). length x) steps.0 in
          let b = steps.1 in
          let d = i.rows_left in
          omega arith);
      seats_left =
          (let a = ap (λ (x : List (SeatIs Journal)). length x) c.in-Some-next.ensures.items in
          let b = c.in-Some-next.ensures.len in
          let d = i.seats_left in
          omega arith);
      readers_left =
          (let a = ap (λ (x : List Sight). length x) c.in-Some-next-2.ensures.items in
          let b = c.in-Some-next-2.ensures.len in
          let d = i.readers_left in
          omega arith);
      lookers_left =
          (let a = ap (λ (x : List VersionsSeen). length x) c.in-Some-next-3.ensures.items in
          let b = c.in-Some-next-3.ensures.len in
          let d = i.lookers_left in
          omega arith);
      room = (let a = i.room in let k = c.push_reserved.ensures.capacity in omega arith);
    }
