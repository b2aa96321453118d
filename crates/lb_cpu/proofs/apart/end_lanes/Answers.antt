-- For `end_lanes` of src/apart.rt: what is left of all lanes.
use Rattle.std.proofs.Common.{ℕ, ◌≡◌, ◌+◌, List, [], ◌∷◌, ◌++◌, map, length, refl, ap, sym, subst, ◌∙◌, arith}
use Rattle.std.specs.Vec.Iter.{into_iter_items}
use Rattle.std.proofs.lemmas.List.{append_assoc, map-append, length_push}
use Rattle.lb_journal.specs.contracts.journal.Journal.{the_row}
use Rattle.lb_journal.specs.contracts.journal.Left.{the_row as left_row}
use Rattle.lb_lane.specs.Lanes.{LaneIs}
use Rattle.lb_cpu.specs.Ends.{LeftLane, LeftNote}
use Rattle.lb_cpu.proofs.Numbering.{each_moved, each_step}
use Rattle.lb_cpu.proofs.Places.{two_push}
use Rattle.lb_cpu.proofs.apart.end_lanes.Goals as goal

-- a list of images with one more
one_more : {A : Type 0} (f : LaneIs → A) (xs xs' : List A) (x : A) (lanes : List LaneIs) (l : LaneIs) → xs' ≡ xs ++ x ∷ []
    → xs ≡ map f lanes → x ≡ f l → xs' ≡ map f (lanes ++ l ∷ [])
one_more {A = A} f xs xs' x lanes l e so_far is =
    e ∙ ap (λ (ys : List A). ys ++ x ∷ []) so_far ∙ ap (λ (y : A). map f lanes ++ y ∷ []) is ∙ sym (map-append f lanes (l ∷ []))

pub loop-lane-preserved : goal.loop-lane-preserved
loop-lane-preserved g c =
    let n = g.N.Names in
    let i = c.loop-lane.invariant in
    let lanes = c.loop-lane.yielded in
    let lane = c.in-Some.lane in
    let steps = c.in-Some.ensures.steps in
    let e = c.end_lane-seat.ensures in
    let N : ℕ → LaneIs → Type 0 = λ k l. l.side.number ≡ k in
    let P = LeftLane n.header n.book n.board g.N.Versions.versions the_row.coded left_row.coded in
    let O = LeftNote n.book left_row.coded (length n.header.cpus) in
    let number = each_step N (length lanes) lane (into_iter_items c.next.new.self) (into_iter_items c.loop-lane.lane-iterator)
    steps.0 i.numbers in
    record {
      so_far =
          two_push P lanes (lanes ++ lane ∷ []) c.loop-lane.seats.items c.push_reserved.new.self.items lane
          c.end_lane-seat.result.0 refl c.push_reserved.ensures.items i.so_far
          (subst (λ (k : ℕ). P k lane c.end_lane-seat.result.0) number.0 e.left);
      readers =
          one_more (λ (l : LaneIs). l.side.known.reader) c.loop-lane.readers.items
          c.push_reserved-in-loop-lane.new.self.items c.end_lane-seat.result.1 lanes lane
          c.push_reserved-in-loop-lane.ensures.items i.readers e.seen.0;
      lookers =
          one_more (λ (l : LaneIs). l.looker) c.loop-lane.lookers.items
          c.push_reserved-in-loop-lane-2.new.self.items c.end_lane-seat.result.2 lanes lane
          c.push_reserved-in-loop-lane-2.ensures.items i.lookers e.seen.1;
      courses =
          one_more (λ (l : LaneIs). l.side.course) c.loop-lane.courses.items
          c.push_reserved-in-loop-lane-3.new.self.items c.end_lane-seat.result.3 lanes lane
          c.push_reserved-in-loop-lane-3.ensures.items i.courses e.last.0;
      tickets =
          one_more (λ (l : LaneIs). l.side.known.ticket) c.loop-lane.tickets.items
          c.push_reserved-in-loop-lane-4.new.self.items c.end_lane-seat.result.4 lanes lane
          c.push_reserved-in-loop-lane-4.ensures.items i.tickets e.last.1;
      notes =
          two_push O lanes (lanes ++ lane ∷ []) c.loop-lane.notes.items c.push_reserved-in-loop-lane-5.new.self.items lane
          c.end_lane-seat.result.5 refl c.push_reserved-in-loop-lane-5.ensures.items i.notes
          (subst (λ (k : ℕ). O k lane c.end_lane-seat.result.5) number.0 e.note);
      all =
          append_assoc lanes (lane ∷ []) (into_iter_items c.next.new.self)
          ∙ ap (λ (l : List LaneIs). lanes ++ l) (sym steps.0) ∙ i.all;
      left =
          (let l = ap (λ (x : List LaneIs). length x) steps.0 in
          let m = steps.1 in
          let k = i.left in
          omega arith);
      numbers =
          each_moved N (length lanes + 1) (length (lanes ++ lane ∷ [])) (into_iter_items c.next.new.self)
          (omega (arith, length_push lanes lane)) number.1;
      seats_room = (let r = i.seats_room in let k = c.push_reserved.ensures.capacity in omega arith);
      readers_room = (let r = i.readers_room in let k = c.push_reserved-in-loop-lane.ensures.capacity in omega arith);
      lookers_room = (let r = i.lookers_room in let k = c.push_reserved-in-loop-lane-2.ensures.capacity in omega arith);
      courses_room = (let r = i.courses_room in let k = c.push_reserved-in-loop-lane-3.ensures.capacity in omega arith);
      tickets_room = (let r = i.tickets_room in let k = c.push_reserved-in-loop-lane-4.ensures.capacity in omega arith);
      notes_room = (let r = i.notes_room in let k = c.push_reserved-in-loop-lane-5.ensures.capacity in omega arith);
    }
