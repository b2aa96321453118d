-- The seats of a run of three entries: lane 1 takes up its row, a wake; queue 0 answers it; lane 0, which has
-- no row, draws the end.
-- Cited by the law `owners_can_keep`.
use Rattle.std.specs.Prelude.{ℕ, List, [], ◌∷◌, ◌++◌, map, pos}
use Rattle.std.specs.List.{range_with_len}
use base.Stored.{Coded}
use Rattle.atomic_table.specs.Seated.{TableId}
use Rattle.lb_queue.specs.declared.answers.Reply.TheVariants.{Done as DoneReply}
use Rattle.lb_trace.specs.declared.trace.Command.TheVariants.{Wake}
use Rattle.lb_trace.specs.declared.trace.Header.{Header}
use Rattle.lb_trace.specs.declared.trace.Trace.{Trace}
use Rattle.lb_core.specs.declared.course.Course.{Course}
use Rattle.lb_core.specs.declared.entry.What.TheVariants.{Row, Did, End}
use Rattle.lb_core.specs.declared.entry.Entry.{Entry}
use Rattle.lb_core.specs.Course.{opening_course}
use Rattle.lb_core.specs.CourseAfter.{course_after}
use Rattle.lb_rows.specs.Lines.{cpus, task, one_cpu, by_lane, at_queue}
use Rattle.lb_ticket.specs.declared.item.Drawn.{Drawn}
use Rattle.lb_ticket.specs.declared.view.Fact.{Fact}
use Rattle.lb_ticket.specs.Seats.{SeatIs}
use Rattle.lb_journal.specs.Journal.{Journal, Left, sight_in}

abbrev pub woken_header : Header
woken_header = one_cpu 2 (task (pos 0) 0 1 ∷ [])

abbrev pub woken_trace : Trace
woken_trace = record {
  header = woken_header;
  rows = record { lane = 1; at = 5; command = Wake 0 } ∷ [];
}

-- the first item of its owner, on a machine, which quotes an entry that left this course
abbrev pub item_on : Header → Entry → Course → Journal
item_on h e c =
    let j : Journal = record { header = h; entry = e; course = c; after = c; masks = []; figs = [] } in
    record j { after = course_after (sight_in [] j) e }

abbrev pub first_item : Entry → Course → Journal
first_item e c = item_on woken_header e c

abbrev pub row_item : Journal
row_item = first_item (by_lane 1 0 (Row 1 5 (Wake 0))) (opening_course 1)

abbrev pub answer_item : Journal
answer_item = first_item (at_queue 0 1 1 (Did DoneReply)) row_item.after

abbrev pub end_item : Journal
end_item = first_item (by_lane 0 0 (End (cpus 0))) (opening_course 1)

abbrev pub drawn : ℕ → Journal → Drawn Journal
drawn n j = record { ticket = n; item = j }

module _ (id : TableId) (left : Coded Left) where
  abbrev pub seat : ℕ → List (Drawn Journal) → List Fact → SeatIs Journal
  seat n ds fresh = record {
    table = id;
    number = n;
    list = ds;
    spare = 0;
    fresh = fresh;
    known = [];
    read = [];
    next = 4;
  }

  -- the last entry of lane 1
  abbrev pub last : Fact
  last = record { ticket = 2; lane = 1; left = left.code (record { course = answer_item.after; lane = 1 }) }

  abbrev pub end_seat : SeatIs Journal
  end_seat = seat 1 (drawn 3 end_item ∷ []) []

  abbrev pub lane_seat : SeatIs Journal
  lane_seat = seat 2 (drawn 1 row_item ∷ []) (last ∷ [])

  abbrev pub queue_seat : SeatIs Journal
  queue_seat = seat 17 (drawn 2 answer_item ∷ []) []

  -- those of lanes 2 to 15, which are not declared
  abbrev pub idle_seats : List (SeatIs Journal)
  idle_seats = map (λ n. seat n [] []) (range_with_len 3 14)

  abbrev pub other_seats : List (SeatIs Journal)
  other_seats = idle_seats ++ queue_seat ∷ []

  abbrev pub seats : List (SeatIs Journal)
  seats = seat 0 [] [] ∷ end_seat ∷ lane_seat ∷ other_seats
