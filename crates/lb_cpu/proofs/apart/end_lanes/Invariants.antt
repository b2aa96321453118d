-- The loops of `end_lanes` of src/apart.rt: what is left of all lanes.
use Rattle.std.proofs.Common.{◌≡◌, ◌≤◌, ◌++◌, length, map, vec_capacity}
use Rattle.std.specs.Vec.Iter.{into_iter_items, into_iter_len}
use Rattle.lb_journal.specs.contracts.journal.Journal.{the_row}
use Rattle.lb_journal.specs.contracts.journal.Left.{the_row as left_row}
use Rattle.lb_cpu.specs.Ends.{LeftLane, LeftNote}
use Rattle.lb_cpu.specs.Numbering.{EachFrom, EachOfTwo}
use Rattle.lb_cpu.proofs.apart.end_lanes.Given as goal

abbrev pub invariant-loop-lane : goal.invariant-loop-lane
invariant-loop-lane g l = record {
  so_far : EachOfTwo (LeftLane g.N.Names.header g.N.Names.book g.N.Names.board g.N.Versions.versions the_row.coded
      left_row.coded) l.yielded l.seats.items;
  readers : l.readers.items ≡ map (λ x. x.side.known.reader) l.yielded;
  lookers : l.lookers.items ≡ map (λ x. x.looker) l.yielded;
  courses : l.courses.items ≡ map (λ x. x.side.course) l.yielded;
  tickets : l.tickets.items ≡ map (λ x. x.side.known.ticket) l.yielded;
  notes : EachOfTwo (LeftNote g.N.Names.book left_row.coded (length g.N.Names.header.cpus)) l.yielded l.notes.items;
  all : l.yielded ++ into_iter_items l.lane-iterator ≡ l.fn.lanes.items;
  left : into_iter_len l.lane-iterator ≡ length (into_iter_items l.lane-iterator);
  numbers : EachFrom (λ k x. x.side.number ≡ k) (length l.yielded) (into_iter_items l.lane-iterator);
  seats_room : length l.fn.lanes.items ≤ vec_capacity l.seats;
  readers_room : length l.fn.lanes.items ≤ vec_capacity l.readers;
  lookers_room : length l.fn.lanes.items ≤ vec_capacity l.lookers;
  courses_room : length l.fn.lanes.items ≤ vec_capacity l.courses;
  notes_room : length l.fn.lanes.items ≤ vec_capacity l.notes;
  tickets_room : length l.fn.lanes.items ≤ vec_capacity l.tickets;
}
