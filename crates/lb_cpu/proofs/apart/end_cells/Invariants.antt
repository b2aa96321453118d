-- The loops of `end_cells` of src/apart.rt: the cells of all CPUs, out of their locks.
use Rattle.std.proofs.Common.{◌≡◌, ◌+◌, ◌≤◌, length, vec_len, vec_capacity}
use Rattle.std.specs.Vec.Iter.{into_iter_len}
use Rattle.lb_cpu.specs.Ends.{LeftCell}
use Rattle.lb_cpu.specs.Numbering.{EachOfThree}
use Rattle.lb_cpu.proofs.apart.end_cells.Given as goal

abbrev pub invariant-loop-lock : goal.invariant-loop-lock
invariant-loop-lock g l = record {
  so_far : EachOfThree (LeftCell g.N.Names.header g.N.Names.book g.N.Names.board) l.queues.items l.seats.items l.writers.items;
  count : length l.queues.items + into_iter_len l.lock-iterator ≡ vec_len l.fn.locks;
  queues_room : vec_len l.fn.locks ≤ vec_capacity l.queues;
  seats_room : vec_len l.fn.locks ≤ vec_capacity l.seats;
  writers_room : vec_len l.fn.locks ≤ vec_capacity l.writers;
}
