-- The loops of `new_cells` of src/start.rt: the queues behind their locks, in the order of their CPUs.
use Rattle.std.proofs.Common.{◌≡◌, ◌+◌, ◌≤◌, length, vec_len, vec_capacity}
use Rattle.std.specs.Vec.Iter.{into_iter_items, into_iter_len}
use Rattle.lb_cpu.specs.Blanks.{FitCpus}
use Rattle.lb_cpu.proofs.start.new_cells.Given as goal

abbrev pub invariant-loop-queue : goal.invariant-loop-queue
invariant-loop-queue g l = record {
  rest : FitCpus g.N.Names.header g.N.Names.book g.N.Names.board (vec_len l.cells) (into_iter_items l.queue-iterator)
      (into_iter_items l.seats) (into_iter_items l.writers);
  count : vec_len l.cells + length (into_iter_items l.queue-iterator) ≡ length l.fn.parts.queues.items;
  queues_left : into_iter_len l.queue-iterator ≡ length (into_iter_items l.queue-iterator);
  seats_left : into_iter_len l.seats ≡ length (into_iter_items l.seats);
  writers_left : into_iter_len l.writers ≡ length (into_iter_items l.writers);
  room : length l.fn.parts.queues.items ≤ vec_capacity l.cells;
}
