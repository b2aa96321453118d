-- The loops of `name` of src/lists.rt: the ids of the tasks in a hand.
use Rattle.std.proofs.Common.{◌≡◌, length, take}
use Rattle.lb_queue.specs.Tasks.{ids}
use Rattle.lb_cell.proofs.lists.name.Given as goal

abbrev pub invariant-loop-i : goal.invariant-loop-i
invariant-loop-i l = record {
  room : length l.list ≡ length l.hand.tasks;
  so_far : take l.i l.list ≡ take l.i (ids l.hand.tasks);
}
