-- The loops of `append_ids` of src/examination.rt: adds the ids of the tasks, in their order.
use Rattle.std.proofs.Common.{◌≡◌, ◌+◌, ◌++◌, take, vec_len}
use Rattle.std.specs.Prelude.{map, vec_capacity}
use Rattle.lb_detach.proofs.examination.append_ids.Given as goal

abbrev pub invariant-loop-task : goal.invariant-loop-task
invariant-loop-task l = record {
  items : l.order.items ≡ l.initial.order.items ++ map (λ t. t.id) (take l.task-index l.list);
  count : vec_len l.order ≡ vec_len l.initial.order + l.task-index;
  room : vec_capacity l.order ≡ vec_capacity l.initial.order;
}
