-- The loops of `picks` of src/examination.rt: fills `picked` with what the pull takes out of the list and
-- what it leaves there.
use Rattle.std.proofs.Common.{◌≡◌, ◌-◌, ◌≤◌, length, vec_len}
use Rattle.std.specs.Prelude.{vec_capacity}
use Rattle.lb_detach.proofs.Examining.{HasExamined}
use Rattle.lb_detach.proofs.examination.picks.Given as goal

abbrev pub invariant-examine : goal.invariant-examine
invariant-examine l = record {
  so_far : HasExamined l.env l.list l.picked.ids.items l.picked.order.items l.at.examined l.at.free l.at.left;
  ids_room : vec_capacity l.picked.ids ≡ vec_capacity l.fn.picked.ids;
  order_room : vec_capacity l.picked.order ≡ vec_capacity l.fn.picked.order;
  ids_few : vec_len l.picked.ids ≤ l.at.examined;
  order_few : vec_len l.picked.order ≤ l.at.examined;
  free_few : l.at.free ≤ l.at.examined;
}

abbrev pub decreases-examine : goal.decreases-examine
decreases-examine l = length l.list - l.at.examined
