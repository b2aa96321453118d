-- The loops of `all_rest` of src/readers.rt: whether every lane is at rest.
use Rattle.std.proofs.Common.{◌≡◌, true, take}
use Rattle.std.specs.List.{list_all}
use Rattle.lb_core.specs.declared.course.Course.{Course}
use Rattle.lb_core.specs.Elsewhere.{is_rest}
use Rattle.lb_due.proofs.readers.all_rest.Given as goal

abbrev pub invariant-loop-lane : goal.invariant-loop-lane
invariant-loop-lane l = list_all (λ (c : Course). is_rest c.form) (take l.lane l.engine.machine.courses) ≡ true
