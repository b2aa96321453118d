-- The loops of `opening_courses` of src/engine/opening.rt: the courses before any entry.
use Rattle.std.proofs.Common.{◌≡◌, length, replicate}
use Rattle.lb_core.specs.Course.{opening_course}
use Rattle.lb_engine.proofs.engine.opening.opening_courses.Given as goal

abbrev pub invariant-loop-lane : goal.invariant-loop-lane
invariant-loop-lane l = l.courses.items ≡ replicate l._lane (opening_course (length l.header.cpus))
