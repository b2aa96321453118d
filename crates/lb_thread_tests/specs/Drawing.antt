-- The course that the row which the test of a journal draws leaves: it asks for a `rebuild`.
-- Cited by the contracts of `row_item` and `pub_item`.
use Rattle.std.specs.Prelude.{ℕ, Some, []}
use Rattle.lb_trace.specs.declared.trace.Command.TheVariants.{Rebuild}
use Rattle.lb_core.specs.declared.course.Course.{Course}
use Rattle.lb_core.specs.declared.course.Form.TheVariants.{Asked}
use Rattle.lb_core.specs.Course.{opening_course}

-- a lane of a machine of n CPUs has taken up its first row, a rebuild that leaves all CPUs apart
abbrev pub asked_course : ℕ → Course
asked_course n = record (opening_course n) { form = Asked; rows = 1; at = 0; command = Some (Rebuild []) }
