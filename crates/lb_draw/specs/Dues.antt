-- The entry that the form of a lane's course draws, where it draws one.
-- Cited by the contracts of `ending`, `at_work` and `entry_due`.
use Rattle.std.specs.Prelude.{ℕ}
use Rattle.lb_core.specs.declared.course.Course.{Course}
use Rattle.lb_core.specs.declared.course.Form.{Form}
use Rattle.lb_core.specs.declared.entry.Entry.{Entry}
use Rattle.lb_core.specs.Machine.{MachineState}
use Rattle.lb_ready.specs.Next.{cpu_next, drawn, owner_of, what_next}

abbrev pub entry_due : Form → MachineState → ℕ → Course → Entry
entry_due f m lane c = drawn m lane (owner_of (what_next f m c) lane (cpu_next f m c)) (what_next f m c)
