-- For `header_and_masks` of src/laws.rt: each item of the lists of a history carries its header, and each
-- `use` of the worked ones the masks of its version: those of the header, or of the rebuild that the
-- publisher's entry of that version serves.
use Rattle.std.proofs.Common.{refl}
use Rattle.lb_rows.specs.Balancing.{one_task_moves_history}
use Rattle.lb_rows.specs.Commands.{rebuilt_history}
use Rattle.lb_core.specs.Machine.{start, sight}
use Rattle.lb_core.specs.Step.{after}
use Rattle.lb_core.specs.CourseAfter.{course_after, turn_ends}
use Rattle.lb_journal_rows.specs.Lists.{by_owner}
use Rattle.lb_journal_rows.proofs.Premises.{headers_are, masks_pass}
use Rattle.lb_journal_rows.proofs.laws.header_and_masks.Goals as goal

pub returns-clause-header : goal.returns-clause-header
returns-clause-header c = headers_are

pub returns-clause-one_lane : goal.returns-clause-one_lane
unfolding start sight after course_after turn_ends
returns-clause-one_lane c = masks_pass one_task_moves_history.header (by_owner one_task_moves_history) refl

pub returns-clause-rebuilt : goal.returns-clause-rebuilt
unfolding start sight after course_after turn_ends
returns-clause-rebuilt c = masks_pass rebuilt_history.header (by_owner rebuilt_history) refl
