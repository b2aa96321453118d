-- For `depart` of src/engine/hands.rt: tasks leave a queue in the hand of a lane, as its course notes.
use Rattle.std.proofs.Common.{sym, ◌∙◌}
use Rattle.lb_engine.proofs.Leaving.{noted_course, noted_hand, noted_rest, as_many, goes_there, stays_bound}
use Rattle.lb_engine.proofs.engine.hands.depart.Goals as goal

pub leave-taken-requires-clause-goes : goal.leave-taken-requires-clause-goes
leave-taken-requires-clause-goes c = goes_there _ c.args.cause _ _ c.requires.due

pub note_records-requires : goal.note_records-requires
note_records-requires c = sym (as_many _ c.args.cause _ _ _ _ _ c.requires.due c.leave-taken.ensures.left)

pub returns-clause-queue : goal.returns-clause-queue
returns-clause-queue c = noted_rest _ c.args.cause _ _ _ _ _ _ c.requires.due c.leave-taken.ensures.left

pub returns-clause-course : goal.returns-clause-course
returns-clause-course c =
    noted_course _ c.args.cause c.to.result _ _ _ c.leave-taken.new.hand c.note_records.new.records c.leave-taken.result _ _
    c.requires.due c.leave-taken.ensures.left
    c.note_records.ensures c.to.ensures (λ q e. c.taken_off.ensures q (e ∙ sym c.moment.ensures))

pub returns-clause-hand : goal.returns-clause-hand
returns-clause-hand c =
    noted_hand _ c.args.cause _ _ _ c.leave-taken.new.hand c.leave-taken.result c.args.course.now _ c.requires.due
    c.leave-taken.ensures.left
    (noted_course _ c.args.cause c.to.result _ _ _ c.leave-taken.new.hand c.note_records.new.records c.leave-taken.result _ _
    c.requires.due c.leave-taken.ensures.left
    c.note_records.ensures c.to.ensures (λ q e. c.taken_off.ensures q (e ∙ sym c.moment.ensures)))

pub returns-clause-to : goal.returns-clause-to
returns-clause-to c = stays_bound _ c.args.cause _ _ _ _ _ c.requires.due c.leave-taken.ensures.left

pub returns-clause-tasks : goal.returns-clause-tasks
returns-clause-tasks c = as_many _ c.args.cause _ _ _ _ _ c.requires.due c.leave-taken.ensures.left
