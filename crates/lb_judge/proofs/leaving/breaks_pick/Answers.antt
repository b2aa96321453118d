-- For `breaks_pick` of src/leaving.rt: whether the entry breaks the rule `pick`.
use Rattle.std.proofs.Common.{refl, rules, sym, ◌∙◌}
use Rattle.lb_judge.proofs.Outgoing.{pick_breaks}
use Rattle.lb_judge.proofs.Staged.{has_queue, pulls}
use Rattle.lb_judge.proofs.leaving.breaks_pick.Goals as goal

pub queue_of-requires : goal.queue_of-requires
queue_of-requires c = has_queue c.args.engine.now.machine c.args.entry.now _ c.requires.stage c.in-Out.is refl

pub out_of_queue-requires : goal.out_of_queue-requires
out_of_queue-requires c = rw c.course-course.ensures (pulls c.args.engine.now.machine c.args.entry.now.lane c.requires.ready)

pub returns-in-Some : goal.returns-in-Some
returns-in-Some c =
    let o = rw (c.course-course.ensures, c.queue_of.ensures, c.in-Some.is) at c.in_ok-out_of_queue-in-Out.ensures in
    (rw c.as_slice.ensures at c.is_other.ensures)
    ∙ sym (pick_breaks c.args.engine.now.machine c.args.entry.now c.in-Some.due c.in-Out.cause c.in-Out.to
    c.in-Out.ids c.in-Out.is (search (rules, o)))
