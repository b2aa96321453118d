-- For `breaks_counters` of src/turns.rt: whether the entry breaks the rule `counters`.
use Rattle.std.proofs.Common.{refl}
use Rattle.lb_judge.proofs.Staged.{has_queue, staged_turn, staged_close, turn_asks, none_open}
use Rattle.lb_judge.proofs.turns.breaks_counters.Goals as goal

pub queue_of-requires : goal.queue_of-requires
queue_of-requires c = has_queue c.args.engine.now.machine c.args.entry.now _ c.requires.stage c.in-Turn.is refl

pub queue_of-requires-in-Close : goal.queue_of-requires-in-Close
queue_of-requires-in-Close c = has_queue c.args.engine.now.machine c.args.entry.now _ c.requires.stage c.in-Close.is refl

pub positions_due-requires-clause-turn : goal.positions_due-requires-clause-turn
positions_due-requires-clause-turn c = rw c.course-course.ensures
    (staged_turn c.args.engine.now.machine c.args.entry.now _ c.requires.ready c.requires.stage c.in-Turn.is)

pub counters_due-counters-requires : goal.counters_due-counters-requires
counters_due-counters-requires c = rw c.course-course.ensures
    (staged_close c.args.engine.now.machine c.args.entry.now _ _ _ _ c.requires.ready c.requires.stage c.in-Close.is)

pub word_due-requires : goal.word_due-requires
word_due-requires c = rw c.course-course.ensures
    (staged_close c.args.engine.now.machine c.args.entry.now _ _ _ _ c.requires.ready c.requires.stage c.in-Close.is)

pub positions_due-requires-clause-asks : goal.positions_due-requires-clause-asks
positions_due-requires-clause-asks c =
    let m = c.args.engine.now.machine in
    let e = c.args.entry.now in
    rw (c.course-course.ensures, c.queue_of.ensures)
    (turn_asks m e _ c.in-Turn.is (c.calls_may_be_made.ensures.tried m e c.requires.ready c.requires.stage))

pub positions_due-requires-clause-none : goal.positions_due-requires-clause-none
positions_due-requires-clause-none c = rw c.queue_of.ensures
    (none_open c.args.engine.now.machine c.args.entry.now _ c.in-Turn.is c.requires.reply)
