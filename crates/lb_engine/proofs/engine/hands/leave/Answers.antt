-- For `leave` of src/engine/hands.rt: the `out` that is due, by the form of the course: tasks leave the queue
-- in a hand.
use Rattle.std.proofs.Common.{None, sym, subst}
use Rattle.lb_core.specs.declared.course.Form.{Form}
use Rattle.lb_engine.specs.Leaves.{GoesTo, HaveLeft, out_with}
use Rattle.lb_engine.proofs.engine.hands.leave.Goals as goal

pub leave_to_wake-requires-clause-goes : goal.leave_to_wake-requires-clause-goes
leave_to_wake-requires-clause-goes c =
    let P : Form → Type 0 = λ f. GoesTo (out_with f c.args.env c.args.course.now c.args.queue.now.state)
    c.args.hand.now.to in subst P c.in-Asked.is c.requires.goes

pub leave_by_stop-left-requires-clause-goes : goal.leave_by_stop-left-requires-clause-goes
leave_by_stop-left-requires-clause-goes c =
    let P : Form → Type 0 = λ f. GoesTo (out_with f c.args.env c.args.course.now c.args.queue.now.state)
    c.args.hand.now.to in subst P c.in-Rest.is c.requires.goes

pub leave_at_tick-requires-clause-goes : goal.leave_at_tick-requires-clause-goes
leave_at_tick-requires-clause-goes c =
    let P : Form → Type 0 = λ f. GoesTo (out_with f c.args.env c.args.course.now c.args.queue.now.state)
    c.args.hand.now.to in subst P c.in-Serving.is c.requires.goes

pub leave_by_pull-requires-clause-goes : goal.leave_by_pull-requires-clause-goes
leave_by_pull-requires-clause-goes c =
    let P : Form → Type 0 = λ f. GoesTo (out_with f c.args.env c.args.course.now c.args.queue.now.state)
    c.args.hand.now.to in subst P c.in-Looked.is c.requires.goes

pub returns-in-Asked-clause-left : goal.returns-in-Asked-clause-left
returns-in-Asked-clause-left c =
    let P : Form → Type 0 = λ f. HaveLeft
    (out_with f c.args.env c.args.course.now c.args.queue.now.state) c.leave_to_wake.new.queue.state
    c.args.hand.now c.leave_to_wake.new.hand None in
    subst P (sym c.in-Asked.is) c.leave_to_wake.ensures.left

pub returns-in-Rest-clause-left : goal.returns-in-Rest-clause-left
returns-in-Rest-clause-left c =
    let P : Form → Type 0 = λ f. HaveLeft
    (out_with f c.args.env c.args.course.now c.args.queue.now.state) c.leave_by_stop-left.new.queue.state
    c.args.hand.now c.leave_by_stop-left.new.hand None in
    subst P (sym c.in-Rest.is) c.leave_by_stop-left.ensures.left

pub returns-in-Serving-clause-left : goal.returns-in-Serving-clause-left
returns-in-Serving-clause-left c =
    let P : Form → Type 0 = λ f. HaveLeft
    (out_with f c.args.env c.args.course.now c.args.queue.now.state) c.leave_at_tick.new.queue.state
    c.args.hand.now c.leave_at_tick.new.hand None in
    subst P (sym c.in-Serving.is) c.leave_at_tick.ensures.left

pub returns-in-Looked-clause-left : goal.returns-in-Looked-clause-left
returns-in-Looked-clause-left c =
    let P : Form → Type 0 = λ f. HaveLeft
    (out_with f c.args.env c.args.course.now c.args.queue.now.state) c.leave_by_pull.new.queue.state
    c.args.hand.now c.leave_by_pull.new.hand c.leave_by_pull.result in
    subst P (sym c.in-Looked.is) c.leave_by_pull.ensures.left
