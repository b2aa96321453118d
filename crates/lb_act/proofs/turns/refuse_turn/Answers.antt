-- For `refuse_turn` of src/turns.rt: a lane's turn is refused at a queue where one is open, and ends for the
-- course.
use Rattle.std.proofs.Common.{Bool, if◌then◌else◌, ap, ◌∙◌}
use Rattle.lb_queue.specs.Turns.{opened, shut, turn}
use Rattle.lb_act.proofs.turns.refuse_turn.Goals as goal

pub returns-clause-queue : goal.returns-clause-queue
unfolding turn
returns-clause-queue c =
    let q = c.args.queue.now.state in
    let at = c.args.course.now.at in
    ap (λ p. p.1) c.turn-refused.ensures.step
    ∙ ap (λ (b : Bool). if b then shut q at c.turn_kind-kind.result
    else opened q at c.args.lane c.turn_kind-kind.result c.args.course.now.version c.args.shapes.now) c.requires.open
    ∙ ap (λ k. shut q at k) c.turn_kind-kind.ensures
