-- For `open_turn` of src/turns.rt: a lane's turn opens at a queue with these positions, and the course notes
-- the counters that it found there.
use Rattle.std.proofs.Common.{◌≡◌, Bool, List, [], if◌then◌else◌, length, unwrap_or, ap, sym, ◌∙◌}
use Rattle.lb_interval.specs.declared.Counters.{Counters}
use Rattle.lb_base.specs.Sets.{least}
use Rattle.lb_queue.specs.Queue.{QueueState}
use Rattle.lb_queue.specs.Turns.{opened, shut, turn}
use Rattle.lb_core.specs.CourseAfter.{goes_to}
use Rattle.lb_act.proofs.Found.{found_length}
use Rattle.lb_act.proofs.turns.open_turn.Goals as goal

pub note_counters-requires : goal.note_counters-requires
unfolding turn
note_counters-requires c =
    let q = c.args.queue.now.state in
    let at = c.args.course.now.at in
    let version = c.args.course.now.version in
    let shapes = c.args.shapes.now in
    let st : c.turn-opened.new.self.state ≡ opened q at c.args.lane c.turn_kind-kind.result version shapes =
    ap (λ p. p.1) c.turn-opened.ensures.step
    ∙ ap (λ (b : Bool). if b then shut q at c.turn_kind-kind.result
    else opened q at c.args.lane c.turn_kind-kind.result version shapes) c.requires.closed in
    c.requires.counters ∙ sym (found_length q at version shapes c.requires.fit)
    ∙ ap (λ (x : QueueState). length (unwrap_or x.counters [])) (sym st)

pub returns-clause-queue : goal.returns-clause-queue
unfolding turn
returns-clause-queue c =
    let q = c.args.queue.now.state in
    let at = c.args.course.now.at in
    let version = c.args.course.now.version in
    let shapes = c.args.shapes.now in
    ap (λ p. p.1) c.turn-opened.ensures.step
    ∙ ap (λ (b : Bool). if b then shut q at c.turn_kind-kind.result
    else opened q at c.args.lane c.turn_kind-kind.result version shapes) c.requires.closed
    ∙ ap (λ k. opened q at c.args.lane k version shapes) c.turn_kind-kind.ensures

pub returns-clause-course : goal.returns-clause-course
unfolding turn
returns-clause-course c =
    let q = c.args.queue.now.state in
    let at = c.args.course.now.at in
    let version = c.args.course.now.version in
    let shapes = c.args.shapes.now in
    let st : c.turn-opened.new.self.state ≡ opened q at c.args.lane c.turn_kind-kind.result version shapes =
    ap (λ p. p.1) c.turn-opened.ensures.step
    ∙ ap (λ (b : Bool). if b then shut q at c.turn_kind-kind.result
    else opened q at c.args.lane c.turn_kind-kind.result version shapes) c.requires.closed in
    c.turn_opens.ensures
    ∙ ap (λ (cs : List Counters). goes_to (least c.args.positions)
    (record c.args.course.now { positions = c.args.positions; counters = cs }))
    (c.note_counters.ensures ∙ ap (λ (x : QueueState). unwrap_or x.counters []) st)
