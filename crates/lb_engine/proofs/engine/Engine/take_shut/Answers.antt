-- For `Engine::take_shut` of src/engine/turns.rt: a turn is refused, since one is open at the queue.
use Rattle.std.proofs.Common.{◌≡◌, nat_lt, length, ap, refl, ◌∙◌}
use Rattle.lb_core.specs.declared.entry.What.TheVariants as what
use Rattle.lb_core.specs.Course.{turn_domains}
use Rattle.lb_core.specs.Machine.{course_at}
use Rattle.lb_core.specs.Step.{after}
use Rattle.lb_turn.specs.Turns.{TurnState}
use Rattle.lb_engine.specs.contracts.engine.Engine.{the_view}
use Rattle.lb_engine.proofs.Serving.{served_by, course_now}
use Rattle.lb_engine.proofs.Turning.{turn_is}
use Rattle.lb_engine.proofs.engine.Engine.take_shut.Goals as goal

pub returns : goal.returns
unfolding after
returns c =
    let v = the_view c.self.inside in
    let now = c.args.self.now in
    let lane = c.args.lane in
    let q = c.index_mut-queue.result.now in
    let c2 = c.index_mut-course.result.now in
    let e : course_at now.machine.courses lane ≡ c2 =
    course_now v now lane c2 c.self.view_is c.requires.lane c.index_mut-course.ensures.value in
    let turn = turn_is v now lane c2 c.turn-turn.result c.self.view_is e c.turn-turn.ensures in
    let has : c.has_domains-has_domains.result ≡ nat_lt 0 (length (turn_domains v.machine.header c2)) =
    c.has_domains-has_domains.ensures ∙ ap (λ (t : TurnState). nat_lt 0 (length (turn_domains t.header t.course))) turn in
    served_by v now c.self.inside.queues.items c.args.cpu lane what.Shut q c.refuse_turn.new.queue c2
    c.refuse_turn.new.course v.machine.places
    c.self.view_is refl refl c.requires.cpu c.index_mut-queue.ensures.value c.requires.lane c.index_mut-course.ensures.value
    c.refuse_turn.ensures.queue (c.refuse_turn.ensures.course v.machine.header has) refl c.refuse_turn.ensures.booked
