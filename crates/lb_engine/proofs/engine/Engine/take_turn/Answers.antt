-- For `Engine::take_turn` of src/engine/turns.rt: a turn opens at a queue.
use Rattle.std.proofs.Common.{◌≡◌, List, ap, refl, ◌∙◌}
use Rattle.lb_base.specs.declared.shape.Shape.{Shape}
use Rattle.lb_core.specs.declared.entry.What.TheVariants as what
use Rattle.lb_core.specs.Course.{turn_kind, turn_domains, shapes_of}
use Rattle.lb_core.specs.Machine.{course_at}
use Rattle.lb_base.specs.Sets.{least}
use Rattle.lb_queue.specs.Turns.{opened, counters_found}
use Rattle.lb_core.specs.CourseAfter.{goes_to}
use Rattle.lb_core.specs.Step.{after}
use Rattle.lb_engine.specs.contracts.engine.Engine.{the_view}
use Rattle.lb_engine.proofs.Serving.{served_by, course_now}
use Rattle.lb_engine.proofs.Turning.{turn_is, shapes_are}
use Rattle.lb_engine.proofs.engine.Engine.take_turn.Goals as goal

pub returns-clause-ok : goal.returns-clause-ok
unfolding after
returns-clause-ok c =
    let v = the_view c.self.inside in
    let now = c.args.self.now in
    let lane = c.args.lane in
    let q = c.index_mut-queue.result.now in
    let c2 = c.index_mut-course.result.now in
    let e : course_at now.machine.courses lane ≡ c2 =
    course_now v now lane c2 c.self.view_is c.requires.lane c.index_mut-course.ensures.value in
    let turn = turn_is v now lane c2 c.turn.result c.self.view_is e c.turn.ensures in
    let shapes : c.as_slice-2.result.now ≡ shapes_of (turn_domains v.machine.header c2) =
    shapes_are c.turn.result v.machine.header c2 c.shapes-shapes.result c.as_slice-2.result.now turn
    c.as_slice-2.ensures c.shapes-shapes.ensures.value in
    served_by v now c.self.inside.queues.items c.args.cpu lane
    (what.Turn c.args.positions) q c.open_turn.new.queue c2 c.open_turn.new.course v.machine.places
    c.self.view_is refl refl c.requires.cpu c.index_mut-queue.ensures.value c.requires.lane c.index_mut-course.ensures.value
    (c.open_turn.ensures.queue ∙ ap (λ (l : List Shape). opened q.state c2.at lane (turn_kind c2) c2.version l) shapes)
    (c.open_turn.ensures.course ∙ ap (λ (l : List Shape). goes_to (least c.args.positions)
    (record c2 { positions = c.args.positions; counters = counters_found q.state c2.at c2.version l })) shapes)
    refl c.open_turn.ensures.booked
