-- For `Engine::take_ask` of src/engine/queues.rt: a queue is asked to push a task.
use Rattle.std.proofs.Common.{ap, refl}
use Rattle.lb_core.specs.declared.entry.What.TheVariants as what
use Rattle.lb_core.specs.Step.{after}
use Rattle.lb_engine.specs.contracts.engine.Engine.{the_view}
use Rattle.lb_engine.proofs.Serving.{served_by}
use Rattle.lb_engine.proofs.engine.Engine.take_ask.Goals as goal

pub returns : goal.returns
unfolding after
returns c =
    let v = the_view c.self.inside in
    served_by v _ c.self.inside.queues.items c.args.cpu c.args.lane (what.Ask c.args.reply)
    c.index_mut.result.now c.ask_active.new.self c.index_mut-course.result.now c.go_on.new.course v.machine.places
    c.self.view_is refl refl c.requires.cpu c.index_mut.ensures.value c.requires.lane c.index_mut-course.ensures.value
    (ap (λ p. p.1) c.ask_active.ensures.step) c.go_on.ensures refl c.ask_active.ensures.booked
