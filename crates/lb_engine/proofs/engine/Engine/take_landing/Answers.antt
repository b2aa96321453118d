-- For `Engine::take_landing` of src/engine/hands.rt: the tasks of a hand land at their queue.
use Rattle.std.proofs.Common.{refl}
use Rattle.lb_core.specs.declared.entry.What.TheVariants as what
use Rattle.lb_core.specs.Step.{after}
use Rattle.lb_engine.specs.contracts.engine.Engine.{the_view}
use Rattle.lb_engine.proofs.Serving.{served_machine}
use Rattle.lb_engine.proofs.Hands.{landed_hand}
use Rattle.lb_engine.proofs.engine.Engine.take_landing.Goals as goal

pub returns-clause-machine : goal.returns-clause-machine
unfolding after
returns-clause-machine c =
    let v = the_view c.self.inside in
    served_machine v c.args.self.now c.self.inside.queues.items c.args.cpu c.args.lane (what.Landed c.args.ids.now)
    c.index_mut-queue.result.now c.arrive.new.queue c.index_mut-course.result.now c.arrive.new.course
    c.place_all.new.places.items v.machine.closing
    c.self.view_is refl c.requires.cpu c.index_mut-queue.ensures.value c.requires.lane c.index_mut-course.ensures.value
    c.arrive.ensures.queue c.arrive.ensures.course
    c.place_all.ensures refl

pub returns-clause-hand : goal.returns-clause-hand
returns-clause-hand c =
    landed_hand (the_view c.self.inside) c.args.self.now _ c.self.inside.queues.items c.args.cpu c.args.lane
    c.index_mut-queue.result.now c.arrive.new.queue
    c.take_back-hand.result c.index_mut.result.now c.take_back-hand.new.slot c.self.view_is refl refl c.requires.cpu
    c.index_mut-queue.ensures.value
    c.requires.lanes c.index_mut.ensures.value c.take_back-hand.ensures.hand c.take_back-hand.ensures.none
    c.arrive.ensures.booked refl refl
