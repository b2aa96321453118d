-- For `Engine::take_of_queue` of src/engine/take.rt: the step of an entry of a queue, but for the last
-- tickets.
use Rattle.std.proofs.Common.{◌≡◌, ◌<◌, length, ap, sym, subst, ◌∙◌, arith}
use Rattle.lb_core.specs.Machine.{MachineState, course_at}
use Rattle.lb_core.specs.Placed.{is_flight}
use Rattle.lb_engine.specs.Steps.{stepped, of_queue}
use Rattle.lb_engine.specs.Takes.{OfQueueAsks, is_landing}
use Rattle.lb_engine.proofs.Taking.{fit_same, named_there, served_queues, taken}
use Rattle.lb_engine.proofs.engine.Engine.take_of_queue.Goals as goal

pub publish_figure-requires-clause-cpu : goal.publish_figure-requires-clause-cpu
publish_figure-requires-clause-cpu c =
    let p1 = c.make_room.new.self in
    let e = ap (λ (m : MachineState). length m.queues) c.in_ok-serve.ensures.machine
    ∙ served_queues p1.machine c.args.cpu c.args.lane c.args.what.now
    ∙ ap (λ (m : MachineState). length m.queues) c.make_room.ensures.machine in
    let inside = c.requires.asks.cpu_is in
    omega arith

pub publish_figure-requires-clause-named : goal.publish_figure-requires-clause-named
publish_figure-requires-clause-named c =
    let p1 = c.make_room.new.self in
    let P : MachineState → Type 0 = λ m. c.args.lane < length m.courses in
    let Q : MachineState → Type 0 = λ m. c.args.cpu < length (course_at m.courses c.args.lane).named in
    named_there p1.machine c.serve.new.self.machine c.args.cpu c.args.lane c.args.what.now
    (subst P (sym c.make_room.ensures.machine) c.requires.lane)
    c.in_ok-serve.ensures.machine (subst Q (sym c.make_room.ensures.machine) c.requires.asks.named)

pub returns-clause-machine : goal.returns-clause-machine
returns-clause-machine c =
    let p1 = c.make_room.new.self in
    let w = c.args.what.now in
    let P : MachineState → Type 0 = λ m. c.args.lane < length m.courses in
    let Q : MachineState → Type 0 = λ m. OfQueueAsks w m c.args.cpu c.args.lane in
    let R : MachineState → Type 0 = λ m. is_flight (course_at m.courses c.args.lane).form ≡ is_landing w in
    let e = sym c.make_room.ensures.machine in
    (taken w p1 c.serve.new.self c.publish_figure.new.self c.args.cpu c.args.lane (subst P e c.requires.lane)
    (subst Q e c.requires.asks)
    (fit_same c.args.self.now p1 c.make_room.ensures.machine c.make_room.ensures.hands c.make_room.ensures.booked
    c.requires.hands) (subst R e c.requires.flight)
    c.in_ok-serve.ensures.machine c.in_ok-serve.ensures.hands c.publish_figure.ensures.machine
    c.publish_figure.ensures.hands c.publish_figure.ensures.booked).machine
    ∙ ap (λ (m : MachineState). stepped m (of_queue c.args.cpu c.args.lane w)) c.make_room.ensures.machine

pub returns-clause-hands : goal.returns-clause-hands
returns-clause-hands c =
    let p1 = c.make_room.new.self in
    let w = c.args.what.now in
    let P : MachineState → Type 0 = λ m. c.args.lane < length m.courses in
    let Q : MachineState → Type 0 = λ m. OfQueueAsks w m c.args.cpu c.args.lane in
    let R : MachineState → Type 0 = λ m. is_flight (course_at m.courses c.args.lane).form ≡ is_landing w in
    let e = sym c.make_room.ensures.machine in
    (taken w p1 c.serve.new.self c.publish_figure.new.self c.args.cpu c.args.lane (subst P e c.requires.lane)
    (subst Q e c.requires.asks)
    (fit_same c.args.self.now p1 c.make_room.ensures.machine c.make_room.ensures.hands c.make_room.ensures.booked
    c.requires.hands) (subst R e c.requires.flight)
    c.in_ok-serve.ensures.machine c.in_ok-serve.ensures.hands c.publish_figure.ensures.machine
    c.publish_figure.ensures.hands c.publish_figure.ensures.booked).hands
