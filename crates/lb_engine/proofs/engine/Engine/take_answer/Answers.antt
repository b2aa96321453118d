-- For `Engine::take_answer` of src/engine/queues.rt: a queue answers a command.
use Rattle.std.proofs.Common.{◌≡◌, length, ap, refl, sym, subst}
use Rattle.lb_queue.specs.Queue.{QueueState}
use Rattle.lb_core.specs.declared.course.Course.{Course}
use Rattle.lb_core.specs.declared.entry.What.TheVariants as what
use Rattle.lb_core.specs.declared.place.Place.TheVariants.{Hand as HandOf}
use Rattle.lb_core.specs.Course.{task_of}
use Rattle.lb_core.specs.Machine.{course_at, queue_at}
use Rattle.lb_core.specs.Step.{after}
use Rattle.lb_course.specs.Answers.{WasAwake}
use Rattle.lb_engine.specs.Asks.{IsMapped}
use Rattle.lb_engine.specs.Held.{Held}
use Rattle.lb_engine.specs.contracts.engine.Engine.{the_view}
use Rattle.lb_engine.proofs.Answering.{was_mapped}
use Rattle.lb_engine.proofs.Serving.{served_by, course_now, queue_now}
use Rattle.lb_engine.proofs.engine.Engine.take_answer.Goals as goal

pub returns : goal.returns
unfolding after
returns c =
    let v = the_view c.self.inside in
    let now = c.args.self.now in
    let lane = c.args.lane in
    let q = c.index_mut-queue.result.now in
    let c2 = c.index_mut-course.result.now in
    let e : course_at now.machine.courses lane ≡ c2 =
    course_now v now lane c2 c.self.view_is c.requires.lane c.index_mut-course.ensures.value in
    let qe : queue_at now.machine.queues c.args.cpu ≡ q.state =
    queue_now v now c.self.inside.queues.items c.args.cpu q c.self.view_is refl c.requires.cpu c.index_mut-queue.ensures.value in
    let P : Held → Type 0 = λ p. IsMapped p.machine q.state (task_of c2.command) in
    let Q : QueueState → Type 0 = λ x. IsMapped now.machine x (task_of c2.command) in
    let R : Course → Type 0 = λ x. IsMapped now.machine (queue_at now.machine.queues c.args.cpu) (task_of x.command) in
    let mapped : IsMapped v.machine q.state (task_of c2.command) =
    subst P (sym c.self.view_is) (subst Q qe (subst R e c.requires.mapped)) in
    let was : WasAwake c2.command q.state c.is_awake-was_awake.result =
    was_mapped (task_of c2.command) v.machine q.state c.deref.result.now c.is_awake-was_awake.result mapped c.deref.ensures.value
    (c.is_awake-was_awake.ensures (HandOf (length v.machine.courses))) in
    served_by v now c.self.inside.queues.items c.args.cpu lane
    (what.Did c.args.reply) q c.obey.new.queue c2 c.answered.new.course c.place.new.places.items
    c.self.view_is refl refl c.requires.cpu c.index_mut-queue.ensures.value c.requires.lane c.index_mut-course.ensures.value
    (ap (λ p. p.1) c.obey.ensures.step)
    (c.answered.ensures q.state c.obey.new.queue.state was (sym c.len.ensures))
    (c.place.ensures lane)
    c.obey.ensures.booked
