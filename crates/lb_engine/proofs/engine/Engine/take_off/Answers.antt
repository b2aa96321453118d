-- For `Engine::take_off` of src/engine/hands.rt: tasks leave a queue in the hand of a lane.
use Rattle.std.proofs.Common.{◌≡◌, Option, length, ap, refl, sym, subst, ◌∙◌}
use Rattle.lb_core.specs.declared.entry.What.TheVariants as what
use Rattle.lb_core.specs.CourseAfter.{takes_off}
use Rattle.lb_core.specs.Leaving.{Leaving, leaving}
use Rattle.lb_core.specs.Machine.{course_at}
use Rattle.lb_core.specs.QueueAfter.{rest_of}
use Rattle.lb_core.specs.Step.{after}
use Rattle.lb_engine.specs.Held.{Held}
use Rattle.lb_engine.specs.Leaves.{IsDue, out_with}
use Rattle.lb_engine.specs.contracts.engine.Engine.{the_view}
use Rattle.lb_engine.proofs.Serving.{served_machine, seen, course_now, bookings_same}
use Rattle.lb_engine.proofs.Hands.{seen_out, due_out}
use Rattle.lb_engine.proofs.engine.Engine.take_off.Goals as goal

pub depart-requires-clause-due : goal.depart-requires-clause-due
depart-requires-clause-due c =
    let due = due_out (the_view c.self.inside) c.args.self.now c.self.inside.queues.items c.args.cpu c.args.lane
    (what.Out c.args.cause c.args.hand.to c.args.ids.now)
    c.index_mut-queue.result.now c.index_mut-course.result.now c.env-env.result c.self.view_is refl c.requires.cpu
    c.index_mut-queue.ensures.value
    c.requires.lane c.index_mut-course.ensures.value c.env-env.ensures in
    let P : Option Leaving → Type 0 = λ o. IsDue o c.args.cause c.args.hand.to (length c.args.records) in
    subst P due c.requires.due

pub returns-clause-machine : goal.returns-clause-machine
unfolding after
returns-clause-machine c =
    let v = the_view c.self.inside in
    let now = c.args.self.now in
    let w = what.Out c.args.cause c.args.hand.to c.args.ids.now in
    let q = c.index_mut-queue.result.now in
    let c2 = c.index_mut-course.result.now in
    let e : course_at now.machine.courses c.args.lane ≡ c2 =
    course_now v now c.args.lane c2 c.self.view_is c.requires.lane c.index_mut-course.ensures.value in
    let out : leaving (seen v.machine w c.args.cpu c2 q.state) ≡ out_with c2.form c.env-env.result c2 q.state =
    seen_out v now c.args.cpu c.args.lane w c2 q.state c.env-env.result c.self.view_is e c.env-env.ensures in
    served_machine v now c.self.inside.queues.items c.args.cpu c.args.lane w q c.depart.new.queue c2
    c.depart.new.course c.place_all.new.places.items c.closes-self-inside.result
    c.self.view_is refl c.requires.cpu c.index_mut-queue.ensures.value c.requires.lane c.index_mut-course.ensures.value
    (c.depart.ensures.queue ∙ ap (λ (o : Option Leaving). rest_of o q.state) (sym out))
    (c.depart.ensures.course ∙ ap (λ (o : Option Leaving). takes_off o c2) (sym out))
    c.place_all.ensures
    (c.closes-self-inside.ensures c.args.cause c.args.hand.to c.args.ids.now)

pub returns-clause-booked : goal.returns-clause-booked
returns-clause-booked c =
    bookings_same c.self.inside.queues.items c.args.cpu c.index_mut-queue.result.now c.depart.new.queue
    c.index_mut-queue.ensures.value c.depart.ensures.booked
    ∙ ap (λ (p : Held). p.booked) c.self.view_is
