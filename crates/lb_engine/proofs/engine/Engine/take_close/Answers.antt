-- For `Engine::take_close` of src/engine/turns.rt: a position of the open turn is done.
use Rattle.std.proofs.Common.{◌≡◌, Bool, Option, ap, refl, sym, ◌∙◌}
use Rattle.lb_base.specs.declared.shape.Shape.{Shape}
use Rattle.lb_interval.specs.declared.Outcome.{Outcome}
use Rattle.lb_queue.specs.Turns.{close_look}
use Rattle.lb_core.specs.declared.course.Course.{Course}
use Rattle.lb_core.specs.declared.entry.What.TheVariants as what
use Rattle.lb_core.specs.Course.{turn_domain, outcome_of}
use Rattle.lb_core.specs.Machine.{course_at}
use Rattle.lb_core.specs.Step.{after}
use Rattle.lb_turn.specs.Turns.{TurnState}
use Rattle.lb_engine.specs.Held.{Held}
use Rattle.lb_engine.specs.contracts.engine.Engine.{the_view}
use Rattle.lb_engine.proofs.Serving.{served_by, course_now}
use Rattle.lb_engine.proofs.engine.Engine.take_close.Goals as goal

pub returns : goal.returns
unfolding after
returns c = λ p i f.
    let v = the_view c.self.inside in
    let now = c.args.self.now in
    let lane = c.args.lane in
    let q = c.index_mut.result.now in
    let c2 = c.index_mut-course.result.now in
    let e : course_at now.machine.courses lane ≡ c2 =
    course_now v now lane c2 c.self.view_is c.requires.lane c.index_mut-course.ensures.value in
    let turn : c.turn-turn.result ≡ record { header = v.machine.header; course = c2 } =
    c.turn-turn.ensures ∙ ap (λ (x : Course). let t : TurnState = record { header = now.machine.header; course = x } in t) e
    ∙ ap (λ (x : Held). let t : TurnState = record { header = x.machine.header; course = c2 } in t) (sym c.self.view_is) in
    let shape : c.shape-shape.result ≡ (turn_domain v.machine.header c2).shape =
    c.shape-shape.ensures ∙ ap (λ (t : TurnState). (turn_domain t.header t.course).shape) turn in
    let outcome : c.outcome-outcome.result ≡ outcome_of v.machine.header c2 =
    c.outcome-outcome.ensures ∙ ap (λ (t : TurnState). outcome_of t.header t.course) turn in
    served_by v now c.self.inside.queues.items c.args.cpu lane
    (what.Close p c.args.word i f) q c.close_look.new.self c2 c.close.new.course v.machine.places
    c.self.view_is refl refl c.requires.cpu c.index_mut.ensures.value c.requires.lane c.index_mut-course.ensures.value
    (c.close_look.ensures.step
    ∙ ap (λ (x : Shape). close_look q.state c2.at x c.outcome-outcome.result c.flag-imbalanced.result) shape
    ∙ ap (λ (x : Outcome). close_look q.state c2.at (turn_domain v.machine.header c2).shape x c.flag-imbalanced.result) outcome
    ∙ ap (λ (x : Option Bool). close_look q.state c2.at (turn_domain v.machine.header c2).shape
    (outcome_of v.machine.header c2) x) c.flag-imbalanced.ensures)
    c.close.ensures refl c.close_look.ensures.booked
