-- For `Engine::take_over` of src/engine/turns.rt: the open turn ends.
use Rattle.std.proofs.Common.{◌≡◌, ◌<◌, nat_lt, length, ap, refl, sym, subst, ◌∙◌, arith}
use Rattle.lb_core.specs.declared.course.Course.{Course}
use Rattle.lb_core.specs.declared.entry.What.TheVariants as what
use Rattle.lb_core.specs.Course.{turn_domains}
use Rattle.lb_core.specs.Machine.{course_at}
use Rattle.lb_core.specs.Step.{after}
use Rattle.lb_turn.specs.Turns.{TurnState}
use Rattle.lb_engine.specs.Held.{Held}
use Rattle.lb_engine.specs.contracts.engine.Engine.{the_view}
use Rattle.lb_engine.proofs.Serving.{served_by, course_now}
use Rattle.lb_engine.proofs.engine.Engine.take_over.Goals as goal

pub turn_ends-requires : goal.turn_ends-requires
turn_ends-requires c =
    let e = course_now (the_view c.self.inside) c.args.self.now c.args.lane c.index_mut-course.result.now
    c.self.view_is c.requires.lane c.index_mut-course.ensures.value in
    let turned = subst (λ (x : Course). x.cpu < length c.args.self.now.machine.header.cpus) e c.requires.turn.turned in
    let few = c.requires.few in
    omega arith

pub returns : goal.returns
unfolding after
returns c =
    let v = the_view c.self.inside in
    let now = c.args.self.now in
    let c2 = c.index_mut-course.result.now in
    let e : course_at now.machine.courses c.args.lane ≡ c2 =
    course_now v now c.args.lane c2 c.self.view_is c.requires.lane c.index_mut-course.ensures.value in
    let has : c.has_domains-has_domains.result ≡ nat_lt 0 (length (turn_domains v.machine.header c2)) =
    c.has_domains-has_domains.ensures ∙ ap (λ (t : TurnState). nat_lt 0 (length (turn_domains t.header t.course))) c.turn.ensures
    ∙ ap (λ (x : Course). nat_lt 0 (length (turn_domains now.machine.header x))) e
    ∙ ap (λ (p : Held). nat_lt 0 (length (turn_domains p.machine.header c2))) (sym c.self.view_is) in
    served_by v now c.self.inside.queues.items c.args.cpu c.args.lane what.Over c.index_mut.result.now
    c.end_turn.new.self c2 c.turn_ends.new.course v.machine.places
    c.self.view_is refl refl c.requires.cpu c.index_mut.ensures.value c.requires.lane c.index_mut-course.ensures.value
    c.end_turn.ensures.step (c.turn_ends.ensures v.machine.header has) refl c.end_turn.ensures.booked
