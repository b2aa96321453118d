-- For `Queue::land` of src/queue/hands.rt: the tasks of a hand that goes here join the front, one after the
-- other in the order in which they left.
use Rattle.std.proofs.Common.{◌≡◌, ◌<◌, ◌∙◌, sym, subst, ap, refl, false, arith, length, max}
use Rattle.std.specs.Prelude.{All}
use Rattle.std.proofs.lemmas.Bool.{eqb-true, eqb-false}
use Rattle.lb_queue.specs.contracts.queue.Queue.{the_view}
use Rattle.lb_queue.specs.declared.record.TaskRecord.{TaskRecord}
use Rattle.lb_queue.specs.Queue.{BookedQueue, knows}
use Rattle.lb_queue.proofs.Landing.{land_none, land_done, unknown_each}
use Rattle.lb_queue.proofs.queue.Queue.land.Goals as goal

pub returns-then-is_empty-clause-step : goal.returns-then-is_empty-clause-step
returns-then-is_empty-clause-step c =
    let z = eqb-true _ 0 (sym c.is_empty.ensures ∙ c.if-is_empty.true) in
    let o = c.open-moment.result.1.ok.0 in
    let l = ap length c.open-moment.ensures.tasks in
    let m = c.open-moment.ensures.moment in
    let clock = c.max-self-inside.ensures ∙ ap (max c.self.inside.clock) (c.max.ensures ∙ ap (max c.args.at) m) in
    rw (← c.self.view_is) (land_none (the_view c.self.inside).state c.args.at c.max-self-inside.result
    c.args.hand.moment c.args.cause c.args.hand.tasks (omega arith) clock)

pub land-requires-clause-unknown : goal.land-requires-clause-unknown
land-requires-clause-unknown c =
    let not_known = subst (λ (b : BookedQueue). All
    (λ (t : TaskRecord). knows b.state t.id ≡ false) c.args.hand.tasks) (sym c.self.view_is) c.requires.unknown in
    rw c.open-moment.ensures.tasks (unknown_each (the_view c.self.inside).state c.args.hand.tasks not_known)

pub returns-clause-step : goal.returns-clause-step
returns-clause-step c =
    let z = eqb-false _ 0 (sym c.is_empty.ensures ∙ c.if-is_empty.false) in
    let o = c.open-moment.result.1.ok.0 in
    let l = ap length c.open-moment.ensures.tasks in
    let m = c.open-moment.ensures.moment in
    let clock = c.max-self-inside.ensures ∙ ap (max c.self.inside.clock) (c.max.ensures ∙ ap (max c.args.at) m) in
    let some : 0 < length c.args.hand.tasks = omega arith in
    let lists = rw c.open-moment.ensures.tasks at c.land.ensures in
    rw (← c.self.view_is) (land_done (the_view c.self.inside).state c.args.at c.max-self-inside.result
    c.args.hand.moment c.sample_of-self-inside.result c.args.cause c.args.hand.tasks c.land.new.self
    c.self.inside.lists some clock (c.sample_of-self-inside.ensures ∙ rw c.is_idle.ensures refl) lists)
