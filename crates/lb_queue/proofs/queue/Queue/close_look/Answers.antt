-- For `Queue::close_look` of src/queue/turns.rt: closes a position of the open turn with its outcome.
use Rattle.std.proofs.Common.{◌≡◌, ◌∙◌, true, Some, None, refl, ap, List}
use Rattle.std.specs.Prelude.{if◌then◌else◌, Option}
use Rattle.lb_interval.specs.declared.Counters.{Counters}
use Rattle.lb_queue.specs.contracts.queue.Queue.{the_view}
use Rattle.lb_queue.specs.Queue.{QueueState}
use Rattle.lb_queue.proofs.Opening.{close_done}
use Rattle.lb_queue.proofs.queue.Queue.close_look.Goals as goal

pub returns-in-Some-clause-step : goal.returns-in-Some-clause-step
returns-in-Some-clause-step c =
    let q = (the_view c.self.inside).state in
    let has_counters = rw c.in-Some.is at c.self.invariant.turn in
    let counted : c.self.inside.counted ≡ true = has_counters.0 in
    let some : q.counters ≡ Some c.self.inside.counters.items = rw counted refl in
    let made = close_done q c.args.at c.max-self-inside.result c.args.shape.now c.args.outcome c.args.imb
    c.in-Some.turn c.self.inside.counters.items c.close.new.counters.items c.in-Some.is some
    c.max-self-inside.ensures c.close.ensures.items in
    let shown : (if c.self.inside.counted then Some c.close.new.counters.items else None) ≡ Some
    c.close.new.counters.items = rw counted refl in
    rw (← c.self.view_is) (ap (λ (o : Option (List Counters)). let s : QueueState =
    record q { clock = c.max-self-inside.result; counters = o } in s) shown ∙ made)
