-- For `Ended::book` of src/booking.rt: books a landing at a queue.
use Rattle.std.proofs.Common.{ℕ, ◌≡◌, ◌≤◌, ◌+◌, length, sym, subst, ap, ◌∙◌, arith}
use Rattle.std.proofs.lemmas.Result.{on_ok_weaker}
use Rattle.lb_queue.specs.Queue.{BookedQueue}
use Rattle.lb_end.proofs.Parts.{there}
use Rattle.lb_end.proofs.Rooms.{booked_now}
use Rattle.lb_end.proofs.ended.Ended.book.Goals as goal

pub returns-clause-ok : goal.returns-clause-ok
returns-clause-ok g c =
    let all = c.self.invariant.all_queues in
    let cpu = c.requires.cpu in
    let now =
    booked_now c.self.inside.queues.items c.args.cpu c.index_mut.result.now c.book.new.self
    (there c.self.inside.queues.items c.args.cpu c.index_mut.result.now (omega (arith, all, cpu)) c.index_mut.ensures.value) in
    on_ok_weaker c.book.result
    (λ is. let more = ap (λ (q : BookedQueue). q.booked) is in omega (arith, now, more)) c.book.ensures.ok
