-- For `end_cells` of src/apart.rt: the cells of all CPUs, out of their locks.
use Rattle.std.proofs.Common.{ℕ, ◌≡◌, length, subst, rules, arith}
use Rattle.lb_cpu.specs.Ends.{LeftCell}
use Rattle.lb_cpu.proofs.Places.{three_push}
use Rattle.lb_cpu.proofs.apart.end_cells.Goals as goal

pub loop-lock-preserved : goal.loop-lock-preserved
loop-lock-preserved g c =
    let n = g.N.Names in
    let i = c.loop-lock.invariant in
    let l = c.loop-lock in
    let r = c.end_cell-queue.result in
    let P = LeftCell n.header n.book n.board in
    let place : c.len-in-loop-lock.result ≡ length l.queues.items = search rules in
    record {
      so_far =
          three_push P l.queues.items c.push_reserved.new.self.items l.seats.items
          c.push_reserved-in-loop-lock.new.self.items l.writers.items c.push_reserved-in-loop-lock-2.new.self.items r.0 r.1 r.2
          c.push_reserved.ensures.items c.push_reserved-in-loop-lock.ensures.items
          c.push_reserved-in-loop-lock-2.ensures.items i.so_far
          (subst (λ (k : ℕ). P k r.0 r.1 r.2) place c.end_cell-queue.ensures);
      count = search rules;
      queues_room = (let a = i.queues_room in let k = c.push_reserved.ensures.capacity in omega arith);
      seats_room = (let a = i.seats_room in let k = c.push_reserved-in-loop-lock.ensures.capacity in omega arith);
      writers_room = (let a = i.writers_room in let k = c.push_reserved-in-loop-lock-2.ensures.capacity in omega arith);
    }
