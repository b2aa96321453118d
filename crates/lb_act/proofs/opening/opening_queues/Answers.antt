-- For `opening_queues` of src/opening.rt: the queues of all CPUs before any entry, in their order: the tasks
-- that are at home at each sleep there.
use Rattle.std.proofs.Common.{ℕ, List, [], ◌∷◌, ◌++◌, map, ap, sym, ◌∙◌, rules, arith}
use Rattle.std.specs.List.{range_with_len}
use Rattle.std.proofs.lemmas.List.FromFn.{map-range_with_len_more}
use Rattle.lb_queue.specs.Queue.{BookedQueue}
use Rattle.lb_core.specs.Machine.{opening_queue}
use Rattle.lb_act.proofs.opening.opening_queues.Goals as goal

pub loop-cpu-preserved : goal.loop-cpu-preserved
loop-cpu-preserved c =
    let f : ℕ → BookedQueue = λ cpu. record { state = opening_queue c.args.header.now cpu; booked = 0 } in
    let i = c.loop-cpu.cpu in (
      c.push_reserved.ensures.items
          ∙ ap (λ (l : List BookedQueue). l ++ c.in_ok-queue.queue ∷ []) c.loop-cpu.invariant.0
          ∙ ap (λ (q : BookedQueue). map f (range_with_len 0 i) ++ q ∷ []) c.in_ok-queue.ensures
          ∙ sym (map-range_with_len_more f 0 i i (omega arith)),
      search rules,
      search rules,
    )
