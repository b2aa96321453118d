-- What the test of a queue rests on: a hand of one task at most may land.
-- For `lb_tests`.
use Rattle.std.proofs.Common.{◌≡◌, ℕ, zero, suc, ◌+◌, ◌≤◌, Bool, true, false, cond, eqb, List, [], ◌∷◌, length, slice_get, Some, arith}
use Rattle.std.specs.Prelude.{All}
use Rattle.lb_queue.specs.declared.record.TaskRecord.{TaskRecord}
use Rattle.lb_queue.specs.Tasks.{occurs, ids}
use Rattle.lb_queue.specs.Queue.{QueueState, knows}

pub one_differs : (ts : List TaskRecord) → length ts ≤ 1 → (id : ℕ) → occurs id (ids ts) ≤ 1
one_differs [] le id = omega arith
one_differs (t ∷ []) le id = by (eqb t.id id)
  where
    by : (b : Bool) → cond {A = ℕ} b 1 0 + 0 ≤ 1
    by true = omega arith
    by false = omega arith
one_differs (t ∷ u ∷ ts) le id = absurd (omega arith)

pub one_unknown : (q : QueueState) (ts : List TaskRecord) (t : TaskRecord) → length ts ≤ 1 → slice_get ts 0 ≡ Some t
    → knows q t.id ≡ false → All (λ (x : TaskRecord). knows q x.id ≡ false) ts
one_unknown q [] t le e h k d lt = absurd (omega arith)
one_unknown q (x ∷ []) t le e h zero d lt = let z : x ≡ t = cc in rw z h
one_unknown q (x ∷ []) t le e h (suc k) d lt = absurd (omega arith)
one_unknown q (x ∷ y ∷ ts) t le e h k d lt = absurd (omega arith)
