-- By a sleep or an exit fewer tasks are awake exactly where the command's task was awake.
-- For the lemmas of `Answering`, and so for `Cell::answer`.
use Rattle.std.proofs.Common.{ℕ, ◌≡◌, ◌<◌, ◌≤◌, Bool, true, false, not, ltb, ◌==◌, suc, List, [], ◌∷◌, Option, Some, None, is_some, length, filter, reverse, refl, sym, ap, ◌∙◌, arith, inl, inr}
use Rattle.std.proofs.lemmas.Bool.{cases_Bool, lt-ltb}
use Rattle.std.proofs.lemmas.List.{length-reverse}
use Rattle.lb_queue.specs.declared.awake.Awake.{Awake}
use Rattle.lb_queue.specs.declared.record.TaskRecord.{TaskRecord}
use Rattle.lb_queue.specs.Queue.{QueueState, is_awake}
use Rattle.lb_queue.specs.Tasks.{task_with, awake_with, without_awake, picked_first, pick_back, left_by}
use Rattle.lb_queue.specs.Commands.{sleep, sleeps, exit, exits}

-- ---- a task leaves the awake ones
some_left : (p : Awake → Bool) (xs : List Awake) → length (filter p xs) ≤ length xs
some_left p [] = omega arith
some_left p (x ∷ xs) = let h = some_left p xs in elim (cases_Bool (p x)) [
  | inl e ↦ rw e (omega (arith, h))
  | inr e ↦ rw e (omega (arith, h))
]

fewer_left : (id : ℕ) (xs : List Awake) (a : Awake) → awake_with id xs ≡ Some a → length (without_awake a.task.id xs) < length xs
fewer_left id [] a e = absurd (cc e)
fewer_left id (x ∷ xs) a e = elim (cases_Bool (x.task.id == id)) [
  | inl h ↦ (let k = some_left (λ y. not (y.task.id == id)) xs in grind arith)
  | inr h ↦ (let k = fewer_left id xs a in grind arith)
]

picked_length : (clock : ℕ) (xs : List Awake) → length (picked_first clock xs) ≡ length xs
picked_length clock [] = refl
picked_length clock (x ∷ xs) = ap suc (length-reverse xs)

back_length : (clock : ℕ) (xs : List Awake) → length (pick_back clock xs) ≡ length xs
unfolding pick_back
back_length clock xs = picked_length clock (reverse xs) ∙ length-reverse xs

left_length : (clock : ℕ) (a : Awake) (xs : List Awake) → length (left_by clock a xs) ≡ length (without_awake a.task.id xs)
unfolding left_by
left_length clock a xs = elim (cases_Bool a.running) [
  | inl e ↦ rw e (back_length clock (without_awake a.task.id xs))
  | inr e ↦ rw e refl
]

fallen : (id clock : ℕ) (xs : List Awake) (a : Awake) → awake_with id xs ≡ Some a
    → true ≡ ltb (length (left_by clock a xs)) (length xs)
fallen id clock xs a e =
    let l = left_length clock a xs in
    let f = fewer_left id xs a e in
    sym (lt-ltb (length (left_by clock a xs)) (length xs) (omega arith))

not_less : (n : ℕ) → false ≡ ltb n n
not_less n = grind arith

-- ---- the two commands
pub falls_asleep : (q : QueueState) (at t : ℕ) → is_awake q t ≡ ltb (length (sleep q at t).1.awake) (length q.awake)
unfolding sleep
falls_asleep q at t = go (awake_with t q.awake) (task_with t q.asleep) (task_with t q.gone) refl
  where
    go : (a : Option Awake) (s g : Option TaskRecord) → awake_with t q.awake ≡ a
        → is_some a ≡ ltb (length (sleeps q at a s g).1.awake) (length q.awake)
    go (Some a) s g e = fallen t _ q.awake a e
    go None (Some s) g e = not_less (length q.awake)
    go None None (Some g) e = not_less (length q.awake)
    go None None None e = not_less (length q.awake)

pub ends_awake : (q : QueueState) (at t : ℕ) → is_awake q t ≡ ltb (length (exit q at t).1.awake) (length q.awake)
unfolding exit
ends_awake q at t = go (awake_with t q.awake) (task_with t q.asleep) (task_with t q.gone) refl
  where
    go : (a : Option Awake) (s g : Option TaskRecord) → awake_with t q.awake ≡ a
        → is_some a ≡ ltb (length (exits q at a s g).1.awake) (length q.awake)
    go (Some a) s g e = fallen t _ q.awake a e
    go None (Some s) g e = not_less (length q.awake)
    go None None (Some g) e = not_less (length q.awake)
    go None None None e = not_less (length q.awake)
