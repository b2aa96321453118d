-- What holds of each lane with its number: counted along the list, or asked at a place.
-- For `history_of` and `run_blank`.
use Rattle.std.proofs.Common.{ℕ, ◌≡◌, ◌+◌, ◌<◌, zero, suc, List, [], ◌∷◌, ◌++◌, Some, map, take, drop, length, slice_get, get_or, All, refl, sym, ap, subst, ◌∙◌, arith}
use Rattle.std.proofs.lemmas.Option.{none-some, same_Some, slice_get-get_or, slice_get_within}
use Rattle.std.proofs.lemmas.List.{take_all, take-append-le}
use Rattle.std.proofs.lemmas.List.Elements.{All-map}
use Rattle.lb_core.specs.declared.course.Course.{Course}
use Rattle.lb_core.specs.declared.course.Form.TheVariants.{Rest}
use Rattle.lb_cpu.specs.Numbering.{EachFrom}
use Rattle.lb_lane.specs.Lanes.{LaneIs}
use Rattle.lb_trace.specs.declared.trace.Row.{Row}
use Rattle.lb_threads.specs.Lanes.{EachLane, IsDone}

module _ {A : Type 0} where
  -- there is one at each place
  pub item_at : (xs : List A) (i : ℕ) → i < length xs → (x : A) × (slice_get xs i ≡ Some x)
  item_at [] i lt = absurd (omega arith)
  item_at (x ∷ xs) zero lt = (x, refl)
  item_at (x ∷ xs) (suc i) lt = item_at xs i (omega arith)

  -- along the list
  pub each_from : (P : ℕ → A → Type 0) (k : ℕ) (xs : List A)
      → ((i : ℕ) (x : A) → slice_get xs i ≡ Some x → P (k + i) x) → EachFrom P k xs
  each_from P k [] h = tt
  each_from P k (x ∷ xs) h = (
    subst (λ (n : ℕ). P n x) (omega arith) (h 0 x refl),
    each_from P (k + 1) xs (λ i y e. subst (λ (n : ℕ). P n y) (omega arith) (h (suc i) y e)),
  )

  -- at a place
  pub each_at : (P : ℕ → A → Type 0) (k : ℕ) (xs : List A) → EachFrom P k xs → (i : ℕ) (x : A) → slice_get xs i ≡ Some x
      → P (k + i) x
  each_at P k [] h i x e = absurd (none-some x e)
  each_at P k (y ∷ xs) h zero x e = subst (λ (n : ℕ). P n x) (omega arith) (subst (λ (z : A). P k z) (same_Some y x e) h.0)
  each_at P k (y ∷ xs) h (suc i) x e = subst (λ (n : ℕ). P n x) (omega arith) (each_at P (k + 1) xs h.1 i x e)

-- a list that was lent as a slice is what was written there
pub written_back : {A : Type 0} (xs ys : List A) (n : ℕ) → length xs ≡ length ys → n ≡ length ys
    → take n (xs ++ drop (length xs) ys) ≡ xs
written_back xs ys n e f = take-append-le n xs (drop (length xs) ys) (omega arith) ∙ take_all n xs (omega arith)

-- the lanes are numbered
pub numbered : (rows : List Row) (lanes : List LaneIs) → EachLane (IsDone rows) lanes
    → EachFrom (λ k l. l.side.number ≡ k) 0 lanes
numbered rows lanes h = each_from (λ k l. l.side.number ≡ k) 0 lanes
    (λ i l at. subst (λ (n : ℕ). l.side.number ≡ n) (omega arith) (h i l at).has.number)

-- and all at rest
pub all_rest : (rows : List Row) (lanes : List LaneIs) → EachLane (IsDone rows) lanes
    → All (λ c. c.form ≡ Rest) (map (λ l. l.side.course) lanes)
all_rest rows lanes h =
    All-map (λ (c : Course). c.form ≡ Rest) (λ (l : LaneIs). l.side.course) lanes
    (λ k d lt. (h k (get_or lanes k d) (slice_get-get_or lanes k d lt)).ended.rest)
