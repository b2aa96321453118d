-- Ids that rise, with the keys of their nodes: what a search finds among them, and what an edit at
-- that place does.
use Rattle.std.proofs.Common.{◌≡◌, ◌≢◌, ℕ, zero, suc, ◌+◌, ◌-◌, ◌<◌, ◌≤◌, eqb, List, [], ◌∷◌, length, get_or, if◌then◌else◌, Some, None, Result, Ok, Err, IfOk, IfErr, refl, sym, ap, subst, inl, inr, arith}
use Rattle.std.specs.List.{insert, remove}
use Rattle.std.specs.List.Sorted.{IsSearchInRange, IsBinarySearchResult, IsNonDecreasingBy}
use Rattle.std.specs.Ordering.{nat_cmp, ordering_index}
use Rattle.std.proofs.lemmas.Bool.{cases_eq}
use Rattle.std.proofs.lemmas.Bool.Decides.{nat_tests}
use Rattle.std.proofs.lemmas.Cmp.{ranked}
use Rattle.std.proofs.lemmas.List.Sorted.{IsNonDecreasingBy-from_default}
use Rattle.std.proofs.lemmas.List.Edits.{length-insert, get_or-insert_below, get_or-insert_at, get_or-insert_above}
use Rattle.lb_links.specs.Lists.{value_of}
use Rattle.lb_links.specs.Places.{id_at, IsRising, IsAt, IsGapFor}

-- no pair before place i has the id
abbrev NoneBefore : List (ℕ × ℕ) → ℕ → ℕ → Type 0
NoneBefore l k i = (j : ℕ) → j < i → id_at l j ≢ k

none_before_tail : (x : ℕ × ℕ) (l : List (ℕ × ℕ)) (k i : ℕ) → NoneBefore (x ∷ l) k (suc i) → NoneBefore l k i
none_before_tail x l k i none j lt = none (suc j) (omega arith)

is_at_tail : (x : ℕ × ℕ) (l : List (ℕ × ℕ)) (k i : ℕ) → IsAt (x ∷ l) k (suc i) → IsAt l k i
is_at_tail x l k i here = record { in_range = omega (arith, here.in_range); is = here.is }

value_absent : (l : List (ℕ × ℕ)) (k : ℕ) → NoneBefore l k (length l) → value_of k l ≡ None
value_absent [] k none = refl
value_absent (x ∷ l) k none = grind (arith, nat_tests, none 0 (omega arith), value_absent l k (none_before_tail x l k _ none))

value_present : (l : List (ℕ × ℕ)) (k i : ℕ) → IsAt l k i → NoneBefore l k i → value_of k l ≡ Some (get_or l i (0, 0)).1
value_present [] k i here none = absurd (omega (arith, here.in_range))
value_present (x ∷ l) k zero here none = grind (arith, nat_tests, here.is)
value_present (x ∷ l) k (suc i) here none =
    grind (arith, nat_tests, none 0 (omega arith), value_present l k i (is_at_tail x l k i here) (none_before_tail x l k i none))

value_inserted : (l : List (ℕ × ℕ)) (k v i : ℕ) → NoneBefore l k i → (q : ℕ)
    → value_of q (insert l i (k, v)) ≡ (if eqb k q then Some v else value_of q l)
value_inserted l k v zero none q = refl
value_inserted [] k v (suc i) none q = refl
value_inserted (x ∷ l) k v (suc i) none q =
    grind (arith, nat_tests, none 0 (omega arith), value_inserted l k v i (none_before_tail x l k i none) q)

value_removed : (l : List (ℕ × ℕ)) (k i : ℕ) → IsAt l k i → NoneBefore l k i
    → ((j : ℕ) → i < j → j < length l → id_at l j ≢ k) → (q : ℕ)
    → value_of q (remove l i) ≡ (if eqb k q then None else value_of q l)
value_removed [] k i here none later q = absurd (omega (arith, here.in_range))
value_removed (x ∷ l) k zero here none later q = elim (cases_eq k q) [
  | inl same ↦
      let gone = value_absent l k (λ j lt. later (suc j) (omega arith) (omega arith)) in
      let at : value_of q l ≡ None = subst (λ (n : ℕ). value_of n l ≡ None) same gone in
      grind (arith, nat_tests, here.is)
  | inr other ↦ grind (arith, nat_tests, here.is)
]
value_removed (x ∷ l) k (suc i) here none later q =
    grind (
      arith,
      nat_tests,
      none 0 (omega arith),
      value_removed l k i (is_at_tail x l k i here)
          (none_before_tail x l k i none) (λ j above within. later (suc j) (omega arith) (omega arith)) q,
    )

module _ (l : List (ℕ × ℕ)) (rising : IsRising l) (k : ℕ) where
  -- the comparisons with k rise along the list, as a binary search asks
  comparisons_rise : IsNonDecreasingBy (λ pair. ordering_index (nat_cmp pair.0 k)) l
  comparisons_rise = IsNonDecreasingBy-from_default (λ pair. ordering_index (nat_cmp pair.0 k)) l (0, 0) (λ i j le in_range.
      let ids_rise : id_at l i ≤ id_at l j = grind (arith, rising i j, λ (same : i ≡ j). ap (id_at l) same) in
      grind (arith, nat_tests))

  -- a binary search ends at the id, or at the gap for it
  pub searched : (r : Result ℕ ℕ) → IsSearchInRange r (length l) → IsBinarySearchResult (λ pair. nat_cmp pair.0 k) l r
      → record { found : IfOk r (IsAt l k); absent : IfErr r (IsGapFor l k) }
  searched (Ok at) in_range equal = record {
    found = record { in_range = in_range; is = ranked _ k _ (sym (equal (0, 0))) };
    absent = tt;
  }
  searched (Err at) in_range parted = record {
    found = tt;
    absent = record {
      in_range = in_range;
      lesser_before = λ j lt. ranked _ k _ (sym ((parted comparisons_rise).0 j (0, 0) (omega arith) lt));
      greater_after = λ j le lt. ranked _ k _ (sym ((parted comparisons_rise).1 j (0, 0) le lt));
    };
  }

module _ (l : List (ℕ × ℕ)) (rising : IsRising l) (k at : ℕ) (here : IsAt l k at) where
  none_before : NoneBefore l k at
  none_before j lt same = omega (arith, rising j at lt here.in_range, here.is)

  -- the id is found at its place
  pub value_at_place : value_of k l ≡ Some (get_or l at (0, 0)).1
  value_at_place = value_present l k at here none_before

  -- without its pair it is gone, and no other
  pub values_removed : (q : ℕ) → value_of q (remove l at) ≡ (if eqb k q then None else value_of q l)
  values_removed = value_removed l k at here none_before
      (λ j above within same. omega (arith, rising at j above within, here.is))

module _ (l : List (ℕ × ℕ)) (k at : ℕ) (gap : IsGapFor l k at) where
  -- an id that has a gap is not found
  pub value_in_gap : value_of k l ≡ None
  value_in_gap = value_absent l k (λ j lt same. grind (arith, gap.lesser_before j, gap.greater_after j))

  -- a pair that comes into the gap is found, and all others as before
  pub values_inserted : (v q : ℕ) → value_of q (insert l at (k, v)) ≡ (if eqb k q then Some v else value_of q l)
  values_inserted v q = value_inserted l k v at (λ j lt same. omega (arith, gap.lesser_before j lt)) q

  -- nothing is gone where nothing was
  pub values_kept : (q : ℕ) → value_of q l ≡ (if eqb k q then None else value_of q l)
  values_kept q = elim (cases_eq k q) [
    | inl same ↦
        let at_q : value_of q l ≡ None = subst (λ (n : ℕ). value_of n l ≡ None) same value_in_gap in
        grind (arith, nat_tests)
    | inr other ↦ grind (arith, nat_tests)
  ]

  -- the ids still rise: each is an old one below the gap, the new one at it, or an old one moved up
  pub rising_inserted : (v : ℕ) → IsRising l → IsRising (insert l at (k, v))
  rising_inserted v rising i j lt in_range =
      let new = insert l at (k, v) in
      let first = λ (x : ℕ × ℕ). x.0 in
      let length_new = length-insert l at (k, v) gap.in_range in
      let below : (i : ℕ) → i < at → id_at new i ≡ id_at l i =
      λ i before. ap first (get_or-insert_below l at (k, v) (0, 0) i before gap.in_range) in
      let here : (i : ℕ) → i ≡ at → id_at new i ≡ k =
      λ i same. rw same (ap first (get_or-insert_at l at (k, v) (0, 0) gap.in_range)) in
      let above : (i : ℕ) → at < i → id_at new i ≡ id_at l (i - 1) =
      λ i after. subst (λ q. id_at new q ≡ id_at l (i - 1)) {x = i - 1 + 1} (omega arith)
      (ap first (get_or-insert_above l at (k, v) (0, 0) (i - 1) (omega arith) gap.in_range)) in
      grind (
        arith,
        below i,
        here i,
        above i,
        below j,
        here j,
        above j,
        rising i j,
        rising i (j - 1),
        rising (i - 1)
            (j - 1),
        gap.lesser_before i,
        gap.greater_after (j - 1),
      )
