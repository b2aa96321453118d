-- The first two masks that share a CPU, found by the union of those before.
-- For `parts_fault` and `first_overlap`.
use Rattle.std.proofs.Common.{◌≡◌, ℕ, ◌+◌, ◌<◌, ◌||◌, true, false, not, List, length, Option, Some, None, refl, sym, ◌∙◌, ap, arith, inl, inr}
use Rattle.std.specs.Prelude.{is_some}
use Rattle.std.specs.Option.{option_map}
use Rattle.std.proofs.lemmas.Bool.{cases_eq, or_cases, or_left, or_right, true_from_ne_false, both_ways, not-false}
use Rattle.lb_base.specs.declared.mask.Mask.{Mask}
use Rattle.lb_base.specs.Mask.{has}
use Rattle.lb_base.specs.Sets.{are_apart}
use Rattle.lb_levels.specs.declared.faults.PartsFault.TheVariants.{NoSuchCpu, Overlap}
use Rattle.lb_levels.specs.Faults.{part_at, first_past, first_sharing, first_overlap, parts_fault_of}
use Rattle.lb_base.proofs.Ranges.{found, not_found, nothing_found}
use Rattle.lb_base.proofs.Sets.{apart_from, apart_at}

-- `seen` is the union of the masks before `second`
pub record IsUnion (parts : List Mask) (second : ℕ) (seen : Mask) : Type 0 where
  pub from : (i : ℕ) → i < second → (k : ℕ) → has (part_at parts i) k ≡ true → has seen k ≡ true
  pub only : (k : ℕ) → has seen k ≡ true → (i : ℕ) × (i < second) × (has (part_at parts i) k ≡ true)

pub none_from_test : {X : Type 0} (o : Option X) → is_some o ≡ false → o ≡ None
none_from_test None e = refl
none_from_test (Some x) e = absurd (cc)

pub sharing : (parts : List Mask) (second : ℕ) (seen : Mask) → IsUnion parts second seen
    → true ≡ not (are_apart seen (part_at parts second)) → is_some (first_sharing parts second) ≡ true
unfolding first_sharing
sharing parts second seen union shares =
    true_from_ne_false _ (λ none.
    let apart : (i : ℕ) → i < second → are_apart (part_at parts i) (part_at parts second) ≡ true =
    λ i lt. not-false _ (nothing_found (λ i. not (are_apart (part_at parts i) (part_at parts second))) second
    (none_from_test _ none) i lt) in
    let whole : are_apart seen (part_at parts second) ≡ true =
    apart_from seen (part_at parts second)
    (λ k lt there. let at = union.only k there in apart_at (part_at parts at.0) (part_at parts second) (apart at.0 at.1)
    k lt at.2) in
    both_ways _ (ap not whole) (sym shares))

pub not_sharing : (parts : List Mask) (second : ℕ) (seen : Mask) → IsUnion parts second seen
    → false ≡ not (are_apart seen (part_at parts second)) → is_some (first_sharing parts second) ≡ false
unfolding first_sharing
not_sharing parts second seen union apart =
    let whole : are_apart seen (part_at parts second) ≡ true = not-false _ (sym apart) in
    ap is_some (sym (not_found (λ i. not (are_apart (part_at parts i) (part_at parts second))) second
    (λ i lt. ap not (apart_from (part_at parts i) (part_at parts second)
    (λ k below there. apart_at seen (part_at parts second) whole k below (union.from i lt k there))))))

pub overlap_found : (parts : List Mask) (second : ℕ) → second < length parts
    → ((i : ℕ) → i < second → is_some (first_sharing parts i) ≡ false) → is_some (first_sharing parts second) ≡ true
    → option_map (λ first. Overlap first second) (first_sharing parts second) ≡ first_overlap parts
unfolding first_overlap
overlap_found parts second within before here =
    let at = found (λ second. is_some (first_sharing parts second)) (length parts) second within before here in
    rw (← at) refl

pub no_overlap : (parts : List Mask) → ((i : ℕ) → i < length parts → is_some (first_sharing parts i) ≡ false)
    → None ≡ first_overlap parts
unfolding first_overlap
no_overlap parts none =
    let at = not_found (λ second. is_some (first_sharing parts second)) (length parts) none in
    rw (← at) refl

pub past_first : (cpus : ℕ) (parts : List Mask) (part : ℕ) → first_past cpus parts ≡ Some part
    → Some (NoSuchCpu part) ≡ parts_fault_of cpus parts
unfolding parts_fault_of
past_first cpus parts part e = rw e refl

pub overlap_second : (cpus : ℕ) (parts : List Mask) → first_past cpus parts ≡ None
    → first_overlap parts ≡ parts_fault_of cpus parts
unfolding parts_fault_of
overlap_second cpus parts e = rw e refl

pub none_seen : (parts : List Mask) (seen : Mask) → ((k : ℕ) → has seen k ≡ false) → IsUnion parts 0 seen
none_seen parts seen empty = record {
  from = λ i lt. absurd (omega (arith, lt));
  only = λ k there. absurd (both_ways (has seen k) (empty k) there);
}

pub one_more_seen : (parts : List Mask) (second : ℕ) (seen more : Mask)
    → ((k : ℕ) → has more k ≡ (has seen k || has (part_at parts second) k)) → IsUnion parts second seen
    → IsUnion parts (second + 1) more
one_more_seen parts second seen more is union = record {
  from = λ i lt k there. elim (cases_eq i second) [
    | inl same ↦ is k ∙ or_right _ _ (ap (λ (i : ℕ). has (part_at parts i) k) (sym same) ∙ there)
    | inr other ↦ is k ∙ or_left _ _ (union.from i (omega (arith, lt, other)) k there)
  ];
  only = λ k there. elim (or_cases _ _ (sym (is k) ∙ there)) [
    | inl before ↦ let at = union.only k before in (at.0, omega (arith, at.1), at.2)
    | inr here ↦ (second, omega arith, here)
  ];
}
