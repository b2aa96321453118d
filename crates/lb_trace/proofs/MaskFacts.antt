-- Masks that are taken one after the other: no two of those so far share a CPU, and one mask has all
-- their CPUs.
-- For `are_disjoint`.
use Rattle.std.proofs.Common.{◌≡◌, ℕ, ◌+◌, ◌<◌, Bool, true, false, ◌&&◌, ◌||◌, List, [], ◌∷◌, ◌++◌, length, take, drop, get_or, refl, sym, ap, ◌∙◌, inl, inr}
use Rattle.std.specs.List.{list_any, list_all}
use Rattle.std.proofs.lemmas.Bool.{and_from, and_parts, or_cases, or_left, or_right, both_ways, false_from_ne_true}
use Rattle.std.proofs.lemmas.List.{take_more, take-append-drop}
use Rattle.std.proofs.lemmas.List.Folds.{list_all-append, list_any-append}
use Rattle.lb_base.specs.declared.mask.Mask.{Mask}
use Rattle.lb_base.specs.Mask.{has, no_cpus}
use Rattle.lb_base.specs.Sets.{are_apart, are_disjoint}
use Rattle.lb_base.proofs.Sets.{apart_from, apart_at}

pub record AreDisjointSoFar (masks : List Mask) (seen : Mask) : Type 0 where
  pub disjoint : are_disjoint masks ≡ true
  pub union : (k : ℕ) → has seen k ≡ list_any (λ mask. has mask k) masks

regrouped : (a b c d : Bool) → ((a && (b && true)) && (c && d)) ≡ ((a && c) && (b && d))
regrouped false b c d = refl
regrouped true true c d = refl
regrouped true false true d = refl
regrouped true false false d = refl

-- a mask more
disjoint_with : (masks : List Mask) (mask : Mask)
    → are_disjoint (masks ++ mask ∷ []) ≡ (are_disjoint masks && list_all (λ m. are_apart m mask) masks)
disjoint_with [] mask = refl
disjoint_with (m ∷ masks) mask =
    rw (list_all-append (are_apart m) masks (mask ∷ []), disjoint_with masks mask)
    (regrouped (list_all (are_apart m) masks) (are_apart m mask) (are_disjoint masks) (list_all (λ m. are_apart m mask) masks))

-- those at the front of disjoint masks
front_disjoint : (masks more : List Mask) → are_disjoint (masks ++ more) ≡ true → are_disjoint masks ≡ true
front_disjoint [] more e = refl
front_disjoint (m ∷ masks) more e =
    let parts = and_parts _ _ e in
    and_from _ _ (and_parts _ _ (sym (list_all-append (are_apart m) masks more) ∙ parts.0)).0 (front_disjoint masks more parts.1)

-- a mask that shares no CPU with any of them shares none with all of them together, and the other way
lacks : (masks : List Mask) (mask : Mask) (k : ℕ) → k < 64 → list_all (λ m. are_apart m mask) masks ≡ true
    → list_any (λ m. has m k) masks ≡ true → has mask k ≡ false
lacks [] mask k lt apart there = absurd (cc)
lacks (m ∷ masks) mask k lt apart there =
    let parts = and_parts _ _ apart in
    elim (or_cases _ _ there) [
      | inl here ↦ apart_at m mask parts.0 k lt here
      | inr later ↦ lacks masks mask k lt parts.1 later
    ]

each_apart : (masks : List Mask) (seen mask : Mask)
    → ((k : ℕ) → list_any (λ m. has m k) masks ≡ true → has seen k ≡ true) → are_apart seen mask ≡ true
    → list_all (λ m. are_apart m mask) masks ≡ true
each_apart [] seen mask within apart = refl
each_apart (m ∷ masks) seen mask within apart =
    and_from _ _ (apart_from m mask (λ k lt there. apart_at seen mask apart k lt (within k (or_left _ _ there))))
    (each_apart masks seen mask (λ k there. within k (or_right _ _ there)) apart)

-- ---- the loop
pub one_more : (masks : List Mask) (i : ℕ) (seen more : Mask) → i < length masks → AreDisjointSoFar (take i masks) seen
    → are_apart seen (get_or masks i no_cpus) ≡ true → ((k : ℕ) → has more k ≡ (has seen k || has (get_or masks i no_cpus) k))
    → AreDisjointSoFar (take (i + 1) masks) more
one_more masks i seen more lt so_far apart is =
    let mask = get_or masks i no_cpus in
    let each = each_apart (take i masks) seen mask (λ k there. so_far.union k ∙ there) apart in
    let push = take_more masks i no_cpus lt in
    record {
      disjoint = rw (push, disjoint_with (take i masks) mask) (and_from _ _ so_far.disjoint each);
      union = λ k. is k ∙ (rw (so_far.union k)
          (sym (rw (push, list_any-append (λ (m : Mask). has m k) (take i masks) (mask ∷ []))
          (ap (λ (b : Bool). list_any (λ (m : Mask). has m k) (take i masks) || b) (or_false (has mask k))))));
    }
  where
    or_false : (b : Bool) → (b || false) ≡ b
    or_false true = refl
    or_false false = refl

pub one_shared : (masks : List Mask) (i : ℕ) (seen : Mask) → i < length masks → AreDisjointSoFar (take i masks) seen
    → are_apart seen (get_or masks i no_cpus) ≡ false → false ≡ are_disjoint masks
one_shared masks i seen lt so_far shares =
    let mask = get_or masks i no_cpus in
    sym (false_from_ne_true _ (λ whole.
    let front : are_disjoint (take (i + 1) masks) ≡ true =
    front_disjoint (take (i + 1) masks) (drop (i + 1) masks) (ap are_disjoint (take-append-drop (i + 1) masks) ∙ whole) in
    let each = (and_parts _ _ (sym (disjoint_with (take i masks) mask)
    ∙ (ap are_disjoint (sym (take_more masks i no_cpus lt)) ∙ front))).1 in
    both_ways (are_apart seen mask) shares
    (apart_from seen mask (λ k lt there. lacks (take i masks) mask k lt each (sym (so_far.union k) ∙ there)))))
