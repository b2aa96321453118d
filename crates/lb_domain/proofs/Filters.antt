-- Filters of numbers, and the CPUs of a mask as a filter of those of another.
-- For the lemmas of `Groupings`, `Rings` and `Sizes`, and so for the laws `domains_are_few`, `groups_part_the_span`
-- and others.
use Rattle.std.proofs.Common.{◌≡◌, ℕ, zero, suc, ◌+◌, ◌<◌, ◌≤◌, leb, ltb, Bool, ◌&&◌, not, List, [], ◌∷◌, refl, sym, ◌∙◌, ap, arith, inl, inr}
use Rattle.std.specs.Prelude.{filter}
use Rattle.std.specs.List.{range_with_len}
use Rattle.std.proofs.lemmas.Bool.{cases_Bool, cases_lt, lt-ltb, le-ltb, le-leb, lt-leb}
use Rattle.lb_base.specs.declared.mask.Mask.{Mask}
use Rattle.lb_base.specs.Mask.{has, members, members_below}

pub filter-filter : (p q : ℕ → Bool) (xs : List ℕ) → filter q (filter p xs) ≡ filter (λ k. p k && q k) xs
filter-filter p q [] = refl
filter-filter p q (x ∷ xs) =
    elim (cases_Bool (p x)) [
      | inl passes ↦ rw passes (elim (cases_Bool (q x)) [
        | inl both ↦ rw both (ap (λ (r : List ℕ). x ∷ r) (filter-filter p q xs))
        | inr one ↦ rw one (filter-filter p q xs)
      ])
      | inr fails ↦ rw fails (filter-filter p q xs)
    ]

pub filter_congr : (p q : ℕ → Bool) (a n : ℕ) → ((k : ℕ) → a ≤ k → k < a + n → p k ≡ q k)
    → filter p (range_with_len a n) ≡ filter q (range_with_len a n)
filter_congr p q a zero same = refl
filter_congr p q a (suc n) same =
    let rest = filter_congr p q (a + 1) n (λ k lo hi. same k (omega (arith, lo)) (omega (arith, hi))) in
    rw (same a (omega arith) (omega arith)) (elim (cases_Bool (q a)) [
      | inl passes ↦ rw passes (ap (λ (r : List ℕ). a ∷ r) rest)
      | inr fails ↦ rw fails rest
    ])

-- the CPUs of a that pass a test
pub members_passing : (m a : Mask) (q : ℕ → Bool) → ((k : ℕ) → k < 64 → has m k ≡ (has a k && q k))
    → members m ≡ filter q (members a)
unfolding members members_below
members_passing m a q is =
    filter_congr (has m) (λ k. has a k && q k) 0 64 (λ k lo hi. is k (omega (arith, hi)))
    ∙ sym (filter-filter (has a) q (range_with_len 0 64))

pub not_before : (k n : ℕ) → not (ltb k n) ≡ leb n k
not_before k n =
    elim (cases_lt k n) [
      | inl lt ↦ rw (lt-ltb k n lt, lt-leb n k lt) refl
      | inr ge ↦ rw (le-ltb k n ge, le-leb n k ge) refl
    ]
