-- What can be asked of masks, for whoever asks it of a body or a definition: the mask of a test, the
-- least CPU, a test of all CPUs of a mask, and masks that are below a number or apart.
-- For the law `mask_of_a_test`, and `Mask::first` and `Mask::next_after`; cited by `lb_domain`, `lb_due` and other
-- crates too.
use Rattle.std.proofs.Common.{◌≡◌, ℕ, zero, suc, ◌+◌, ◌-◌, ◌*◌, ◌^◌, ◌<◌, ◌≤◌, nat_lt, eqb, ltb, Bool, true, false, ◌&&◌, not, Option, Some, None, refl, sym, ◌∙◌, ap, subst, arith, inl, inr, add-one}
use Rattle.std.specs.Prelude.{if◌then◌else◌, sum_by, filter, MatchOption, is_some}
use Rattle.std.specs.Int.{bit_at}
use Rattle.std.specs.List.{range_with_len, list_all}
use Rattle.std.proofs.lemmas.Bool.{cases_lt, cases_eq, cases_Bool, cases_order, and_from, and_parts, and_left, and_right, lt-ltb, le-ltb, both_ways, not-true, not-false, false_from_ne_true}
use Rattle.std.proofs.lemmas.List.Sums.{sum_by_push}
use Rattle.std.proofs.lemmas.Nat.Bits.{bit_at_cat_low, bit_at_cat_high, bit_at_above, bit_at-zero}
use Rattle.std.proofs.Math.Nat.{pow-suc}
use Rattle.lb_base.specs.declared.mask.Mask.{Mask}
use Rattle.lb_base.specs.Mask.{has, members, members_below, HasNoneFrom, IsFirstFrom}
use Rattle.lb_base.specs.Sets.{least, least_above, is_below, are_apart, mask_where}
use Rattle.lb_base.proofs.Bits.{bit_set}
use Rattle.lb_base.proofs.Members.{same_mask}
use Rattle.lb_base.proofs.Ranges.{range_more, find_none, find_least}

-- ---- the mask of a test

-- the bits of the numbers below n that pass
bits_below : (ℕ → Bool) → ℕ → ℕ
bits_below p n = sum_by (λ k. if p k then 2 ^ k else 0) (range_with_len 0 n)

-- they stand for just these numbers
record Stands (p : ℕ → Bool) (n s : ℕ) : Type 0 where
  small : s < 2 ^ n
  bits : (k : ℕ) → bit_set s k ≡ (ltb k n && p k)

bits_more : (p : ℕ → Bool) (n : ℕ) → bits_below p (n + 1) ≡ bits_below p n + (if p n then 2 ^ n else 0)
unfolding bits_below
bits_more p n =
    ap (sum_by (λ k. if p k then 2 ^ k else 0)) (range_more 0 n)
    ∙ sum_by_push (λ k. if p k then 2 ^ k else 0) (range_with_len 0 n) (0 + n)
    ∙ ap (λ (m : ℕ). bits_below p n + (if p m then 2 ^ m else 0)) (let z : 0 + n ≡ n = omega arith in z)

doubles : (n : ℕ) → 2 ^ (n + 1) ≡ 2 ^ n + 2 ^ n
doubles n = omega (arith, pow-suc 2 n, ap (λ (m : ℕ). 2 ^ m) (add-one n))

passed_over : (p : ℕ → Bool) (n s : ℕ) → p n ≡ false → Stands p n s → Stands p (n + 1) s
passed_over p n s fails h = record {
  small = omega (arith, h.small, doubles n);
  bits = λ k. elim (cases_order k n) [
    | inl same ↦ h.bits k ∙ rw (le-ltb k n (omega (arith, same)), lt-ltb k (n + 1) (omega (arith, same)), ap p same ∙ fails) refl
    | inr other ↦ elim other [
      | inl below ↦ h.bits k ∙ rw (lt-ltb k n below, lt-ltb k (n + 1) (omega (arith, below))) refl
      | inr above ↦ h.bits k ∙ rw (le-ltb k n (omega (arith, above)), le-ltb k (n + 1) (omega (arith, above))) refl
    ]
  ];
}

set_there : (n s k : ℕ) → s < 2 ^ n → k ≡ n → bit_at (1 * 2 ^ n + s) k ≡ 1
set_there n s k small same = bit_at_cat_high 1 n s k small (omega (arith, same))
    ∙ ap (bit_at 1) (let z : k - n ≡ 0 = omega (arith, same) in z)

none_above : (n s k : ℕ) → s < 2 ^ n → n < k → bit_at (1 * 2 ^ n + s) k ≡ 0
none_above n s k small above = bit_at_cat_high 1 n s k small (omega (arith, above))
    ∙ bit_at_above 1 1 (k - n) (omega arith) (omega (arith, above))

taken_in : (p : ℕ → Bool) (n s : ℕ) → p n ≡ true → Stands p n s → Stands p (n + 1) (1 * 2 ^ n + s)
taken_in p n s passes h = record {
  small = omega (arith, h.small, doubles n);
  bits = λ k. elim (cases_order k n) [
    | inl same ↦ ap (λ (b : ℕ). eqb b 1) (set_there n s k h.small same)
        ∙ rw (lt-ltb k (n + 1) (omega (arith, same)), ap p same ∙ passes) refl
    | inr other ↦ elim other [
      | inl below ↦ ap (λ (b : ℕ). eqb b 1) (bit_at_cat_low 1 n s k below) ∙ h.bits k
          ∙ rw (lt-ltb k n below, lt-ltb k (n + 1) (omega (arith, below))) refl
      | inr above ↦ ap (λ (b : ℕ). eqb b 1) (none_above n s k h.small above) ∙ rw (le-ltb k (n + 1) (omega (arith, above))) refl
    ]
  ];
}

all_stand : (p : ℕ → Bool) (n : ℕ) → Stands p n (bits_below p n)
unfolding bits_below
all_stand p zero = record {
  small = omega arith;
  bits = λ k. ap (λ (x : ℕ). eqb x 1) (bit_at-zero k) ∙ rw
      (le-ltb k 0 (omega arith)) refl;
}
all_stand p (suc n) =
    let before = all_stand p n in
    let here : Stands p (n + 1) (bits_below p n + (if p n then 2 ^ n else 0)) = elim (cases_Bool (p n)) [
      | inl passes ↦ rw passes (let e : 1 * 2 ^ n + bits_below p n ≡ bits_below p n + 2 ^ n = omega arith in
          subst (Stands p (n + 1)) e (taken_in p n (bits_below p n) passes before))
      | inr fails ↦ rw fails (let e : bits_below p n ≡ bits_below p n + 0 = omega arith in
          subst (Stands p (n + 1)) e (passed_over p n (bits_below p n) fails before))
    ] in
    subst (λ (m : ℕ). Stands p m (bits_below p m)) (add-one n) (subst (Stands p (n + 1)) (sym (bits_more p n)) here)

pub mask_where_has : (p : ℕ → Bool) (k : ℕ) → has (mask_where p) k ≡ (ltb k 64 && p k)
unfolding has mask_where bits_below
mask_where_has p k = (all_stand p 64).bits k

-- a test that only numbers below n pass, n being at most 64
pub same_where : (m : Mask) (n : ℕ) (p : ℕ → Bool) → n ≤ 64 → ((k : ℕ) → has m k ≡ (ltb k n && p k))
    → m ≡ mask_where (λ k. ltb k n && p k)
same_where m n p few is =
    same_mask m (mask_where (λ k. ltb k n && p k)) (λ k. is k ∙ sym (mask_where_has (λ k. ltb k n && p k) k ∙ inside k))
  where
    inside : (k : ℕ) → (ltb k 64 && (ltb k n && p k)) ≡ (ltb k n && p k)
    inside k =
        elim (cases_lt k n) [
          | inl lt ↦ rw (lt-ltb k 64 (omega (arith, lt, few))) refl
          | inr ge ↦ elim (cases_lt k 64) [
            | inl lt ↦ rw (lt-ltb k 64 lt) refl
            | inr past ↦ rw (le-ltb k 64 past, le-ltb k n ge) refl
          ]
        ]

-- ---- the least CPU

pub least_none : (m : Mask) → HasNoneFrom m 0 → least m ≡ None
unfolding least
least_none m none = find_none (has m) 0 64 (λ k lo hi. none k lo)

pub least_first : (m : Mask) (c : ℕ) → IsFirstFrom m 0 c → least m ≡ Some c
unfolding least
least_first m c at = find_least (has m) 0 64 c at.from at.in_range at.there at.least

pub least_above_none : (m : Mask) (cpu : ℕ) → HasNoneFrom m (cpu + 1) → least_above m cpu ≡ None
unfolding least_above
least_above_none m cpu none =
    find_none (λ k. nat_lt cpu k && has m k) 0 64 (λ k lo hi. elim (cases_lt cpu k) [
      | inl above ↦ and_right (nat_lt cpu k) (has m k) (none k (omega (arith, above)))
      | inr below ↦ and_left (nat_lt cpu k) (has m k) (le-ltb cpu k below)
    ])

pub least_above_first : (m : Mask) (cpu c : ℕ) → IsFirstFrom m (cpu + 1) c → least_above m cpu ≡ Some c
unfolding least_above
least_above_first m cpu c at =
    find_least (λ k. nat_lt cpu k && has m k) 0 64 c (omega arith) at.in_range
    (and_from (nat_lt cpu c) (has m c) (lt-ltb cpu c (omega (arith, at.from))) at.there)
    (λ k lo hi. elim (cases_lt cpu k) [
      | inl above ↦ and_right (nat_lt cpu k) (has m k) (at.least k (omega (arith, above)) hi)
      | inr below ↦ and_left (nat_lt cpu k) (has m k) (le-ltb cpu k below)
    ])

-- ---- tests of the CPUs of a mask

all_kept : (p q : ℕ → Bool) (a n : ℕ) → ((k : ℕ) → a ≤ k → k < a + n → p k ≡ true → q k ≡ true)
    → list_all q (filter p (range_with_len a n)) ≡ true
all_kept p q a zero each = refl
all_kept p q a (suc n) each =
    let rest = all_kept p q (a + 1) n (λ k lo hi. each k (omega (arith, lo)) (omega (arith, hi))) in
    elim (cases_Bool (p a)) [
      | inl passes ↦ rw passes (and_from _ _ (each a (omega arith) (omega arith) passes) rest)
      | inr fails ↦ rw fails rest
    ]

kept_at : (p q : ℕ → Bool) (a n : ℕ) → list_all q (filter p (range_with_len a n)) ≡ true → (k : ℕ) → a ≤ k → k < a + n
    → p k ≡ true → q k ≡ true
kept_at p q a zero all k lo hi passes = absurd (omega (arith, lo, hi))
kept_at p q a (suc n) all k lo hi passes =
    elim (cases_Bool (p a)) [
      | inl first ↦ let rest = list_all q (filter p (range_with_len (a + 1) n)) in
          let whole : (q a && rest) ≡ true = sym (rw first refl) ∙ all in
          let parts = and_parts (q a) rest whole in
          elim (cases_eq a k) [
            | inl same ↦ ap q (sym same) ∙ parts.0
            | inr other ↦ kept_at p q (a + 1) n parts.1 k (omega (arith, lo, other)) (omega (arith, hi)) passes
          ]
      | inr first ↦ elim (cases_eq a k) [
        | inl same ↦ absurd (both_ways (p a) first (ap p same ∙ passes))
        | inr other ↦ kept_at p q (a + 1) n (sym (rw first refl) ∙ all) k (omega (arith, lo, other)) (omega (arith, hi)) passes
      ]
    ]

pub all_members : (q : ℕ → Bool) (m : Mask) → ((k : ℕ) → k < 64 → has m k ≡ true → q k ≡ true) → list_all q (members m) ≡ true
unfolding members members_below
all_members q m each = all_kept (has m) q 0 64 (λ k lo hi. each k (omega (arith, hi)))

pub all_members_at : (q : ℕ → Bool) (m : Mask) → list_all q (members m) ≡ true → (k : ℕ) → k < 64 → has m k ≡ true → q k ≡ true
unfolding members members_below
all_members_at q m all k within there = kept_at (has m) q 0 64 all k (omega arith) (omega (arith, within)) there

-- a mask is below n where it has no CPU from n on
pub below_is : (m rest : Mask) (n : ℕ) (o : Option ℕ) → ((k : ℕ) → has rest k ≡ (has m k && not (ltb k n)))
    → MatchOption o (HasNoneFrom rest 0) (λ c. IsFirstFrom rest 0 c) → is_some o ≡ not (is_below m n)
unfolding is_below
below_is m rest n None is none =
    sym (ap not (all_members (λ k. ltb k n) m (λ k lt there.
    let out : not (ltb k n) ≡ false = sym (rw there refl) ∙ sym (is k) ∙ none k (omega arith) in
    not-false (ltb k n) out)))
below_is m rest n (Some c) is at =
    let both = and_parts _ _ (sym (is c) ∙ at.there) in
    sym (ap not (false_from_ne_true _ (λ all. both_ways (ltb c n) (not-true (ltb c n) both.1)
    (all_members_at (λ k. ltb k n) m all c at.in_range both.0))))

-- masks are apart where no CPU is in both
pub apart_is : (a b rest : Mask) (o : Option ℕ) → ((k : ℕ) → has rest k ≡ (has a k && has b k))
    → MatchOption o (HasNoneFrom rest 0) (λ c. IsFirstFrom rest 0 c) → is_some o ≡ not (are_apart a b)
unfolding are_apart
apart_is a b rest None is none =
    sym (ap not (all_members (λ k. not (has b k)) a (λ k lt there.
    let out : has b k ≡ false = sym (rw there refl) ∙ sym (is k) ∙ none k (omega arith) in
    ap not out)))
apart_is a b rest (Some c) is at =
    let both = and_parts _ _ (sym (is c) ∙ at.there) in
    sym (ap not (false_from_ne_true _ (λ all. both_ways (has b c)
    (not-true (has b c) (all_members_at (λ k. not (has b k)) a all c at.in_range both.0)) both.1)))

pub apart_from : (a b : Mask) → ((k : ℕ) → k < 64 → has a k ≡ true → has b k ≡ false) → are_apart a b ≡ true
unfolding are_apart
apart_from a b none = all_members (λ k. not (has b k)) a (λ k lt there. ap not (none k lt there))

pub apart_at : (a b : Mask) → are_apart a b ≡ true → (k : ℕ) → k < 64 → has a k ≡ true → has b k ≡ false
unfolding are_apart
apart_at a b apart k lt there = not-true (has b k) (all_members_at (λ k. not (has b k)) a apart k lt there)
