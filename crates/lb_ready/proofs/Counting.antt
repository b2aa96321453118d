-- How many numbers below a bound pass a test: more pass a wider test; and what a search over a range
-- finds.
-- For the lemmas of `Courses`, `Decisions` and other files, and so for the laws `lanes_suit`, `entries_fit` and
-- others.
use Rattle.std.proofs.Common.{◌/◌, ◌^◌, arith, ◌≡◌, ℕ, zero, suc, ◌+◌, ◌-◌, ◌<◌, ◌≤◌, Bool, true, false, not, cond, ◌≢◌, ◌==◌, ◌&&◌, ◌||◌, find, Some, refl, sym, ◌∙◌, ap, subst, sum_by, ltb, inl, inr}
use Rattle.std.specs.List.{range_with_len}
use Rattle.std.specs.Int.{bit_at}
use Rattle.std.proofs.lemmas.Bool.{and_parts, eq-eqb, ne_eqb, lt-ltb, ltb-true, not-true, cases_lt, cases_eq, le-ltb}
use Rattle.std.proofs.lemmas.List.Sums.{sum_by-cons}
use Rattle.std.proofs.lemmas.Nat.Bits.{bit_at-pow_same, bit_at-pow_other}
use Rattle.std.proofs.lemmas.Nat.{or_lt}
use Rattle.std.proofs.Math.Pow.{pow-lt}
use Rattle.lb_base.specs.declared.mask.Mask.{Mask}
use Rattle.lb_base.specs.Sets.{mask_where, least, least_above, is_below}
use Rattle.lb_base.specs.Mask.{has, without, either, only}
use Rattle.lb_base.proofs.Bits.{bit_set_shr, same_bits, bit_set, bit_set_and, bit_set_or, bit_set_ones, bit_set_zero, bit_set_without}
use Rattle.lb_base.proofs.Sets.{mask_where_has, all_members_at}
use Rattle.lb_ready.specs.Left.{count_where}

-- ---- tests
pub cond_by : {X : Type 0} (P : X → Type 0) (b : Bool) (x y : X) → P x → P y → P (cond b x y)
cond_by P true x y h k = h
cond_by P false x y h k = k

-- ---- counts
abbrev one : Bool → ℕ
one b = cond {A = ℕ} b 1 0

sums : (f g : ℕ → ℕ) (i n : ℕ) → ((k : ℕ) → i ≤ k → k < i + n → f k ≤ g k) → sum_by f (range_with_len i n) ≤ sum_by g
    (range_with_len i n)
sums f g i zero h = omega arith
sums f g i (suc n) h =
    let a = h i (omega arith) (omega arith) in
    let b = sums f g (i + 1) n (λ k l u. h k (omega arith) (omega arith)) in
    omega (arith, sum_by-cons f i (range_with_len (i + 1) n), sum_by-cons g i (range_with_len (i + 1) n))

-- with one number more or less
sums_less : (f g : ℕ → ℕ) (i n j : ℕ) → i ≤ j → j < i + n → f j < g j → ((k : ℕ) → i ≤ k → k < i + n → f k ≤ g k)
    → sum_by f (range_with_len i n) < sum_by g (range_with_len i n)
sums_less f g i zero j l u e h = absurd (omega arith)
sums_less f g i (suc n) j l u e h =
    let x = sum_by-cons f i (range_with_len (i + 1) n) in
    let y = sum_by-cons g i (range_with_len (i + 1) n) in
    elim (cases_eq i j) [
      | inl z ↦ let e' : f i < g i = rw z e in let b = sums f g (i + 1) n (λ k l u. h k (omega arith) (omega arith)) in
          omega arith
      | inr z ↦ let a = h i (omega arith) (omega arith) in let b =
          sums_less f g (i + 1) n j (omega arith) (omega arith) e (λ k l u. h k (omega arith) (omega arith)) in omega arith
    ]

sums_more : (f g : ℕ → ℕ) (i n j : ℕ) → f j ≤ g j + 1 → ((k : ℕ) → k ≢ j → f k ≤ g k)
    → sum_by f (range_with_len i n) ≤ sum_by g (range_with_len i n) + 1
sums_more f g i zero j e h = omega arith
sums_more f g i (suc n) j e h =
    let x = sum_by-cons f i (range_with_len (i + 1) n) in
    let y = sum_by-cons g i (range_with_len (i + 1) n) in
    elim (cases_eq i j) [
      | inl z ↦ let e' : f i ≤ g i + 1 = rw z e in let b = sums f g (i + 1) n (λ k l u. h k (λ v. omega arith)) in omega arith
      | inr z ↦ let a = h i z in let b = sums_more f g (i + 1) n j e h in omega arith
    ]

ones : (b c : Bool) → (b ≡ true → c ≡ true) → one b ≤ one c
ones false c h = omega arith
ones true c h = rw (h refl) (omega arith)

pub count_less : (p q : ℕ → Bool) (n j : ℕ) → j < n → p j ≡ false → q j ≡ true → ((k : ℕ) → p k ≡ true → q k ≡ true)
    → count_where p n < count_where q n
unfolding count_where
count_less p q n j lt a b h = sums_less (λ k. one (p k)) (λ k. one (q k)) 0 n j (omega arith) (omega arith)
    (rw (a, b) (omega arith)) (λ k l u. ones (p k) (q k) (h k))

pub count_within : (p q : ℕ → Bool) (n : ℕ) → ((k : ℕ) → k < n → p k ≡ true → q k ≡ true) → count_where p n ≤ count_where q n
unfolding count_where
count_within p q n h = sums (λ k. one (p k)) (λ k. one (q k)) 0 n (λ k l u. ones (p k) (q k) (h k (omega arith)))

pub count_more : (p q : ℕ → Bool) (n j : ℕ) → ((k : ℕ) → k ≢ j → p k ≡ true → q k ≡ true) → count_where p n ≤ count_where q n + 1
unfolding count_where
count_more p q n j h = sums_more (λ k. one (p k)) (λ k. one (q k)) 0 n j (one_more (p j) (q j)) (λ k n. ones (p k) (q k) (h k n))
  where
    one_more : (b c : Bool) → one b ≤ one c + 1
    one_more false c = omega arith
    one_more true false = omega arith
    one_more true true = omega arith

all_count : (i n : ℕ) → sum_by (λ (k : ℕ). 1) (range_with_len i n) ≡ n
all_count i zero = refl
all_count i (suc n) = let r = all_count (i + 1) n in omega (arith, sum_by-cons (λ (k : ℕ). 1) i (range_with_len (i + 1) n))

pub count_most : (p : ℕ → Bool) (n : ℕ) → count_where p n ≤ n
unfolding count_where
count_most p n = let e = all_count 0 n in let s = sums (λ k. one (p k)) (λ k. 1) 0 n
    (λ k l u. ones (p k) true (λ h. refl)) in omega arith

pub count_missing : (p : ℕ → Bool) (n j : ℕ) → j < n → p j ≡ false → count_where p n < n
unfolding count_where
count_missing p n j lt a = let e = all_count 0 n in let s =
    sums_less (λ k. one (p k)) (λ k. 1) 0 n j (omega arith) (omega arith) (rw a (omega arith))
    (λ k l u. ones (p k) true (λ h. refl)) in omega arith

-- ---- searches
found_here : (p : ℕ → Bool) (i n c : ℕ) (b : Bool) → p i ≡ b
    → (find p (range_with_len (i + 1) n) ≡ Some c → (p c ≡ true) × (i + 1 ≤ c) × (c < i + 1 + n))
    → cond b (Some i) (find p (range_with_len (i + 1) n)) ≡ Some c → (p c ≡ true) × (i ≤ c) × (c < i + suc n)
found_here p i n c true h later f = let z : i ≡ c = cc in (subst (λ (x : ℕ). p x ≡ true) z h, omega arith, omega arith)
found_here p i n c false h later f = let r = later f in (r.0, omega arith, omega arith)

pub found_in : (p : ℕ → Bool) (i n c : ℕ) → find p (range_with_len i n) ≡ Some c → (p c ≡ true) × (i ≤ c) × (c < i + n)
found_in p i zero c e = absurd (let y : ⊥ = cc in y)
found_in p i (suc n) c e = found_here p i n c (p i) refl (found_in p (i + 1) n c) e

pub least_found : (m : Mask) (c : ℕ) → least m ≡ Some c → (has m c ≡ true) × (c < 64)
unfolding least
least_found m c e = let r = found_in (has m) 0 64 c e in (r.0, omega arith)

pub least_above_found : (m : Mask) (p c : ℕ) → least_above m p ≡ Some c → (has m c ≡ true) × (p < c) × (c < 64)
unfolding least_above
least_above_found m p c e = let r = found_in (λ k. ltb p k && has m k) 0 64 c e in let a =
    and_parts (ltb p c) (has m c) r.0 in (a.1, ltb-true p c a.0, omega arith)

-- ---- masks
pub without_lacks : (g x : Mask) (k : ℕ) → k < 64 → has (without g x) k ≡ true → has x k ≡ false
unfolding without has
without_lacks g x k lt h =
    let a = and_parts (bit_set g.bits k) _ (sym (bit_set_and g.bits (2 ^ 64 - 1 - x.bits) k) ∙ h) in
    let small : x.bits < 2 ^ 64 = elim (cases_lt x.bits (2 ^ 64)) [
      | inl s ↦ s
      | inr l ↦ let z : 2 ^ 64 - 1 - x.bits ≡ 0 = omega arith in let b = bit_set_zero k in let w = a.1 in absurd
          (let y : ⊥ = cc in y)
    ] in
    let b = bit_set_without (2 ^ 64 - 1) x.bits k (omega arith) small in
    let c = bit_set_and (2 ^ 64 - 1) (2 ^ 64 - 1 - x.bits) k in
    let d : bit_set (2 ^ 64 - 1) k ≡ true = bit_set_ones 64 k ∙ lt-ltb k 64 lt in
    let e : (bit_set (2 ^ 64 - 1) k && not (bit_set x.bits k)) ≡ true = sym b ∙ c ∙ rw (d, a.1) refl in
    not-true _ ((and_parts (bit_set (2 ^ 64 - 1) k) _ e).1)

pub without_has : (g x : Mask) (k : ℕ) → has (without g x) k ≡ true → has g k ≡ true
unfolding without has
without_has g x k h = (and_parts (bit_set g.bits k) _ (sym (bit_set_and g.bits (2 ^ 64 - 1 - x.bits) k) ∙ h)).0

pub either_has : (a b : Mask) (k : ℕ) → has (either a b) k ≡ (has a k || has b k)
unfolding either has
either_has a b k = bit_set_or a.bits b.bits k

pub only_has : (c k : ℕ) → has (only c) k ≡ (k == c)
unfolding only has
only_has c k = elim (cases_eq k c) [
  | inl e ↦ let w : bit_at (2 ^ c) k ≡ 1 = rw e (bit_at-pow_same c) in ap (λ (x : ℕ). x == 1) w ∙ sym (eq-eqb k c e)
  | inr n ↦ ap (λ (x : ℕ). x == 1) (bit_at-pow_other c k n) ∙ sym (ne_eqb k c n)
]

-- a member of a mask below a bound is below it
pub member_below : (m : Mask) (n c : ℕ) → is_below m n ≡ true → (has m c ≡ true) × (c < 64) → c < n
unfolding is_below
member_below m n c h f = ltb-true c n (all_members_at (λ k. ltb k n) m h c f.1 f.0)

-- ---- masks of at most 64 CPUs
pub mask_narrow : (m : Mask) → ((k : ℕ) → 64 ≤ k → has m k ≡ false) → m.bits < 2 ^ 64
unfolding has
mask_narrow m none =
    let high : m.bits / 2 ^ 64 ≡ 0 = same_bits (m.bits / 2 ^ 64) 0
    (λ k. bit_set_shr m.bits 64 k ∙ none (64 + k) (omega arith) ∙ sym (bit_set_zero k)) in
    omega (arith, high)

pub where_narrow : (p : ℕ → Bool) → (mask_where p).bits < 2 ^ 64
where_narrow p = mask_narrow (mask_where p) (λ k past. mask_where_has p k ∙ rw (le-ltb k 64 past) refl)

pub either_narrow : (a : Mask) (k : ℕ) → a.bits < 2 ^ 64 → k < 64 → (either a (only k)).bits < 2 ^ 64
unfolding either only
either_narrow a k fits lt = or_lt 64 a.bits (2 ^ k) fits (pow-lt lt)
