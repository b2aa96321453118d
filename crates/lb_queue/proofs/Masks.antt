-- When a mask has no CPU past the machine.
-- For `is_bad`; cited by `lb_tests` too.
use Rattle.std.proofs.Common.{◌≡◌, ℕ, ◌^◌, ◌<◌, nat_lt, Bool, true, false, not, cond, ◌&&◌, ◌||◌, List, [], ◌∷◌, filter, Some, None, refl, sym, ◌∙◌, ap, arith, inl, inr}
use Rattle.std.specs.Prelude.{IsTrue, is_none, is_some, Option}
use Rattle.std.specs.List.{list_all, range_with_len}
use Rattle.std.proofs.lemmas.Bool.{cases_lt, both_ways}
use Rattle.lb_base.specs.declared.mask.Mask.{Mask}
use Rattle.lb_base.specs.Mask.{has, members, members_below, IsSubset}
use Rattle.lb_base.specs.Sets.{is_below}
use Rattle.lb_base.proofs.Ranges.{all_at, all_of}
use Rattle.lb_base.proofs.Members.{has_above}

filtered_step : (p h rest : Bool) → (cond h (p && rest) rest) ≡ ((not h || p) && rest)
filtered_step p true rest = refl
filtered_step p false rest = refl

pick : {X : Type 0} (p : X → Bool) (x : X) (xs : List X) (b : Bool)
    → list_all p (cond b (x ∷ xs) xs) ≡ cond b (p x && list_all p xs) (list_all p xs)
pick p x xs true = refl
pick p x xs false = refl

all_filtered : {X : Type 0} (p h : X → Bool) (xs : List X) → list_all p (filter h xs) ≡ list_all (λ x. not (h x) || p x) xs
all_filtered p h [] = refl
all_filtered p h (x ∷ xs) = pick p x (filter h xs) (h x)
    ∙ ap (λ (b : Bool). cond (h x) (p x && b) b) (all_filtered p h xs) ∙ filtered_step (p x) (h x)
    (list_all (λ y. not (h y) || p y) xs)

unless : (h p : Bool) → (h ≡ true → p ≡ true) → (not h || p) ≡ true
unless true p f = f refl
unless false p f = refl

whenever : (h p : Bool) → (not h || p) ≡ true → h ≡ true → p ≡ true
whenever true p f e = f
whenever false p f e = absurd (let z : ⊥ = cc in z)

below_subset : (m of : Mask) (n : ℕ) → m.bits < 2 ^ 64 → ((k : ℕ) → has of k ≡ nat_lt k n) → is_below m n ≡ true → IsSubset m of
unfolding is_below members members_below
below_subset m of n fits e h k there = elim (cases_lt k 64) [
  | inl low ↦ e k ∙ whenever (has m k) (nat_lt k n)
      (all_at (λ x. not (has m x) || nat_lt x n) 0 64
      (sym (all_filtered (λ x. nat_lt x n) (has m) (range_with_len 0 64)) ∙ h) k (omega arith) (omega arith)) there
  | inr high ↦ absurd (both_ways (has m k) (has_above m k fits high) there)
]

subset_below : (m of : Mask) (n : ℕ) → ((k : ℕ) → has of k ≡ nat_lt k n) → IsSubset m of → is_below m n ≡ true
unfolding is_below members members_below
subset_below m of n e h = all_filtered (λ x. nat_lt x n) (has m) (range_with_len 0 64)
    ∙ all_of (λ x. not (has m x) || nat_lt x n) 0 64 (λ k lo hi. unless (has m k) (nat_lt k n) (λ there. sym (e k) ∙ h k there))

from_both : (a b : Bool) → (a ≡ true → b ≡ true) → (b ≡ true → a ≡ true) → a ≡ b
from_both true true f g = refl
from_both true false f g = absurd (let h : false ≡ true = f refl in let z : ⊥ = cc in z)
from_both false true f g = absurd (let h : false ≡ true = g refl in let z : ⊥ = cc in z)
from_both false false f g = refl

-- the test by subsets is the definition's
pub below_is : (m of : Mask) (n : ℕ) (b : Bool) → m.bits < 2 ^ 64 → ((k : ℕ) → has of k ≡ nat_lt k n)
    → (IsTrue b → IsSubset m of) → (IsSubset m of → IsTrue b) → b ≡ is_below m n
below_is m of n b fits e f g = from_both b (is_below m n) (λ t. subset_below m of n e (f t))
    (λ t. g (below_subset m of n fits e t))

pub bad_by : (empty below b : Bool) → empty ≡ false → b ≡ below → not b ≡ (empty || not below)
bad_by empty below b e f = rw (e, f) refl

pub none_not_some : (o : Option ℕ) (b : Bool) → is_some o ≡ not b → is_none o ≡ b
none_not_some None true e = refl
none_not_some None false e = absurd (let z : ⊥ = cc in z)
none_not_some (Some x) true e = absurd (let z : ⊥ = cc in z)
none_not_some (Some x) false e = refl
