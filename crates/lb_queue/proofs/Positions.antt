-- Masks of positions that pass a test, one position after the other.
-- For `due_fresh`, `due_counted` and `idle_positions`.
use Rattle.std.proofs.Common.{◌≡◌, ℕ, suc, zero, ◌+◌, ◌<◌, ◌≤◌, nat_lt, ◌==◌, Bool, true, false, ◌&&◌, ◌||◌, List, [], ◌∷◌, length, map, get_or, refl, sym, ◌∙◌, ap, arith, inl, inr}
use Rattle.std.proofs.lemmas.Bool.{cases_order, lt-ltb, le-ltb, eq-eqb, ne_eqb}
use Rattle.lb_base.specs.declared.mask.Mask.{Mask}
use Rattle.lb_base.specs.Mask.{has}
use Rattle.lb_base.specs.Sets.{mask_where}
use Rattle.lb_base.proofs.Members.{same_mask}
use Rattle.lb_base.proofs.Sets.{mask_where_has}

-- one position more
pub position_step : (D : ℕ → Bool) (p k : ℕ) (d m r : Bool) → r ≡ (m || (d && (k == p))) → m ≡ (nat_lt k p && D k)
    → d ≡ D p → r ≡ (nat_lt k (p + 1) && D k)
position_step D p k d m r e f g = elim (cases_order k p) [
  | inl same ↦ (let x : D k ≡ d = ap D same ∙ sym g in
      rw (e, f, lt-ltb k (p + 1) (omega arith), le-ltb k p (omega arith), eq-eqb k p same, x) (both d))
  | inr other ↦ elim other [
    | inl below ↦ rw (e, f, lt-ltb k (p + 1) (omega arith), lt-ltb k p below, ne_eqb k p (omega arith)) (either (D k) d)
    | inr above ↦ rw (e, f, le-ltb k (p + 1) (omega arith), le-ltb k p (omega arith), ne_eqb k p (omega arith)) (either false d)
  ]
]
  where
    both : (d : Bool) → (d && true) ≡ d
    both true = refl
    both false = refl

    either : (a d : Bool) → (a || (d && false)) ≡ a
    either true d = refl
    either false true = refl
    either false false = refl

no_position : (b : Bool) → (nat_lt 0 0 && b) ≡ false
no_position b = refl

within : (k n : ℕ) (b : Bool) → n ≤ 64 → (nat_lt k 64 && (nat_lt k n && b)) ≡ (nat_lt k n && b)
within k n b h = elim (cases_order k n) [
  | inl same ↦ rw (le-ltb k n (omega arith)) (none (nat_lt k 64))
  | inr other ↦ elim other [
    | inl below ↦ rw (lt-ltb k 64 (omega arith)) refl
    | inr above ↦ rw (le-ltb k n (omega arith)) (none (nat_lt k 64))
  ]
]
  where
    none : (x : Bool) → (x && false) ≡ false
    none true = refl
    none false = refl

-- the mask that the loop has made is the mask of the test
pub positions_are : (D : ℕ → Bool) (n : ℕ) (m : Mask) → n ≤ 64 → ((k : ℕ) → has m k ≡ (nat_lt k n && D k))
    → m ≡ mask_where (λ p. nat_lt p n && D p)
positions_are D n m h e = same_mask m (mask_where (λ p. nat_lt p n && D p))
    (λ k. e k ∙ sym (mask_where_has (λ p. nat_lt p n && D p) k ∙ within k n (D k) h))

always : (b : Bool) → (b && true) ≡ b
always true = refl
always false = refl

-- the positions below a number
pub levels_are : (n : ℕ) (m : Mask) → n ≤ 64 → ((k : ℕ) → has m k ≡ nat_lt k n) → m ≡ mask_where (λ p. nat_lt p n)
levels_are n m h e = same_mask m (mask_where (λ p. nat_lt p n))
    (λ k. e k ∙ sym (mask_where_has (λ p. nat_lt p n) k
    ∙ ap (λ (b : Bool). nat_lt k 64 && b) (sym (always (nat_lt k n))) ∙ within k n true h ∙ always (nat_lt k n)))

pub get_map : {X Y : Type 0} (f : X → Y) (xs : List X) (i : ℕ) (d : X) (e : Y) → i < length xs
    → get_or (map f xs) i e ≡ f (get_or xs i d)
get_map f [] i d e h = absurd (omega arith)
get_map f (x ∷ xs) zero d e h = refl
get_map f (x ∷ xs) (suc i) d e h = get_map f xs i d e (omega arith)
