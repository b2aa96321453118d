-- For the loops of `busiest` and `source`: a walk over the CPUs of a mask that keeps the first of the greatest so
-- far. Between two CPUs of the mask nobody passes.
use Rattle.std.proofs.Common.{◌≡◌, ℕ, zero, suc, ◌+◌, ◌-◌, ◌<◌, ◌≤◌, Bool, true, false, Option, Some, None, MatchOption, subst, arith}
use Rattle.lb_base.specs.declared.mask.Mask.{Mask}
use Rattle.lb_base.specs.declared.mask.TheConstants.{MAX_CPUS}
use Rattle.lb_base.specs.Mask.{has}
use Rattle.lb_base.specs.Greatest.{Picks}
use Rattle.lb_base.proofs.Greatest.{Picks-skips}
use Rattle.lb_base.proofs.Walks.{Finds}

-- the walk stands at c, and the best of the CPUs before it is held
pub record StandsAt (p : ℕ → Bool) (above : ℕ → ℕ → Bool) (m : Mask) (best : Option ℕ) (c : ℕ) : Type 0 where
  pub in_range : c < MAX_CPUS
  pub there : has m c ≡ true
  pub so_far : Picks p above c best

-- the walk stands at a CPU, or it is over and the best of all is held
abbrev pub Walks : (ℕ → Bool) → (ℕ → ℕ → Bool) → Mask → Option ℕ → Option ℕ → Type 0
Walks p above m best next = MatchOption next (Picks p above MAX_CPUS best) (StandsAt p above m best)

-- how far the walk is from its end
abbrev pub left : Option ℕ → ℕ
left None = 0
left (Some c) = MAX_CPUS - c

pub left_falls : (m : Mask) (c : ℕ) (next : Option ℕ) → c < MAX_CPUS → Finds m (c + 1) next → left next < MAX_CPUS - c
left_falls m c None room found = omega arith
left_falls m c (Some d) room found = omega (arith, found.from, found.in_range)

skips : (p : ℕ → Bool) (above : ℕ → ℕ → Bool) (n k : ℕ) (o : Option ℕ) → Picks p above n o
    → ((i : ℕ) → n ≤ i → i < n + k → p i ≡ false) → Picks p above (n + k) o
skips p above n zero o so_far fails = let P : ℕ → Type 0 = λ x. Picks p above x o in let e : n ≡ n + zero = omega arith
    in subst P e so_far
skips p above n (suc k) o so_far fails =
    let P : ℕ → Type 0 = λ x. Picks p above x o in
    let e : (n + k) + 1 ≡ n + suc k = omega arith in
    subst P e (Picks-skips p above (n + k) o (skips p above n k o so_far (λ i lo hi. fails i lo (omega (arith, hi))))
    (fails (n + k) (omega arith) (omega arith)))

-- where only CPUs of the mask pass, the best before n is the best before the next CPU
pub walks : (p : ℕ → Bool) (above : ℕ → ℕ → Bool) (m : Mask) (best : Option ℕ) (n : ℕ) (next : Option ℕ)
    → ((k : ℕ) → has m k ≡ false → p k ≡ false) → n ≤ MAX_CPUS → Picks p above n best → Finds m n next → Walks p above m best next
walks p above m best n None only room so_far none =
    let P : ℕ → Type 0 = λ x. Picks p above x best in
    let e : n + (MAX_CPUS - n) ≡ MAX_CPUS = omega arith in
    subst P e (skips p above n (MAX_CPUS - n) best so_far (λ i lo hi. only i (none i lo)))
walks p above m best n (Some c) only room so_far found =
    let P : ℕ → Type 0 = λ x. Picks p above x best in
    let from = found.from in
    let e : n + (c - n) ≡ c = omega arith in
    record {
      in_range = found.in_range;
      there = found.there;
      so_far = subst P e (skips p above n (c - n) best so_far (λ i lo hi. only i (found.least i lo (omega (arith, hi, e)))));
    }
