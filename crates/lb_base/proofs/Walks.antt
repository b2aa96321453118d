-- A walk over the CPUs of a mask, from the first one to the next one above, for whoever loops so: how
-- far it has come, and which CPUs it has passed.
-- For `lb_busiest`, `lb_domain` and other crates.
use Rattle.std.proofs.Common.{◌≡◌, ℕ, ◌+◌, ◌-◌, ◌<◌, ◌≤◌, true, [], ◌∷◌, ◌++◌, Option, Some, None, MatchOption, sym, ◌∙◌, ap, arith}
use Rattle.lb_base.specs.declared.mask.Mask.{Mask}
use Rattle.lb_base.specs.declared.mask.TheConstants.{MAX_CPUS}
use Rattle.lb_base.specs.Mask.{has, members_below, HasNoneFrom, IsFirstFrom}
use Rattle.lb_base.proofs.Members.{members_below_none, members_below_gap, members_below_yes}

-- the CPUs below this have been passed
abbrev pub passed : Option ℕ → ℕ
passed None = MAX_CPUS
passed (Some c) = c

-- the walk stands at a CPU of the mask, or is over
pub record IsAt (m : Mask) (c : ℕ) : Type 0 where
  pub in_range : c < MAX_CPUS
  pub there : has m c ≡ true

abbrev pub Stands : Mask → Option ℕ → Type 0
Stands m o = MatchOption o (Unit {0}) (IsAt m)

-- a step from n on finds the next CPU
abbrev pub Finds : Mask → ℕ → Option ℕ → Type 0
Finds m n o = MatchOption o (HasNoneFrom m n) (λ c. IsFirstFrom m n c)

pub stands : (m : Mask) (n : ℕ) (o : Option ℕ) → Finds m n o → Stands m o
stands m n None found = tt
stands m n (Some c) found = record { in_range = found.in_range; there = found.there }

pub comes_further : (m : Mask) (n : ℕ) (o : Option ℕ) → n ≤ MAX_CPUS → Finds m n o → n ≤ passed o
comes_further m n None room found = room
comes_further m n (Some c) room found = found.from

pub ends : (m : Mask) (o : Option ℕ) → Stands m o → passed o ≤ MAX_CPUS
ends m None at = omega arith
ends m (Some c) at = omega (arith, at.in_range)

-- between two CPUs there is none
passes_none : (m : Mask) (n : ℕ) (o : Option ℕ) → n ≤ MAX_CPUS → Finds m n o → members_below m (passed o) ≡ members_below m n
passes_none m n None room none =
    let e : n + (MAX_CPUS - n) ≡ MAX_CPUS = omega arith in
    ap (members_below m) (sym e) ∙ members_below_gap m n (MAX_CPUS - n) (λ i lo hi. none i lo)
passes_none m n (Some c) room found =
    let from = found.from in
    let e : n + (c - n) ≡ c = omega arith in
    ap (members_below m) (sym e) ∙ members_below_gap m n (c - n) (λ i lo hi. found.least i lo (omega (arith, hi, e)))

pub walk_starts : (m : Mask) (o : Option ℕ) → Finds m 0 o → members_below m (passed o) ≡ []
walk_starts m o found = passes_none m 0 o (omega arith) found ∙ members_below_none m

pub walk_steps : (m : Mask) (c : ℕ) (o : Option ℕ) → IsAt m c → Finds m (c + 1) o
    → members_below m (passed o) ≡ members_below m c ++ c ∷ []
walk_steps m c o at found = passes_none m (c + 1) o (omega (arith, at.in_range)) found ∙ members_below_yes m c at.there
