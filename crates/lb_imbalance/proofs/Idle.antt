-- What a walk over the CPUs of a group finds that looks for an idle one.
-- For `first_idle`.
use Rattle.std.proofs.Common.{◌≡◌, ℕ, ◌+◌, ◌<◌, false, eqb, Option, Some, None, List, sym, arith, inl, inr}
use Rattle.std.proofs.lemmas.Bool.{and_from, and_left, and_right, cases_lt, eq-eqb, ne_eqb}
use Rattle.lb_base.specs.declared.mask.Mask.{Mask}
use Rattle.lb_base.specs.declared.mask.TheConstants.{MAX_CPUS}
use Rattle.lb_base.specs.declared.figure.Fig.{Fig}
use Rattle.lb_base.specs.Mask.{has}
use Rattle.lb_base.specs.Figures.{fig_at}
use Rattle.lb_base.proofs.Ranges.{find_none, find_least}
use Rattle.lb_base.proofs.Walks.{passed, IsAt, Finds}
use Rattle.lb_imbalance.specs.Destination.{is_idle_in, first_idle}

-- no CPU below n is an idle one of the group
abbrev pub NoneIdle : List Fig → Mask → ℕ → Type 0
NoneIdle figs group n = (k : ℕ) → k < n → is_idle_in figs group k ≡ false

-- a CPU that the group lacks is none
apart : (figs : List Fig) (group : Mask) (k : ℕ) → has group k ≡ false → is_idle_in figs group k ≡ false
unfolding is_idle_in
apart figs group k away = and_left _ _ away

pub none_passed : (figs : List Fig) (group : Mask) (n : ℕ) (o : Option ℕ) → NoneIdle figs group n → Finds group n o
    → NoneIdle figs group (passed o)
none_passed figs group n None none found k lt =
    elim (cases_lt k n) [ inl below ↦ none k below | inr from ↦ apart figs group k (found k from) ]
none_passed figs group n (Some c) none found k lt =
    elim (cases_lt k n) [ inl below ↦ none k below | inr from ↦ apart figs group k (found.least k from lt) ]

-- one more that has tasks
pub none_more : (figs : List Fig) (group : Mask) (c : ℕ) → NoneIdle figs group c → ((fig_at figs c).nr ≡ 0 → ⊥)
    → NoneIdle figs group (c + 1)
unfolding is_idle_in
none_more figs group c none some k lt =
    elim (cases_lt k c) [
      | inl below ↦ none k below
      | inr from ↦
          let same : k ≡ c = omega (arith, lt, from) in
          let busy : eqb (fig_at figs c).nr 0 ≡ false = ne_eqb (fig_at figs c).nr 0 some in
          rw same (and_right _ _ busy)
    ]

pub first_idle_none : (figs : List Fig) (group : Mask) → NoneIdle figs group MAX_CPUS → None ≡ first_idle figs group
unfolding first_idle
first_idle_none figs group none = sym (find_none (is_idle_in figs group) 0 MAX_CPUS (λ k lo hi. none k (omega (arith, hi))))

pub first_idle_some : (figs : List Fig) (group : Mask) (c : ℕ) → IsAt group c → (fig_at figs c).nr ≡ 0
    → NoneIdle figs group c → Some c ≡ first_idle figs group
unfolding first_idle is_idle_in
first_idle_some figs group c at idle none =
    sym (find_least (is_idle_in figs group) 0 MAX_CPUS c (omega arith) at.in_range
    (and_from _ _ at.there (eq-eqb (fig_at figs c).nr 0 idle)) (λ k lo hi. none k hi))
