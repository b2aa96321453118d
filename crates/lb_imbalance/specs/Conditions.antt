-- What a decision asks of the groups of a domain: that they make up its span, and that the sums of
-- the figures over all of them, without the excluded CPUs, stay small. Then the statistics of each
-- group stay in range.
-- Cited by the contracts of `level`, `decide`, `imbalance_between` and others; also by `lb_lane`, `lb_ready` and
-- `lb_turn`.
use Rattle.std.specs.Prelude.{ℕ, ◌≡◌, ◌<◌, ◌^◌, List, sum_by}
use Rattle.std.specs.List.{list_any}
use Rattle.lb_base.specs.declared.mask.Mask.{Mask}
use Rattle.lb_base.specs.declared.figure.Fig.{Fig}
use Rattle.lb_base.specs.declared.group.Stats.{Stats}
use Rattle.lb_base.specs.Mask.{has, without}
use Rattle.lb_base.specs.Figures.{total}

-- the span has exactly the CPUs of the groups
abbrev pub IsUnion : Mask → List Mask → Type 0
IsUnion span groups = (k : ℕ) → has span k ≡ list_any (λ g. has g k) groups

-- the sums over all groups stay below 2^40
pub record HaveSmallSums (figs : List Fig) (excluded : Mask) (groups : List Mask) : Type 0 where
  pub nr : sum_by (λ g. total (λ fig. fig.nr) figs (without g excluded)) groups < 2 ^ 40
  pub load : sum_by (λ g. total (λ fig. fig.load) figs (without g excluded)) groups < 2 ^ 40
  pub util : sum_by (λ g. total (λ fig. fig.util) figs (without g excluded)) groups < 2 ^ 40
  pub runnable : sum_by (λ g. total (λ fig. fig.runnable) figs (without g excluded)) groups < 2 ^ 40

-- the statistics of a group are in range
pub record IsInRange (s : Stats) : Type 0 where
  pub nr : s.nr < 2 ^ 40
  pub avg : s.avg < 2 ^ 40
  pub cap : s.cap < 2 ^ 20
  pub idle : s.idle < 2 ^ 10
