-- The destination of a decision: whether it is busy, and whether it is the CPU that balances the
-- domain for its group.
-- Cited by the contracts of `busy`, `balances`, `balancer` and `first_idle`; also by `lb_core`, `lb_course` and other
-- crates.
use Rattle.std.specs.Prelude.{ℕ, ◌==◌, nat_lt, Bool, true, false, ◌&&◌, Option, Some, None, List, find}
use Rattle.std.specs.List.{range_with_len}
use Rattle.std.specs.Option.{option_or}
use Rattle.lb_base.specs.declared.mask.Mask.{Mask}
use Rattle.lb_base.specs.declared.mask.TheConstants.{MAX_CPUS}
use Rattle.lb_base.specs.declared.figure.Fig.{Fig}
use Rattle.lb_base.specs.declared.shape.Kind.{Kind}
use Rattle.lb_base.specs.declared.shape.Kind.TheVariants.{Tick, Idle, Nohz}
use Rattle.lb_base.specs.Mask.{has}
use Rattle.lb_base.specs.Sets.{least}
use Rattle.lb_base.specs.Figures.{fig_at}
use Rattle.lb_stats.specs.Statistics.{is_idle}

-- the destination has tasks, and it did not become idle just now
abbrev pub is_busy : Kind → List Fig → ℕ → Bool
is_busy Tick figs cpu = nat_lt 0 (fig_at figs cpu).nr
is_busy Idle figs cpu = false
is_busy Nohz figs cpu = nat_lt 0 (fig_at figs cpu).nr

-- the group has the CPU, which has no awake task
unfoldable pub is_idle_in : List Fig → Mask → ℕ → Bool
is_idle_in figs group cpu = has group cpu && is_idle (fig_at figs cpu)

-- the first idle CPU of a group
unfoldable pub first_idle : List Fig → Mask → Option ℕ
first_idle figs group = find (is_idle_in figs group) (range_with_len 0 MAX_CPUS)

-- the CPU that balances for a group: its first idle CPU, or its first one where none is idle
unfoldable pub balancer_of : List Fig → Mask → Option ℕ
balancer_of figs group = option_or (first_idle figs group) (least group)

-- the CPU is the one
abbrev pub is_that : Option ℕ → ℕ → Bool
is_that None cpu = false
is_that (Some c) cpu = c == cpu

-- the CPU may balance: it became idle just now, or it is the one that balances for its group
abbrev pub may_balance : Kind → List Fig → Mask → ℕ → Bool
may_balance Tick figs group cpu = is_that (balancer_of figs group) cpu
may_balance Idle figs group cpu = true
may_balance Nohz figs group cpu = is_that (balancer_of figs group) cpu
