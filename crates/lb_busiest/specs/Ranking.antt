-- The busiest group: of the groups after the local one that have tasks, the first of those that no
-- other is busier than. A group is the busier by its type, and within a type by its load, or by
-- its idle CPUs and its tasks.
-- Cited by the law `busiest_group`, and `busiest`, `is_candidate` and others; also by `lb_imbalance`,
-- `lb_journal_rows` and other crates.
use Rattle.std.specs.Prelude.{ℕ, ◌==◌, nat_lt, Bool, false, ◌&&◌, ◌||◌, Option, List, length}
use Rattle.std.specs.List.{slice_index_or}
use Rattle.lb_base.specs.declared.group.Stats.{Stats}
use Rattle.lb_base.specs.declared.group.GroupType.{GroupType}
use Rattle.lb_base.specs.declared.group.GroupType.TheVariants.{HasSpare, FullyBusy, Imbalanced, Overloaded}
use Rattle.lb_base.specs.Greatest.{Picks, first_greatest}

-- the types rise
abbrev pub rank : GroupType → ℕ
rank HasSpare = 0
rank FullyBusy = 1
rank Imbalanced = 2
rank Overloaded = 3

-- of two groups of one type, x is the busier
abbrev pub is_busier_within : GroupType → Stats → Stats → Bool
is_busier_within HasSpare x y = nat_lt x.idle y.idle || (x.idle == y.idle && nat_lt y.nr x.nr)
is_busier_within FullyBusy x y = nat_lt y.avg x.avg
is_busier_within Imbalanced x y = false
is_busier_within Overloaded x y = nat_lt y.avg x.avg

-- of two groups, x is the busier
unfoldable pub is_busier : Stats → Stats → Bool
is_busier x y =
    nat_lt (rank y.group) (rank x.group)
    || (rank x.group == rank y.group && is_busier_within x.group x y)

-- stands where a list has no group
abbrev pub no_stats : Stats
no_stats = record { nr = 0; load = 0; util = 0; runnable = 0; cap = 0; weight = 0; idle = 0; avg = 0; group = HasSpare }

-- the statistics of group i; group 0 is the local one
abbrev pub stats_at : List Stats → ℕ → Stats
stats_at stats i = slice_index_or stats i no_stats

-- group i stands after the local one and has tasks
unfoldable pub may_be_busiest : List Stats → ℕ → Bool
may_be_busiest stats i = nat_lt 0 i && nat_lt 0 (stats_at stats i).nr

-- group i is busier than group j
unfoldable pub is_busier_at : List Stats → ℕ → ℕ → Bool
is_busier_at stats i j = is_busier (stats_at stats i) (stats_at stats j)

-- the answer is the busiest group, or none where no group may be it
abbrev pub AnswersBusiest : List Stats → Option ℕ → Type 0
AnswersBusiest stats o = Picks (may_be_busiest stats) (is_busier_at stats) (length stats) o

-- the busiest group, or none where no group may be it
unfoldable pub busiest_of : List Stats → Option ℕ
busiest_of stats = first_greatest (may_be_busiest stats) (is_busier_at stats) (length stats)
