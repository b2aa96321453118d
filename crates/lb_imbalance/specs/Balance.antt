-- The balance test: whether the busiest and the local group are level, so that nothing is to move.
-- The types of both say which comparison decides.
-- Cited by the contracts of `level`, `level_beside_spare`, `level_by_idle` and `level_by_load`; also by
-- `lb_journal_rows`, `lb_lane` and other crates.
use Rattle.std.specs.Prelude.{ℕ, ◌+◌, ◌*◌, ◌==◌, nat_lt, nat_le, Bool, true, false, not, ◌&&◌, ◌||◌}
use Rattle.lb_base.specs.declared.group.Stats.{Stats}
use Rattle.lb_base.specs.declared.group.GroupType.{GroupType}
use Rattle.lb_base.specs.declared.group.GroupType.TheVariants.{HasSpare, FullyBusy, Imbalanced, Overloaded}
use Rattle.lb_base.specs.declared.shape.Shape.{Shape}
use Rattle.lb_imbalance.specs.Levels.{percent_of, has_siblings}

-- by idle CPUs: the destination is busy, or the local group has at most one idle CPU more than a
-- busiest group of several CPUs, or the busiest group has a single task
abbrev pub is_level_by_idle : Bool → Stats → Stats → Bool
is_level_by_idle busy local busiest =
    busy || (nat_lt 1 busiest.weight && nat_le local.idle (busiest.idle + 1)) || busiest.nr == 1

-- the busiest group has at least two tasks more, and the domain's groups are siblings
abbrev pub prefers_sibling : Shape → Stats → Stats → Bool
prefers_sibling shape local busiest = has_siblings shape.below && nat_lt (local.nr + 1) busiest.nr

-- by load: the local group has no less of it than the busiest group or the domain on average, or
-- the busiest group has no more than the percentage allows
abbrev pub is_level_by_load : ℕ → ℕ → Stats → Stats → Bool
is_level_by_load pct average local busiest =
    nat_le busiest.avg local.avg || nat_le average local.avg || nat_le (100 * busiest.avg) (pct * local.avg)

-- the table: the busiest group's type, then the local group's
abbrev pub is_level_as : GroupType → GroupType → Shape → Bool → ℕ → Stats → Stats → Bool
is_level_as HasSpare HasSpare shape busy average local busiest =
    not (prefers_sibling shape local busiest) && is_level_by_idle busy local busiest
is_level_as HasSpare FullyBusy shape busy average local busiest = true
is_level_as HasSpare Imbalanced shape busy average local busiest = true
is_level_as HasSpare Overloaded shape busy average local busiest = true
is_level_as FullyBusy HasSpare shape busy average local busiest =
    not (prefers_sibling shape local busiest) && is_level_by_idle busy local busiest
is_level_as FullyBusy FullyBusy shape busy average local busiest = is_level_by_idle busy local busiest
is_level_as FullyBusy Imbalanced shape busy average local busiest = true
is_level_as FullyBusy Overloaded shape busy average local busiest = true
is_level_as Imbalanced g shape busy average local busiest = false
is_level_as Overloaded HasSpare shape busy average local busiest = false
is_level_as Overloaded FullyBusy shape busy average local busiest = false
is_level_as Overloaded Imbalanced shape busy average local busiest = false
is_level_as Overloaded Overloaded shape busy average local busiest = is_level_by_load (percent_of shape.name) average local busiest

-- the groups are level
unfoldable pub is_level : Shape → Bool → ℕ → Stats → Stats → Bool
is_level shape busy average local busiest = is_level_as busiest.group local.group shape busy average local busiest
