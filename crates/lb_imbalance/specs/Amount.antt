-- The imbalance between two groups that are not level: what is to move, and how much of it. An
-- amount of 0 says that nothing is to move.
-- Cited by the contracts of `imbalance_between`, `one_task`, `pressed` and others; also by `lb_journal_rows`,
-- `lb_lane` and other crates.
use Rattle.std.specs.Prelude.{ℕ, ◌-◌, ◌*◌, ◌/◌, min, max, ◌==◌, nat_lt, Bool, true, false, not, ◌&&◌, ◌||◌, if◌then◌else◌}
use Rattle.lb_base.specs.declared.group.Stats.{Stats}
use Rattle.lb_base.specs.declared.group.GroupType.{GroupType}
use Rattle.lb_base.specs.declared.group.GroupType.TheVariants.{HasSpare, FullyBusy, Imbalanced, Overloaded}
use Rattle.lb_base.specs.declared.view.MoveKind.TheVariants.{Load, Util, Tasks}
use Rattle.lb_base.specs.declared.shape.Shape.{Shape}
use Rattle.lb_imbalance.specs.declared.imbalance.Imbalance.{Imbalance}
use Rattle.lb_imbalance.specs.Levels.{is_above_cache, has_siblings}

-- the type is above FullyBusy
abbrev pub is_pressed : GroupType → Bool
is_pressed HasSpare = false
is_pressed FullyBusy = false
is_pressed Imbalanced = true
is_pressed Overloaded = true

-- one task
abbrev pub one_task : Imbalance
one_task = record { kind = Tasks; amount = 1 }

-- the utilisation that the local group has room for; where it has none, one task for a destination
-- that is not busy
abbrev pub spare_room : Bool → Stats → Imbalance
spare_room busy local =
    let room = max local.cap local.util - local.util in
    if room == 0 && not busy then one_task else record { kind = Util; amount = room }

-- half of the difference in tasks, or in idle CPUs
abbrev pub half_of_difference : Shape → Stats → Stats → Imbalance
half_of_difference shape local busiest = record {
  kind = Tasks;
  amount = if busiest.weight == 1 || has_siblings shape.below then (busiest.nr - local.nr) / 2 else (local.idle - busiest.idle) / 2;
}

-- the load that brings either group to the domain's average, whichever is less
abbrev pub load_to_average : ℕ → Stats → Stats → Imbalance
load_to_average average local busiest = record {
  kind = Load;
  amount =
      if nat_lt local.avg busiest.avg && nat_lt local.avg average
      then min ((busiest.avg - average) * busiest.cap) ((average - local.avg) * local.cap) / 1024
      else 0;
}

-- by the busiest group's type, then the local group's
abbrev pub imbalance_as : GroupType → GroupType → Shape → Bool → ℕ → Stats → Stats → Imbalance
imbalance_as Imbalanced g shape busy average local busiest = one_task
imbalance_as b HasSpare shape busy average local busiest =
    if is_pressed b && is_above_cache shape.name then spare_room busy local else half_of_difference shape local busiest
imbalance_as b g shape busy average local busiest = load_to_average average local busiest

-- the imbalance
unfoldable pub imbalance_of : Shape → Bool → ℕ → Stats → Stats → Imbalance
imbalance_of shape busy average local busiest = imbalance_as busiest.group local.group shape busy average local busiest
