-- What stays of a lane as it draws entries: its number and its rows, and in a turn all of its course but how far it is.
-- For the proofs of `Courses` and `Lanes`; cited by `lb_pass` and `lb_service`.
use Rattle.std.specs.Prelude.{ℕ, ◌≡◌, Option, Some, None, [], false, if◌then◌else◌}
use Rattle.lb_base.specs.declared.shape.Kind.{Kind}
use Rattle.lb_base.specs.declared.mask.Mask.{Mask}
use Rattle.lb_base.specs.Mask.{no_cpus}
use Rattle.lb_base.specs.Sets.{least_above}
use Rattle.lb_interval.specs.declared.Outcome.{Outcome}
use Rattle.lb_interval.specs.declared.Outcome.TheVariants.{NotMine, Moved}
use Rattle.lb_core.specs.declared.course.Course.{Course}
use Rattle.lb_core.specs.declared.course.Form.TheVariants.{Rest, Position, Done}
use Rattle.lb_core.specs.Course.{is_newly}
use Rattle.lb_core.specs.CourseAfter.{begins_anew}
use Rattle.lb_lane.specs.Lanes.{LaneIs}

-- ---- of a lane
-- its number and its rows, and how many of them it took up
pub record SameRows (l l' : LaneIs) : Type 0 where
  pub number : l'.side.number ≡ l.side.number
  pub rows : l'.rows ≡ l.rows
  pub taken_up : l'.side.course.rows ≡ l.side.course.rows

-- ---- of a course in a turn
-- a course without its form, its position, what it keeps of looks and takes, its hand, and the numbers that it named
abbrev pub turn_of : Course → Course
turn_of c =
    record c {
      form = Rest;
      cause = None;
      to = 0;
      moment = 0;
      hand = [];
      position = 0;
      excluded = no_cpus;
      decision = None;
      idle = false;
      took = 0;
      taken = None;
      named = [];
    }

-- all else is as it was: the row in service and its moment, the turn's CPU, kind, version, masks, positions and counters
abbrev pub SameTurn : Course → Course → Type 0
SameTurn c c' = turn_of c' ≡ turn_of c

-- ---- how a turn goes on after a position
-- the next position of the turn, if there is one: none after an outcome that ends the turn, as a move does for a CPU that
-- has become idle
abbrev pub next_position : Outcome → Kind → Mask → ℕ → Option ℕ
next_position NotMine kind positions p = None
next_position (Moved n) kind positions p = if is_newly kind then None else least_above positions p
next_position outcome kind positions p = least_above positions p

-- a position is in work, and begins anew
pub record BeginsAt (p : ℕ) (c : Course) : Type 0 where
  pub form : c.form ≡ Position
  pub position_is : c.position ≡ p
  pub anew : begins_anew c ≡ c

-- a position is in work, or the turn is done
abbrev pub ComesTo : Option ℕ → Course → Type 0
ComesTo None c = c.form ≡ Done
ComesTo (Some p) c = BeginsAt p c
