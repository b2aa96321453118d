-- A lane as it is made, before any entry: its number, the opening course, and no entry in its list.
-- Cited by the contracts of `Cpus::start`, `new_lane` and `new_lanes`; also by `lb_threads`.
use Rattle.std.specs.Prelude.{ℕ, ◌≡◌, [], length}
use Rattle.lb_trace.specs.declared.trace.Header.{Header}
use Rattle.lb_core.specs.Course.{opening_course}
use Rattle.lb_lane.specs.Lanes.{LaneIs}

-- the lane with this number is at rest, and drew nothing
pub record IsNew (h : Header) (lane : ℕ) (l : LaneIs) : Type 0 where
  pub number : l.side.number ≡ lane
  pub course : l.side.course ≡ opening_course (length h.cpus)
  pub list : l.side.seat.list ≡ []
