-- How the lanes of a machine begin and end: before its first row a lane is at rest and has the trace's rows of its number,
-- and once it has done them it is at rest again and has taken up all of them.
-- Cited by the contracts of `history_of`, `serve_lanes`, `serve_rows` and others.
use Rattle.std.specs.Prelude.{ℕ, ◌≡◌, Some, false, List, length, slice_get}
use Rattle.lb_trace.specs.declared.trace.Row.{Row}
use Rattle.lb_core.specs.declared.course.Form.TheVariants.{Rest}
use Rattle.lb_core.specs.OfTrace.{of_lane}
use Rattle.lb_core.specs.Placed.{is_flight}
use Rattle.lb_lane.specs.Lanes.{LaneIs}

-- it holds of each lane with its number
abbrev pub EachLane : (ℕ → LaneIs → Type 0) → List LaneIs → Type 0
EachLane P lanes = (k : ℕ) (l : LaneIs) → slice_get lanes k ≡ Some l → P k l

-- the lane with this number has its rows of the trace
pub record HasRows (rows : List Row) (lane : ℕ) (l : LaneIs) : Type 0 where
  pub number : l.side.number ≡ lane
  pub own : l.rows ≡ of_lane lane rows

-- ---- before
-- it is at rest, and took up none
pub record IsReady (rows : List Row) (lane : ℕ) (l : LaneIs) : Type 0 where
  pub has : HasRows rows lane l
  pub rest : l.side.course.form ≡ Rest
  pub none : l.side.course.rows ≡ 0

-- ---- after
-- it is at rest, and took up all
pub record HasServedAll (l : LaneIs) : Type 0 where
  pub rest : l.side.course.form ≡ Rest
  pub all : l.side.course.rows ≡ length l.rows

pub record IsDone (rows : List Row) (lane : ℕ) (l : LaneIs) : Type 0 where
  pub has : HasRows rows lane l
  pub ended : HasServedAll l

-- however it was left: its number and its rows are as they were, and no task is in its hand
pub record HasReturned (l l' : LaneIs) : Type 0 where
  pub number : l'.side.number ≡ l.side.number
  pub rows : l'.rows ≡ l.rows
  pub empty_handed : is_flight l'.side.course.form ≡ false
