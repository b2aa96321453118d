-- How the code counts: what one entry adds to the numbers so far, and when they are small enough to be added to.
-- Cited by the contracts of `Summary::count`, `level_balanced`, `Summary::count_pulled` and `Summary::count_tasks`.
use Rattle.std.specs.Prelude.{ℕ, ◌+◌, ◌<◌, ◌≤◌, length}
use Rattle.lb_base.specs.declared.shape.LevelName.{LevelName}
use Rattle.lb_base.specs.declared.shape.LevelName.TheVariants.{Smt, Mc, Pkg, Numa}
use Rattle.lb_queue.specs.declared.answers.OutCause.{OutCause}
use Rattle.lb_queue.specs.declared.answers.OutCause.TheVariants.{Wake, Stop, Pull, Push}
use Rattle.lb_trace.specs.declared.trace.TheConstants.{MAX_TASKS}
use Rattle.lb_core.specs.declared.entry.What.{What}
use Rattle.lb_core.specs.declared.entry.What.TheVariants.{Row, Out}
use Rattle.lb_core.specs.Machine.{MachineState, course_at}
use Rattle.lb_core.specs.OpenTurns.{IsAtPosition}
use Rattle.lb_summary.specs.declared.summary.Summary.{Summary}

-- ---- what is added
abbrev pub with_pulled : LevelName → ℕ → Summary → Summary
with_pulled Smt tasks s = record s { pulled_smt = s.pulled_smt + tasks }
with_pulled Mc tasks s = record s { pulled_mc = s.pulled_mc + tasks }
with_pulled Pkg tasks s = record s { pulled_pkg = s.pulled_pkg + tasks }
with_pulled (Numa distance) tasks s = record s { pulled_numa = s.pulled_numa + tasks }

-- tasks that leave for a cause, where their lane balances a domain of this level
abbrev pub with_tasks : OutCause → LevelName → ℕ → Summary → Summary
with_tasks Pull level tasks s = with_pulled level tasks s
with_tasks Push level tasks s = record s { pushed = s.pushed + tasks }
with_tasks Stop level tasks s = record s { stopped = s.stopped + tasks }
with_tasks Wake level tasks s = s

abbrev pub with_entry : Summary → Summary
with_entry s = record s { entries = s.entries + 1 }

unfoldable pub counting : What → LevelName → Summary → Summary
counting (Row number at command) level s = record (with_entry s) { rows = s.rows + 1 }
counting (Out cause to ids) level s = with_tasks cause level (length ids) (with_entry s)
counting w level s = with_entry s

-- ---- what is asked
-- no number is above this one
pub record AreAtMost (most : ℕ) (s : Summary) : Type 0 where
  pub rows : s.rows ≤ most
  pub entries : s.entries ≤ most
  pub pulled_smt : s.pulled_smt ≤ most
  pub pulled_mc : s.pulled_mc ≤ most
  pub pulled_pkg : s.pulled_pkg ≤ most
  pub pulled_numa : s.pulled_numa ≤ most
  pub pushed : s.pushed ≤ most
  pub stopped : s.stopped ≤ most

-- the lane balances a domain
pub record Balances (m : MachineState) (lane : ℕ) : Type 0 where
  pub there : lane < length m.courses
  pub turned : (course_at m.courses lane).cpu < length m.header.cpus
  pub position : IsAtPosition m lane (course_at m.courses lane)

-- a pull is of a lane that does
abbrev pub PullsWhere : OutCause → MachineState → ℕ → Type 0
PullsWhere Pull m lane = Balances m lane
PullsWhere cause m lane = Unit {0}

-- and no more tasks leave than there can be
abbrev pub MayCount : What → MachineState → ℕ → Type 0
MayCount (Out cause to ids) m lane = PullsWhere cause m lane × (length ids ≤ MAX_TASKS)
MayCount w m lane = Unit {0}
