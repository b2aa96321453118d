-- The summary of a history: how many rows and entries it has, and how many tasks left their queues by a pull,
-- by a push and by a stop. Pulls are told apart by the level of the domain that their lane then balances.
-- Cited by the contracts of `Summary::of`, `level_balanced`, `Summary::count_tasks` and `Summary::count`.
use Rattle.std.specs.Prelude.{ℕ, Bool, true, false, ◌&&◌, List, [], ◌∷◌, length, filter, sum_by}
use Rattle.lb_base.specs.declared.shape.LevelName.{LevelName}
use Rattle.lb_base.specs.declared.shape.LevelName.TheVariants.{Smt, Mc, Pkg, Numa}
use Rattle.lb_queue.specs.declared.answers.OutCause.{OutCause}
use Rattle.lb_queue.specs.declared.answers.OutCause.TheVariants.{Stop, Pull, Push}
use Rattle.lb_core.specs.declared.entry.What.{What}
use Rattle.lb_core.specs.declared.entry.What.TheVariants.{Row, Out}
use Rattle.lb_core.specs.declared.entry.Entry.{Entry}
use Rattle.lb_core.specs.declared.history.History.{History}
use Rattle.lb_core.specs.Same.{same_cause}
use Rattle.lb_core.specs.Course.{turn_domain}
use Rattle.lb_core.specs.Machine.{MachineState, course_at, start}
use Rattle.lb_core.specs.Step.{after}
use Rattle.lb_summary.specs.declared.summary.Summary.{Summary}

-- ---- the steps of a history
-- an entry, and the machine that those before it leave
pub record Step : Type 0 where
  pub before : MachineState
  pub entry : Entry

-- the steps of entries one after the other, from a machine on
abbrev pub steps_from : MachineState → List Entry → List Step
steps_from m [] = []
steps_from m (e ∷ es) = record { before = m; entry = e } ∷ steps_from (after m e) es

abbrev pub steps_of : History → List Step
steps_of history = steps_from (start history.header) history.entries

-- ---- what a step is
abbrev pub takes_up_row : What → Bool
takes_up_row (Row number at command) = true
takes_up_row w = false

-- tasks leave a queue for this cause
abbrev pub leaves_for : OutCause → What → Bool
leaves_for cause (Out c to ids) = same_cause c cause
leaves_for cause w = false

-- how many tasks leave a queue
abbrev pub tasks_in : What → ℕ
tasks_in (Out cause to ids) = length ids
tasks_in w = 0

-- the level of the domain that a lane balances: the one at its position in work, of the turn's CPU, within the
-- version that the turn took up
abbrev pub level_balanced : MachineState → ℕ → LevelName
level_balanced m lane = (turn_domain m.header (course_at m.courses lane)).shape.name

abbrev pub is_smt : LevelName → Bool
is_smt Smt = true
is_smt level = false

abbrev pub is_mc : LevelName → Bool
is_mc Mc = true
is_mc level = false

abbrev pub is_pkg : LevelName → Bool
is_pkg Pkg = true
is_pkg level = false

-- whatever the distance
abbrev pub is_numa : LevelName → Bool
is_numa (Numa distance) = true
is_numa level = false

-- tasks are pulled at a level
abbrev pub pulls_at : (LevelName → Bool) → Step → Bool
pulls_at is_level s = leaves_for Pull s.entry.what && is_level (level_balanced s.before s.entry.lane)

-- ---- counts
-- how many steps pass a test
abbrev pub steps_where : (Step → Bool) → List Step → ℕ
steps_where test steps = length (filter test steps)

-- how many tasks leave their queues in the steps that pass a test
abbrev pub tasks_where : (Step → Bool) → List Step → ℕ
tasks_where test steps = sum_by (λ s. tasks_in s.entry.what) (filter test steps)

unfoldable pub summary_of : List Step → Summary
summary_of steps =
    record {
      rows = steps_where (λ s. takes_up_row s.entry.what) steps;
      entries = length steps;
      pulled_smt = tasks_where (pulls_at is_smt) steps;
      pulled_mc = tasks_where (pulls_at is_mc) steps;
      pulled_pkg = tasks_where (pulls_at is_pkg) steps;
      pulled_numa = tasks_where (pulls_at is_numa) steps;
      pushed = tasks_where (λ s. leaves_for Push s.entry.what) steps;
      stopped = tasks_where (λ s. leaves_for Stop s.entry.what) steps;
    }
