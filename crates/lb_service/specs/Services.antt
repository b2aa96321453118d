-- The service of a lane's row: what the lane still has to do, by the form of its course, and what is known of it then.
-- Cited by the contracts of `serve_row`, `serve`, `serve_tick` and others; also by `lb_threads`.
use Rattle.std.specs.Prelude.{ℕ, ◌≡◌, ◌+◌, ◌<◌, ◌⊎◌, true, length, All}
use Rattle.lb_base.specs.declared.shape.Kind.{Kind}
use Rattle.lb_base.specs.declared.shape.Kind.TheVariants.{Nohz}
use Rattle.lb_base.specs.Mask.{has}
use Rattle.lb_trace.specs.declared.trace.Header.{Header}
use Rattle.lb_core.specs.declared.course.Course.{Course}
use Rattle.lb_core.specs.declared.course.Form.{Form}
use Rattle.lb_core.specs.declared.course.Form.TheVariants.{Rest, Serving, Due, ScanDue, Kicking, Done}
use Rattle.lb_core.specs.Course.{turn_domains, turn_kind}
use Rattle.lb_lane.specs.Lanes.{LaneIs}
use Rattle.lb_lane_laws.specs.Stays.{BeginsAt, SameRows}
use Rattle.lb_cpu.specs.Turns.{IsDue}

-- ---- a service
-- the figures of the scan, by which a kicked CPU has its turns, are of CPUs of the machine
abbrev pub ScannedAreDeclared : Header → Kind → Course → Type 0
ScannedAreDeclared h Nohz c = All (λ f. f.cpu < length h.cpus) c.figures
ScannedAreDeclared h kind c = Unit {0}

-- what a course in this form still asks for: nothing, the stops and the push of a tick and its turn, a turn, a scan, or a
-- kick
abbrev pub DueIn : Form → Header → Course → Type 0
DueIn Rest h c = Unit {0}
DueIn Serving h c = IsDue h Serving c
DueIn Due h c = (c.cpu < length h.cpus) × ScannedAreDeclared h (turn_kind c) c
DueIn ScanDue h c = 0 < length (turn_domains h c)
DueIn Kicking h c = IsDue h Kicking c × ScannedAreDeclared h Nohz c
DueIn form h c = ⊥

abbrev pub StillDue : Header → Course → Type 0
StillDue h c = DueIn c.form h c

-- ---- a turn
-- a position of the turn is in work, or the turn is done
abbrev pub IsAt : Course → Type 0
IsAt c = BeginsAt c.position c × (has c.positions c.position ≡ true)

-- the turn is open: its CPU is one of the machine, and its positions are those of its domains
pub record IsTurning (h : Header) (c : Course) : Type 0 where
  pub cpu : c.cpu < length h.cpus
  pub within : (p : ℕ) → has c.positions p ≡ true → p < length (turn_domains h c)
  pub kicks : ScannedAreDeclared h (turn_kind c) c
  pub comes : IsAt c ⊎ (c.form ≡ Done)

-- ---- a row
-- it is served whole: the lane took up one row more, and is at rest again
pub record IsServed (l l' : LaneIs) : Type 0 where
  pub rest : l'.side.course.form ≡ Rest
  pub taken_up : l'.side.course.rows ≡ l.side.course.rows + 1
