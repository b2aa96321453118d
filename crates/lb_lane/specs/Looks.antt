-- A look of a lane at the position in work: what it asks, and what it draws.
-- Cited by the contracts of `Lane::can_look`, `Lane::look`, `look_due` and others; also by `lb_cpu`, `lb_lane_laws`
-- and `lb_pass`.
use Rattle.std.specs.Prelude.{ℕ, ◌≡◌, ◌<◌, ◌≤◌, Bool, true, false, List, length}
use Rattle.lb_base.specs.declared.mask.TheConstants.{MAX_CPUS}
use Rattle.lb_base.specs.declared.mask.Mask.{Mask}
use Rattle.lb_base.specs.Mask.{has, without}
use Rattle.lb_imbalance.specs.declared.decision.Decision.{Decision}
use Rattle.lb_imbalance.specs.Decision.{decision, group_at}
use Rattle.lb_imbalance.specs.Conditions.{IsUnion}
use Rattle.lb_domain.specs.declared.domain.Domain.{Domain}
use Rattle.lb_trace.specs.declared.trace.Header.{Header}
use Rattle.lb_core.specs.declared.course.Course.{Course}
use Rattle.lb_core.specs.declared.course.Form.{Form}
use Rattle.lb_core.specs.declared.course.Form.TheVariants.{Position, Landed}
use Rattle.lb_core.specs.declared.entry.CpuFig.{CpuFig}
use Rattle.lb_core.specs.declared.entry.What.{What}
use Rattle.lb_core.specs.declared.entry.What.TheVariants.{Look}
use Rattle.lb_core.specs.Course.{looks_again, named_at, turn_domain, turn_domains, turn_kind}
use Rattle.lb_core.specs.Sight.{by_cpu}
use Rattle.lb_journal.specs.Journal.{names_of}
use Rattle.lb_board.specs.Board.{seen_at}
use Rattle.lb_cell.specs.Cells.{LaneIs as SideIs}
use Rattle.lb_lane.specs.Lanes.{LaneIs}
use Rattle.lb_lane.specs.Own.{SameRest}
use Rattle.lb_lane.specs.Figures.{DrewAbove}

-- a look is due: the first one at a position, or a further one after a take
abbrev pub look_due : Form → Header → Course → Bool
look_due Position h c = true
look_due Landed h c = looks_again h c
look_due form h c = false

-- a look is due, the position in work is one of the turn's domains, and no CPU of the local group is excluded
pub record LookAsks (h : Header) (l : LaneIs) : Type 0 where
  pub due : look_due l.side.course.form h l.side.course ≡ true
  pub position : l.side.course.position < length (turn_domains h l.side.course)
  pub kept : (k : ℕ) → has (group_at (turn_domain h l.side.course).groups 0) k ≡ true → has l.side.course.excluded k ≡ false

-- the CPUs whose figures the look reads
abbrev pub looked_at : Domain → Course → Mask
looked_at d c = without d.shape.span c.excluded

-- what these figures decide
abbrev pub decides : Domain → Course → List CpuFig → Decision
decides d c figs = decision d.shape d.groups (by_cpu figs) c.cpu (turn_kind c) c.excluded

abbrev pub look_of : Domain → Course → List CpuFig → What
look_of d c figs = Look c.position c.excluded (names_of figs) (decides d c figs)

-- on a machine of so many CPUs it was drawn, above the tickets of the figures: one of each CPU that is not excluded, which
-- were read in this call
pub record Looked (h : Header) (cpus : ℕ) (l l' : SideIs) (d : Decision) : Type 0 where
  pub drew : DrewAbove h cpus (looked_at (turn_domain h l.course) l.course) l l' (look_of (turn_domain h l.course) l.course)
  pub answer : d ≡ decides (turn_domain h l.course) l.course drew.figs

pub record LaneLooked (h : Header) (cpus : ℕ) (l l' : LaneIs) (d : Decision) : Type 0 where
  pub looked : Looked h cpus l.side l'.side d
  pub rest : SameRest l l'

-- ---- of the side alone
-- the domain is one that can be decided about
pub record CanDecide (cpus : ℕ) (d : Domain) (c : Course) : Type 0 where
  pub few : length d.groups ≤ MAX_CPUS
  pub union : IsUnion d.shape.span d.groups
  pub local : has (group_at d.groups 0) c.cpu ≡ true
  pub kept : (k : ℕ) → has (group_at d.groups 0) k ≡ true → has c.excluded k ≡ false
  pub inside : (k : ℕ) → has d.shape.span k ≡ true → k < cpus
  pub machine : cpus ≤ MAX_CPUS
  pub cpu : c.cpu < cpus

-- so the side may look
pub record MayLook (h : Header) (cpus : ℕ) (l : SideIs) : Type 0 where
  pub due : look_due l.course.form h l.course ≡ true
  pub domain : CanDecide cpus (turn_domain h l.course) l.course
  pub named : cpus ≤ length l.course.named
  pub numbers : (k : ℕ) → k < cpus → named_at l.course k < length (seen_at l.known.reader k)
