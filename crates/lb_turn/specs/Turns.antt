-- The turn of a lane: the course, over the topology of the version that it took up; the domain whose figures
-- are due; and what a decision about a domain asks of the figures.
-- Cited by the contracts of `Turn::new`, `Turn::with`, `Turn::shape` and others; also by `lb_cell`, `lb_draw` and
-- other crates.
use Rattle.std.specs.Prelude.{◌≡◌, ℕ, ◌<◌, true, false, List, length}
use Rattle.lb_base.specs.declared.figure.Fig.{Fig}
use Rattle.lb_base.specs.Mask.{has}
use Rattle.lb_base.specs.Figures.{AllHaveFigures}
use Rattle.lb_imbalance.specs.Decision.{group_at}
use Rattle.lb_imbalance.specs.Conditions.{IsUnion, HaveSmallSums}
use Rattle.lb_domain.specs.declared.domain.Domain.{Domain}
use Rattle.lb_domain.specs.Domains.{topology_of}
use Rattle.lb_domain.specs.Topologies.{AreFew, DomainsWithin}
use Rattle.lb_trace.specs.declared.trace.Header.{Header}
use Rattle.lb_core.specs.declared.course.Course.{Course}
use Rattle.lb_core.specs.declared.course.Form.{Form}
use Rattle.lb_core.specs.declared.course.Form.TheVariants.{ScanDue}
use Rattle.lb_core.specs.Course.{turn_domains}

-- what contracts see of a turn
pub record TurnState : Type 0 where
  pub header : Header
  pub course : Course

-- the topology is that of the masks that the course took up, and the turn's CPU is one of the machine
pub record IsTurn (h : Header) (t : DomainsWithin) (c : Course) : Type 0 where
  pub all : t.all ≡ topology_of h.cpus h.distances c.masks
  pub turned : c.cpu < length h.cpus

-- they are the domains of the turn's CPU
pub record ShowsDomains (h : Header) (ds : List Domain) (c : Course) : Type 0 where
  pub domains : ds ≡ turn_domains h c
  pub few : AreFew ds

-- there is a domain at the position in work
abbrev pub HasDomain : TurnState → Type 0
HasDomain t = t.course.position < length (turn_domains t.header t.course)

-- there is a domain whose figures are due: a widest one for a scan, else one at the position in work
abbrev pub HasDue : Form → Header → Course → Type 0
HasDue ScanDue h c = 0 < length (turn_domains h c)
HasDue f h c = c.position < length (turn_domains h c)

-- what a decision about a domain asks: the groups make up its span; the first has the turn's CPU, and none of
-- its CPUs is excluded; each CPU of the span has a figure, and the sums of the figures are small
pub record MayDecide (d : Domain) (figs : List Fig) (c : Course) : Type 0 where
  pub union : IsUnion d.shape.span d.groups
  pub local : has (group_at d.groups 0) c.cpu ≡ true
  pub kept : (k : ℕ) → has (group_at d.groups 0) k ≡ true → has c.excluded k ≡ false
  pub figures : AllHaveFigures figs d.shape.span
  pub sums : HaveSmallSums figs c.excluded d.groups
