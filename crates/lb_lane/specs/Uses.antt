-- The version of the domains that a lane chose for a turn, and the entry `use` by which it takes it up.
-- Cited by the contracts of `Lane::adopt`, `Lane::choose`, `Lane::can_turn` and others; also by `lb_cpu` and
-- `lb_service`.
use Rattle.std.specs.Prelude.{ℕ, ◌≡◌, ◌-◌, ◌<◌, ◌≤◌, ◌==◌, Bool, false, ◌&&◌, List, [], Some, length, slice_get}
use Rattle.lb_base.specs.declared.shape.Kind.{Kind}
use Rattle.lb_base.specs.declared.shape.Kind.TheVariants.{Tick as TickTurn}
use Rattle.lb_domain.specs.Domains.{domains_at, domains_of}
use Rattle.lb_domain.specs.Topologies.{AreFew, DomainsWithin, domains_within}
use Rattle.lb_trace.specs.declared.trace.Header.{Header}
use Rattle.lb_core.specs.declared.course.Course.{Course}
use Rattle.lb_core.specs.declared.course.Form.{Form}
use Rattle.lb_core.specs.declared.course.Form.TheVariants.{Serving, Due}
use Rattle.lb_core.specs.declared.entry.What.TheVariants.{Adopt}
use Rattle.lb_core.specs.Same.{same_kind, same_number}
use Rattle.lb_core.specs.Course.{ticked_cpu, turn_kind}
use Rattle.lb_ticket.specs.Tickets.{AllBelow}
use Rattle.lb_cell.specs.Cells.{CellIs, LaneIs as SideIs}
use Rattle.lb_cell.specs.Reads.{SameBut}
use Rattle.lb_lane.specs.declared.chosen.Chosen.{Chosen}
use Rattle.lb_lane.specs.Lanes.{LaneIs}
use Rattle.lb_lane.specs.Own.{Drew}

-- the first n versions have domains of the CPU, or none of it
abbrev pub HasCpu : List DomainsWithin → ℕ → ℕ → Type 0
HasCpu topologies n cpu =
    (v : ℕ) → 1 ≤ v → v ≤ n → (t : DomainsWithin) → slice_get topologies (v - 1) ≡ Some t → cpu < length t.all

-- a copy of what a version shows
pub record IsCopyOf (topologies : List DomainsWithin) (x : Chosen) : Type 0 where
  pub shown : DomainsWithin
  pub here : slice_get topologies (x.version - 1) ≡ Some shown
  pub one : 1 ≤ x.version
  pub masks : x.masks ≡ shown.masks
  pub domains : x.domains ≡ domains_at shown.all x.cpu
  pub few : AreFew x.domains

-- a copy of a version's masks, and of a CPU's domains in it
pub record IsCopy (h : Header) (topologies : List DomainsWithin) (x : Chosen) : Type 0 where
  pub one : 1 ≤ x.version
  pub shown : slice_get topologies (x.version - 1) ≡ Some (domains_within h.cpus h.distances x.masks)
  pub cpu : x.cpu < length h.cpus
  pub domains : x.domains ≡ domains_of h.cpus h.distances x.masks x.cpu
  pub few : AreFew x.domains

-- the lane vouches for the version, and has used or published no later one
pub record IsChosen (h : Header) (l : LaneIs) (x : Chosen) : Type 0 where
  pub copy : IsCopy h l.looker.topologies x
  pub vouched : x.version ≤ l.vouched
  pub newest : l.side.course.named_version ≤ x.version

-- a `use` for a turn of this kind of the CPU is due
abbrev pub use_due : Form → Course → Kind → ℕ → Bool
use_due Serving c kind cpu = same_kind kind TickTurn && same_number (ticked_cpu c.command) (Some cpu)
use_due Due c kind cpu = same_kind kind (turn_kind c) && (cpu == c.cpu)
use_due form c kind cpu = false

-- it was drawn at a ticket above all that the queue had drawn, and the lane has the version's domains of that CPU
pub record Adopted (h : Header) (c : CellIs) (l l' : LaneIs) (x : Chosen) (kind : Kind) (ticket : ℕ) : Type 0 where
  pub followed : SideIs
  pub same : SameBut l.side followed
  pub next : l.side.seat.next ≤ followed.seat.next
  pub drew : Drew h followed l'.side (Adopt x.version kind x.cpu) x.masks [] ticket
  pub reader : l'.side.known.reader ≡ l.side.known.reader
  pub above : AllBelow ticket c.log.seat.list
  pub turned : l'.turned ≡ x.cpu
  pub domains : l'.domains ≡ x.domains
  -- all else is as it was
  pub looker : l'.looker ≡ l.looker
  pub vouched : l'.vouched ≡ l.vouched
  pub rows : l'.rows ≡ l.rows
