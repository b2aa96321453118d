-- The publication of a version of the domains, in answer to a `rebuild`: the entry `pub`, and what it leaves.
-- Cited by the contract of `PublisherCell::publish`; also by `lb_cpu`.
use Rattle.std.specs.Prelude.{ℕ, ◌≡◌, true, None, [], ◌∷◌, ◌++◌, length}
use mathlib.Core.List.{IsPrefix}
use Rattle.lb_domain.specs.Topologies.{domains_within}
use Rattle.lb_levels.specs.Faults.{parts_fault_of}
use Rattle.lb_trace.specs.declared.trace.Header.{Header}
use Rattle.lb_core.specs.declared.course.Course.{Course}
use Rattle.lb_core.specs.declared.course.Form.TheVariants.{Asked}
use Rattle.lb_core.specs.Course.{is_rebuild}
use Rattle.lb_ticket.specs.Seats.{SeatIs}
use Rattle.lb_journal.specs.Journal.{Journal}
use Rattle.lb_journal.specs.Merge.{parts_of}
use Rattle.lb_cell.specs.Pubs.{DrewPub}
use Rattle.lb_lane.specs.Lanes.{LaneIs}
use Rattle.lb_lane.specs.Publishers.{PublisherIs}

-- a `rebuild` is in service, whose masks part the CPUs
pub record RebuildAsks (h : Header) (c : Course) : Type 0 where
  pub form : c.form ≡ Asked
  pub rebuild : is_rebuild c.command ≡ true
  pub parts : parts_fault_of (length h.cpus) (parts_of c.command) ≡ None

-- one version more shows the domains of these masks, its `pub` was drawn in the seat, in which room was made, and the
-- lane's looker was told of it
pub record Published (h : Header) (p p' : PublisherIs) (l l' : LaneIs) (version : ℕ) : Type 0 where
  pub shown : p'.publisher.topologies
      ≡ p.publisher.topologies ++ domains_within h.cpus h.distances (parts_of l.side.course.command) ∷ []
  pub last : version ≡ length p'.publisher.topologies
  pub roomy : SeatIs Journal
  pub list : roomy.list ≡ p.seat.list
  pub ticket : ℕ
  pub drew : DrewPub h l.side l'.side roomy p'.seat version ticket
  pub told : IsPrefix p'.publisher.topologies l'.looker.topologies
  -- of the lane all else is as it was
  pub rows : l'.rows ≡ l.rows
  pub vouched : l'.vouched ≡ l.vouched
  pub turned : l'.turned ≡ l.turned
  pub domains : l'.domains ≡ l.domains

-- nothing was published
pub record PublishedNothing (p p' : PublisherIs) (l l' : LaneIs) : Type 0 where
  pub publisher : p'.publisher ≡ p.publisher
  pub list : p'.seat.list ≡ p.seat.list
  pub lane : l' ≡ l
