-- What stands behind the publisher's lock: the publisher of versions and its seat in the ticket book. The k-th entry of
-- the seat's list is the `pub` of the k-th version after the first, and its ticket is the one that the publisher shows.
-- Cited by the contracts of `PublisherCell::end` and `PublisherCell::keeps`; also by `lb_cpu`.
use Rattle.std.specs.Prelude.{ℕ, ◌≡◌, ◌+◌, ◌<◌, ◌^◌, Some, [], length, slice_get}
use Rattle.std.specs.List.{slice_index_or}
use Rattle.atomic_table.specs.Seated.{TableId}
use Rattle.logbook.specs.Pages.{Book}
use Rattle.lb_domain.specs.Topologies.{domains_within}
use Rattle.lb_topub.specs.Versions.{VersionsSeen}
use Rattle.lb_trace.specs.declared.trace.Header.{Header}
use Rattle.lb_core.specs.declared.entry.Owner.TheVariants.{Publisher}
use Rattle.lb_core.specs.declared.entry.What.TheVariants.{Pub}
use Rattle.lb_ticket.specs.declared.item.Drawn.{Drawn}
use Rattle.lb_ticket.specs.Seats.{SeatIs}
use Rattle.lb_journal.specs.Journal.{Journal}
use Rattle.lb_journal.specs.Merge.{parts_of}

pub record PublisherIs : Type 0 where
  pub publisher : VersionsSeen
  pub seat : SeatIs Journal

-- the entry at place k is the `pub` of version k + 2, which shows the domains of the masks of the command that it served
pub record IsPub (h : Header) (p : PublisherIs) (k : ℕ) (d : Drawn Journal) : Type 0 where
  pub header : d.item.header ≡ h
  pub owner : d.item.entry.owner ≡ Publisher
  pub what : d.item.entry.what ≡ Pub (k + 2)
  pub figs : d.item.figs ≡ []
  pub shown : slice_get p.publisher.topologies (k + 1) ≡ Some (domains_within h.cpus h.distances (parts_of d.item.course.command))

pub record PublisherKeeps (h : Header) (book : TableId) (versions : Book) (p : PublisherIs) : Type 0 where
  pub table : p.seat.table ≡ book
  pub number : p.seat.number ≡ 0
  pub versions_are : p.publisher.book ≡ versions
  -- version 1 is the header's, and each further one has its entry
  pub first : slice_get p.publisher.topologies 0 ≡ Some (domains_within h.cpus h.distances h.parts)
  pub count : length p.publisher.topologies ≡ length p.seat.list + 1
  pub short : length p.seat.list < 2 ^ 40
  pub pubs : (k : ℕ) (d : Drawn Journal) → k < length p.seat.list → IsPub h p k (slice_index_or p.seat.list k d)
