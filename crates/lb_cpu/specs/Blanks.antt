-- What the locks and the lanes of a machine are made of, before any entry: of each CPU its queue, its seat and its
-- writer; of each lane its rows, its seat, its reader and its looker; and the publisher with its seat.
-- Cited by the contracts of `new_cells`, `new_lane` and `new_lanes`; also by `lb_thread_tests`.
use Rattle.std.specs.Prelude.{ℕ, ◌≡◌, ◌+◌, ◌<◌, ◌≤◌, true, List, [], ◌∷◌, Some, length, slice_get, All}
use Rattle.std.specs.List.{list_all}
use Rattle.atomic_table.specs.Seated.{TableId}
use Rattle.logbook.specs.Pages.{Book}
use Rattle.lb_levels.specs.Rows.{Layout, layout_of}
use Rattle.lb_domain.specs.Topologies.{domains_within}
use Rattle.lb_queue.specs.Queue.{BookedQueue}
use Rattle.lb_trace.specs.declared.trace.Header.{Header}
use Rattle.lb_trace.specs.declared.trace.Row.{Row}
use Rattle.lb_trace.specs.declared.trace.TheConstants.{MAX_ROWS}
use Rattle.lb_trace.specs.Accepted.{IsHeader, is_row}
use Rattle.lb_core.specs.Machine.{opening_queue}
use Rattle.lb_ticket.specs.Seats.{AllEmpty, BookIs, Numbered, SeatIs}
use Rattle.lb_journal.specs.Journal.{Journal}
use Rattle.lb_board.specs.Board.{Sight, WriterIs, IsOfBoard, opening, seen_at}
use Rattle.lb_topub.specs.Versions.{VersionsSeen}
use Rattle.lb_cpu.specs.Numbering.{EachFrom}

-- what a caller sees of it: what is declared, which book, board and versions they are, and the rows of each lane
pub record BlankIs : Type 0 where
  pub header : Header
  pub book : TableId
  pub board : List TableId
  pub versions : Book
  pub rows : List (List Row)

-- the k-th of such seats, the first of which has the number `first`: it drew nothing
pub record IsSeat (book : TableId) (first k : ℕ) (s : SeatIs Journal) : Type 0 where
  pub table : s.table ≡ book
  pub number : s.number ≡ first + k
  pub list : s.list ≡ []

-- ---- of a CPU
-- its queue as the header declares it
abbrev pub IsQueue : Header → ℕ → BookedQueue → Type 0
IsQueue h cpu q = q ≡ record { state = opening_queue h cpu; booked = 0 }

-- its writer, which published the opening figure alone
pub record IsWriter (h : Header) (board : List TableId) (cpu : ℕ) (w : WriterIs) : Type 0 where
  pub cpu_is : w.cpu ≡ cpu
  pub declared : w.cpu < length h.cpus
  pub of_board : IsOfBoard board w
  pub figures : w.figures ≡ opening ∷ []

-- one of each for each CPU, from CPU k on
pub record FitCpus (h : Header) (book : TableId) (board : List TableId) (k : ℕ) (queues : List BookedQueue)
    (seats : List (SeatIs Journal)) (writers : List WriterIs) : Type 0 where
  pub queues_are : EachFrom (IsQueue h) k queues
  pub seats_are : EachFrom (IsSeat book 17) k seats
  pub writers_are : EachFrom (IsWriter h board) k writers
  pub seats_count : length seats ≡ length queues
  pub writers_count : length writers ≡ length queues

-- ---- of a lane
-- its rows, which name what is declared
pub record IsRows (h : Header) (lane : ℕ) (rows : List Row) : Type 0 where
  pub owned : All (λ r. r.lane ≡ lane) rows
  pub accepted : list_all (is_row h) rows ≡ true
  pub short : length rows ≤ MAX_ROWS

-- its reader, which has seen a figure of each CPU
pub record IsReader (h : Header) (board : List TableId) (r : Sight) : Type 0 where
  pub cells : r.cells ≡ board
  pub seen : (cpu : ℕ) → cpu < length h.cpus → 0 < length (seen_at r cpu)

-- its looker, which has seen version 1
pub record IsLooker (h : Header) (versions : Book) (l : VersionsSeen) : Type 0 where
  pub book : l.book ≡ versions
  pub first : slice_get l.topologies 0 ≡ Some (domains_within h.cpus h.distances h.parts)

-- one of each for each lane, from lane k on
pub record FitLanes (h : Header) (book : TableId) (board : List TableId) (versions : Book) (k : ℕ) (rows : List (List Row))
    (seats : List (SeatIs Journal)) (readers : List Sight) (lookers : List VersionsSeen) : Type 0 where
  pub rows_are : EachFrom (IsRows h) k rows
  pub seats_are : EachFrom (IsSeat book 1) k seats
  pub readers_are : EachFrom (λ lane r. IsReader h board r) k readers
  pub lookers_are : EachFrom (λ lane l. IsLooker h versions l) k lookers
  pub seats_count : length seats ≡ length rows
  pub readers_count : length readers ≡ length rows
  pub lookers_count : length lookers ≡ length rows

-- ---- of the machine
-- the machine of a header, and a publisher of version 1 alone, with its seat
pub record FitShared (h : Header) (m : Layout) (book : BookIs) (board : List TableId) (p : VersionsSeen) (s : SeatIs Journal)
    : Type 0 where
  pub header : IsHeader h
  pub machine : m ≡ layout_of h.cpus h.distances
  pub owners : book.owners ≡ 17 + length h.cpus
  pub cells : length board ≡ length h.cpus
  pub published : p.topologies ≡ domains_within h.cpus h.distances h.parts ∷ []
  pub seat : IsSeat book.table 0 0 s

-- there are 16 seats of lanes; those that the trace does not have drew nothing
pub record FitUnused (h : Header) (book : TableId) (unused : List (SeatIs Journal)) : Type 0 where
  pub numbered : Numbered book (h.lanes + 1) unused
  pub empty : AllEmpty unused
  pub all_lanes : h.lanes + length unused ≡ 16
