-- What the run queues of a machine behind their locks show to contracts, and keep: what a trace declares, the ticket book,
-- the board, how many queues there are, and the seats of the lanes that the trace does not have.
-- What contracts see of the type `Cpus`.
use Rattle.std.specs.Prelude.{ℕ, ◌≡◌, ◌+◌, List, length}
use Rattle.atomic_table.specs.Seated.{TableId}
use Rattle.lb_levels.specs.Rows.{Layout, layout_of}
use Rattle.lb_ticket.specs.Seats.{AllEmpty, BookIs, Numbered, SeatIs}
use Rattle.lb_trace.specs.declared.trace.Header.{Header}
use Rattle.lb_trace.specs.Accepted.{IsHeader}
use Rattle.lb_journal.specs.Journal.{Journal}

pub record CpusIs : Type 0 where
  pub header : Header
  pub layout : Layout
  pub book : BookIs
  pub board : List TableId
  pub cells : ℕ
  pub unused : List (SeatIs Journal)

-- they are those that are named, of an accepted header: a queue and a cell of the board for each CPU; the book has a seat
-- for the publisher, one for each lane that there can be, and one for each queue
pub record CpusKeeps (h : Header) (book : TableId) (board : List TableId) (c : CpusIs) : Type 0 where
  pub header_is : c.header ≡ h
  pub accepted : IsHeader h
  pub layout_is : c.layout ≡ layout_of h.cpus h.distances
  pub book_is : c.book.table ≡ book
  pub owners : c.book.owners ≡ 17 + length h.cpus
  pub board_is : c.board ≡ board
  pub board_cells : length board ≡ length h.cpus
  pub queues : c.cells ≡ length h.cpus
  -- the lanes that the trace does not have drew nothing
  pub numbered : Numbered book (h.lanes + 1) c.unused
  pub all_lanes : h.lanes + length c.unused ≡ 16
  pub empty : AllEmpty c.unused
