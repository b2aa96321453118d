-- The lanes of a machine may go to other threads, and its queues may be shared among them: each of their types owns what its
-- fields own, and no more.
-- For `lb_thread_tests` and `lb_threads`.
use denote.RattleType.{RattleType}
use denote.Param.Send.{IsSend, IsSync, part_keyless, sendable, view_send, view_sync}
use denote.Param.SendFields.{declared_send, declared_sync}
use Rattle.core.proofs.snapshot.Sent.{snapshot_send, snapshot_sync}
use Rattle.core.proofs.sync.Sent.{Mutex-sync}
use Rattle.std.proofs.Crossing.{crosses, Vec-sync}
use Rattle.atomic_table.specs.contracts.shared.Seat as token
use Rattle.atomic_table.proofs.shared.Seat.TheSendSync.{the_send as token_send}
use Rattle.lb_base.proofs.items.Items.TheSendSync as items
use Rattle.lb_board.proofs.board.Board.TheSendSync as board
use Rattle.lb_board.proofs.writer.Writer.TheSendSync as writer
use Rattle.lb_core.proofs.course.Course.TheSendSync as course
use Rattle.lb_core.proofs.entry.Entry.TheSendSync as entry
use Rattle.lb_domain.proofs.domain.Domain.TheSendSync as domain
use Rattle.lb_levels.proofs.machine.Machine.TheSendSync as machine
use Rattle.lb_queue.proofs.queue.Queue.TheSendSync as queue
use Rattle.lb_ticket.proofs.book.Book.TheSendSync as book
use Rattle.lb_ticket.proofs.item.Drawn.TheSendSync as drawn
use Rattle.lb_ticket.proofs.seat.Seat.TheSendSync as seat
use Rattle.lb_ticket.specs.contracts.seat.Seat as a_seat
use Rattle.lb_ticket.specs.contracts.seat.Seat.TheInside as seat_inside
use Rattle.lb_ticket.specs.contracts.coding.AnyCoding.TheImpl.{ghosts}
use Rattle.lb_topub.proofs.looker.Looker.TheSendSync as looker
use Rattle.lb_topub.proofs.publisher.Publisher.TheSendSync as publisher
use Rattle.lb_trace.proofs.trace.Header.TheSendSync as header
use Rattle.lb_trace.proofs.trace.Row.TheSendSync as row
use Rattle.lb_journal.specs.contracts.journal.Left as left
use Rattle.lb_journal.specs.contracts.journal.JournalItem.TheImpl.{ghosts as item_ghosts}
use Rattle.lb_journal.specs.contracts.journal.Journal as journal
use Rattle.lb_journal.specs.contracts.journal.Journal.TheInside as journal_inside
use Rattle.lb_cell.specs.declared.names.Names as names
use Rattle.lb_cell.proofs.known.Known.TheSendSync as known
use Rattle.lb_cell.specs.contracts.log.Log as log
use Rattle.lb_cell.specs.contracts.parts.CellParts as cell_parts
use Rattle.lb_cell.specs.contracts.parts.LaneParts as lane_parts
use Rattle.lb_cell.specs.contracts.cell.Cell as cell
use Rattle.lb_cell.specs.contracts.cell.Cell.TheInside as cell_inside
use Rattle.lb_cell.specs.contracts.lane.Lane as side
use Rattle.lb_cell.specs.contracts.lane.Lane.TheInside as side_inside
use Rattle.lb_lane.specs.declared.versions.Versions as versions
use Rattle.lb_lane.specs.contracts.lane.Lane as lane
use Rattle.lb_lane.specs.contracts.lane.Lane.TheInside as lane_inside
use Rattle.lb_lane.specs.contracts.publisher.PublisherCell as publisher_cell
use Rattle.lb_lane.specs.contracts.publisher.PublisherCell.TheInside as publisher_inside
use Rattle.lb_cpu.specs.contracts.cpus.Cpus as cpus
use Rattle.lb_cpu.specs.contracts.cpus.Cpus.TheInside as cpus_inside

-- ---- an entry with what its owner knows of it, and those that hold such entries
journal_send : IsSend journal.the_row
journal_send =
    view_send _ _ _ _ _
    (declared_send journal_inside.the_type (
      entry.the_send,
      (
        search (snapshot_send),
        (search (snapshot_send), (search (snapshot_send), (search (snapshot_send), (search (snapshot_send), tt)))),
      ),
    ))

journal_sync : IsSync journal.the_row
journal_sync =
    view_sync _ _ _ _ _
    (declared_sync journal_inside.the_type (
      entry.the_sync,
      (
        search (snapshot_sync),
        (search (snapshot_sync), (search (snapshot_sync), (search (snapshot_sync), (search (snapshot_sync), tt)))),
      ),
    ))

-- a seat that is shared is only read
token_sync : (S V : RattleType) → IsSend S → IsSync (token.the_row S V)
token_sync S V s = record { shared = λ d b o κ q. part_keyless (token.the_row S V) (token_send S V s) q d b o }

seat_sync : IsSync (a_seat.the_row journal.the_row (ghosts journal.the_row))
seat_sync =
    view_sync _ _ _ _ _
    (declared_sync (seat_inside.the_type journal.the_row (ghosts journal.the_row))
    (search (sendable, token_sync), (search sendable, (Vec-sync _ (drawn.the_sync _ journal_sync), (search sendable, tt)))))

log_send : IsSend log.the_row
log_send = declared_send log.the_type (seat.the_send journal.the_row (ghosts journal.the_row) journal_send, (writer.the_send, tt))

cell_parts_send : IsSend cell_parts.the_row
cell_parts_send = declared_send cell_parts.the_type (queue.the_send, (log_send, (search sendable, tt)))

lane_parts_send : IsSend lane_parts.the_row
lane_parts_send =
    declared_send lane_parts.the_type (
      search sendable,
      (
        course.the_send,
        (
          known.the_send,
          (seat.the_send journal.the_row (ghosts journal.the_row) journal_send, (search (sendable, items.the_send), tt)),
        ),
      ),
    )

-- ---- of a machine
module _ (N : RattleType) (g : names.Ghosts N.Denot) (n : IsSend N) where
  cell_send : IsSend (cell.the_row N g)
  cell_send = view_send _ _ _ _ _ (declared_send (cell_inside.the_type N g) (cell_parts_send, (search (sendable, crosses), tt)))

  side_send : IsSend (side.the_row N g)
  side_send = view_send _ _ _ _ _ (declared_send (side_inside.the_type N g) (lane_parts_send, (search (sendable, crosses), tt)))

  module _ (v : versions.Ghosts N.Denot) where
    pub lane_send : IsSend (lane.the_row N g v)
    lane_send =
        view_send _ _ _ _ _
        (declared_send (lane_inside.the_type N g v) (
          side_send,
          (
            looker.the_send,
            (
              items.the_send _ row.the_send,
              (search sendable, (search sendable, (items.the_send _ domain.the_send, tt))),
            ),
          ),
        ))

    publisher_send : IsSend (publisher_cell.the_row N g v)
    publisher_send =
        view_send _ _ _ _ _
        (declared_send (publisher_inside.the_type N g v) (
          publisher.the_send,
          (
            seat.the_send journal.the_row (ghosts journal.the_row) journal_send,
            (search (sendable, crosses), tt),
          ),
        ))

    pub cpus_sync : IsSync (cpus.the_row N g v)
    cpus_sync =
        view_sync _ _ _ _ _
        (declared_sync (cpus_inside.the_type N g v) (
          header.the_sync,
          (
            machine.the_sync,
            (
              book.the_sync journal.the_row left.the_row item_ghosts journal_sync,
              (
                board.the_sync,
                (Vec-sync _ (Mutex-sync _ cell_send), (Mutex-sync _ publisher_send, (Vec-sync _ seat_sync, tt))),
              ),
            ),
          ),
        ))
