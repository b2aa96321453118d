-- One entry that a lane drew at the queue of a CPU behind its lock, or what it saw there. What stood behind the lock no
-- clause can name; so the lane reads the queue's list in the same hold, and what a lane has read stands in the closed lists.
-- Cited by the contracts of `Cpus::over`, `Cpus::land`, `over_at` and `land_at`; also by `lb_lane_laws`, `lb_pass`
-- and `lb_service`.
use Rattle.std.specs.Prelude.{ℕ, ◌≡◌, List, ◌++◌, map}
use base.Stored.{Coded}
use Rattle.atomic_table.specs.Seated.{TableId}
use Rattle.lb_trace.specs.declared.trace.Header.{Header}
use Rattle.lb_core.specs.declared.entry.What.{What}
use Rattle.lb_ticket.specs.declared.item.Drawn.{Drawn}
use Rattle.lb_ticket.specs.Facts.{held_of}
use Rattle.lb_journal.specs.Journal.{Journal}
use Rattle.lb_cell.specs.Cells.{CellIs, CellKeeps, LaneIs as SideIs}
use Rattle.lb_cell.specs.Draws.{Drew}
use Rattle.lb_cell.specs.Reads.{SameBut}
use Rattle.lb_lane.specs.Lanes.{LaneIs}
use Rattle.lb_lane.specs.Own.{SameRest}

-- between two entries the side of a lane has read this list
pub record HasReadList (code : Coded Journal) (list : List (Drawn Journal)) (l l' : SideIs) : Type 0 where
  pub same : SameBut l l'
  pub read : l'.seat.read ≡ l.seat.read ++ map (held_of code) list

-- the lane drew the entry at the queue of the CPU, upon what its lock then held, and has read it there
pub record DrewThere (h : Header) (book : TableId) (board : List TableId) (code : Coded Journal) (l l' : LaneIs) (cpu : ℕ)
    (what : What) : Type 0 where
  pub before : CellIs
  pub after : CellIs
  pub kept : CellKeeps h book board before
  pub here : before.log.writer.cpu ≡ cpu
  pub mid : SideIs
  pub drew : Drew h before after l.side mid what
  pub read : HasReadList code after.log.seat.list mid l'.side
  pub rest : SameRest l l'

-- the lane drew nothing, and has read what the queue of the CPU had drawn
pub record SawThere (h : Header) (book : TableId) (board : List TableId) (code : Coded Journal) (l l' : LaneIs) (cpu : ℕ)
    : Type 0 where
  pub before : CellIs
  pub kept : CellKeeps h book board before
  pub here : before.log.writer.cpu ≡ cpu
  pub read : HasReadList code before.log.seat.list l.side l'.side
  pub rest : SameRest l l'
