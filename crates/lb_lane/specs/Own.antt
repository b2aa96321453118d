-- An entry that a lane draws in its own list: what the lane keeps after it, and what stays where nothing was drawn.
-- Cited by the contracts of `Lane::adopt`, `Lane::follow`, `Lane::answer` and others; also by `lb_cpu`, `lb_pass` and
-- `lb_service`.
use Rattle.std.specs.Prelude.{ℕ, ◌≡◌, ◌+◌, ◌≤◌, List, [], ◌∷◌, ◌++◌, Some, slice_get}
use Rattle.lb_base.specs.declared.mask.Mask.{Mask}
use Rattle.lb_trace.specs.declared.trace.Header.{Header}
use Rattle.lb_trace.specs.declared.trace.Row.{Row}
use Rattle.lb_core.specs.declared.entry.CpuFig.{CpuFig}
use Rattle.lb_core.specs.declared.entry.What.{What}
use Rattle.lb_core.specs.declared.entry.What.TheVariants.{Row as RowEntry}
use Rattle.lb_ticket.specs.declared.view.Held.{Held}
use Rattle.lb_cell.specs.Cells.{LaneIs as SideIs}
use Rattle.lb_cell.specs.Reads.{SeesMore}
use Rattle.lb_cell.specs.Own.{MayDrawOwn, item_own, own_left}
use Rattle.lb_cell.specs.Reads.{SameBut}
use Rattle.lb_lane.specs.Lanes.{LaneIs}

-- what a lane has beside its side is as it was
pub record SameRest (l l' : LaneIs) : Type 0 where
  pub looker : l'.looker ≡ l.looker
  pub rows : l'.rows ≡ l.rows
  pub vouched : l'.vouched ≡ l.vouched
  pub turned : l'.turned ≡ l.turned
  pub domains : l'.domains ≡ l.domains

-- nothing was drawn by the side of a lane: it may have seen, read and marked more than before
pub record Unmoved (l l' : SideIs) : Type 0 where
  pub list : l'.seat.list ≡ l.seat.list
  pub more : List Held
  pub read : l'.seat.read ≡ l.seat.read ++ more
  pub next : l.seat.next ≤ l'.seat.next
  pub course : l'.course ≡ l.course
  pub number : l'.number ≡ l.number
  pub held : l'.known.ticket ≡ l.known.ticket
  pub landing : l'.landing ≡ l.landing
  pub sees : SeesMore l.known.reader l'.known.reader

-- nothing was drawn
pub record DrewNothing (l l' : LaneIs) : Type 0 where
  pub side : SameBut l.side l'.side
  pub rest : SameRest l l'

-- the entry was drawn, as it might be, at a ticket above all that the lane had read and marked: its list has grown by it, and it holds it
pub record Drew (h : Header) (l l' : SideIs) (what : What) (masks : List Mask) (figs : List CpuFig) (ticket : ℕ) : Type 0 where
  pub may : MayDrawOwn h l what masks figs
  pub list : l'.seat.list ≡ l.seat.list ++ record { ticket = ticket; item = item_own h l what masks figs } ∷ []
  pub course : l'.course ≡ own_left h l what masks figs
  pub held : l'.known.ticket ≡ ticket
  pub above : (l.seat.next ≤ ticket) × (l'.seat.next ≡ ticket + 1)
  -- all else is as it was
  pub read : l'.seat.read ≡ l.seat.read
  pub number : l'.number ≡ l.number
  pub landing : l'.landing ≡ l.landing

-- the lane took up its next row
pub record TookRow (h : Header) (l l' : LaneIs) : Type 0 where
  pub row : Row
  pub next : slice_get l.rows l.side.course.rows ≡ Some row
  pub ticket : ℕ
  pub drew : Drew h l.side l'.side (RowEntry (l.side.course.rows + 1) row.at row.command) [] [] ticket
  pub reader : l'.side.known.reader ≡ l.side.known.reader
  pub rest : SameRest l l'
