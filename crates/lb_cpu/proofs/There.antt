-- An entry that a lane drew at a queue, or nothing, and that it then read the queue's list, are as every call says them.
-- For `answer_at`, `close_at`, `serve_at` and others.
use Rattle.std.proofs.Common.{ℕ, ◌≡◌, ◌∙◌, List, ◌++◌, map}
use base.Stored.{Coded}
use Rattle.atomic_table.specs.Seated.{TableId}
use Rattle.lb_trace.specs.declared.trace.Header.{Header}
use Rattle.lb_core.specs.declared.entry.What.{What}
use Rattle.lb_ticket.specs.Facts.{held_of}
use Rattle.lb_journal.specs.Journal.{Journal}
use Rattle.lb_cell.specs.Cells.{CellIs, CellKeeps}
use Rattle.lb_cell.specs.Draws.{Drew}
use Rattle.lb_cell.specs.Reads.{SameBut}
use Rattle.lb_lane.specs.Lanes.{LaneIs}
use Rattle.lb_lane.specs.Own.{SameRest}
use Rattle.lb_cpu.specs.Drawn.{DrewThere, SawThere}

pub rest_on : (l m n : LaneIs) → SameRest l m → SameRest m n → SameRest l n
rest_on l m n a b =
    record {
      looker = b.looker ∙ a.looker;
      rows = b.rows ∙ a.rows;
      vouched = b.vouched ∙ a.vouched;
      turned = b.turned ∙ a.turned;
      domains = b.domains ∙ a.domains;
    }

module _ (h : Header) (book : TableId) (board : List TableId) (code : Coded Journal) where
  abbrev pub drew_there : (l m l' : LaneIs) (cpu : ℕ) (what : What) (before after : CellIs) → CellKeeps h book board before
      → before.log.writer.cpu ≡ cpu → Drew h before after l.side m.side what → SameRest l m → SameBut m.side l'.side
      → l'.side.seat.read ≡ m.side.seat.read ++ map (held_of code) after.log.seat.list → SameRest m l'
      → DrewThere h book board code l l' cpu what
  drew_there l m l' cpu what before after kept here drew rest same read on =
      record {
        before = before;
        after = after;
        kept = kept;
        here = here;
        mid = m.side;
        drew = drew;
        read = record { same = same; read = read };
        rest = rest_on l m l' rest on;
      }

  abbrev pub saw_there : (l l' : LaneIs) (cpu : ℕ) (before : CellIs) → CellKeeps h book board before
      → before.log.writer.cpu ≡ cpu → SameBut l.side l'.side
      → l'.side.seat.read ≡ l.side.seat.read ++ map (held_of code) before.log.seat.list → SameRest l l'
      → SawThere h book board code l l' cpu
  saw_there l l' cpu before kept here same read rest =
      record { before = before; kept = kept; here = here; read = record { same = same; read = read }; rest = rest }
