-- Where a serial run stands: what was drawn so far is a front of the serial history of the trace, and
-- these rows are still to come; and which lanes rest, between two rows, in the service of one, and from
-- the last one on.
-- Cited by the contracts of `Run::start`, `Run::draw`, `Run::serve_rows` and `Run::serve`.
use Rattle.std.specs.Prelude.{◌≡◌, ℕ, ◌+◌, ◌*◌, ◌<◌, ◌≤◌, true, false, List, [], ◌∷◌, ◌++◌, length}
use Rattle.lb_trace.specs.declared.trace.Header.{Header}
use Rattle.lb_trace.specs.declared.trace.Row.{Row}
use Rattle.lb_trace.specs.declared.trace.Trace.{Trace}
use Rattle.lb_core.specs.declared.entry.Entry.{Entry}
use Rattle.lb_core.specs.Machine.{start}
use Rattle.lb_core.specs.Legal.{run}
use Rattle.lb_core.specs.Step.{after}
use Rattle.lb_core.specs.OfTrace.{rows_drawn}
use Rattle.lb_core.specs.Serial.{IsSerialHistory}
use Rattle.lb_ready.specs.Left.{row_work}
use Rattle.lb_ready.specs.Laws.{is_at_rest, OthersRest}
use Rattle.lb_serial.specs.declared.run.Run.{Run}

-- ---- entries
-- nothing was drawn
abbrev pub opening : Header → Run
opening h = record { history = record { header = h; entries = [] }; state = start h }

-- one more entry was drawn
abbrev pub with_entry : Run → Entry → Run
with_entry r e = record { history = record r.history { entries = r.history.entries ++ e ∷ [] }; state = after r.state e }

-- the most entries that a history of the trace has
unfoldable pub most_entries : Trace → ℕ
most_entries t = row_work * length t.rows + 1

-- these are the entries of the serial history
pub record IsWhole (t : Trace) (h : Header) (entries : List Entry) : Type 0 where
  pub serial : IsSerialHistory t (record { header = h; entries = entries })
  pub few : length entries ≤ most_entries t

-- ---- fronts
-- what was drawn and `later` make up the serial history, and leave the state; these rows are to come
pub record IsFront (t : Trace) (rows : List Row) (r : Run) : Type 0 where
  pub later : List Entry
  pub whole : IsWhole t r.history.header (r.history.entries ++ later)
  pub leaves : run r.history.entries (start r.history.header) ≡ r.state
  pub header : r.state.header ≡ t.header
  pub to_come : rows_drawn later ≡ rows

-- no row is in service
pub record IsAtRest (t : Trace) (rows : List Row) (r : Run) : Type 0 where
  pub front : IsFront t rows r
  pub live : r.state.ended ≡ false
  pub rest : (lane : ℕ) → is_at_rest r.state lane ≡ true

-- this lane serves a row, and the others rest
pub record IsServing (t : Trace) (lane : ℕ) (rows : List Row) (r : Run) : Type 0 where
  pub front : IsFront t rows r
  pub live : r.state.ended ≡ false
  pub there : lane < length r.state.courses
  pub others : OthersRest r.state lane

-- the rows are served, and lane 0 goes on up to the end
pub record IsClosing (t : Trace) (r : Run) : Type 0 where
  pub front : IsFront t [] r
  pub others : OthersRest r.state 0
