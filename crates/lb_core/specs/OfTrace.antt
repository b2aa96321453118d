-- When a history is one of a trace: it is legal, has the trace's header, and holds each lane's rows
-- once, in file order.
-- For the definitions of `Serial`, and so for the law `one_serial_history`; cited by `lb`, `lb_cpu` and other crates.
use Rattle.std.specs.Prelude.{ℕ, ◌≡◌, ◌==◌, List, [], ◌∷◌, ◌++◌, filter}
use Rattle.lb_trace.specs.declared.trace.Row.{Row}
use Rattle.lb_trace.specs.declared.trace.Trace.{Trace}
use Rattle.lb_core.specs.declared.entry.Entry.{Entry}
use Rattle.lb_core.specs.declared.entry.What.{What}
use Rattle.lb_core.specs.declared.entry.What.TheVariants.{Row as RowEntry}
use Rattle.lb_core.specs.declared.history.History.{History}
use Rattle.lb_core.specs.Legal.{IsLegalHistory}

-- the row that an entry takes up
abbrev pub row_of : What → ℕ → List Row
row_of (RowEntry n at command) lane = record { lane = lane; at = at; command = command } ∷ []
row_of w lane = []

-- the rows that the entries take up, in the order of their tickets
abbrev pub rows_drawn : List Entry → List Row
rows_drawn [] = []
rows_drawn (e ∷ es) = row_of e.what e.lane ++ rows_drawn es

-- the rows of one lane
abbrev pub of_lane : ℕ → List Row → List Row
of_lane lane rows = filter (λ row. row.lane == lane) rows

-- the history is of the trace; the rule `row` numbers each lane's rows from 1
pub record IsHistoryOf (t : Trace) (history : History) : Type 0 where
  pub header : history.header ≡ t.header
  pub legal : IsLegalHistory history.header history.entries
  pub rows : (lane : ℕ) → of_lane lane (rows_drawn history.entries) ≡ of_lane lane t.rows
