-- The serial history of a trace: the rows stand in file order, each is served to its end before the
-- next is taken up, and what a lane takes up or reads is always the newest: the last published
-- version, and each queue's last figure. The law says that a trace has at most one: at each place the
-- serial run has one entry to draw, and it ends at one place.
-- Cited by the law `one_serial_history`; also by `lb`, `lb_ready` and `lb_serial`.
use Rattle.std.specs.Prelude.{◌≡◌, ◌==◌, Bool, true, List, [], ◌∷◌, length}
use Rattle.std.specs.List.{list_all}
use Rattle.lb_trace.specs.declared.trace.Trace.{Trace}
use Rattle.lb_core.specs.declared.entry.FigName.{FigName}
use Rattle.lb_core.specs.declared.entry.What.{What}
use Rattle.lb_core.specs.declared.entry.What.TheVariants.{Row, Adopt, Look, Scan}
use Rattle.lb_core.specs.declared.entry.Entry.{Entry}
use Rattle.lb_core.specs.declared.history.History.{History}
use Rattle.lb_core.specs.Machine.{MachineState, entries_at, start}
use Rattle.lb_core.specs.Elsewhere.{all_rest}
use Rattle.lb_core.specs.Step.{after}
use Rattle.lb_core.specs.OfTrace.{rows_drawn, IsHistoryOf}

-- the named figures are the newest ones of their queues
abbrev pub are_newest : MachineState → List FigName → Bool
are_newest m names = list_all (λ f. f.n == entries_at m f.cpu) names

-- the serial run may make this choice: a row only where every lane is at rest, and the newest version
-- and figures; all else is no choice
abbrev pub is_serial : MachineState → What → Bool
is_serial m (Row n at command) = all_rest m
is_serial m (Adopt v kind cpu) = v == length m.versions
is_serial m (Look p x names d) = are_newest m names
is_serial m (Scan names t) = are_newest m names
is_serial m w = true

-- so for each entry, in the state that those before it leave
abbrev pub AreSerial : List Entry → MachineState → Type 0
AreSerial [] m = Unit {0}
AreSerial (e ∷ es) m = (is_serial m e.what ≡ true) × AreSerial es (after m e)

pub record IsSerialHistory (t : Trace) (history : History) : Type 0 where
  pub of_trace : IsHistoryOf t history
  pub file_order : rows_drawn history.entries ≡ t.rows
  pub serial : AreSerial history.entries (start history.header)

abbrev pub OneSerialHistory : Type 0
OneSerialHistory = (t : Trace) (a b : History) → IsSerialHistory t a → IsSerialHistory t b → a ≡ b
