-- Laws of the machine: what its states keep, how many entries are left, that a serial run always has
-- a next entry, and that every accepted trace has a serial history.
-- Cited by the laws `ready`, `entries_fall`, `calls_may_be_made` and others; also by `lb`, `lb_draw` and other
-- crates.
use Rattle.std.specs.Prelude.{Option, Some, IfSome, length, ◌≡◌, ℕ, ◌+◌, ◌<◌, Bool, true, false, [], ◌*◌, ◌≤◌}
use Rattle.std.specs.List.{slice_index_or, list_all}
use Rattle.lb_trace.specs.declared.trace.Header.{Header}
use Rattle.lb_trace.specs.declared.trace.Row.{Row}
use Rattle.lb_trace.specs.declared.trace.Trace.{Trace}
use Rattle.lb_trace.specs.Accepted.{is_row, IsHeader, IsTrace}
use Rattle.lb_core.specs.declared.entry.Entry.{Entry}
use Rattle.lb_core.specs.declared.entry.Owner.TheVariants.{Lane}
use Rattle.lb_core.specs.declared.entry.What.TheVariants.{Row as RowEntry}
use Rattle.lb_core.specs.declared.history.History.{History}
use Rattle.lb_core.specs.declared.history.TheConstants.{MAX_TICKET}
use Rattle.lb_core.specs.declared.entry.What.{What}
use Rattle.lb_core.specs.Elsewhere.{is_rest, ticked_elsewhere}
use Rattle.lb_core.specs.Machine.{MachineState, queue_at, course_at, place_at, start, sight}
use Rattle.lb_core.specs.declared.rule.Rule.TheVariants.{Stage, Figure}
use Rattle.lb_core.specs.Step.{breaks, after, ended_after}
use Rattle.lb_core.specs.Legal.{MayBeAdded}
use Rattle.lb_core.specs.OfTrace.{row_of, IsHistoryOf}
use Rattle.lb_core.specs.Serial.{is_serial, IsSerialHistory}
use Rattle.lb_ready.specs.Ready.{nice_fits, IsReady}
use Rattle.lb_ready.specs.Calls.{TrialAsks, QueueAsks, LookAsks, StopAsks, IsOnAt}
use Rattle.lb_ready.specs.Next.{next_entry, IsSerialNext}
use Rattle.lb_ready.specs.Left.{rows_before, entries_left, row_work}
use Rattle.lb_core.specs.Ranges.{what_fits, entry_fits, entries_fit}

-- the opening machine of an accepted header is ready
abbrev pub OpensReady : Type 0
OpensReady = (h : Header) → IsHeader h → IsReady (start h)

-- an entry that may be added, and is in range, keeps the machine ready
abbrev pub StaysReady : Type 0
StaysReady = (m : MachineState) (e : Entry) → IsReady m → MayBeAdded m e → nice_fits e.what ≡ true → IsReady (after m e)

-- what is in the ranges of its text is in the range that a machine asks for
abbrev pub ReadsInRange : Type 0
ReadsInRange = (w : What) → what_fits w ≡ true → nice_fits w ≡ true

-- every entry that may be added lowers the number of entries that are left
abbrev pub EntriesFall : Type 0
EntriesFall = (m : MachineState) (e : Entry) (rows : ℕ) → IsReady m → MayBeAdded m e
    → entries_left rows (after m e) < entries_left (rows_before e.what rows) m

-- an entry that its lane may draw meets what the calls of its queue ask before their answer is known
abbrev pub CallsMayBeTried : Type 0
CallsMayBeTried = (m : MachineState) (e : Entry) → IsReady m → breaks m e Stage ≡ false → TrialAsks e.what (sight m e)

-- an entry that may be added to a ready machine meets all that they ask
abbrev pub CallsMayBeMade : Type 0
CallsMayBeMade = (m : MachineState) (e : Entry) → IsReady m → MayBeAdded m e → QueueAsks e.what (sight m e)

-- a look that names the figures that are due meets what a decision asks, and a scan what the search for a
-- target asks
abbrev pub LooksMayBeDecided : Type 0
LooksMayBeDecided = (m : MachineState) (e : Entry) → IsReady m → breaks m e Stage ≡ false → breaks m e Figure ≡ false
    → LookAsks e.what (sight m e)

-- a declared task stands in the list of its place
abbrev pub TasksStand : Type 0
TasksStand = (m : MachineState) (t : ℕ) → IsReady m → t < length m.header.tasks → IsOnAt m t (place_at m t)

abbrev pub StopsMayBeTaken : Type 0
StopsMayBeTaken = (m : MachineState) (cpu : ℕ) → IsReady m → cpu < length m.header.cpus → StopAsks (queue_at m.queues cpu)

-- ---- a serial run is never stuck
abbrev pub is_at_rest : MachineState → ℕ → Bool
is_at_rest m lane = is_rest (course_at m.courses lane).form

-- every other lane is at rest
abbrev pub OthersRest : MachineState → ℕ → Type 0
OthersRest m lane = (l : ℕ) → (l ≡ lane → ⊥) → is_at_rest m l ≡ true

-- a serial entry of the lane may be added, and takes up no row
pub record GoesOn (m : MachineState) (lane : ℕ) : Type 0 where
  pub entry : Entry
  pub own : entry.lane ≡ lane
  pub may : MayBeAdded m entry
  pub serial : is_serial m entry.what ≡ true
  pub rowless : (l : ℕ) → row_of entry.what l ≡ []
  pub nice : nice_fits entry.what ≡ true

-- a lane that serves its row, while the others rest, goes on, and does not end the history
abbrev pub ServiceGoesOn : Type 0
ServiceGoesOn = (m : MachineState) (lane : ℕ) → IsReady m → m.ended ≡ false → is_at_rest m lane ≡ false
    → OthersRest m lane → (g : GoesOn m lane) × (ended_after g.entry.what false ≡ false)

-- where all rest and the closing has not begun, every row that is accepted may be taken up
abbrev pub RowsAreTaken : Type 0
RowsAreTaken =
    (m : MachineState) (row : Row) → IsReady m → m.ended ≡ false → m.closing ≡ false
    → ((l : ℕ) → is_at_rest m l ≡ true) → is_row m.header row ≡ true →
    let c = course_at m.courses row.lane in
    ticked_elsewhere m row.lane (RowEntry (c.rows + 1) row.at row.command) ≡ false →
    let entry : Entry = record {
      owner = Lane row.lane;
      lane = row.lane;
      prev = slice_index_or m.last row.lane 0;
      what = RowEntry (c.rows + 1) row.at row.command;
    } in
    MayBeAdded m entry × (is_serial m entry.what ≡ true)

-- where all rest, lane 0 goes on closing the history, up to its end
abbrev pub ClosingGoesOn : Type 0
ClosingGoesOn = (m : MachineState) → IsReady m → m.ended ≡ false → ((l : ℕ) → is_at_rest m l ≡ true) → GoesOn m 0

-- ---- the entry that comes next
-- what comes next is serial, and may be added
abbrev pub NextIsSerial : Type 0
NextIsSerial =
    (m : MachineState) (lane : ℕ) (row : Option Row) (e : Entry) → IsReady m → IfSome row (λ r. r.lane ≡ lane) →
    next_entry m lane row ≡ Some e → IsSerialNext m lane row e

-- and there is no other serial entry that may be added
abbrev pub SerialIsNext : Type 0
SerialIsNext =
    (m : MachineState) (lane : ℕ) (row : Option Row) (e : Entry) → IsReady m → IfSome row (λ r. r.lane ≡ lane) →
    IsSerialNext m lane row e → next_entry m lane row ≡ Some e

-- ---- serial histories
abbrev pub TracesHaveRuns : Type 0
TracesHaveRuns = (t : Trace) → IsTrace t → (history : History) × IsSerialHistory t history

-- ---- histories
-- a history of an accepted trace has at most 811,405 entries a row, and the end
abbrev pub HistoriesEnd : Type 0
HistoriesEnd = (t : Trace) (history : History) → IsTrace t → IsHistoryOf t history → length history.entries ≤ row_work * length t.rows + 1

-- and each of them says what is in range
abbrev pub EntriesFit : Type 0
EntriesFit = (t : Trace) (history : History) → IsTrace t → IsHistoryOf t history → entries_fit history.entries ≡ true

-- so does each entry that may be added to a ready machine of fewer than MAX_TICKET tickets, where its row, if
-- it takes one up, is accepted
abbrev pub EntryFits : Type 0
EntryFits = (m : MachineState) (e : Entry) → IsReady m → m.ticket < MAX_TICKET → MayBeAdded m e
    → list_all (is_row m.header) (row_of e.what e.lane) ≡ true → entry_fits (m.ticket + 1) e ≡ true
