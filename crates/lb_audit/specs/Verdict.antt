-- What it says that a history which was read from a text is legal, and what its first fault is: by its
-- entries, their places from 1, and the tickets that are written on them. And the verdict, as it is computed:
-- the first wrong ticket or the first fault of the entries, whichever comes first.
-- Cited by the contracts of `check` and `judge`; also by `lb`.
use Rattle.std.specs.Prelude.{◌≡◌, ℕ, ◌+◌, ◌==◌, nat_lt, false, if◌then◌else◌, Option, Some, None, List, [], ◌∷◌, ◌++◌, map, length}
use Rattle.lb_core.specs.declared.entry.Entry.{Entry}
use Rattle.lb_core.specs.declared.history.History.{History}
use Rattle.lb_core.specs.declared.rule.Rule.{Rule}
use Rattle.lb_core.specs.declared.rule.Rule.TheVariants.{Ticket as TicketRule, End as EndRule}
use Rattle.lb_core.specs.Machine.{MachineState, start}
use Rattle.lb_core.specs.Step.{first_broken}
use Rattle.lb_core.specs.Legal.{run, IsLegalFront, IsLegalHistory, Fault, first_fault}
use Rattle.lb_read.specs.declared.written.WrittenEntry.{WrittenEntry}
use Rattle.lb_read.specs.declared.written.Read.{Read}
use Rattle.lb_read.specs.Written.{written_from, as_read}
use Rattle.lb_audit.specs.declared.verdict.Verdict.{Verdict}
use Rattle.lb_audit.specs.declared.verdict.Verdict.TheVariants.{Legal, Illegal}

-- ---- what was read, without the written tickets
abbrev pub entries_of : List WrittenEntry → List Entry
entries_of written = map (λ w. w.entry) written

abbrev pub history_of : Read → History
history_of read = record { header = read.header; entries = entries_of read.entries }

-- ---- what a verdict says
-- each ticket is its entry's place, and the entries are a legal history
pub record IsLegal (read : Read) : Type 0 where
  pub tickets : read ≡ as_read (history_of read)
  pub legal : IsLegalHistory read.header (entries_of read.entries)

-- the first rule that the entry at this place breaks: `ticket`, before all others, where another ticket is
-- written on it
abbrev pub broken_at : MachineState → ℕ → WrittenEntry → Option Rule
broken_at m place w = if w.ticket == place then first_broken m w.entry else Some TicketRule

-- the rule is broken at this place, where these entries are left from there on; where none is left, the end
-- is missing
abbrev pub IsBroken : MachineState → ℕ → List WrittenEntry → Rule → Type 0
IsBroken m place [] rule = (m.ended ≡ false) × (rule ≡ EndRule)
IsBroken m place (w ∷ later) rule = broken_at m place w ≡ Some rule

-- the entries before this place have their places as tickets and are a legal front, and the rule is the first
-- that is broken there
pub record IsFirstFault (read : Read) (place : ℕ) (rule : Rule) : Type 0 where
  pub before : List WrittenEntry
  pub later : List WrittenEntry
  pub entries : read.entries ≡ before ++ later
  pub behind : place ≡ length before + 1
  pub tickets : before ≡ written_from 1 (entries_of before)
  pub front : IsLegalFront read.header (entries_of before)
  pub broken : IsBroken (run (entries_of before) (start read.header)) place later rule

-- ---- the verdict
-- the first place, from this one on, at which another ticket is written
abbrev pub wrong_ticket : ℕ → List WrittenEntry → Option ℕ
wrong_ticket place [] = None
wrong_ticket place (w ∷ written) = if w.ticket == place then wrong_ticket (place + 1) written else Some place

-- a wrong ticket and a fault of the entries: the one that comes first; at one place, the ticket
abbrev pub first_of : Option ℕ → Option Fault → Verdict
first_of None None = Legal
first_of None (Some fault) = Illegal fault.ticket fault.rule
first_of (Some place) None = Illegal place TicketRule
first_of (Some place) (Some fault) =
    if nat_lt fault.ticket place then Illegal fault.ticket fault.rule else Illegal place TicketRule

unfoldable pub verdict_of : Read → Verdict
verdict_of read = first_of (wrong_ticket 1 read.entries) (first_fault read.header (entries_of read.entries))
