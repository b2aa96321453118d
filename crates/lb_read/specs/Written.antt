-- Entries as a text has them, each with the ticket that is written on its line; and what is read of the
-- text of a history, whose entries have their places as tickets, from 1.
-- For the definitions of `Laws` and `Whole`, and so for the laws `lines_read_exactly`, `texts_read_once` and others;
-- cited by `lb` and `lb_audit`.
use Rattle.std.specs.Prelude.{ℕ, ◌+◌, Bool, List, [], ◌∷◌}
use Rattle.lb_core.specs.declared.entry.Entry.{Entry}
use Rattle.lb_core.specs.declared.history.History.{History}
use Rattle.lb_core.specs.Ranges.{entry_fits}
use Rattle.lb_record.specs.Entries.{entry_line}
use Rattle.lb_read.specs.declared.written.WrittenEntry.{WrittenEntry}
use Rattle.lb_read.specs.declared.written.Read.{Read}

-- the line of an entry with its ticket
abbrev pub written_line : WrittenEntry → List ℕ
written_line w = entry_line w.ticket w.entry

-- what it says is in range
abbrev pub written_fits : WrittenEntry → Bool
written_fits w = entry_fits w.ticket w.entry

-- entries one after the other, the first of them at this ticket
abbrev pub written_from : ℕ → List Entry → List WrittenEntry
written_from ticket [] = []
written_from ticket (entry ∷ entries) = record { ticket = ticket; entry = entry } ∷ written_from (ticket + 1) entries

-- what a history says, as its text has it
abbrev pub as_read : History → Read
as_read h = record { header = h.header; entries = written_from 1 h.entries }
