-- Laws of the text of a history: a line feed ends each line and stands nowhere else, and a space
-- stands between each two fields of an entry and nowhere else.
-- Cited by the laws `has_its_lines` and `has_its_fields`.
use Rattle.std.specs.Prelude.{◌≡◌, ℕ, ◌==◌, [], ◌∷◌, ◌++◌}
use Rattle.std.specs.List.{slice_split}
use Rattle.lb_text.specs.declared.marks.TheConstants.{LINE_FEED, SPACE}
use Rattle.lb_core.specs.declared.entry.Entry.{Entry}
use Rattle.lb_core.specs.declared.history.History.{History}
use Rattle.lb_record.specs.Entries.{entry_fields, entry_line}
use Rattle.lb_record.specs.History.{history_lines, text_of}

-- cut at its line feeds, the text of a history is its lines, and nothing behind the last
abbrev pub HasItsLines : Type 0
HasItsLines = (h : History) → slice_split (λ b. b == LINE_FEED) (text_of h) ≡ history_lines h.header h.entries ++ [] ∷ []

-- cut at its spaces, the line of an entry is its fields
abbrev pub HasItsFields : Type 0
HasItsFields = (ticket : ℕ) (entry : Entry) → slice_split (λ b. b == SPACE) (entry_line ticket entry) ≡ entry_fields ticket entry
