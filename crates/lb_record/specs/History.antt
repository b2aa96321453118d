-- The text of a history: the lines of its header, then a line for each entry. An entry's ticket is
-- its place in the history, from 1.
-- Cited by the contract of `history_text`; also by `lb` and `lb_read`.
use Rattle.std.specs.Prelude.{ℕ, List, ◌++◌}
use Rattle.lb_trace.specs.declared.trace.Header.{Header}
use Rattle.lb_core.specs.declared.entry.Entry.{Entry}
use Rattle.lb_core.specs.declared.history.History.{History}
use Rattle.lb_text.specs.Lines.{lines_text, numbered}
use Rattle.lb_record.specs.Header.{header_lines}
use Rattle.lb_record.specs.Entries.{entry_line}

-- the lines of a history
unfoldable pub history_lines : Header → List Entry → List (List ℕ)
history_lines header entries = header_lines header ++ numbered entry_line 1 entries

-- the text of a history
unfoldable pub history_text : Header → List Entry → List ℕ
history_text header entries = lines_text (history_lines header entries)

-- the same, of the history as a whole
abbrev pub text_of : History → List ℕ
text_of history = history_text history.header history.entries
