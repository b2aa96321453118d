-- Laws of the texts that read as histories.
-- Cited by the laws `lines_read_exactly`, `texts_read_once`, `headers_read_back` and `histories_read_back`; also by
-- `lb`.
use Rattle.std.specs.Prelude.{◌≡◌, ℕ, ◌⊎◌, ◌↔◌, true, List, Some, Ok}
use Rattle.lb_trace.specs.declared.trace.Trace.{Trace}
use Rattle.lb_trace.specs.Grammar.{reading_of}
use Rattle.lb_core.specs.declared.history.History.{History}
use Rattle.lb_core.specs.Ranges.{entries_fit}
use Rattle.lb_record.specs.History.{text_of}
use Rattle.lb_read.specs.declared.written.Read.{Read}
use Rattle.lb_read.specs.declared.written.WrittenEntry.{WrittenEntry}
use Rattle.lb_read.specs.Written.{written_line, written_fits, as_read}
use Rattle.lb_read.specs.Entries.{line_in}
use Rattle.lb_read.specs.Texts.{lines_of}
use Rattle.lb_read.specs.Whole.{IsDeclared, ReadsAs}
use Rattle.lb_read.specs.FirstBad.{IsFirstBadLine}

-- a text reads as at most one history
abbrev pub ReadOnce : Type 0
ReadOnce = (text : List ℕ) (a b : Read) → ReadsAs text a → ReadsAs text b → a ≡ b

-- a text reads as a history, or some line of it is the first bad one
abbrev pub ReadOrBad : Type 0
ReadOrBad = (text : List ℕ) → ((read : Read) × ReadsAs text read) ⊎ ((n : ℕ) × IsFirstBadLine (lines_of text) n)

-- not both, and one line is the first bad one
abbrev pub NoneIsBad : Type 0
NoneIsBad = (text : List ℕ) (read : Read) (n : ℕ) → ReadsAs text read → IsFirstBadLine (lines_of text) n → ⊥

abbrev pub OneIsFirst : Type 0
OneIsFirst = (text : List ℕ) (n m : ℕ) → IsFirstBadLine (lines_of text) n → IsFirstBadLine (lines_of text) m → n ≡ m

-- a line reads as an entry with its ticket exactly where it is that entry's line and what it says is in range
abbrev pub LinesReadExactly : Type 0
LinesReadExactly = (line : List ℕ) (w : WrittenEntry) → (line_in line ≡ Some w) ↔ ((line ≡ written_line w) × (written_fits w ≡ true))

-- what was read has one text
abbrev pub OneText : Type 0
OneText = (a b : List ℕ) (read : Read) → ReadsAs a read → ReadsAs b read → a ≡ b

-- a history has a header that can be read back, and entries that are in range
pub record IsReadable (h : History) : Type 0 where
  pub header : IsDeclared h.header
  pub entries : entries_fit h.entries ≡ true

-- the header of an accepted text is one that can be read back
abbrev pub HeadersReadBack : Type 0
HeadersReadBack = (text : List ℕ) (trace : Trace) → reading_of text ≡ Ok trace → IsDeclared trace.header

-- the text of such a history reads as it
abbrev pub ReadBack : Type 0
ReadBack = (h : History) → IsReadable h → ReadsAs (text_of h) (as_read h)

-- two of them with one text are equal
abbrev pub AreOwn : Type 0
AreOwn = (a b : History) → IsReadable a → IsReadable b → text_of a ≡ text_of b → a ≡ b
