-- The text of a history, line after line: the header and the entries that it reads as, or its first bad
-- line, from 1.
-- Cited by the contracts of `header_in`, `first_line`, `head_of` and others; also by `lb`.
use Rattle.std.specs.Prelude.{◌≡◌, ℕ, ◌+◌, ◌-◌, ◌==◌, false, List, [], ◌∷◌, length, Option, Some, None, if◌then◌else◌, codes, Result, Ok, Err}
use Rattle.std.specs.List.{slice_split}
use Rattle.std.specs.Str.{bytes_eq}
use Rattle.lb_text.specs.declared.marks.TheConstants.{LINE_FEED}
use Rattle.lb_trace.specs.declared.trace.TheConstants.{MAX_BYTES}
use Rattle.lb_trace.specs.declared.trace.Code.{Code}
use Rattle.lb_trace.specs.declared.trace.Header.{Header}
use Rattle.lb_trace.specs.declared.trace.Trace.{Trace}
use Rattle.lb_trace.specs.Grammar.{reading_of}
use Rattle.lb_text.specs.Lines.{lines_text}
use Rattle.lb_read.specs.declared.written.WrittenEntry.{WrittenEntry}
use Rattle.lb_read.specs.declared.written.Read.{Read}
use Rattle.lb_read.specs.declared.written.RecordError.{RecordError}
use Rattle.lb_read.specs.declared.written.RecordError.TheVariants as errors
use Rattle.lb_read.specs.Repeats.{Head, head_of}
use Rattle.lb_read.specs.Entries.{line_in}

-- what stands between line feeds, and after the last
abbrev pub lines_of : List ℕ → List (List ℕ)
lines_of text = slice_split (λ b. b == LINE_FEED) text

-- ---- entries
abbrev pub onto_entries : WrittenEntry → Result (List WrittenEntry) ℕ → Result (List WrittenEntry) ℕ
onto_entries w (Ok ws) = Ok (w ∷ ws)
onto_entries w (Err n) = Err n

-- line n is the line of an entry or bad
abbrev pub entry_then : ℕ → Option WrittenEntry → Result (List WrittenEntry) ℕ → Result (List WrittenEntry) ℕ
entry_then n None rest = Err n
entry_then n (Some w) rest = onto_entries w rest

-- the entries of lines, of which the first is line n; the last of them is what stands after the last line
-- feed
unfoldable pub entries_in : ℕ → List (List ℕ) → Result (List WrittenEntry) ℕ
entries_in n [] = Err n
entries_in n (last ∷ []) = if length last == 0 then Ok [] else Err n
entries_in n (line ∷ next ∷ more) = entry_then n (line_in line) (entries_in (n + 1) (next ∷ more))

-- ---- the header
-- the text of the trace whose lines a header repeats
abbrev pub trace_text : List (List ℕ) → List ℕ
trace_text bodies = lines_text (codes "lbtrace,1" ∷ bodies)

-- line 1 of a history stands for line 1 of the trace
abbrev pub version_line : List ℕ
version_line = codes "lbhist 1"

-- the room of a trace behind its first line, which has 10 bytes with its line feed
abbrev pub room : ℕ
room = MAX_BYTES - 10

-- the line after so many repeated lines
abbrev pub line_after : List (List ℕ) → ℕ
line_after bodies = length bodies + 2

-- the header's lines at the head of these lines
abbrev pub head_behind : List (List ℕ) → Head
head_behind lines = head_of room false lines

abbrev pub header_from : Head → Result Trace (ℕ × Code) → Result Header ℕ
header_from head (Err bad) = Err bad.0
header_from head (Ok trace) = if head.stopped then Err (line_after head.bodies) else Ok trace.header

unfoldable pub header_in : Head → Result Header ℕ
header_in head = header_from head (reading_of (trace_text head.bodies))

-- ---- the whole text
abbrev pub read_from : Header → Result (List WrittenEntry) ℕ → Result Read ℕ
read_from header (Ok entries) = Ok (record { header = header; entries = entries })
read_from header (Err n) = Err n

abbrev pub read_after : Head → Result Header ℕ → Result Read ℕ
read_after head (Err n) = Err n
read_after head (Ok header) = read_from header (entries_in (line_after head.bodies) head.rest)

-- behind the first line
unfoldable pub read_behind : List (List ℕ) → Result Read ℕ
read_behind lines = read_after (head_behind lines) (header_in (head_behind lines))

unfoldable pub read_lines : List (List ℕ) → Result Read ℕ
read_lines [] = Err 1
read_lines (last ∷ []) = Err 1
read_lines (line ∷ next ∷ more) = if bytes_eq line version_line then read_behind (next ∷ more) else Err 1

-- the history that a text reads as, or its first bad line
abbrev pub read_of : List ℕ → Result Read ℕ
read_of text = read_lines (lines_of text)

-- ---- answers of the code
-- the answer is what the reading gives; want of memory says nothing of it
abbrev pub Gives : {A : Type 0} → Result A RecordError → Result A ℕ → Type 0
Gives (Ok a) given = given ≡ Ok a
Gives (Err (errors.BadLine line)) given = given ≡ Err line
Gives (Err errors.NoMemory) given = Unit {0}

-- the refusal is what the reading gives
abbrev pub Refuses : {A : Type 0} → RecordError → Result A ℕ → Type 0
Refuses (errors.BadLine line) given = given ≡ Err line
Refuses errors.NoMemory given = Unit {0}
