-- Which line of a text is the first that is no line of a history at its place. What may stand at a place
-- is said by the lines before it: the first line; then the lines of the header, each read as a line of
-- the trace that it repeats; and, once the header has its lanes, the entries.
-- Cited by the contract of `read_history`; also by `lb`.
use Rattle.std.specs.Prelude.{◌≡◌, ℕ, ◌+◌, ◌-◌, ◌<◌, ◌==◌, Bool, true, false, not, ◌&&◌, ◌||◌, List, [], ◌∷◌, length, take, drop, fold, Option, Some, None, is_some, is_none, unwrap_or, if◌then◌else◌, Result, Ok, Err, is_ok}
use Rattle.std.specs.Str.{bytes_eq}
use Rattle.lb_trace.specs.declared.trace.Code.{Code}
use Rattle.lb_trace.specs.declared.reading.Reading.{Reading}
use Rattle.lb_trace.specs.Grammar.{nothing_read, line_at, ended}
use Rattle.lb_read.specs.Entries.{line_in}
use Rattle.lb_read.specs.Repeats.{is_repeated, can_repeat, is_parts, has_room}
use Rattle.lb_read.specs.declared.written.RecordError.{RecordError}
use Rattle.lb_read.specs.declared.written.RecordError.TheVariants as errors
use Rattle.lb_read.specs.Texts.{lines_of, version_line, room}

-- where a line stands: in the header with what was read of its trace, whether a line `parts` was, and
-- how many bytes that trace may still have
pub data Place : Type 0 where
  AtStart : Place
  InHeader : Reading → Bool → ℕ → Place
  InEntries : Place

-- ---- one line
-- what was read of a trace with its first line, for which the first line of the history stands
abbrev pub version_read : Reading
version_read = record nothing_read { line = 2 }

-- the place after a line of the trace
abbrev pub after_body : Bool → ℕ → Result Reading Code → Option Place
after_body parted left (Ok reading) = Some (InHeader reading parted left)
after_body parted left (Err code) = None

abbrev pub body_next : Reading → Bool → ℕ → List ℕ → Option Place
body_next reading parted left body =
    if can_repeat parted body && has_room left body
    then after_body (parted || is_parts body) (left - (length body + 1)) (line_at reading false body)
    else None

abbrev pub entry_next : List ℕ → Option Place
entry_next line = if is_some (line_in line) then Some InEntries else None

-- the place after a line, or None where it is no line of a history at its place
unfoldable pub place_next : Place → List ℕ → Option Place
place_next AtStart line = if bytes_eq line version_line then Some (InHeader version_read false room) else None
place_next (InHeader reading parted left) line =
    if is_repeated line
    then body_next reading parted left (drop 2 line)
    else (if is_ok (ended reading) then entry_next line else None)
place_next InEntries line = entry_next line

-- a history may end at the place
unfoldable pub may_end : Place → Bool
may_end AtStart = false
may_end (InHeader reading parted left) = is_ok (ended reading)
may_end InEntries = true

-- the first of the lines that are left is bad; nothing may stand after the last line feed
abbrev pub is_bad_next : Place → List (List ℕ) → Bool
is_bad_next place [] = false
is_bad_next place (last ∷ []) = not (may_end place && length last == 0)
is_bad_next place (line ∷ next ∷ more) = is_none (place_next place line)

-- ---- all lines
-- the place after a line, where the line is good
abbrev pub place_after : Place → List ℕ → Place
place_after place line = unwrap_or (place_next place line) place

-- the place of line k, from 0
unfoldable pub place_at : List (List ℕ) → ℕ → Place
place_at lines k = fold place_after AtStart (take k lines)

-- line k, from 0, is bad
unfoldable pub is_bad_at : List (List ℕ) → ℕ → Bool
is_bad_at lines k = is_bad_next (place_at lines k) (drop k lines)

-- line n, from 1, is bad, and no line before it is
pub record IsFirstBadLine (lines : List (List ℕ)) (n : ℕ) : Type 0 where
  pub k : ℕ
  pub number : n ≡ k + 1
  pub within : k < length lines
  pub here : is_bad_at lines k ≡ true
  pub before : (j : ℕ) → j < k → is_bad_at lines j ≡ false

-- why a text gave no history: its first bad line, or want of memory, which says nothing of it
abbrev pub IsRefusal : RecordError → List ℕ → Type 0
IsRefusal (errors.BadLine line) text = IsFirstBadLine (lines_of text) line
IsRefusal errors.NoMemory text = Unit {0}
