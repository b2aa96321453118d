-- Which line of a text is the first bad one, and which of its codes is the first: the tests of each line
-- stand by themselves, after what the lines before it say.
-- Cited by the law `first_bad`; also by `lb_generator` and `lb_read`.
use Rattle.std.specs.Prelude.{◌≡◌, ℕ, ◌+◌, ◌<◌, ◌≤◌, ◌==◌, ◌⊎◌, ◌↔◌, Bool, true, false, List, [], ◌∷◌, ◌++◌, length, take, drop, fold, if◌then◌else◌, Result, Ok, Err, is_ok}
use Rattle.std.specs.List.{list_any}
use Rattle.lb_text.specs.declared.marks.TheConstants.{LINE_FEED}
use Rattle.lb_fields.specs.Pieces.{pieces}
use Rattle.lb_trace.specs.declared.trace.TheConstants.{MAX_BYTES}
use Rattle.lb_trace.specs.declared.trace.Code.{Code}
use Rattle.lb_trace.specs.declared.trace.Code.TheVariants as bad
use Rattle.lb_trace.specs.declared.reading.Reading.{Reading}
use Rattle.lb_trace.specs.Tests.{Tests, line_tests, end_tests}
use Rattle.lb_trace.specs.Grammar.{line_at, nothing_read, reading_of}

-- what stands between line feeds, and after the last
abbrev pub lines_of : List ℕ → List (List ℕ)
lines_of text = pieces LINE_FEED text

-- what was read with a line more, where it is good
abbrev pub or_as_before : Reading → Result Reading Code → Reading
or_as_before r (Ok s) = s
or_as_before r (Err code) = r

-- what was read before line k, from 0
unfoldable pub read_before : List (List ℕ) → ℕ → Reading
read_before lines k = fold (λ r line. or_as_before r (line_at r false line)) nothing_read (take k lines)

-- the tests of the first of the lines that are left; after the last line feed stands the end of the text
-- or a line that is cut off
abbrev pub next_tests : Reading → List (List ℕ) → Tests
next_tests r [] = []
next_tests r (last ∷ []) = if length last == 0 then end_tests r else line_tests r true last
next_tests r (line ∷ next ∷ more) = line_tests r false line

-- the tests of line k, from 0
unfoldable pub tests_at : List (List ℕ) → ℕ → Tests
tests_at lines k = next_tests (read_before lines k) (drop k lines)

-- some test holds
abbrev pub is_bad : Tests → Bool
is_bad tests = list_any (λ t. t.0) tests

-- the code's test holds, and none before it
pub record IsFirstCode (tests : Tests) (code : Code) : Type 0 where
  pub before : Tests
  pub after : Tests
  pub place : tests ≡ before ++ (true, code) ∷ after
  pub first : is_bad before ≡ false

-- line n, from 1, is bad by this code, and no line before it is bad
pub record IsFirstBad (lines : List (List ℕ)) (n : ℕ) (code : Code) : Type 0 where
  pub k : ℕ
  pub number : n ≡ k + 1
  pub within : k < length lines
  pub here : IsFirstCode (tests_at lines k) code
  pub before : (j : ℕ) → j < k → is_bad (tests_at lines j) ≡ false

-- the refusal is that of the length, or names the first bad line and its first code
abbrev pub IsRefusal : List ℕ → ℕ → Code → Type 0
IsRefusal text n code =
    ((MAX_BYTES < length text) × (n ≡ 0) × (code ≡ bad.TooLong))
    ⊎ ((length text ≤ MAX_BYTES) × IsFirstBad (lines_of text) n code)

-- a text is refused so exactly where this is its refusal
abbrev pub RefusesFirstBad : Type 0
RefusesFirstBad = (text : List ℕ) (n : ℕ) (code : Code) → (reading_of text ≡ Err (n, code)) ↔ IsRefusal text n code

-- the text is not too long, and no line of it is bad
abbrev pub HasNoneBad : List ℕ → Type 0
HasNoneBad text =
    (length text ≤ MAX_BYTES) × ((k : ℕ) → k < length (lines_of text) → is_bad (tests_at (lines_of text) k) ≡ false)

-- a text is accepted exactly where this is so
abbrev pub AcceptsNoneBad : Type 0
AcceptsNoneBad = (text : List ℕ) → (is_ok (reading_of text) ≡ true) ↔ HasNoneBad text
