-- The text of a trace, line after line: what was read with a line more, and which trace the whole text
-- is, or its first bad line and that line's code.
-- Cited by the law `accepted`, and `Reading::cpu_line`, `Reading::dist_line` and others; also by `lb`, `lb_generator`
-- and `lb_read`.
use Rattle.std.specs.Prelude.{◌≡◌, ℕ, ◌+◌, ◌==◌, nat_le, Bool, true, false, List, [], ◌∷◌, ◌++◌, length, if◌then◌else◌, Option, Some, None, unwrap_or, Result, Ok, Err}
use Rattle.lb_base.specs.Mask.{first_cpus}
use Rattle.lb_text.specs.declared.marks.TheConstants.{COMMA, LINE_FEED}
use Rattle.lb_fields.specs.Pieces.{pieces}
use Rattle.lb_trace.specs.declared.trace.TheConstants.{MAX_BYTES}
use Rattle.lb_trace.specs.declared.trace.Code.{Code}
use Rattle.lb_trace.specs.declared.trace.Code.TheVariants as bad
use Rattle.lb_trace.specs.declared.trace.Trace.{Trace}
use Rattle.lb_trace.specs.declared.trace.TraceError.{TraceError}
use Rattle.lb_trace.specs.declared.trace.TraceError.TheVariants as errors
use Rattle.lb_trace.specs.declared.line_error.LineError.{LineError}
use Rattle.lb_trace.specs.declared.line_error.LineError.TheVariants as faults
use Rattle.lb_trace.specs.declared.kind.LineKind.{LineKind}
use Rattle.lb_trace.specs.declared.kind.LineKind.TheVariants as kinds
use Rattle.lb_trace.specs.declared.reading.Reading.{Reading}
use Rattle.lb_trace.specs.Kinds.{line_kind}
use Rattle.lb_trace.specs.Values.{number, lanes_in, cpu_of, distances_in, masks_from, task_of, row_of}
use Rattle.lb_trace.specs.Tests.{unless_bad, value_tests, line_tests, end_tests}

-- go on with what was read
infixl 10 ◌>>=◌
abbrev pub ◌>>=◌ : {A B E : Type 0} → Result A E → (A → Result B E) → Result B E
Ok a >>= f = f a
Err e >>= f = Err e

-- ---- one line
-- what a good line of a kind adds
abbrev pub with_line : Reading → LineKind → List (List ℕ) → Reading
with_line r kinds.Version fields = r
with_line r kinds.Cpu fields = record r { cpus = r.cpus ++ cpu_of fields ∷ [] }
with_line r kinds.Dist fields = record r { distances = r.distances ++ distances_in fields ∷ [] }
with_line r kinds.Parts fields = record r { parts = Some (masks_from 1 fields) }
with_line r kinds.Lanes fields = record r { lanes = Some (number (lanes_in fields)) }
with_line r kinds.Task fields = record r { tasks = r.tasks ++ task_of fields ∷ [] }
with_line r (kinds.Row kind) fields = record r { rows = r.rows ++ row_of kind fields ∷ [] }

-- what was read with it, at the line after it
abbrev pub after : Reading → LineKind → List (List ℕ) → Reading
after r kind fields = record (with_line r kind fields) { line = r.line + 1 }

abbrev pub after_line : Reading → Option LineKind → List (List ℕ) → Reading
after_line r None fields = r
after_line r (Some kind) fields = after r kind fields

-- what was read with a line more, or the line's first code
unfoldable pub line_at : Reading → Bool → List ℕ → Result Reading Code
line_at r cut line = unless_bad (line_tests r cut line) (after_line r (line_kind (pieces COMMA line)) (pieces COMMA line))

-- the text ends here
unfoldable pub ended : Reading → Result Reading Code
ended r = unless_bad (end_tests r) r

-- ---- all lines
-- a code with the number of its line
abbrev pub on_line : {A : Type 0} → ℕ → Result A Code → Result A (ℕ × Code)
on_line n (Ok a) = Ok a
on_line n (Err code) = Err (n, code)

-- what was read with all lines; the last of them is what stands after the last line feed
unfoldable pub lines_from : Reading → List (List ℕ) → Result Reading (ℕ × Code)
lines_from r [] = Ok r
lines_from r (last ∷ []) = on_line r.line (if length last == 0 then ended r else line_at r true last)
lines_from r (line ∷ next ∷ more) = on_line r.line (line_at r false line) >>= λ s. lines_from s (next ∷ more)

-- before the first line
abbrev pub nothing_read : Reading
nothing_read = record { line = 1; cpus = []; distances = []; parts = None; lanes = None; tasks = []; rows = [] }

-- the trace that was read; without a line `parts` it has one mask of all CPUs
unfoldable pub trace_of : Reading → Trace
trace_of r =
    record {
      header = record {
        cpus = r.cpus;
        distances = r.distances;
        parts = unwrap_or r.parts (first_cpus (length r.cpus) ∷ []);
        lanes = unwrap_or r.lanes 0;
        tasks = r.tasks;
      };
      rows = r.rows;
    }

-- the trace that a text is, or its first bad line and that line's first code; line 0 stands for the text
-- as a whole
unfoldable pub reading_of : List ℕ → Result Trace (ℕ × Code)
reading_of text =
    if nat_le (length text) MAX_BYTES
    then (lines_from nothing_read (pieces LINE_FEED text) >>= λ r. Ok (trace_of r))
    else Err (0, bad.TooLong)

-- ---- answers of the code
-- the answer is what the reading gives; want of memory says nothing of it
abbrev pub Gives : {A : Type 0} → Result A TraceError → Result A (ℕ × Code) → Type 0
Gives (Ok a) given = given ≡ Ok a
Gives (Err (errors.Refused line code)) given = given ≡ Err (line, code)
Gives (Err errors.NoMemory) given = Unit {0}

-- what a step did: nothing was bad, and this was read, or the code of a bad line
abbrev pub Steps : {A : Type 0} → Result A LineError → Reading → Result Reading Code → Type 0
Steps (Ok a) new given = given ≡ Ok new
Steps (Err (faults.Bad code)) new given = given ≡ Err code
Steps (Err faults.NoMemory) new given = Unit {0}

-- what a step did with the fields of a line of this kind, which may stand here
abbrev pub TakesLine : {A : Type 0} → LineKind → List (List ℕ) → Reading → Reading → Result A LineError → Type 0
TakesLine kind fields old new result = Steps result new (unless_bad (value_tests old kind fields) (after old kind fields))
