-- The one spelling that lists of CPUs are written in: the runs of the mask, each as long as it can
-- be, rising, with `;` between them; a run of one CPU as that CPU, a longer one as its first and last
-- with `-` between them. Where an empty list would leave a gap in a line, `-` stands for it.
-- Cited by the contracts of `put_list`, `put_run` and `put_runs`; also by `lb_generator`, `lb_read` and other crates.
use Rattle.std.specs.Prelude.{ℕ, ◌+◌, ◌<◌, ◌≤◌, ◌==◌, if◌then◌else◌, List, [], ◌∷◌, ◌++◌, map, decimal}
use Rattle.std.specs.List.{join_with_byte}
use Rattle.lb_base.specs.declared.mask.Mask.{Mask}
use Rattle.lb_base.specs.Mask.{members}
use Rattle.lb_base.specs.Sets.{is_empty}
use Rattle.lb_text.specs.declared.marks.TheConstants.{MINUS, SEMICOLON}
use Rattle.lb_text.specs.Lists.{Run}

-- a CPU before runs: it joins the first of them where that begins right above it
abbrev pub onto_run : ℕ → List Run → List Run
onto_run cpu [] = (cpu, cpu) ∷ []
onto_run cpu (run ∷ runs) = if cpu + 1 == run.0 then (cpu, run.1) ∷ runs else (cpu, cpu) ∷ run ∷ runs

-- the runs of rising CPUs
abbrev pub runs_of : List ℕ → List Run
runs_of [] = []
runs_of (cpu ∷ cpus) = onto_run cpu (runs_of cpus)

abbrev pub run_text : Run → List ℕ
run_text run = if run.0 == run.1 then decimal run.0 else decimal run.0 ++ MINUS ∷ decimal run.1

-- the CPUs of a mask; nothing where there are none
unfoldable pub runs_text : Mask → List ℕ
runs_text mask = join_with_byte SEMICOLON (map run_text (runs_of (members mask)))

-- the same, with `-` where there are none
unfoldable pub list_text : Mask → List ℕ
list_text mask = if is_empty mask then MINUS ∷ [] else runs_text mask

-- each run ends where or after it begins, and the next one begins more than one CPU after it
abbrev pub AreMaximal : List Run → Type 0
AreMaximal [] = Unit {0}
AreMaximal (run ∷ []) = run.0 ≤ run.1
AreMaximal (run ∷ next ∷ runs) = (run.0 ≤ run.1) × (run.1 + 1 < next.0) × AreMaximal (next ∷ runs)
