-- What the words of a command line ask for: a word alone, or a word with two numbers, NUMBER and ROWS.
-- All other words are no command.
-- Cited by the contracts of `work_of`, `generated`, `work_read` and `work_found`; also by `lb`.
use Rattle.std.specs.Prelude.{ℕ, ◌≤◌, List, [], ◌∷◌, codes, if◌then◌else◌, Option, Some, None, option_and_then}
use Rattle.std.specs.Str.{bytes_eq}
use Rattle.lb_text.specs.Numbers.{number_of}
use Rattle.lb_trace.specs.declared.trace.TheConstants.{MAX_ROWS}
use Rattle.lb_words.specs.declared.words.TheConstants.{MAX_NUMBER}
use Rattle.lb_words.specs.declared.work.Work.{Work}
use Rattle.lb_words.specs.declared.work.Work.TheVariants.{Step, Run, Topo, Check, Gen, Sum}

-- the work that a word alone names
abbrev pub work_named : List ℕ → Option Work
work_named word =
    if bytes_eq word (codes "step") then Some Step
    else (if bytes_eq word (codes "run") then Some Run
    else (if bytes_eq word (codes "topo") then Some Topo
    else (if bytes_eq word (codes "check") then Some Check
    else None)))

-- the work on a generated trace that a word names
abbrev pub generated : List ℕ → ℕ → ℕ → Option Work
generated word number rows =
    if bytes_eq word (codes "gen") then Some (Gen number rows)
    else (if bytes_eq word (codes "sum") then Some (Sum number rows)
    else None)

-- the work that the words ask for
unfoldable pub work_of : List (List ℕ) → Option Work
work_of (word ∷ []) = work_named word
work_of (word ∷ number ∷ rows ∷ []) =
    option_and_then (λ n. option_and_then (λ r. generated word n r) (number_of MAX_ROWS rows)) (number_of MAX_NUMBER number)
work_of words = None

-- the numbers of a work are in their ranges
abbrev pub IsInRange : Work → Type 0
IsInRange (Gen number rows) = (number ≤ MAX_NUMBER) × (rows ≤ MAX_ROWS)
IsInRange (Sum number rows) = (number ≤ MAX_NUMBER) × (rows ≤ MAX_ROWS)
IsInRange work = Unit {0}
