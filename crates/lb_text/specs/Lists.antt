-- How lists of CPUs are spelled: nothing, or items with `;` between them, of which each is a CPU or
-- two CPUs with `-` between them, the lesser first. Items may come in any order and more than once.
-- Cited by the contracts of `list_of` and `item_of`; also by `lb_generator`, `lb_read` and other crates.
use Rattle.std.specs.Prelude.{ℕ, ◌==◌, nat_le, Bool, ◌&&◌, List, [], ◌∷◌, Option, Some, None, is_some, option_and_then}
use Rattle.std.specs.List.{slice_split, list_any}
use Rattle.std.specs.Option.{option_map}
use Rattle.lb_base.specs.declared.mask.Mask.{Mask}
use Rattle.lb_base.specs.Mask.{no_cpus}
use Rattle.lb_base.specs.Sets.{mask_where}
use Rattle.lb_text.specs.declared.list.TheConstants.{MAX_CPU}
use Rattle.lb_text.specs.declared.marks.TheConstants.{MINUS, SEMICOLON}
use Rattle.lb_text.specs.Numbers.{number_of, number_within}

-- the CPUs that an item names: all from its first to its last
abbrev pub Run : Type 0
Run = ℕ × ℕ

-- whether a run has a CPU
abbrev pub run_has : ℕ → Run → Bool
run_has cpu run = nat_le run.0 cpu && nat_le cpu run.1

-- the run from a CPU to one that is not before it
abbrev pub run_from : List ℕ → ℕ → Option Run
run_from last first = option_map (λ cpu. (first, cpu)) (number_within first MAX_CPU last)

-- the run that the pieces of an item on both sides of `-` name
abbrev pub run_of_ends : List (List ℕ) → Option Run
run_of_ends [] = None
run_of_ends (cpu ∷ []) = option_map (λ n. (n, n)) (number_of MAX_CPU cpu)
run_of_ends (first ∷ last ∷ []) = option_and_then (run_from last) (number_of MAX_CPU first)
run_of_ends (first ∷ last ∷ more ∷ others) = None

-- the run that an item names
unfoldable pub item_of : List ℕ → Option Run
item_of item = run_of_ends (slice_split (λ b. b == MINUS) item)

abbrev pub is_item : List ℕ → Bool
is_item item = is_some (item_of item)

-- the runs that items name, where each of them is one
abbrev pub items_of : List (List ℕ) → Option (List Run)
items_of [] = Some []
items_of (item ∷ items) = option_and_then (λ run. option_map (λ runs. run ∷ runs) (items_of items)) (item_of item)

-- the CPUs of runs
abbrev pub mask_of_runs : List Run → Mask
mask_of_runs runs = mask_where (λ cpu. list_any (run_has cpu) runs)

-- the CPUs that a list names
unfoldable pub list_of : List ℕ → Option Mask
list_of [] = Some no_cpus
list_of (b ∷ text) = option_map mask_of_runs (items_of (slice_split (λ c. c == SEMICOLON) (b ∷ text)))

abbrev pub is_list : List ℕ → Bool
is_list text = is_some (list_of text)
