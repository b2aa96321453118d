-- The program's parser as `clap` has it: a simple command with one level of subcommands, of which `gen`
-- and `sum` have two values; and the work that is read from what it finds.
-- Cited by the contracts of `parser`, `work_of`, `value` and others.
use Rattle.std.specs.Prelude.{Bool, true, false, ◌||◌, ◌==◌, List, [], ◌∷◌, codes, if◌then◌else◌, Option, Some, None, option_and_then}
use Rattle.std.specs.Str.{bytes_eq}
use Rattle.clap.specs.Words.{App, Row, Rule, Text, first_of, new_app, new_rule, with_rule, with_subcommand}
use Rattle.clap.specs.Simple.{on_top}
use Rattle.clap.specs.declared.builder.action.ArgAction.TheVariants as action
use Rattle.lb_text.specs.declared.marks.TheConstants.{MINUS}
use Rattle.lb_text.specs.Numbers.{number_of}
use Rattle.lb_trace.specs.declared.trace.TheConstants.{MAX_ROWS}
use Rattle.lb_words.specs.declared.words.TheConstants.{MAX_NUMBER}
use Rattle.lb_words.specs.declared.work.Work.{Work}
use Rattle.lb_words.specs.declared.work.Work.TheVariants.{Step, Run, Topo, Check}
use Rattle.lb_words.specs.Words.{generated}

-- a word that the parser could take for an option or for its own help
abbrev pub is_special : Text → Bool
is_special [] = false
is_special (first ∷ rest) = (first == MINUS) || bytes_eq (first ∷ rest) (codes "help")

-- an argument that has to be there, with one value
abbrev pub value_rule : Text → Rule
value_rule id = record (new_rule id) { required = true; action = Some action.Set }

-- a subcommand with NUMBER and ROWS
abbrev pub generator_app : Text → App
generator_app name = with_rule (with_rule (new_app name) (value_rule (codes "NUMBER"))) (value_rule (codes "ROWS"))

-- the program without its subcommands
abbrev pub bare_app : App
bare_app =
    on_top (λ s. record s {
      no_binary_name = true;
      disable_help_flag = true;
      disable_help_subcommand = true;
      subcommand_required = true;
    }) (new_app (codes "lb"))

abbrev pub alone_apps : App
alone_apps =
    with_subcommand (with_subcommand (with_subcommand (with_subcommand bare_app (new_app (codes "step")).top)
    (new_app (codes "run")).top) (new_app (codes "topo")).top) (new_app (codes "check")).top

abbrev pub lb_app : App
lb_app = with_subcommand (with_subcommand alone_apps (generator_app (codes "gen")).top) (generator_app (codes "sum")).top

-- the work of a word with two numbers, where they are there
abbrev pub work_with : Text → Option Text → Option Text → Option Work
work_with word number rows =
    option_and_then (λ n. option_and_then (λ r. generated word n r) (option_and_then (number_of MAX_ROWS) rows))
    (option_and_then (number_of MAX_NUMBER) number)

-- the work that a subcommand asks for, with the values that were found for it
unfoldable pub work_read : Text → List Row → Option Work
work_read word found =
    if bytes_eq word (codes "step") then Some Step
    else (if bytes_eq word (codes "run") then Some Run
    else (if bytes_eq word (codes "topo") then Some Topo
    else (if bytes_eq word (codes "check") then Some Check
    else work_with word (first_of (codes "NUMBER") found) (first_of (codes "ROWS") found))))

-- the work that the parser found
unfoldable pub work_found : Option (Text × List Row) → Option Work
work_found None = None
work_found (Some found) = work_read found.0 found.1
