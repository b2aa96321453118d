-- How it is read what a row asks for, with its moment.
-- Cited by the contracts of `command_in`, `wake_in`, `sleep_in` and others.
use Rattle.std.specs.Prelude.{ℕ, List, ◌==◌, Option, Some, None, option_and_then, if◌then◌else◌, ℤ, length}
use Rattle.lb_read.specs.declared.kinds.CommandKind.{CommandKind}
use Rattle.std.specs.Option.{option_map}
use Rattle.lb_base.specs.declared.mask.Mask.{Mask}
use Rattle.lb_text.specs.Numbers.{nice_of}
use Rattle.lb_trace.specs.declared.trace.Command.{Command}
use Rattle.lb_trace.specs.declared.trace.Command.TheVariants as commands
use Rattle.lb_read.specs.declared.kinds.CommandKind.TheVariants as command_kinds
use Rattle.lb_read.specs.Exact.{take_field, next_to, ending, whole, each}
use Rattle.lb_read.specs.Fields.{short_in, moment_in, mask_in}

-- a task or a CPU, and a moment
abbrev pub subject_at : List (List ℕ) → Option ((ℕ × ℕ) × List (List ℕ))
subject_at fields = next_to (take_field short_in) (take_field moment_in) fields

abbrev pub wake_from : ℕ × ℕ → Command × ℕ
wake_from p = (commands.Wake p.0, p.1)

abbrev pub sleep_from : ℕ × ℕ → Command × ℕ
sleep_from p = (commands.Sleep p.0, p.1)

abbrev pub exit_from : ℕ × ℕ → Command × ℕ
exit_from p = (commands.Exit p.0, p.1)

abbrev pub set_mask_from : (ℕ × ℕ) × Mask → Command × ℕ
set_mask_from p = (commands.SetMask p.0.0 p.1, p.0.1)

abbrev pub nice_from : (ℕ × ℕ) × ℤ → Command × ℕ
nice_from p = (commands.Nice p.0.0 p.1, p.0.1)

abbrev pub tick_from : ℕ × ℕ → Command × ℕ
tick_from p = (commands.Tick p.0, p.1)

abbrev pub rebuild_from : ℕ × List Mask → Command × ℕ
rebuild_from p = (commands.Rebuild p.1, p.0)

-- one mask or more
abbrev pub if_any : List Mask → Option (List Mask)
if_any masks = if length masks == 0 then None else Some masks

abbrev pub masks_in : List (List ℕ) → Option (List Mask)
masks_in fields = option_and_then if_any (each mask_in fields)

unfoldable pub command_in : CommandKind → List (List ℕ) → Option (Command × ℕ)
command_in command_kinds.Wake fields = option_map wake_from (whole subject_at fields)
command_in command_kinds.Sleep fields = option_map sleep_from (whole subject_at fields)
command_in command_kinds.Exit fields = option_map exit_from (whole subject_at fields)
command_in command_kinds.SetMask fields = option_map set_mask_from (whole (next_to subject_at (take_field mask_in)) fields)
command_in command_kinds.Nice fields = option_map nice_from (whole (next_to subject_at (take_field nice_of)) fields)
command_in command_kinds.Tick fields = option_map tick_from (whole subject_at fields)
command_in command_kinds.Rebuild fields = option_map rebuild_from (ending (take_field moment_in) masks_in fields)
