-- What an entry may be: its numbers are in the ranges of its text, a lane's own entry is drawn by that
-- lane, figures are of rising CPUs, there is at least one figure and at least one mask of a partition,
-- and no answer says that a task is not there.
-- Cited by `lb`, `lb_audit` and other crates.
use Rattle.std.specs.Prelude.{ℕ, ◌+◌, ◌==◌, nat_lt, nat_le, Bool, true, false, ◌&&◌, List, [], ◌∷◌, Option, Some, None}
use Rattle.std.specs.List.{list_all}
use Rattle.lb_imbalance.specs.declared.decision.Decision.{Decision}
use Rattle.lb_imbalance.specs.declared.decision.Decision.TheVariants as decisions
use Rattle.lb_queue.specs.declared.answers.Reply.{Reply}
use Rattle.lb_queue.specs.declared.answers.Reply.TheVariants as replies
use Rattle.lb_trace.specs.declared.trace.TheConstants.{MAX_MOMENT}
use Rattle.lb_trace.specs.declared.trace.Command.{Command}
use Rattle.lb_trace.specs.declared.trace.Command.TheVariants as commands
use Rattle.lb_trace.specs.Accepted.{is_mask, is_nice_value}
use Rattle.lb_core.specs.declared.entry.FigName.{FigName}
use Rattle.lb_core.specs.declared.entry.Owner.{Owner}
use Rattle.lb_core.specs.declared.entry.Owner.TheVariants as owners
use Rattle.lb_core.specs.declared.entry.What.{What}
use Rattle.lb_core.specs.declared.entry.What.TheVariants as whats
use Rattle.lb_core.specs.declared.entry.Entry.{Entry}

-- ---- numbers
-- below 2^32: CPUs, lanes, tasks, positions, failures
abbrev pub is_short : ℕ → Bool
is_short n = nat_le n 4294967295

-- below 2^64: tickets, rows, versions, numbers of figures, amounts, intervals
abbrev pub is_long : ℕ → Bool
is_long n = nat_le n 18446744073709551615

-- nanoseconds
abbrev pub is_moment : ℕ → Bool
is_moment at = nat_le at MAX_MOMENT

-- ---- lists
-- there is an item
abbrev pub is_any : {A : Type 0} → List A → Bool
is_any [] = false
is_any (a ∷ more) = true

abbrev pub is_figure : FigName → Bool
is_figure figure = is_short figure.cpu && is_long figure.n

-- a CPU comes after one that may have been named
abbrev pub comes_after : Option ℕ → ℕ → Bool
comes_after None cpu = true
comes_after (Some last) cpu = nat_lt last cpu

-- each figure's CPU is greater than that of the figure before it
abbrev pub rise_after : Option ℕ → List FigName → Bool
rise_after last [] = true
rise_after last (figure ∷ figures) = comes_after last figure.cpu && rise_after (Some figure.cpu) figures

abbrev pub cpus_rise : List FigName → Bool
cpus_rise figures = rise_after None figures

abbrev pub are_figures : List FigName → Bool
are_figures figures = is_any figures && list_all is_figure figures && cpus_rise figures

-- ---- what an entry says
abbrev pub is_target : Option ℕ → Bool
is_target None = true
is_target (Some cpu) = is_short cpu

abbrev pub is_told : Reply → Bool
is_told replies.NotHere = false
is_told reply = true

unfoldable pub command_fits : Command → Bool
command_fits (commands.Wake task) = is_short task
command_fits (commands.Sleep task) = is_short task
command_fits (commands.Exit task) = is_short task
command_fits (commands.SetMask task mask) = is_short task && is_mask mask
command_fits (commands.Nice task nice) = is_short task && is_nice_value nice
command_fits (commands.Tick cpu) = is_short cpu
command_fits (commands.Rebuild parts) = is_any parts && list_all is_mask parts

unfoldable pub decision_fits : Decision → Bool
decision_fits decisions.NotMine = true
decision_fits decisions.Balanced = true
decision_fits (decisions.Pull source kind imbalance) = is_short source && is_long imbalance

unfoldable pub what_fits : What → Bool
what_fits (whats.Row number at command) = is_long number && is_moment at && command_fits command
what_fits (whats.Adopt version kind cpu) = is_long version && is_short cpu
what_fits (whats.Look position excluded figures decision) =
    is_short position && is_mask excluded && are_figures figures && decision_fits decision
what_fits (whats.Scan figures target) = are_figures figures && is_target target
what_fits (whats.End unserved) = is_mask unserved
what_fits (whats.Did reply) = is_told reply
what_fits (whats.Out cause to ids) = is_short to && list_all is_short ids
what_fits (whats.Landed ids) = list_all is_short ids
what_fits (whats.Turn positions) = is_mask positions
what_fits whats.Shut = true
what_fits (whats.Close position outcome interval failures) = is_short position && is_long interval && is_short failures
what_fits (whats.Ask reply) = true
what_fits (whats.Kick reply) = true
what_fits whats.Over = true
what_fits (whats.Pub version) = is_long version

-- ---- an entry
-- whose it is, and the lane that drew it
unfoldable pub owner_fits : Owner → ℕ → Bool
owner_fits owners.Publisher lane = is_short lane
owner_fits (owners.Lane number) lane = is_short lane && number == lane
owner_fits (owners.Queue cpu) lane = is_short cpu && is_short lane

-- an entry at a ticket
unfoldable pub entry_fits : ℕ → Entry → Bool
entry_fits ticket entry = is_long ticket && owner_fits entry.owner entry.lane && is_long entry.prev && what_fits entry.what

-- entries one after the other, the first of them at this ticket
abbrev pub fit_from : ℕ → List Entry → Bool
fit_from ticket [] = true
fit_from ticket (entry ∷ entries) = entry_fits ticket entry && fit_from (ticket + 1) entries

-- the entries of a history, from ticket 1
abbrev pub entries_fit : List Entry → Bool
entries_fit entries = fit_from 1 entries
