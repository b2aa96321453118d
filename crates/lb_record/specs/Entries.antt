-- The line of an entry: its ticket, its owner, the ticket of the lane's entry before it, its kind,
-- and the fields of that kind, with a space between each two.
-- Cited by the contracts of `put_entry`, `put_owner`, `put_command` and others; also by `lb_read`.
use Rattle.std.specs.Prelude.{ℕ, List, [], ◌∷◌, ◌++◌, map, codes, decimal}
use Rattle.std.specs.Fmt.{signed_decimal}
use Rattle.lb_text.specs.declared.marks.TheConstants.{SPACE}
use Rattle.lb_text.specs.Runs.{list_text}
use Rattle.lb_imbalance.specs.declared.decision.Decision.{Decision}
use Rattle.lb_imbalance.specs.declared.decision.Decision.TheVariants as decisions
use Rattle.lb_trace.specs.declared.trace.Command.{Command}
use Rattle.lb_trace.specs.declared.trace.Command.TheVariants as commands
use Rattle.lb_core.specs.declared.entry.Owner.{Owner}
use Rattle.lb_core.specs.declared.entry.Owner.TheVariants as owners
use Rattle.lb_core.specs.declared.entry.What.{What}
use Rattle.lb_core.specs.declared.entry.What.TheVariants as whats
use Rattle.lb_core.specs.declared.entry.Entry.{Entry}
use Rattle.lb_text.specs.Lines.{joined}
use Rattle.lb_record.specs.Words.{turn_word, move_word, reply_word, request_word, cause_word, outcome_word}
use Rattle.lb_record.specs.Fields.{ids_text, figures_text, target_text}

-- whose the entry is, and the lane that drew it
unfoldable pub owner_text : Owner → ℕ → List ℕ
owner_text owners.Publisher lane = codes "P@" ++ decimal lane
owner_text (owners.Lane number) lane = codes "L" ++ decimal number
owner_text (owners.Queue cpu) lane = codes "Q" ++ (decimal cpu ++ (codes "@" ++ decimal lane))

-- what a row asks for, and its moment
unfoldable pub command_fields : Command → ℕ → List (List ℕ)
command_fields (commands.Wake task) at = codes "wake" ∷ decimal task ∷ decimal at ∷ []
command_fields (commands.Sleep task) at = codes "sleep" ∷ decimal task ∷ decimal at ∷ []
command_fields (commands.Exit task) at = codes "exit" ∷ decimal task ∷ decimal at ∷ []
command_fields (commands.SetMask task mask) at = codes "mask" ∷ decimal task ∷ decimal at ∷ list_text mask ∷ []
command_fields (commands.Nice task nice) at = codes "nice" ∷ decimal task ∷ decimal at ∷ signed_decimal nice ∷ []
command_fields (commands.Tick cpu) at = codes "tick" ∷ decimal cpu ∷ decimal at ∷ []
command_fields (commands.Rebuild parts) at = codes "rebuild" ∷ decimal at ∷ map list_text parts

unfoldable pub decision_fields : Decision → List (List ℕ)
decision_fields decisions.NotMine = codes "notmine" ∷ []
decision_fields decisions.Balanced = codes "balanced" ∷ []
decision_fields (decisions.Pull source kind imbalance) = codes "pull" ∷ decimal source ∷ move_word kind ∷ decimal imbalance ∷ []

-- the kind of an entry and its fields
unfoldable pub what_fields : What → List (List ℕ)
what_fields (whats.Row number at command) = codes "row" ∷ decimal number ∷ command_fields command at
what_fields (whats.Adopt version kind cpu) = codes "use" ∷ decimal version ∷ turn_word kind ∷ decimal cpu ∷ []
what_fields (whats.Look position excluded figures decision) =
    codes "look" ∷ decimal position ∷ list_text excluded ∷ figures_text figures ∷ decision_fields decision
what_fields (whats.Scan figures target) = codes "scan" ∷ figures_text figures ∷ target_text target ∷ []
what_fields (whats.End unserved) = codes "end" ∷ list_text unserved ∷ []
what_fields (whats.Did reply) = codes "did" ∷ reply_word reply ∷ []
what_fields (whats.Out cause to ids) = codes "out" ∷ cause_word cause ∷ decimal to ∷ ids_text ids ∷ []
what_fields (whats.Landed ids) = codes "in" ∷ ids_text ids ∷ []
what_fields (whats.Turn positions) = codes "turn" ∷ list_text positions ∷ []
what_fields whats.Shut = codes "shut" ∷ []
what_fields (whats.Close position outcome interval failures) =
    codes "close" ∷ decimal position ∷ outcome_word outcome ∷ decimal interval ∷ decimal failures ∷ []
what_fields (whats.Ask reply) = codes "ask" ∷ request_word reply ∷ []
what_fields (whats.Kick reply) = codes "kick" ∷ request_word reply ∷ []
what_fields whats.Over = codes "over" ∷ []
what_fields (whats.Pub version) = codes "pub" ∷ decimal version ∷ []

-- all fields of the entry of a ticket
abbrev pub entry_fields : ℕ → Entry → List (List ℕ)
entry_fields ticket entry = decimal ticket ∷ owner_text entry.owner entry.lane ∷ decimal entry.prev ∷ what_fields entry.what

-- its line
unfoldable pub entry_line : ℕ → Entry → List ℕ
entry_line ticket entry = joined SPACE (entry_fields ticket entry)
