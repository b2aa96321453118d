-- The words of decisions, of commands and of entries, each with its kind.
-- Cited by the contracts of `decision_in`, `decision_named`, `next_command` and others.
use Rattle.std.specs.Prelude.{ℕ, List, [], ◌∷◌, codes}
use Rattle.lb_read.specs.declared.kinds.WhatKind.{WhatKind}
use Rattle.lb_read.specs.declared.kinds.WhatKind.TheVariants as whats
use Rattle.lb_read.specs.declared.kinds.CommandKind.{CommandKind}
use Rattle.lb_read.specs.declared.kinds.CommandKind.TheVariants as commands
use Rattle.lb_read.specs.declared.kinds.DecisionKind.{DecisionKind}
use Rattle.lb_read.specs.declared.kinds.DecisionKind.TheVariants as decisions

abbrev pub decision_words : List (List ℕ × DecisionKind)
decision_words =
    (codes "notmine", decisions.NotMine) ∷ (codes "balanced", decisions.Balanced) ∷ (codes "pull", decisions.Pull) ∷ []

abbrev pub command_words : List (List ℕ × CommandKind)
command_words =
    (codes "wake", commands.Wake)
    ∷ (codes "sleep", commands.Sleep)
    ∷ (codes "exit", commands.Exit)
    ∷ (codes "mask", commands.SetMask)
    ∷ (codes "nice", commands.Nice)
    ∷ (codes "tick", commands.Tick)
    ∷ (codes "rebuild", commands.Rebuild)
    ∷ []

abbrev pub what_words : List (List ℕ × WhatKind)
what_words =
    (codes "row", whats.Row)
    ∷ (codes "use", whats.Adopt)
    ∷ (codes "look", whats.Look)
    ∷ (codes "scan", whats.Scan)
    ∷ (codes "end", whats.End)
    ∷ (codes "did", whats.Did)
    ∷ (codes "out", whats.Out)
    ∷ (codes "in", whats.Landed)
    ∷ (codes "turn", whats.Turn)
    ∷ (codes "shut", whats.Shut)
    ∷ (codes "close", whats.Close)
    ∷ (codes "ask", whats.Ask)
    ∷ (codes "kick", whats.Kick)
    ∷ (codes "over", whats.Over)
    ∷ (codes "pub", whats.Pub)
    ∷ []
