-- Histories of commands: an empty one, tasks that wake at home and away, refusals, and a machine of
-- two nodes whose partition is rebuilt while two lanes are at work.
-- Cited by the contracts of `nothing_happens`, `woken_away`, `hand_brings_its_clock` and others; also by
-- `lb_journal_rows`.
use Rattle.std.specs.Prelude.{pos, negsuc, replicate, [], ◌∷◌, ◌++◌}
use Rattle.lb_base.specs.declared.shape.Kind.TheVariants.{Tick as TickTurn, Idle as IdleTurn}
use Rattle.lb_imbalance.specs.declared.decision.Decision.TheVariants.{Balanced}
use Rattle.lb_queue.specs.declared.answers.Reply.TheVariants.{Done, Already, Gone as GoneReply, BadMask}
use Rattle.lb_queue.specs.declared.answers.OutCause.TheVariants.{Wake as WakeOut}
use Rattle.lb_trace.specs.declared.trace.Command.TheVariants.{Wake, Sleep, Exit, SetMask, Nice, Tick, Rebuild}
use Rattle.lb_core.specs.declared.entry.What.TheVariants.{Row, Adopt, Look, End, Did, Out, Landed, Turn, Close, Over, Pub}
use Rattle.lb_core.specs.declared.entry.OutcomeWord.TheVariants.{Balanced as BalancedWord}
use Rattle.lb_core.specs.declared.history.History.{History}
use Rattle.lb_rows.specs.Lines.{cpus, task, one_cpu, two_cpus, four_cpus, by_lane, at_queue, by_publisher, figure_name}

-- a history without rows has its end alone
abbrev pub nothing_happens_history : History
nothing_happens_history = record {
  header = one_cpu 1 [];
  entries =
      by_lane 0 0 (End (cpus 0))
      ∷ [];
}

-- a task whose mask lacks its CPU wakes elsewhere
abbrev pub woken_away_history : History
woken_away_history = record {
  header = two_cpus 1 (replicate 1 (task (pos 0) 0 2));
  entries =
      by_lane 0 0 (Row 1 0 (Wake 0))
      ∷ at_queue 0 0 1 (Out WakeOut 1 (0 ∷ []))
      ∷ at_queue 1 0 2 (Landed (0 ∷ []))
      ∷ by_lane 0 3 (End (cpus 0))
      ∷ [];
}

-- a hand brings its source's clock, so that a position is due where no time has passed
abbrev pub hand_brings_its_clock_history : History
hand_brings_its_clock_history = record {
  header = two_cpus 1 (replicate 1 (task (pos 0) 1 1) ++ replicate 1 (task (pos 0) 1 2));
  entries =
      by_lane 0 0 (Row 1 5000000 (Wake 1))
      ∷ at_queue 1 0 1 (Did Done)
      ∷ by_lane 0 2 (Row 2 0 (Wake 0))
      ∷ at_queue 1 0 3 (Out WakeOut 0 (0 ∷ []))
      ∷ at_queue 0 0 4 (Landed (0 ∷ []))
      ∷ by_lane 0 5 (Row 3 0 (Sleep 0))
      ∷ at_queue 0 0 6 (Did Done)
      ∷ by_lane 0 7 (Adopt 1 IdleTurn 0)
      ∷ at_queue 0 0 8 (Turn (cpus 1))
      ∷ by_lane 0 9 (Look 0 (cpus 0) (figure_name 0 3 ∷ figure_name 1 2 ∷ []) Balanced)
      ∷ at_queue 0 0 10 (Close 0 BalancedWord 2 0)
      ∷ at_queue 0 0 11 Over
      ∷ by_lane 0 12 (Row 4 0 (Tick 0))
      ∷ at_queue 0 0 13 (Did Done)
      ∷ by_lane 0 14 (Adopt 1 TickTurn 0)
      ∷ at_queue 0 0 15 (Turn (cpus 1))
      ∷ by_lane 0 16 (Look 0 (cpus 0) (figure_name 0 7 ∷ figure_name 1 2 ∷ []) Balanced)
      ∷ at_queue 0 0 17 (Close 0 BalancedWord 4 0)
      ∷ at_queue 0 0 18 Over
      ∷ by_lane 0 19 (End (cpus 0))
      ∷ [];
}

-- bad masks, a task that is awake already, and one that is gone
abbrev pub commands_refused_history : History
commands_refused_history = record {
  header = two_cpus 1 (replicate 1 (task (pos 0) 0 1));
  entries =
      by_lane 0 0 (Row 1 0 (SetMask 0 (cpus 0)))
      ∷ at_queue 0 0 1 (Did BadMask)
      ∷ by_lane 0 2 (Row 2 0 (SetMask 0 (cpus 32)))
      ∷ at_queue 0 0 3 (Did BadMask)
      ∷ by_lane 0 4 (Row 3 0 (Wake 0))
      ∷ at_queue 0 0 5 (Did Done)
      ∷ by_lane 0 6 (Row 4 0 (Wake 0))
      ∷ at_queue 0 0 7 (Did Already)
      ∷ by_lane 0 8 (Row 5 0 (Exit 0))
      ∷ at_queue 0 0 9 (Did Done)
      ∷ by_lane 0 10 (Adopt 1 IdleTurn 0)
      ∷ at_queue 0 0 11 (Turn (cpus 1))
      ∷ by_lane 0 12 (Look 0 (cpus 0) (figure_name 0 6 ∷ figure_name 1 0 ∷ []) Balanced)
      ∷ at_queue 0 0 13 (Close 0 BalancedWord 2 0)
      ∷ at_queue 0 0 14 Over
      ∷ by_lane 0 15 (Row 6 0 (Sleep 0))
      ∷ at_queue 0 0 16 (Did GoneReply)
      ∷ by_lane 0 17 (End (cpus 0))
      ∷ [];
}

-- two lanes, two nodes, and a partition that is rebuilt twice
abbrev pub rebuilt_history : History
rebuilt_history = record {
  header = four_cpus 2 (replicate 1 (task (negsuc 4) 0 15) ++ replicate 1 (task (pos 0) 0 15) ++ replicate 1
      (task (pos 3) 0 15) ++ replicate 1 (task (pos 3) 0 3));
  entries =
      by_lane 0 0 (Row 1 0 (Wake 0))
      ∷ at_queue 0 0 1 (Did Done)
      ∷ by_lane 1 0 (Row 1 0 (Wake 1))
      ∷ at_queue 0 1 3 (Did Done)
      ∷ by_lane 0 2 (Row 2 5 (Wake 2))
      ∷ at_queue 0 0 5 (Did Done)
      ∷ by_lane 1 4 (Row 2 9 (Wake 3))
      ∷ at_queue 0 1 7 (Did Done)
      ∷ by_lane 1 8 (Row 3 10 (Rebuild ((cpus 7) ∷ (cpus 8) ∷ [])))
      ∷ by_publisher 1 9 (Pub 2)
      ∷ by_lane 0 6 (Row 3 4000000 (Tick 1))
      ∷ at_queue 1 0 11 (Did Done)
      ∷ by_lane 0 12 (Adopt 2 TickTurn 1)
      ∷ at_queue 1 0 13 (Turn (cpus 0))
      ∷ at_queue 1 0 14 Over
      ∷ by_lane 1 10 (Row 4 10 (Rebuild ((cpus 15) ∷ [])))
      ∷ by_publisher 1 16 (Pub 3)
      ∷ by_lane 0 15 (Row 4 5000000 (Nice 1 (pos 7)))
      ∷ at_queue 0 0 18 (Did Done)
      ∷ by_lane 1 17 (Row 5 90000000 (Tick 2))
      ∷ at_queue 2 1 20 (Did Done)
      ∷ by_lane 1 21 (Adopt 3 TickTurn 2)
      ∷ at_queue 2 1 22 (Turn (cpus 0))
      ∷ at_queue 2 1 23 Over
      ∷ by_lane 0 19 (Row 5 91000000 (Exit 2))
      ∷ at_queue 0 0 25 (Did Done)
      ∷ by_lane 1 24 (Row 6 91000000 (Sleep 3))
      ∷ at_queue 0 1 27 (Did Done)
      ∷ by_lane 1 28 (Row 7 91000000 (Sleep 0))
      ∷ at_queue 0 1 29 (Did Done)
      ∷ by_lane 1 30 (Row 8 91000000 (Sleep 1))
      ∷ at_queue 0 1 31 (Did Done)
      ∷ by_lane 1 32 (Adopt 3 IdleTurn 0)
      ∷ at_queue 0 1 33 (Turn (cpus 3))
      ∷ by_lane 1 34 (Look 0 (cpus 0) (figure_name 0 10 ∷ figure_name 1 3 ∷ []) Balanced)
      ∷ at_queue 0 1 35 (Close 0 BalancedWord 2 0)
      ∷ by_lane 1 36 (Look 1 (cpus 0) (figure_name 0 11 ∷ figure_name 1 3 ∷ figure_name 2 3 ∷ figure_name 3 0 ∷ []) Balanced)
      ∷ at_queue 0 1 37 (Close 1 BalancedWord 4 0)
      ∷ at_queue 0 1 38 Over
      ∷ by_lane 0 26 (End (cpus 0))
      ∷ [];
}
