-- Histories of two lanes whose entries are mixed, legal ones and ones that break a rule.
-- Cited by the contracts of `commands_round_a_hand`, `command_finds_a_hand`, `second_turn_is_shut` and others; also
-- by `lb_journal_rows`.
use Rattle.std.specs.Prelude.{pos, None, replicate, [], ◌∷◌, ◌++◌}
use Rattle.lb_base.specs.declared.shape.Kind.TheVariants.{Tick as TickTurn, Idle as IdleTurn}
use Rattle.lb_base.specs.declared.view.MoveKind.TheVariants.{Tasks}
use Rattle.lb_imbalance.specs.declared.decision.Decision.TheVariants.{Balanced, Pull}
use Rattle.lb_queue.specs.declared.answers.Reply.TheVariants.{Done}
use Rattle.lb_queue.specs.declared.answers.AskReply.TheVariants.{New}
use Rattle.lb_queue.specs.declared.answers.OutCause.TheVariants.{Stop as StopOut, Pull as PullOut, Push as PushOut}
use Rattle.lb_trace.specs.declared.trace.Command.TheVariants.{Wake, Sleep, SetMask, Nice, Tick, Rebuild}
use Rattle.lb_core.specs.declared.entry.What.TheVariants.{Row, Adopt, Look, Scan, End, Did, Out, Landed, Turn, Shut, Close, Ask, Over, Pub}
use Rattle.lb_core.specs.declared.entry.OutcomeWord.TheVariants.{Balanced as BalancedWord, Moved as MovedWord, Failed as FailedWord, Asking as AskingWord}
use Rattle.lb_core.specs.declared.history.History.{History}
use Rattle.lb_rows.specs.Lines.{cpus, task, two_cpus, by_lane, at_queue, by_publisher, figure_name}

-- while a task is in lane 0's hand, lane 1 renices another one at its queue; after the landing it
-- sets the task's mask at its new queue
abbrev pub commands_round_a_hand_history : History
commands_round_a_hand_history = record {
  header = two_cpus 2 (replicate 3 (task (pos 0) 1 3));
  entries =
      by_lane 0 0 (Row 1 0 (Wake 0))
      ∷ at_queue 1 0 1 (Did Done)
      ∷ by_lane 0 2 (Row 2 0 (Wake 1))
      ∷ at_queue 1 0 3 (Did Done)
      ∷ by_lane 0 4 (Row 3 0 (Wake 2))
      ∷ at_queue 1 0 5 (Did Done)
      ∷ by_lane 0 6 (Row 4 2000000 (Tick 0))
      ∷ at_queue 0 0 7 (Did Done)
      ∷ by_lane 0 8 (Adopt 1 TickTurn 0)
      ∷ at_queue 0 0 9 (Turn (cpus 1))
      ∷ by_lane 0 10 (Look 0 (cpus 0) (figure_name 0 2 ∷ figure_name 1 3 ∷ []) (Pull 1 Tasks 1))
      ∷ at_queue 1 0 11 (Out PullOut 0 (1 ∷ []))
      ∷ by_lane 1 0 (Row 1 0 (Nice 0 (pos 5)))
      ∷ at_queue 1 1 13 (Did Done)
      ∷ at_queue 0 0 12 (Landed (1 ∷ []))
      ∷ by_lane 1 14 (Row 2 0 (SetMask 1 (cpus 3)))
      ∷ at_queue 0 1 16 (Did Done)
      ∷ at_queue 0 0 15 (Close 0 MovedWord 2 0)
      ∷ at_queue 0 0 18 Over
      ∷ by_lane 0 19 (End (cpus 0))
      ∷ [];
}

-- lane 1's command is answered by the queue that the task has just left
abbrev pub command_finds_a_hand_history : History
command_finds_a_hand_history = record {
  header = two_cpus 2 (replicate 3 (task (pos 0) 1 3));
  entries =
      by_lane 0 0 (Row 1 0 (Wake 0))
      ∷ at_queue 1 0 1 (Did Done)
      ∷ by_lane 0 2 (Row 2 0 (Wake 1))
      ∷ at_queue 1 0 3 (Did Done)
      ∷ by_lane 0 4 (Row 3 0 (Wake 2))
      ∷ at_queue 1 0 5 (Did Done)
      ∷ by_lane 0 6 (Row 4 2000000 (Tick 0))
      ∷ at_queue 0 0 7 (Did Done)
      ∷ by_lane 0 8 (Adopt 1 TickTurn 0)
      ∷ at_queue 0 0 9 (Turn (cpus 1))
      ∷ by_lane 0 10 (Look 0 (cpus 0) (figure_name 0 2 ∷ figure_name 1 3 ∷ []) (Pull 1 Tasks 1))
      ∷ at_queue 1 0 11 (Out PullOut 0 (1 ∷ []))
      ∷ by_lane 1 0 (Row 1 0 (Nice 1 (pos 5)))
      ∷ at_queue 1 1 13 (Did Done)
      ∷ [];
}

-- lane 1 makes CPU 0 idle while lane 0's turn is open there: its own turn is shut
abbrev pub second_turn_is_shut_history : History
second_turn_is_shut_history = record {
  header = two_cpus 2 (replicate 1 (task (pos 0) 0 3));
  entries =
      by_lane 1 0 (Row 1 0 (Wake 0))
      ∷ at_queue 0 1 1 (Did Done)
      ∷ by_lane 0 0 (Row 1 2000000 (Tick 0))
      ∷ at_queue 0 0 3 (Did Done)
      ∷ by_lane 0 4 (Adopt 1 TickTurn 0)
      ∷ at_queue 0 0 5 (Turn (cpus 0))
      ∷ by_lane 1 2 (Row 2 2000000 (Sleep 0))
      ∷ at_queue 0 1 7 (Did Done)
      ∷ by_lane 1 8 (Adopt 1 IdleTurn 0)
      ∷ at_queue 0 1 9 Shut
      ∷ at_queue 0 0 6 Over
      ∷ by_lane 0 11 (End (cpus 0))
      ∷ [];
}

-- the same, but the second turn opens
abbrev pub second_turn_opens_history : History
second_turn_opens_history = record {
  header = two_cpus 2 (replicate 1 (task (pos 0) 0 3));
  entries =
      by_lane 1 0 (Row 1 0 (Wake 0))
      ∷ at_queue 0 1 1 (Did Done)
      ∷ by_lane 0 0 (Row 1 2000000 (Tick 0))
      ∷ at_queue 0 0 3 (Did Done)
      ∷ by_lane 0 4 (Adopt 1 TickTurn 0)
      ∷ at_queue 0 0 5 (Turn (cpus 0))
      ∷ by_lane 1 2 (Row 2 2000000 (Sleep 0))
      ∷ at_queue 0 1 7 (Did Done)
      ∷ by_lane 1 8 (Adopt 1 IdleTurn 0)
      ∷ at_queue 0 1 9 (Turn (cpus 0))
      ∷ [];
}

-- a CPU is ticked by one lane alone
abbrev pub two_lanes_tick_a_cpu_history : History
two_lanes_tick_a_cpu_history = record {
  header = two_cpus 2 [];
  entries =
      by_lane 0 0 (Row 1 0 (Tick 0))
      ∷ by_lane 1 0 (Row 1 0 (Tick 0))
      ∷ [];
}

-- lane 0 looks at queue 1's opening figure, though lane 1 has woken two tasks there
abbrev pub old_figures_serve_history : History
old_figures_serve_history = record {
  header = two_cpus 2 (replicate 2 (task (pos 0) 1 3));
  entries =
      by_lane 1 0 (Row 1 0 (Wake 0))
      ∷ at_queue 1 1 1 (Did Done)
      ∷ by_lane 1 2 (Row 2 0 (Wake 1))
      ∷ at_queue 1 1 3 (Did Done)
      ∷ by_lane 0 0 (Row 1 2000000 (Tick 0))
      ∷ at_queue 0 0 5 (Did Done)
      ∷ by_lane 0 6 (Adopt 1 TickTurn 0)
      ∷ at_queue 0 0 7 (Turn (cpus 1))
      ∷ by_lane 0 8 (Look 0 (cpus 0) (figure_name 0 2 ∷ figure_name 1 0 ∷ []) Balanced)
      ∷ at_queue 0 0 9 (Close 0 BalancedWord 4 0)
      ∷ at_queue 0 0 10 Over
      ∷ by_lane 0 11 (End (cpus 0))
      ∷ [];
}

-- the same look with what the newest figures would decide
abbrev pub new_decision_over_old_figures_history : History
new_decision_over_old_figures_history = record {
  header = two_cpus 2 (replicate 2 (task (pos 0) 1 3));
  entries =
      by_lane 1 0 (Row 1 0 (Wake 0))
      ∷ at_queue 1 1 1 (Did Done)
      ∷ by_lane 1 2 (Row 2 0 (Wake 1))
      ∷ at_queue 1 1 3 (Did Done)
      ∷ by_lane 0 0 (Row 1 2000000 (Tick 0))
      ∷ at_queue 0 0 5 (Did Done)
      ∷ by_lane 0 6 (Adopt 1 TickTurn 0)
      ∷ at_queue 0 0 7 (Turn (cpus 1))
      ∷ by_lane 0 8 (Look 0 (cpus 0) (figure_name 0 2 ∷ figure_name 1 0 ∷ []) (Pull 1 Tasks 1))
      ∷ [];
}

-- lane 0 takes up version 1 after lane 1 has published version 2
abbrev pub old_version_serves_history : History
old_version_serves_history = record {
  header = two_cpus 2 [];
  entries =
      by_lane 1 0 (Row 1 0 (Rebuild ((cpus 1) ∷ (cpus 2) ∷ [])))
      ∷ by_publisher 1 1 (Pub 2)
      ∷ by_lane 0 0 (Row 1 2000000 (Tick 0))
      ∷ at_queue 0 0 3 (Did Done)
      ∷ by_lane 0 4 (Adopt 1 TickTurn 0)
      ∷ at_queue 0 0 5 (Turn (cpus 1))
      ∷ by_lane 0 6 (Look 0 (cpus 0) (figure_name 0 2 ∷ figure_name 1 0 ∷ []) Balanced)
      ∷ at_queue 0 0 7 (Close 0 BalancedWord 4 0)
      ∷ at_queue 0 0 8 Over
      ∷ by_lane 0 9 (End (cpus 0))
      ∷ [];
}

-- lane 1 itself may not go back behind the version that it published
abbrev pub version_goes_back_history : History
version_goes_back_history = record {
  header = two_cpus 2 [];
  entries =
      by_lane 1 0 (Row 1 0 (Rebuild ((cpus 1) ∷ (cpus 2) ∷ [])))
      ∷ by_publisher 1 1 (Pub 2)
      ∷ by_lane 1 2 (Row 2 2000000 (Tick 0))
      ∷ at_queue 0 1 3 (Did Done)
      ∷ by_lane 1 4 (Adopt 1 TickTurn 0)
      ∷ [];
}

-- lane 0 serves a stop at rest while lane 1 is not at rest
abbrev pub closing_before_all_rest_history : History
closing_before_all_rest_history = record {
  header = two_cpus 2 (replicate 1 (task (pos 0) 1 3));
  entries =
      by_lane 0 0 (Row 1 0 (Wake 0))
      ∷ at_queue 1 0 1 (Did Done)
      ∷ by_lane 0 2 (Row 2 0 (SetMask 0 (cpus 1)))
      ∷ at_queue 1 0 3 (Did Done)
      ∷ by_lane 1 0 (Row 1 0 (Nice 0 (pos 3)))
      ∷ at_queue 1 0 4 (Out StopOut 0 (0 ∷ []))
      ∷ [];
}

-- once a stop was served at rest, no row comes
abbrev pub row_after_the_closing_history : History
row_after_the_closing_history = record {
  header = two_cpus 2 (replicate 1 (task (pos 0) 1 3));
  entries =
      by_lane 0 0 (Row 1 0 (Wake 0))
      ∷ at_queue 1 0 1 (Did Done)
      ∷ by_lane 0 2 (Row 2 0 (SetMask 0 (cpus 1)))
      ∷ at_queue 1 0 3 (Did Done)
      ∷ at_queue 1 0 4 (Out StopOut 0 (0 ∷ []))
      ∷ at_queue 0 0 5 (Landed (0 ∷ []))
      ∷ by_lane 1 0 (Row 1 0 (Nice 0 (pos 3)))
      ∷ [];
}

-- after the end no row comes
abbrev pub row_after_the_end_history : History
row_after_the_end_history = record {
  header = two_cpus 2 (replicate 1 (task (pos 0) 1 3));
  entries =
      by_lane 0 0 (End (cpus 0))
      ∷ by_lane 1 0 (Row 1 0 (Nice 0 (pos 3)))
      ∷ [];
}

-- lane 0's tick has made its push. Before its turn lane 1 asks for another, which waits for the
-- next tick
abbrev pub second_request_waits_history : History
second_request_waits_history = record {
  header = two_cpus 2 (replicate 1 (task (pos 0) 1 3) ++ replicate 1 (task (pos 0) 1 2));
  entries =
      by_lane 1 0 (Row 1 0 (Wake 0))
      ∷ at_queue 1 1 1 (Did Done)
      ∷ by_lane 1 2 (Row 2 0 (Wake 1))
      ∷ at_queue 1 1 3 (Did Done)
      ∷ by_lane 1 4 (Row 3 2000000 (Tick 0))
      ∷ at_queue 0 1 5 (Did Done)
      ∷ by_lane 1 6 (Adopt 1 TickTurn 0)
      ∷ at_queue 0 1 7 (Turn (cpus 1))
      ∷ by_lane 1 8 (Look 0 (cpus 0) (figure_name 0 2 ∷ figure_name 1 2 ∷ []) (Pull 1 Tasks 1))
      ∷ at_queue 1 1 9 (Out PullOut 0 ([]))
      ∷ at_queue 0 1 10 (Landed ([]))
      ∷ at_queue 0 1 11 (Close 0 FailedWord 2 1)
      ∷ at_queue 0 1 12 Over
      ∷ by_lane 1 13 (Row 4 4000000 (Tick 0))
      ∷ at_queue 0 1 14 (Did Done)
      ∷ by_lane 1 15 (Adopt 1 TickTurn 0)
      ∷ at_queue 0 1 16 (Turn (cpus 1))
      ∷ by_lane 1 17 (Look 0 (cpus 0) (figure_name 0 7 ∷ figure_name 1 3 ∷ []) (Pull 1 Tasks 1))
      ∷ at_queue 1 1 18 (Out PullOut 0 ([]))
      ∷ at_queue 0 1 19 (Landed ([]))
      ∷ at_queue 0 1 20 (Close 0 FailedWord 2 2)
      ∷ at_queue 0 1 21 Over
      ∷ by_lane 1 22 (Row 5 6000000 (Tick 0))
      ∷ at_queue 0 1 23 (Did Done)
      ∷ by_lane 1 24 (Adopt 1 TickTurn 0)
      ∷ at_queue 0 1 25 (Turn (cpus 1))
      ∷ by_lane 1 26 (Look 0 (cpus 0) (figure_name 0 12 ∷ figure_name 1 4 ∷ []) (Pull 1 Tasks 1))
      ∷ at_queue 1 1 27 (Out PullOut 0 ([]))
      ∷ at_queue 0 1 28 (Landed ([]))
      ∷ at_queue 0 1 29 (Close 0 FailedWord 2 3)
      ∷ at_queue 0 1 30 Over
      ∷ by_lane 1 31 (Row 6 8000000 (Tick 0))
      ∷ at_queue 0 1 32 (Did Done)
      ∷ by_lane 1 33 (Adopt 1 TickTurn 0)
      ∷ at_queue 0 1 34 (Turn (cpus 1))
      ∷ by_lane 1 35 (Look 0 (cpus 0) (figure_name 0 17 ∷ figure_name 1 5 ∷ []) (Pull 1 Tasks 1))
      ∷ at_queue 1 1 36 (Out PullOut 0 ([]))
      ∷ at_queue 0 1 37 (Landed ([]))
      ∷ at_queue 0 1 38 (Close 0 AskingWord 2 2)
      ∷ at_queue 1 1 39 (Ask New)
      ∷ at_queue 0 1 40 Over
      ∷ by_lane 1 41 (Row 7 10000000 (Tick 0))
      ∷ at_queue 0 1 42 (Did Done)
      ∷ by_lane 1 43 (Adopt 1 TickTurn 0)
      ∷ at_queue 0 1 44 (Turn (cpus 1))
      ∷ by_lane 1 45 (Look 0 (cpus 0) (figure_name 0 22 ∷ figure_name 1 7 ∷ []) (Pull 1 Tasks 1))
      ∷ at_queue 1 1 46 (Out PullOut 0 ([]))
      ∷ at_queue 0 1 47 (Landed ([]))
      ∷ at_queue 0 1 48 (Close 0 FailedWord 2 3)
      ∷ at_queue 0 1 49 Over
      ∷ by_lane 1 50 (Row 8 12000000 (Tick 0))
      ∷ at_queue 0 1 51 (Did Done)
      ∷ by_lane 1 52 (Adopt 1 TickTurn 0)
      ∷ at_queue 0 1 53 (Turn (cpus 1))
      ∷ by_lane 1 54 (Look 0 (cpus 0) (figure_name 0 27 ∷ figure_name 1 8 ∷ []) (Pull 1 Tasks 1))
      ∷ at_queue 1 1 55 (Out PullOut 0 ([]))
      ∷ at_queue 0 1 56 (Landed ([]))
      ∷ at_queue 0 1 57 (Close 0 AskingWord 2 2)
      ∷ by_lane 0 0 (Row 1 13000000 (Tick 1))
      ∷ at_queue 1 0 59 (Did Done)
      ∷ at_queue 1 0 60 (Out PushOut 0 (0 ∷ []))
      ∷ at_queue 0 0 61 (Landed (0 ∷ []))
      ∷ at_queue 1 1 58 (Ask New)
      ∷ at_queue 0 1 63 Over
      ∷ by_lane 0 62 (Adopt 1 TickTurn 1)
      ∷ at_queue 1 0 65 (Turn (cpus 0))
      ∷ at_queue 1 0 66 Over
      ∷ by_lane 0 67 (Scan (figure_name 0 31 ∷ figure_name 1 14 ∷ []) None)
      ∷ by_lane 0 68 (End (cpus 2))
      ∷ [];
}
