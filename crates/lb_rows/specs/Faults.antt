-- The smallest history that breaks each rule, and one worked history with a line left out, repeated
-- or changed.
-- Cited by the contracts of `wrong_previous`, `over_at_rest`, `pull_left_out` and others; also by `lb_journal_rows`.
use Rattle.std.specs.Prelude.{pos, replicate, [], ◌∷◌}
use Rattle.lb_base.specs.declared.shape.Kind.TheVariants.{Tick as TickTurn}
use Rattle.lb_base.specs.declared.view.MoveKind.TheVariants.{Tasks}
use Rattle.lb_imbalance.specs.declared.decision.Decision.TheVariants.{Balanced, Pull}
use Rattle.lb_queue.specs.declared.answers.Reply.TheVariants.{Done}
use Rattle.lb_queue.specs.declared.answers.OutCause.TheVariants.{Wake as WakeOut, Pull as PullOut}
use Rattle.lb_trace.specs.declared.trace.Command.TheVariants.{Wake, Sleep, SetMask, Tick}
use Rattle.lb_core.specs.declared.entry.What.TheVariants.{Row, Adopt, Look, End, Did, Out, Landed, Turn, Close, Over}
use Rattle.lb_core.specs.declared.entry.OutcomeWord.TheVariants.{Balanced as BalancedWord, Moved as MovedWord}
use Rattle.lb_core.specs.declared.history.History.{History}
use Rattle.lb_rows.specs.Lines.{cpus, task, one_cpu, two_cpus, by_lane, at_queue, figure_name}

-- the lane has no entry yet, and quotes ticket 1
abbrev pub wrong_previous_history : History
wrong_previous_history = record {
  header = one_cpu 1 (replicate 1 (task (pos 0) 0 1));
  entries =
      by_lane 0 1 (End (cpus 0))
      ∷ [];
}

-- no turn is open
abbrev pub over_at_rest_history : History
over_at_rest_history = record {
  header = one_cpu 1 (replicate 1 (task (pos 0) 0 1));
  entries =
      at_queue 0 0 0 Over
      ∷ [];
}

-- a look decides to pull, and its position is closed without a take
abbrev pub pull_left_out_history : History
pull_left_out_history = record {
  header = two_cpus 1 (replicate 3 (task (pos 0) 1 3));
  entries =
      by_lane 0 0 (Row 1 0 (Wake 0))
      ∷ at_queue 1 0 1 (Did Done)
      ∷ by_lane 0 2 (Row 2 0 (Wake 1))
      ∷ at_queue 1 0 3 (Did Done)
      ∷ by_lane 0 4 (Row 3 0 (Wake 2))
      ∷ at_queue 1 0 5 (Did Done)
      ∷ by_lane 0 6 (Row 4 2000000 (Tick 0))
      ∷ at_queue 0 0 7 (Did Done)
      ∷ by_lane 0 8 (Adopt 1 TickTurn 0)
      ∷ at_queue 0 0 9 (Turn (cpus 1))
      ∷ by_lane 0 10 (Look 0 (cpus 0) (figure_name 0 2 ∷ figure_name 1 3 ∷ []) (Pull 1 Tasks 1))
      ∷ at_queue 0 0 11 (Close 0 BalancedWord 4 0)
      ∷ [];
}

-- there is no lane 1
abbrev pub undeclared_lane_history : History
undeclared_lane_history = record {
  header = one_cpu 1 (replicate 1 (task (pos 0) 0 1));
  entries =
      by_lane 1 0 (End (cpus 0))
      ∷ [];
}

-- a lane that is not declared has no entry to quote
abbrev pub undeclared_lane_quotes_history : History
undeclared_lane_quotes_history = record {
  header = one_cpu 1 (replicate 1 (task (pos 0) 0 1));
  entries =
      by_lane 1 1 (End (cpus 0))
      ∷ [];
}

-- the first row is numbered 2
abbrev pub row_out_of_order_history : History
row_out_of_order_history = record {
  header = one_cpu 1 (replicate 1 (task (pos 0) 0 1));
  entries =
      by_lane 0 0 (Row 2 0 (Wake 0))
      ∷ [];
}

-- the task is at queue 0, and queue 1 answers
abbrev pub answer_elsewhere_history : History
answer_elsewhere_history = record {
  header = two_cpus 1 (replicate 1 (task (pos 0) 0 3));
  entries =
      by_lane 0 0 (Row 1 0 (Wake 0))
      ∷ at_queue 1 0 1 (Did Done)
      ∷ [];
}

-- the task is at queue 0, and leaves queue 1
abbrev pub wake_out_elsewhere_history : History
wake_out_elsewhere_history = record {
  header = two_cpus 1 (replicate 1 (task (pos 0) 0 2));
  entries =
      by_lane 0 0 (Row 1 0 (Wake 0))
      ∷ at_queue 1 0 1 (Out WakeOut 0 (0 ∷ []))
      ∷ [];
}

-- the task sleeps, and the queue says that it fell asleep
abbrev pub asleep_already_history : History
asleep_already_history = record {
  header = one_cpu 1 (replicate 1 (task (pos 0) 0 1));
  entries =
      by_lane 0 0 (Row 1 0 (Sleep 0))
      ∷ at_queue 0 0 1 (Did Done)
      ∷ [];
}

-- there is no version 2
abbrev pub unpublished_version_history : History
unpublished_version_history = record {
  header = one_cpu 1 (replicate 1 (task (pos 0) 0 1));
  entries =
      by_lane 0 0 (Row 1 0 (Tick 0))
      ∷ at_queue 0 0 1 (Did Done)
      ∷ by_lane 0 2 (Adopt 2 TickTurn 0)
      ∷ [];
}

-- queue 1 has drawn nothing, and its first figure is named
abbrev pub unpublished_figure_history : History
unpublished_figure_history = record {
  header = two_cpus 1 [];
  entries =
      by_lane 0 0 (Row 1 2000000 (Tick 0))
      ∷ at_queue 0 0 1 (Did Done)
      ∷ by_lane 0 2 (Adopt 1 TickTurn 0)
      ∷ at_queue 0 0 3 (Turn (cpus 1))
      ∷ by_lane 0 4 (Look 0 (cpus 0) (figure_name 0 2 ∷ figure_name 1 1 ∷ []) Balanced)
      ∷ [];
}

-- the lane drew two entries at queue 0, and names the first figure
abbrev pub figure_before_own_entry_history : History
figure_before_own_entry_history = record {
  header = two_cpus 1 [];
  entries =
      by_lane 0 0 (Row 1 2000000 (Tick 0))
      ∷ at_queue 0 0 1 (Did Done)
      ∷ by_lane 0 2 (Adopt 1 TickTurn 0)
      ∷ at_queue 0 0 3 (Turn (cpus 1))
      ∷ by_lane 0 4 (Look 0 (cpus 0) (figure_name 0 1 ∷ figure_name 1 0 ∷ []) Balanced)
      ∷ [];
}

-- no CPU has a task, and the look decides to pull
abbrev pub pull_from_nobody_history : History
pull_from_nobody_history = record {
  header = two_cpus 1 [];
  entries =
      by_lane 0 0 (Row 1 2000000 (Tick 0))
      ∷ at_queue 0 0 1 (Did Done)
      ∷ by_lane 0 2 (Adopt 1 TickTurn 0)
      ∷ at_queue 0 0 3 (Turn (cpus 1))
      ∷ by_lane 0 4 (Look 0 (cpus 0) (figure_name 0 2 ∷ figure_name 1 0 ∷ []) (Pull 1 Tasks 1))
      ∷ [];
}

-- the task may run on CPU 1, and is sent to CPU 0
abbrev pub woken_to_the_wrong_cpu_history : History
woken_to_the_wrong_cpu_history = record {
  header = two_cpus 1 (replicate 1 (task (pos 0) 0 2));
  entries =
      by_lane 0 0 (Row 1 0 (Wake 0))
      ∷ at_queue 0 0 1 (Out WakeOut 0 (0 ∷ []))
      ∷ [];
}

-- a task is in the hand, and none lands
abbrev pub hand_lands_empty_history : History
hand_lands_empty_history = record {
  header = two_cpus 1 (replicate 1 (task (pos 0) 0 2));
  entries =
      by_lane 0 0 (Row 1 0 (Wake 0))
      ∷ at_queue 0 0 1 (Out WakeOut 1 (0 ∷ []))
      ∷ at_queue 1 0 2 (Landed ([]))
      ∷ [];
}

-- position 0 is due, and the turn opens none
abbrev pub due_position_left_out_history : History
due_position_left_out_history = record {
  header = two_cpus 1 [];
  entries =
      by_lane 0 0 (Row 1 2000000 (Tick 0))
      ∷ at_queue 0 0 1 (Did Done)
      ∷ by_lane 0 2 (Adopt 1 TickTurn 0)
      ∷ at_queue 0 0 3 (Turn (cpus 0))
      ∷ [];
}

-- a stop request is pending at the end
abbrev pub end_with_a_stop_pending_history : History
end_with_a_stop_pending_history = record {
  header = two_cpus 1 (replicate 1 (task (pos 0) 1 3));
  entries =
      by_lane 0 0 (Row 1 0 (Wake 0))
      ∷ at_queue 1 0 1 (Did Done)
      ∷ by_lane 0 2 (Row 2 0 (SetMask 0 (cpus 1)))
      ∷ at_queue 1 0 3 (Did Done)
      ∷ by_lane 0 4 (End (cpus 0))
      ∷ [];
}

-- nobody asked for a push
abbrev pub end_names_a_request_history : History
end_names_a_request_history = record {
  header = one_cpu 1 (replicate 1 (task (pos 0) 0 1));
  entries =
      by_lane 0 0 (End (cpus 1))
      ∷ [];
}

-- the end is missing
abbrev pub no_end_history : History
no_end_history = record {
  header = one_cpu 1 (replicate 1 (task (pos 0) 0 1));
  entries =
      [];
}

-- one task moves, but its landing is left out
abbrev pub landing_left_out_history : History
landing_left_out_history = record {
  header = two_cpus 1 (replicate 3 (task (pos 0) 1 3));
  entries =
      by_lane 0 0 (Row 1 0 (Wake 0))
      ∷ at_queue 1 0 1 (Did Done)
      ∷ by_lane 0 2 (Row 2 0 (Wake 1))
      ∷ at_queue 1 0 3 (Did Done)
      ∷ by_lane 0 4 (Row 3 0 (Wake 2))
      ∷ at_queue 1 0 5 (Did Done)
      ∷ by_lane 0 6 (Row 4 2000000 (Tick 0))
      ∷ at_queue 0 0 7 (Did Done)
      ∷ by_lane 0 8 (Adopt 1 TickTurn 0)
      ∷ at_queue 0 0 9 (Turn (cpus 1))
      ∷ by_lane 0 10 (Look 0 (cpus 0) (figure_name 0 2 ∷ figure_name 1 3 ∷ []) (Pull 1 Tasks 1))
      ∷ at_queue 1 0 11 (Out PullOut 0 (1 ∷ []))
      ∷ at_queue 0 0 12 (Close 0 MovedWord 2 0)
      ∷ at_queue 0 0 13 Over
      ∷ by_lane 0 14 (End (cpus 0))
      ∷ [];
}

-- one task moves, and lands twice
abbrev pub landing_repeated_history : History
landing_repeated_history = record {
  header = two_cpus 1 (replicate 3 (task (pos 0) 1 3));
  entries =
      by_lane 0 0 (Row 1 0 (Wake 0))
      ∷ at_queue 1 0 1 (Did Done)
      ∷ by_lane 0 2 (Row 2 0 (Wake 1))
      ∷ at_queue 1 0 3 (Did Done)
      ∷ by_lane 0 4 (Row 3 0 (Wake 2))
      ∷ at_queue 1 0 5 (Did Done)
      ∷ by_lane 0 6 (Row 4 2000000 (Tick 0))
      ∷ at_queue 0 0 7 (Did Done)
      ∷ by_lane 0 8 (Adopt 1 TickTurn 0)
      ∷ at_queue 0 0 9 (Turn (cpus 1))
      ∷ by_lane 0 10 (Look 0 (cpus 0) (figure_name 0 2 ∷ figure_name 1 3 ∷ []) (Pull 1 Tasks 1))
      ∷ at_queue 1 0 11 (Out PullOut 0 (1 ∷ []))
      ∷ at_queue 0 0 12 (Landed (1 ∷ []))
      ∷ at_queue 0 0 13 (Landed (1 ∷ []))
      ∷ at_queue 0 0 14 (Close 0 MovedWord 2 0)
      ∷ at_queue 0 0 15 Over
      ∷ by_lane 0 16 (End (cpus 0))
      ∷ [];
}

-- one task moves, and the look names a figure that queue 1 has not published
abbrev pub figure_invented_history : History
figure_invented_history = record {
  header = two_cpus 1 (replicate 3 (task (pos 0) 1 3));
  entries =
      by_lane 0 0 (Row 1 0 (Wake 0))
      ∷ at_queue 1 0 1 (Did Done)
      ∷ by_lane 0 2 (Row 2 0 (Wake 1))
      ∷ at_queue 1 0 3 (Did Done)
      ∷ by_lane 0 4 (Row 3 0 (Wake 2))
      ∷ at_queue 1 0 5 (Did Done)
      ∷ by_lane 0 6 (Row 4 2000000 (Tick 0))
      ∷ at_queue 0 0 7 (Did Done)
      ∷ by_lane 0 8 (Adopt 1 TickTurn 0)
      ∷ at_queue 0 0 9 (Turn (cpus 1))
      ∷ by_lane 0 10 (Look 0 (cpus 0) (figure_name 0 2 ∷ figure_name 1 9 ∷ []) (Pull 1 Tasks 1))
      ∷ at_queue 1 0 11 (Out PullOut 0 (1 ∷ []))
      ∷ at_queue 0 0 12 (Landed (1 ∷ []))
      ∷ at_queue 0 0 13 (Close 0 MovedWord 2 0)
      ∷ at_queue 0 0 14 Over
      ∷ by_lane 0 15 (End (cpus 0))
      ∷ [];
}

-- one task moves, and another one lands
abbrev pub another_task_lands_history : History
another_task_lands_history = record {
  header = two_cpus 1 (replicate 3 (task (pos 0) 1 3));
  entries =
      by_lane 0 0 (Row 1 0 (Wake 0))
      ∷ at_queue 1 0 1 (Did Done)
      ∷ by_lane 0 2 (Row 2 0 (Wake 1))
      ∷ at_queue 1 0 3 (Did Done)
      ∷ by_lane 0 4 (Row 3 0 (Wake 2))
      ∷ at_queue 1 0 5 (Did Done)
      ∷ by_lane 0 6 (Row 4 2000000 (Tick 0))
      ∷ at_queue 0 0 7 (Did Done)
      ∷ by_lane 0 8 (Adopt 1 TickTurn 0)
      ∷ at_queue 0 0 9 (Turn (cpus 1))
      ∷ by_lane 0 10 (Look 0 (cpus 0) (figure_name 0 2 ∷ figure_name 1 3 ∷ []) (Pull 1 Tasks 1))
      ∷ at_queue 1 0 11 (Out PullOut 0 (1 ∷ []))
      ∷ at_queue 0 0 12 (Landed (2 ∷ []))
      ∷ at_queue 0 0 13 (Close 0 MovedWord 2 0)
      ∷ at_queue 0 0 14 Over
      ∷ by_lane 0 15 (End (cpus 0))
      ∷ [];
}
