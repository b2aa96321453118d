-- Histories of turns: a task is pulled at a tick, by a CPU that becomes idle and by a kicked one;
-- nothing is to move; and affinity hinders the pull.
-- Cited by the contracts of `one_task_moves`, `one_task_stays`, `newly_idle` and others; also by `lb_journal_rows`.
use Rattle.std.specs.Prelude.{pos, Some, replicate, [], ◌∷◌, ◌++◌}
use Rattle.lb_base.specs.declared.shape.Kind.TheVariants.{Tick as TickTurn, Idle as IdleTurn, Nohz as NohzTurn}
use Rattle.lb_base.specs.declared.view.MoveKind.TheVariants.{Tasks}
use Rattle.lb_imbalance.specs.declared.decision.Decision.TheVariants.{Balanced, Pull}
use Rattle.lb_queue.specs.declared.answers.Reply.TheVariants.{Done}
use Rattle.lb_queue.specs.declared.answers.AskReply.TheVariants.{New}
use Rattle.lb_queue.specs.declared.answers.OutCause.TheVariants.{Pull as PullOut}
use Rattle.lb_trace.specs.declared.trace.Command.TheVariants.{Wake, Sleep, Tick}
use Rattle.lb_core.specs.declared.entry.What.TheVariants.{Row, Adopt, Look, Scan, End, Did, Out, Landed, Turn, Close, Kick, Over}
use Rattle.lb_core.specs.declared.entry.OutcomeWord.TheVariants.{Balanced as BalancedWord, Moved as MovedWord, Pinned as PinnedWord}
use Rattle.lb_core.specs.declared.history.History.{History}
use Rattle.lb_rows.specs.Lines.{cpus, task, two_cpus, three_cpus, by_lane, at_queue, figure_name}

-- at a tick an idle CPU pulls one of three tasks
abbrev pub one_task_moves_history : History
one_task_moves_history = record {
  header = two_cpus 1 (replicate 3 (task (pos 0) 1 3));
  entries =
      by_lane 0 0 (Row 1 0 (Wake 0))
      ∷ at_queue 1 0 1 (Did Done)
      ∷ by_lane 0 2 (Row 2 0 (Wake 1))
      ∷ at_queue 1 0 3 (Did Done)
      ∷ by_lane 0 4 (Row 3 0 (Wake 2))
      ∷ at_queue 1 0 5 (Did Done)
      ∷ by_lane 0 6 (Row 4 2000000 (Tick 0))
      ∷ at_queue 0 0 7 (Did Done)
      ∷ by_lane 0 8 (Adopt 1 TickTurn 0)
      ∷ at_queue 0 0 9 (Turn (cpus 1))
      ∷ by_lane 0 10 (Look 0 (cpus 0) (figure_name 0 2 ∷ figure_name 1 3 ∷ []) (Pull 1 Tasks 1))
      ∷ at_queue 1 0 11 (Out PullOut 0 (1 ∷ []))
      ∷ at_queue 0 0 12 (Landed (1 ∷ []))
      ∷ at_queue 0 0 13 (Close 0 MovedWord 2 0)
      ∷ at_queue 0 0 14 Over
      ∷ by_lane 0 15 (End (cpus 0))
      ∷ [];
}

-- a single task is not pulled
abbrev pub one_task_stays_history : History
one_task_stays_history = record {
  header = two_cpus 1 (replicate 1 (task (pos 0) 1 3));
  entries =
      by_lane 0 0 (Row 1 0 (Wake 0))
      ∷ at_queue 1 0 1 (Did Done)
      ∷ by_lane 0 2 (Row 2 2000000 (Tick 0))
      ∷ at_queue 0 0 3 (Did Done)
      ∷ by_lane 0 4 (Adopt 1 TickTurn 0)
      ∷ at_queue 0 0 5 (Turn (cpus 1))
      ∷ by_lane 0 6 (Look 0 (cpus 0) (figure_name 0 2 ∷ figure_name 1 1 ∷ []) Balanced)
      ∷ at_queue 0 0 7 (Close 0 BalancedWord 4 0)
      ∷ at_queue 0 0 8 Over
      ∷ by_lane 0 9 (End (cpus 0))
      ∷ [];
}

-- a CPU that becomes idle pulls a task
abbrev pub newly_idle_history : History
newly_idle_history = record {
  header = two_cpus 1 (replicate 1 (task (pos 0) 0 3) ++ replicate 3 (task (pos 0) 1 3));
  entries =
      by_lane 0 0 (Row 1 0 (Wake 0))
      ∷ at_queue 0 0 1 (Did Done)
      ∷ by_lane 0 2 (Row 2 0 (Wake 1))
      ∷ at_queue 1 0 3 (Did Done)
      ∷ by_lane 0 4 (Row 3 0 (Wake 2))
      ∷ at_queue 1 0 5 (Did Done)
      ∷ by_lane 0 6 (Row 4 0 (Wake 3))
      ∷ at_queue 1 0 7 (Did Done)
      ∷ by_lane 0 8 (Row 5 1000 (Sleep 0))
      ∷ at_queue 0 0 9 (Did Done)
      ∷ by_lane 0 10 (Adopt 1 IdleTurn 0)
      ∷ at_queue 0 0 11 (Turn (cpus 1))
      ∷ by_lane 0 12 (Look 0 (cpus 0) (figure_name 0 3 ∷ figure_name 1 3 ∷ []) (Pull 1 Tasks 1))
      ∷ at_queue 1 0 13 (Out PullOut 0 (2 ∷ []))
      ∷ at_queue 0 0 14 (Landed (2 ∷ []))
      ∷ at_queue 0 0 15 (Close 0 MovedWord 2 0)
      ∷ at_queue 0 0 16 Over
      ∷ by_lane 0 17 (End (cpus 0))
      ∷ [];
}

-- a busy CPU's scan finds a tickless one, whose turn pulls a task
abbrev pub kicked_history : History
kicked_history = record {
  header = two_cpus 1 (replicate 3 (task (pos 0) 1 3));
  entries =
      by_lane 0 0 (Row 1 0 (Wake 0))
      ∷ at_queue 1 0 1 (Did Done)
      ∷ by_lane 0 2 (Row 2 0 (Wake 1))
      ∷ at_queue 1 0 3 (Did Done)
      ∷ by_lane 0 4 (Row 3 0 (Wake 2))
      ∷ at_queue 1 0 5 (Did Done)
      ∷ by_lane 0 6 (Row 4 1000000 (Tick 0))
      ∷ at_queue 0 0 7 (Did Done)
      ∷ by_lane 0 8 (Adopt 1 TickTurn 0)
      ∷ at_queue 0 0 9 (Turn (cpus 0))
      ∷ at_queue 0 0 10 Over
      ∷ by_lane 0 11 (Row 5 2000000 (Tick 1))
      ∷ at_queue 1 0 12 (Did Done)
      ∷ by_lane 0 13 (Adopt 1 TickTurn 1)
      ∷ at_queue 1 0 14 (Turn (cpus 0))
      ∷ at_queue 1 0 15 Over
      ∷ by_lane 0 16 (Scan (figure_name 0 3 ∷ figure_name 1 6 ∷ []) (Some 0))
      ∷ at_queue 0 0 17 (Kick New)
      ∷ by_lane 0 18 (Adopt 1 NohzTurn 0)
      ∷ at_queue 0 0 19 (Turn (cpus 1))
      ∷ by_lane 0 20 (Look 0 (cpus 0) (figure_name 0 5 ∷ figure_name 1 6 ∷ []) (Pull 1 Tasks 1))
      ∷ at_queue 1 0 21 (Out PullOut 0 (2 ∷ []))
      ∷ at_queue 0 0 22 (Landed (2 ∷ []))
      ∷ at_queue 0 0 23 (Close 0 MovedWord 2 0)
      ∷ at_queue 0 0 24 Over
      ∷ by_lane 0 25 (End (cpus 0))
      ∷ [];
}

-- a source whose tasks are all pinned is excluded, and the next one gives a task
abbrev pub pinned_then_moved_history : History
pinned_then_moved_history = record {
  header = three_cpus 1 (replicate 4 (task (pos 0) 1 2) ++ replicate 3 (task (pos 0) 2 7));
  entries =
      by_lane 0 0 (Row 1 0 (Wake 0))
      ∷ at_queue 1 0 1 (Did Done)
      ∷ by_lane 0 2 (Row 2 0 (Wake 1))
      ∷ at_queue 1 0 3 (Did Done)
      ∷ by_lane 0 4 (Row 3 0 (Wake 2))
      ∷ at_queue 1 0 5 (Did Done)
      ∷ by_lane 0 6 (Row 4 0 (Wake 3))
      ∷ at_queue 1 0 7 (Did Done)
      ∷ by_lane 0 8 (Row 5 0 (Wake 4))
      ∷ at_queue 2 0 9 (Did Done)
      ∷ by_lane 0 10 (Row 6 0 (Wake 5))
      ∷ at_queue 2 0 11 (Did Done)
      ∷ by_lane 0 12 (Row 7 0 (Wake 6))
      ∷ at_queue 2 0 13 (Did Done)
      ∷ by_lane 0 14 (Row 8 3000000 (Tick 0))
      ∷ at_queue 0 0 15 (Did Done)
      ∷ by_lane 0 16 (Adopt 1 TickTurn 0)
      ∷ at_queue 0 0 17 (Turn (cpus 1))
      ∷ by_lane 0 18 (Look 0 (cpus 0) (figure_name 0 2 ∷ figure_name 1 4 ∷ figure_name 2 3 ∷ []) (Pull 1 Tasks 2))
      ∷ at_queue 1 0 19 (Out PullOut 0 ([]))
      ∷ at_queue 0 0 20 (Landed ([]))
      ∷ by_lane 0 21 (Look 0 (cpus 2) (figure_name 0 3 ∷ figure_name 2 3 ∷ []) (Pull 2 Tasks 1))
      ∷ at_queue 2 0 22 (Out PullOut 0 (5 ∷ []))
      ∷ at_queue 0 0 23 (Landed (5 ∷ []))
      ∷ at_queue 0 0 24 (Close 0 MovedWord 3 0)
      ∷ at_queue 0 0 25 Over
      ∷ by_lane 0 26 (End (cpus 0))
      ∷ [];
}

-- with no other source the position is pinned, and waits longer each time
abbrev pub pinned_twice_history : History
pinned_twice_history = record {
  header = three_cpus 1 (replicate 4 (task (pos 0) 1 2));
  entries =
      by_lane 0 0 (Row 1 0 (Wake 0))
      ∷ at_queue 1 0 1 (Did Done)
      ∷ by_lane 0 2 (Row 2 0 (Wake 1))
      ∷ at_queue 1 0 3 (Did Done)
      ∷ by_lane 0 4 (Row 3 0 (Wake 2))
      ∷ at_queue 1 0 5 (Did Done)
      ∷ by_lane 0 6 (Row 4 0 (Wake 3))
      ∷ at_queue 1 0 7 (Did Done)
      ∷ by_lane 0 8 (Row 5 3000000 (Tick 0))
      ∷ at_queue 0 0 9 (Did Done)
      ∷ by_lane 0 10 (Adopt 1 TickTurn 0)
      ∷ at_queue 0 0 11 (Turn (cpus 1))
      ∷ by_lane 0 12 (Look 0 (cpus 0) (figure_name 0 2 ∷ figure_name 1 4 ∷ figure_name 2 0 ∷ []) (Pull 1 Tasks 2))
      ∷ at_queue 1 0 13 (Out PullOut 0 ([]))
      ∷ at_queue 0 0 14 (Landed ([]))
      ∷ by_lane 0 15 (Look 0 (cpus 2) (figure_name 0 3 ∷ figure_name 2 0 ∷ []) Balanced)
      ∷ at_queue 0 0 16 (Close 0 PinnedWord 6 0)
      ∷ at_queue 0 0 17 Over
      ∷ by_lane 0 18 (Row 6 9000000 (Tick 0))
      ∷ at_queue 0 0 19 (Did Done)
      ∷ by_lane 0 20 (Adopt 1 TickTurn 0)
      ∷ at_queue 0 0 21 (Turn (cpus 1))
      ∷ by_lane 0 22 (Look 0 (cpus 0) (figure_name 0 7 ∷ figure_name 1 5 ∷ figure_name 2 0 ∷ []) (Pull 1 Tasks 2))
      ∷ at_queue 1 0 23 (Out PullOut 0 ([]))
      ∷ at_queue 0 0 24 (Landed ([]))
      ∷ by_lane 0 25 (Look 0 (cpus 2) (figure_name 0 8 ∷ figure_name 2 0 ∷ []) Balanced)
      ∷ at_queue 0 0 26 (Close 0 PinnedWord 12 0)
      ∷ at_queue 0 0 27 Over
      ∷ by_lane 0 28 (End (cpus 0))
      ∷ [];
}
