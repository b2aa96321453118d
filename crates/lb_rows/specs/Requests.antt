-- Histories of stop requests and of active balance: a request is served at a tick or at the end, or
-- dropped; failed pulls lead to a push, or to a request that nobody serves.
-- Cited by the contracts of `stop_is_served_at_the_tick`, `stop_is_dropped`, `stop_is_served_at_the_end` and others.
use Rattle.std.specs.Prelude.{pos, None, replicate, [], ◌∷◌, ◌++◌}
use Rattle.lb_base.specs.declared.shape.Kind.TheVariants.{Tick as TickTurn}
use Rattle.lb_base.specs.declared.view.MoveKind.TheVariants.{Tasks}
use Rattle.lb_imbalance.specs.declared.decision.Decision.TheVariants.{Pull}
use Rattle.lb_queue.specs.declared.answers.Reply.TheVariants.{Done}
use Rattle.lb_queue.specs.declared.answers.AskReply.TheVariants.{New, Old}
use Rattle.lb_queue.specs.declared.answers.OutCause.TheVariants.{Stop as StopOut, Pull as PullOut, Push as PushOut}
use Rattle.lb_trace.specs.declared.trace.Command.TheVariants.{Wake, SetMask, Tick}
use Rattle.lb_core.specs.declared.entry.What.TheVariants.{Row, Adopt, Look, Scan, End, Did, Out, Landed, Turn, Close, Ask, Over}
use Rattle.lb_core.specs.declared.entry.OutcomeWord.TheVariants.{Failed as FailedWord, Asking as AskingWord}
use Rattle.lb_core.specs.declared.history.History.{History}
use Rattle.lb_rows.specs.Lines.{cpus, task, two_cpus, by_lane, at_queue, figure_name}

-- a tick serves the stop request of its CPU
abbrev pub stop_is_served_at_the_tick_history : History
stop_is_served_at_the_tick_history = record {
  header = two_cpus 1 (replicate 1 (task (pos 0) 1 3));
  entries =
      by_lane 0 0 (Row 1 0 (Wake 0))
      ∷ at_queue 1 0 1 (Did Done)
      ∷ by_lane 0 2 (Row 2 1000 (SetMask 0 (cpus 1)))
      ∷ at_queue 1 0 3 (Did Done)
      ∷ by_lane 0 4 (Row 3 1000000 (Tick 1))
      ∷ at_queue 1 0 5 (Did Done)
      ∷ at_queue 1 0 6 (Out StopOut 0 (0 ∷ []))
      ∷ at_queue 0 0 7 (Landed (0 ∷ []))
      ∷ by_lane 0 8 (Adopt 1 TickTurn 1)
      ∷ at_queue 1 0 9 (Turn (cpus 0))
      ∷ at_queue 1 0 10 Over
      ∷ by_lane 0 11 (End (cpus 0))
      ∷ [];
}

-- a mask that gives the CPU back drops the request
abbrev pub stop_is_dropped_history : History
stop_is_dropped_history = record {
  header = two_cpus 1 (replicate 1 (task (pos 0) 1 3));
  entries =
      by_lane 0 0 (Row 1 0 (Wake 0))
      ∷ at_queue 1 0 1 (Did Done)
      ∷ by_lane 0 2 (Row 2 1000 (SetMask 0 (cpus 1)))
      ∷ at_queue 1 0 3 (Did Done)
      ∷ by_lane 0 4 (Row 3 2000 (SetMask 0 (cpus 3)))
      ∷ at_queue 1 0 5 (Did Done)
      ∷ by_lane 0 6 (Row 4 1000000 (Tick 1))
      ∷ at_queue 1 0 7 (Did Done)
      ∷ by_lane 0 8 (Adopt 1 TickTurn 1)
      ∷ at_queue 1 0 9 (Turn (cpus 0))
      ∷ at_queue 1 0 10 Over
      ∷ by_lane 0 11 (End (cpus 0))
      ∷ [];
}

-- without a tick the request is served at the end
abbrev pub stop_is_served_at_the_end_history : History
stop_is_served_at_the_end_history = record {
  header = two_cpus 1 (replicate 1 (task (pos 0) 1 3));
  entries =
      by_lane 0 0 (Row 1 0 (Wake 0))
      ∷ at_queue 1 0 1 (Did Done)
      ∷ by_lane 0 2 (Row 2 1000 (SetMask 0 (cpus 1)))
      ∷ at_queue 1 0 3 (Did Done)
      ∷ at_queue 1 0 4 (Out StopOut 0 (0 ∷ []))
      ∷ at_queue 0 0 5 (Landed (0 ∷ []))
      ∷ by_lane 0 6 (End (cpus 0))
      ∷ [];
}

-- after three failed pulls the fourth asks for a push, which the next tick makes
abbrev pub active_push_history : History
active_push_history = record {
  header = two_cpus 1 (replicate 1 (task (pos 0) 1 3) ++ replicate 1 (task (pos 0) 1 2));
  entries =
      by_lane 0 0 (Row 1 0 (Wake 0))
      ∷ at_queue 1 0 1 (Did Done)
      ∷ by_lane 0 2 (Row 2 0 (Wake 1))
      ∷ at_queue 1 0 3 (Did Done)
      ∷ by_lane 0 4 (Row 3 2000000 (Tick 0))
      ∷ at_queue 0 0 5 (Did Done)
      ∷ by_lane 0 6 (Adopt 1 TickTurn 0)
      ∷ at_queue 0 0 7 (Turn (cpus 1))
      ∷ by_lane 0 8 (Look 0 (cpus 0) (figure_name 0 2 ∷ figure_name 1 2 ∷ []) (Pull 1 Tasks 1))
      ∷ at_queue 1 0 9 (Out PullOut 0 ([]))
      ∷ at_queue 0 0 10 (Landed ([]))
      ∷ at_queue 0 0 11 (Close 0 FailedWord 2 1)
      ∷ at_queue 0 0 12 Over
      ∷ by_lane 0 13 (Row 4 4000000 (Tick 0))
      ∷ at_queue 0 0 14 (Did Done)
      ∷ by_lane 0 15 (Adopt 1 TickTurn 0)
      ∷ at_queue 0 0 16 (Turn (cpus 1))
      ∷ by_lane 0 17 (Look 0 (cpus 0) (figure_name 0 7 ∷ figure_name 1 3 ∷ []) (Pull 1 Tasks 1))
      ∷ at_queue 1 0 18 (Out PullOut 0 ([]))
      ∷ at_queue 0 0 19 (Landed ([]))
      ∷ at_queue 0 0 20 (Close 0 FailedWord 2 2)
      ∷ at_queue 0 0 21 Over
      ∷ by_lane 0 22 (Row 5 6000000 (Tick 0))
      ∷ at_queue 0 0 23 (Did Done)
      ∷ by_lane 0 24 (Adopt 1 TickTurn 0)
      ∷ at_queue 0 0 25 (Turn (cpus 1))
      ∷ by_lane 0 26 (Look 0 (cpus 0) (figure_name 0 12 ∷ figure_name 1 4 ∷ []) (Pull 1 Tasks 1))
      ∷ at_queue 1 0 27 (Out PullOut 0 ([]))
      ∷ at_queue 0 0 28 (Landed ([]))
      ∷ at_queue 0 0 29 (Close 0 FailedWord 2 3)
      ∷ at_queue 0 0 30 Over
      ∷ by_lane 0 31 (Row 6 8000000 (Tick 0))
      ∷ at_queue 0 0 32 (Did Done)
      ∷ by_lane 0 33 (Adopt 1 TickTurn 0)
      ∷ at_queue 0 0 34 (Turn (cpus 1))
      ∷ by_lane 0 35 (Look 0 (cpus 0) (figure_name 0 17 ∷ figure_name 1 5 ∷ []) (Pull 1 Tasks 1))
      ∷ at_queue 1 0 36 (Out PullOut 0 ([]))
      ∷ at_queue 0 0 37 (Landed ([]))
      ∷ at_queue 0 0 38 (Close 0 AskingWord 2 2)
      ∷ at_queue 1 0 39 (Ask New)
      ∷ at_queue 0 0 40 Over
      ∷ by_lane 0 41 (Row 7 9000000 (Tick 1))
      ∷ at_queue 1 0 42 (Did Done)
      ∷ at_queue 1 0 43 (Out PushOut 0 (0 ∷ []))
      ∷ at_queue 0 0 44 (Landed (0 ∷ []))
      ∷ by_lane 0 45 (Adopt 1 TickTurn 1)
      ∷ at_queue 1 0 46 (Turn (cpus 0))
      ∷ at_queue 1 0 47 Over
      ∷ by_lane 0 48 (Scan (figure_name 0 21 ∷ figure_name 1 11 ∷ []) None)
      ∷ by_lane 0 49 (End (cpus 0))
      ∷ [];
}

-- where no tick comes, the end names the request
abbrev pub active_unserved_history : History
active_unserved_history = record {
  header = two_cpus 1 (replicate 1 (task (pos 0) 1 3) ++ replicate 1 (task (pos 0) 1 2));
  entries =
      by_lane 0 0 (Row 1 0 (Wake 0))
      ∷ at_queue 1 0 1 (Did Done)
      ∷ by_lane 0 2 (Row 2 0 (Wake 1))
      ∷ at_queue 1 0 3 (Did Done)
      ∷ by_lane 0 4 (Row 3 2000000 (Tick 0))
      ∷ at_queue 0 0 5 (Did Done)
      ∷ by_lane 0 6 (Adopt 1 TickTurn 0)
      ∷ at_queue 0 0 7 (Turn (cpus 1))
      ∷ by_lane 0 8 (Look 0 (cpus 0) (figure_name 0 2 ∷ figure_name 1 2 ∷ []) (Pull 1 Tasks 1))
      ∷ at_queue 1 0 9 (Out PullOut 0 ([]))
      ∷ at_queue 0 0 10 (Landed ([]))
      ∷ at_queue 0 0 11 (Close 0 FailedWord 2 1)
      ∷ at_queue 0 0 12 Over
      ∷ by_lane 0 13 (Row 4 4000000 (Tick 0))
      ∷ at_queue 0 0 14 (Did Done)
      ∷ by_lane 0 15 (Adopt 1 TickTurn 0)
      ∷ at_queue 0 0 16 (Turn (cpus 1))
      ∷ by_lane 0 17 (Look 0 (cpus 0) (figure_name 0 7 ∷ figure_name 1 3 ∷ []) (Pull 1 Tasks 1))
      ∷ at_queue 1 0 18 (Out PullOut 0 ([]))
      ∷ at_queue 0 0 19 (Landed ([]))
      ∷ at_queue 0 0 20 (Close 0 FailedWord 2 2)
      ∷ at_queue 0 0 21 Over
      ∷ by_lane 0 22 (Row 5 6000000 (Tick 0))
      ∷ at_queue 0 0 23 (Did Done)
      ∷ by_lane 0 24 (Adopt 1 TickTurn 0)
      ∷ at_queue 0 0 25 (Turn (cpus 1))
      ∷ by_lane 0 26 (Look 0 (cpus 0) (figure_name 0 12 ∷ figure_name 1 4 ∷ []) (Pull 1 Tasks 1))
      ∷ at_queue 1 0 27 (Out PullOut 0 ([]))
      ∷ at_queue 0 0 28 (Landed ([]))
      ∷ at_queue 0 0 29 (Close 0 FailedWord 2 3)
      ∷ at_queue 0 0 30 Over
      ∷ by_lane 0 31 (Row 6 8000000 (Tick 0))
      ∷ at_queue 0 0 32 (Did Done)
      ∷ by_lane 0 33 (Adopt 1 TickTurn 0)
      ∷ at_queue 0 0 34 (Turn (cpus 1))
      ∷ by_lane 0 35 (Look 0 (cpus 0) (figure_name 0 17 ∷ figure_name 1 5 ∷ []) (Pull 1 Tasks 1))
      ∷ at_queue 1 0 36 (Out PullOut 0 ([]))
      ∷ at_queue 0 0 37 (Landed ([]))
      ∷ at_queue 0 0 38 (Close 0 AskingWord 2 2)
      ∷ at_queue 1 0 39 (Ask New)
      ∷ at_queue 0 0 40 Over
      ∷ by_lane 0 41 (Row 7 10000000 (Tick 0))
      ∷ at_queue 0 0 42 (Did Done)
      ∷ by_lane 0 43 (Adopt 1 TickTurn 0)
      ∷ at_queue 0 0 44 (Turn (cpus 1))
      ∷ by_lane 0 45 (Look 0 (cpus 0) (figure_name 0 22 ∷ figure_name 1 7 ∷ []) (Pull 1 Tasks 1))
      ∷ at_queue 1 0 46 (Out PullOut 0 ([]))
      ∷ at_queue 0 0 47 (Landed ([]))
      ∷ at_queue 0 0 48 (Close 0 FailedWord 2 3)
      ∷ at_queue 0 0 49 Over
      ∷ by_lane 0 50 (Row 8 12000000 (Tick 0))
      ∷ at_queue 0 0 51 (Did Done)
      ∷ by_lane 0 52 (Adopt 1 TickTurn 0)
      ∷ at_queue 0 0 53 (Turn (cpus 1))
      ∷ by_lane 0 54 (Look 0 (cpus 0) (figure_name 0 27 ∷ figure_name 1 8 ∷ []) (Pull 1 Tasks 1))
      ∷ at_queue 1 0 55 (Out PullOut 0 ([]))
      ∷ at_queue 0 0 56 (Landed ([]))
      ∷ at_queue 0 0 57 (Close 0 AskingWord 2 2)
      ∷ at_queue 1 0 58 (Ask Old)
      ∷ at_queue 0 0 59 Over
      ∷ by_lane 0 60 (End (cpus 2))
      ∷ [];
}
