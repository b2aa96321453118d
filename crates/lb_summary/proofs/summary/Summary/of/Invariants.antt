-- The loops of `Summary::of` of src/summary.rt: counts the entries of a legal history, each in the state
-- before it.
use Rattle.std.proofs.Common.{◌+◌, drop}
use Rattle.lb_summary.specs.Summary.{steps_of, summary_of}
use Rattle.lb_summary.proofs.Going.{IsCounting}
use Rattle.lb_summary.proofs.summary.Summary.of.Given as goal

abbrev pub invariant-loop-entry : goal.invariant-loop-entry
invariant-loop-entry l =
    IsCounting (summary_of (steps_of l.history)) l.summary l.state (l.entry-index + 1) (drop l.entry-index l.history.entries)
