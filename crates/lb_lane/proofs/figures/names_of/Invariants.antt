-- The loops of `names_of` of src/figures.rt: the names of figures.
use Rattle.std.proofs.Common.{◌≡◌, take}
use Rattle.lb_journal.specs.Journal.{names_of}
use Rattle.lb_lane.proofs.figures.names_of.Given as goal

abbrev pub invariant-loop-read : goal.invariant-loop-read
invariant-loop-read l = l.names ≡ names_of (take l.read-index l.figs)
