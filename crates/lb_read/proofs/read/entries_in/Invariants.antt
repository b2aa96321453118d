-- The loops of `entries_in` of src/read.rt: the entries of a text, of which the first is this line.
use Rattle.std.proofs.Common.{◌≡◌, ◌+◌, ◌≤◌, length}
use Rattle.lb_read.specs.Texts.{lines_of, entries_in}
use Rattle.lb_read.proofs.TextFacts.{entries_onto}
use Rattle.lb_read.proofs.read.entries_in.Given as goal

abbrev pub invariant-loop-line : goal.invariant-loop-line
invariant-loop-line l =
    (entries_onto l.entries l.number (lines_of l.rest) ≡ entries_in l.fn.first (lines_of l.fn.text))
    × (l.number + length l.rest ≤ l.fn.first + length l.fn.text)

abbrev pub decreases-loop-line : goal.decreases-loop-line
decreases-loop-line l = length l.rest
