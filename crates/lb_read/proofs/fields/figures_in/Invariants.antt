-- The loops of `figures_in` of src/fields.rt: figures, of rising CPUs.
use Rattle.std.proofs.Common.{◌≡◌, eqb, length}
use Rattle.std.specs.List.{slice_split}
use Rattle.lb_read.specs.Exact.{each}
use Rattle.lb_read.specs.Fields.{figure_in}
use Rattle.lb_read.proofs.EachFacts.{each_onto}
use Rattle.lb_read.proofs.fields.figures_in.Given as goal

abbrev pub invariant-loop-part : goal.invariant-loop-part
invariant-loop-part l = each_onto figure_in l.figures l.parts ≡ each figure_in (slice_split (λ b. eqb b 44) l.text)

abbrev pub decreases-loop-part : goal.decreases-loop-part
decreases-loop-part l = length l.parts
