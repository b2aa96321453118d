-- The loops of `ids_in` of src/fields.rt: numbers of tasks; `-` is none.
use Rattle.std.proofs.Common.{◌≡◌, eqb, length}
use Rattle.std.specs.List.{slice_split}
use Rattle.lb_read.specs.Exact.{each}
use Rattle.lb_read.specs.Fields.{short_in}
use Rattle.lb_read.proofs.EachFacts.{each_onto}
use Rattle.lb_read.proofs.fields.ids_in.Given as goal

abbrev pub invariant-loop-part : goal.invariant-loop-part
invariant-loop-part l = each_onto short_in l.ids l.parts ≡ each short_in (slice_split (λ b. eqb b 59) l.fn.text)

abbrev pub decreases-loop-part : goal.decreases-loop-part
decreases-loop-part l = length l.parts
