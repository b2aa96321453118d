-- The loops of `distances_in` of src/fields.rt: a node's distances, which are all fields after the first.
use Rattle.csv.specs.Records.{fields_of}
use Rattle.lb_text.specs.Numbers.{number_within}
use Rattle.lb_trace.specs.declared.trace.TheConstants.{MAX_DISTANCE}
use Rattle.lb_trace.proofs.FieldFacts.{AreRead}
use Rattle.lb_trace.proofs.fields.distances_in.Given as goal

abbrev pub invariant-loop-i : goal.invariant-loop-i
invariant-loop-i l = AreRead (number_within 1 MAX_DISTANCE) 0 (fields_of l.fields) 1 l.i l.distances
