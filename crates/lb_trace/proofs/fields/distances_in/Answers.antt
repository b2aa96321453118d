-- For `distances_in` of src/fields.rt: a node's distances, which are all fields after the first.
use Rattle.std.proofs.Common.{rules, sym}
use Rattle.csv.specs.Records.{fields_of}
use Rattle.lb_text.specs.Numbers.{number_within}
use Rattle.lb_trace.specs.declared.trace.TheConstants.{MAX_DISTANCE}
use Rattle.lb_trace.specs.Values.{number_at}
use Rattle.lb_trace.proofs.FieldFacts.{one_read, misread}
use Rattle.lb_trace.proofs.fields.distances_in.Goals as goal

pub returns-in_default : goal.returns-in_default
unfolding number_at
returns-in_default c = misread (number_within 1 MAX_DISTANCE) 0
    (fields_of c.args.fields.now) 1 c.loop-i.i c.loop-i.distances c.loop-i.invariant (search rules) (search rules)

pub loop-i-preserved : goal.loop-i-preserved
unfolding number_at
loop-i-preserved c = rw c.in_ok-push.ensures.ok
    (one_read (number_within 1 MAX_DISTANCE) 0 (fields_of c.args.fields.now) 1 c.loop-i.i c.loop-i.distances
    c.in-Some.distance c.loop-i.invariant (sym c.in-Some.ensures.value))
