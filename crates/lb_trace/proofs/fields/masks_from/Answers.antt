-- For `masks_from` of src/fields.rt: the partition masks, which are all fields from a place on.
use Rattle.std.proofs.Common.{rules, sym}
use Rattle.csv.specs.Records.{fields_of}
use Rattle.lb_base.specs.Mask.{no_cpus}
use Rattle.lb_text.specs.Lists.{list_of}
use Rattle.lb_trace.specs.Values.{list_at}
use Rattle.lb_trace.proofs.FieldFacts.{one_read, misread}
use Rattle.lb_trace.proofs.fields.masks_from.Goals as goal

pub returns-in_default : goal.returns-in_default
unfolding list_at
returns-in_default c = misread list_of no_cpus
    (fields_of c.args.fields.now) c.args.from c.loop-i.i c.loop-i.masks c.loop-i.invariant (search rules) (search rules)

pub loop-i-preserved : goal.loop-i-preserved
unfolding list_at
loop-i-preserved c = rw c.in_ok-push.ensures.ok
    (one_read list_of no_cpus (fields_of c.args.fields.now) c.args.from c.loop-i.i c.loop-i.masks c.in-Some.mask
    c.loop-i.invariant (sym c.in-Some.ensures))
