-- The loops of `masks_from` of src/fields.rt: the partition masks, which are all fields from a place on.
use Rattle.csv.specs.Records.{fields_of}
use Rattle.lb_base.specs.Mask.{no_cpus}
use Rattle.lb_text.specs.Lists.{list_of}
use Rattle.lb_trace.proofs.FieldFacts.{AreRead}
use Rattle.lb_trace.proofs.fields.masks_from.Given as goal

abbrev pub invariant-loop-i : goal.invariant-loop-i
invariant-loop-i l = AreRead list_of no_cpus (fields_of l.fields) l.from l.i l.masks
