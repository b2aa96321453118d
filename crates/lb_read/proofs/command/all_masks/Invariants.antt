-- The loops of `all_masks` of src/command.rt: all masks that are left.
use Rattle.std.proofs.Common.{◌≡◌, length}
use Rattle.lb_read.specs.Exact.{each}
use Rattle.lb_read.specs.Fields.{mask_in}
use Rattle.lb_read.proofs.EachFacts.{each_onto}
use Rattle.lb_read.proofs.command.all_masks.Given as goal

abbrev pub invariant-loop-field : goal.invariant-loop-field
invariant-loop-field l = each_onto mask_in l.masks l.fields ≡ each mask_in l.fn.fields

abbrev pub decreases-loop-field : goal.decreases-loop-field
decreases-loop-field l = length l.fields
