-- The loops of `are_spelled` of src/repeats.rt: whether all fields that are left are such texts.
use Rattle.std.proofs.Common.{◌≡◌, length}
use Rattle.std.specs.List.{list_all}
use Rattle.lb_read.specs.Repeats.{is_spelled}
use Rattle.lb_read.proofs.repeats.are_spelled.Given as goal

abbrev pub invariant-loop-field : goal.invariant-loop-field
invariant-loop-field l = list_all is_spelled l.fields ≡ list_all is_spelled l.fn.fields

abbrev pub decreases-loop-field : goal.decreases-loop-field
decreases-loop-field l = length l.fields
