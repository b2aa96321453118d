-- The loops of `put_masks` of src/fields.rt: the CPUs of masks, each behind a space.
use Rattle.std.proofs.Common.{◌≡◌, ◌++◌, map, drop}
use Rattle.lb_text.specs.Runs.{list_text}
use Rattle.lb_text.specs.Lines.{marked, StillStands}
use Rattle.lb_record.proofs.fields.put_masks.Given as goal

abbrev pub invariant-loop-mask : goal.invariant-loop-mask
invariant-loop-mask l = record {
  written : l.to.items ++ marked 32
      (map list_text (drop l.mask-index l.masks)) ≡ l.fn.to.items ++ marked 32
      (map list_text l.masks);
  stands : StillStands l.fn.to.items l.to.items;
}
