-- The loops of `put_partition` of src/header.rt: the CPUs of masks, each behind a comma.
use Rattle.std.proofs.Common.{◌≡◌, ◌++◌, map, drop}
use Rattle.lb_text.specs.Runs.{runs_text}
use Rattle.lb_text.specs.Lines.{marked, StillStands}
use Rattle.lb_record.proofs.header.put_partition.Given as goal

abbrev pub invariant-loop-part : goal.invariant-loop-part
invariant-loop-part l = record {
  written : l.to.items ++ marked 44
      (map runs_text (drop l.part-index l.parts)) ≡ l.fn.to.items ++ marked 44
      (map runs_text l.parts);
  stands : StillStands l.fn.to.items l.to.items;
}
