-- The loops of `put_counts` of src/fields.rt: numbers, each behind the mark.
use Rattle.std.proofs.Common.{◌≡◌, ◌++◌, map, drop, decimal}
use Rattle.lb_text.specs.Lines.{marked, StillStands}
use Rattle.lb_record.proofs.fields.put_counts.Given as goal

abbrev pub invariant-loop-number : goal.invariant-loop-number
invariant-loop-number l = record {
  written : l.to.items ++ marked l.mark
      (map decimal (drop l.number-index l.numbers)) ≡ l.fn.to.items ++ marked l.mark
      (map decimal l.numbers);
  stands : StillStands l.fn.to.items l.to.items;
}
