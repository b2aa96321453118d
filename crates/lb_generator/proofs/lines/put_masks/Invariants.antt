-- The loops of `put_masks` of src/lines.rt: the CPUs of masks, each behind a comma.
use Rattle.std.proofs.Common.{◌≡◌, ◌++◌, map, drop}
use Rattle.lb_text.specs.Runs.{list_text}
use Rattle.lb_text.specs.Lines.{marked}
use Rattle.lb_text.specs.declared.marks.TheConstants.{COMMA}
use Rattle.lb_generator.proofs.lines.put_masks.Given as goal

abbrev pub invariant-loop-part : goal.invariant-loop-part
invariant-loop-part l =
    l.to.items ++ marked COMMA (map list_text (drop l.part-index l.parts)) ≡ l.fn.to.items ++ marked COMMA (map list_text l.parts)
