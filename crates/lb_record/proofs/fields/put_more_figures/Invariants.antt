-- The loops of `put_more_figures` of src/fields.rt: names of figures, each behind a comma.
use Rattle.std.proofs.Common.{◌≡◌, ◌++◌, map, drop}
use Rattle.lb_text.specs.Lines.{marked, StillStands}
use Rattle.lb_record.specs.Fields.{figure_text}
use Rattle.lb_record.proofs.fields.put_more_figures.Given as goal

abbrev pub invariant-loop-figure : goal.invariant-loop-figure
invariant-loop-figure l = record {
  written : l.to.items ++ marked 44 (map figure_text (drop l.figure-index l.figures)) ≡ l.fn.to.items ++ marked 44
      (map figure_text l.figures);
  stands : StillStands l.fn.to.items l.to.items;
}
