-- For `nodes_of` of src/machine.rt: how many nodes there are: 0 to the greatest that a CPU names.
use Rattle.std.proofs.Common.{arith, ◌∙◌, ap}
use Rattle.std.proofs.lemmas.List.{take_more}
use Rattle.lb_levels.specs.Rows.{no_row}
use Rattle.lb_levels.specs.Faults.{nodes_of}
use Rattle.lb_levels.proofs.Nodes.{nodes_of-push}
use Rattle.lb_trace.proofs.machine.nodes_of.Goals as goal

pub loop-row-preserved : goal.loop-row-preserved
loop-row-preserved c =
    let step = ap nodes_of (take_more c.args.cpus.now c.loop-row.row-index no_row c.loop-row-test.true) ∙ nodes_of-push _ _ in
    grind (arith, step)
