-- For `nodes_of` of src/rows.rt: how many nodes there are.
use Rattle.std.proofs.Common.{ltb, arith, ◌∙◌, ap}
use Rattle.std.proofs.lemmas.Bool.{ltb-true}
use Rattle.std.proofs.lemmas.List.{take_more}
use Rattle.std.proofs.lemmas.List.Sums.{AllPass-from_list_all}
use Rattle.lb_levels.specs.Rows.{no_row}
use Rattle.lb_levels.specs.Faults.{nodes_of}
use Rattle.lb_levels.proofs.Nodes.{nodes_of-push}
use Rattle.lb_levels.proofs.rows.nodes_of.Goals as goal

pub loop-row-preserved : goal.loop-row-preserved
loop-row-preserved c =
    let lt = c.loop-row-test.true in
    let step = ap nodes_of (take_more c.args.cpus.now c.loop-row.row-index no_row lt) ∙ nodes_of-push _ _ in
    let node = ltb-true _ _ (AllPass-from_list_all (λ row. ltb row.node 16) c.args.cpus.now c.requires
    c.loop-row.row-index no_row lt) in
    record { count = grind (arith, step); few = grind (arith, node) }
