-- How many nodes the rows of CPUs name, for whoever counts them: row by row, at least one where there
-- is a CPU, no more than there can be, and the node of each CPU below that.
-- For `nodes_of`, `Machine::read`, `fault_of` and `Machine::of_good`; cited by `lb_read` and `lb_trace` too.
use Rattle.std.proofs.Common.{◌≡◌, ℕ, zero, suc, ◌+◌, ◌<◌, ◌≤◌, max, ltb, true, List, [], ◌∷◌, ◌++◌, length, arith}
use Rattle.std.proofs.lemmas.Bool.{and_parts, ltb-true}
use Rattle.lb_levels.specs.declared.cpu_row.CpuRow.{CpuRow}
use Rattle.lb_levels.specs.declared.limits.TheConstants.{MAX_NODES}
use Rattle.lb_levels.specs.Rows.{nodes_in_range, row_at}
use Rattle.lb_levels.specs.Faults.{nodes_of}

pub nodes_of-push : (rows : List CpuRow) (row : CpuRow) → nodes_of (rows ++ row ∷ []) ≡ max (nodes_of rows) (row.node + 1)
nodes_of-push [] row = omega arith
nodes_of-push (first ∷ rows) row = omega (arith, nodes_of-push rows row)

pub some_nodes : (cpus : List CpuRow) → 0 < length cpus → 0 < nodes_of cpus
some_nodes [] some = absurd (omega (arith, some))
some_nodes (row ∷ rows) some = omega arith

pub few_nodes : (cpus : List CpuRow) → nodes_in_range cpus ≡ true → nodes_of cpus ≤ MAX_NODES
few_nodes [] each = omega arith
few_nodes (row ∷ rows) each =
    let parts = and_parts (ltb row.node MAX_NODES) (nodes_in_range rows) each in
    omega (arith, ltb-true row.node MAX_NODES parts.0, few_nodes rows parts.1)

pub node_below : (cpus : List CpuRow) (cpu : ℕ) → cpu < length cpus → (row_at cpus cpu).node < nodes_of cpus
node_below [] cpu lt = absurd (omega (arith, lt))
node_below (row ∷ rows) zero lt = omega arith
node_below (row ∷ rows) (suc cpu) lt = omega (arith, node_below rows cpu (omega (arith, lt)))
