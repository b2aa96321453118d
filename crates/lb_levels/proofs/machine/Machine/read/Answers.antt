-- For `Machine::read` of src/machine.rt: the machine of these CPUs, whose nodes have these distances.
use Rattle.std.proofs.Common.{sym, ◌∙◌, arith}
use Rattle.lb_levels.specs.Faults.{nodes_of}
use Rattle.lb_levels.proofs.FaultOrder.{good, fits_length}
use Rattle.lb_levels.proofs.Nodes.{some_nodes, few_nodes}
use Rattle.lb_levels.proofs.machine.Machine.read.Goals as goal

pub of_good-requires-clause-nodes : goal.of_good-requires-clause-nodes
of_good-requires-clause-nodes c =
    let whole = good c.args.cpus.now c.args.distances.now (sym c.fault_of.ensures ∙ c.in_default.is) in
    omega (
      arith,
      few_nodes c.args.cpus.now c.requires.nodes,
      fits_length
          (nodes_of c.args.cpus.now) c.args.distances.now (some_nodes c.args.cpus.now c.requires.some) whole.fits,
    )
