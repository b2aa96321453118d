-- For `Topology::build` of src/topology.rt: the domains of each CPU of the machine within its mask, each of
-- the masks being a partition of its own.
use Rattle.std.proofs.Common.{length, ◌∙◌, ap}
use Rattle.lb_domain.proofs.Sizes.{length-topology_of}
use Rattle.lb_domain.proofs.topology.Topology.build.Goals as goal

pub returns-clause-all : goal.returns-clause-all
returns-clause-all c =
    ap length c.in_ok-topology_of.ensures.value ∙ length-topology_of c.args.machine.now.cpus
    c.args.machine.now.distances c.args.parts.now
