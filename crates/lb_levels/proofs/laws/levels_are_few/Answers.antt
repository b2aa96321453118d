-- For `levels_are_few` of src/laws.rt: a machine has at most two levels more than nodes, so at most
-- `MAX_LEVELS`.
use Rattle.lb_levels.proofs.Depth.{few_levels, most_levels}
use Rattle.lb_levels.proofs.laws.levels_are_few.Goals as goal

pub returns : goal.returns
returns c = record {
  of_nodes = λ cpus table can. few_levels cpus table can.some can.good;
  most = λ cpus table can nodes. most_levels cpus table can.some can.good nodes;
}
