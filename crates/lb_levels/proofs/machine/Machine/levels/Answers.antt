-- For `Machine::levels` of src/machine.rt: how many levels there are, 3 to `MAX_LEVELS`.
use Rattle.std.proofs.Common.{◌≤◌, length, ap, arith, rules}
use Rattle.lb_levels.specs.Rows.{Layout}
use Rattle.lb_levels.specs.Spans.{levels_of}
use Rattle.lb_levels.proofs.Depth.{few_levels}
use Rattle.lb_levels.proofs.machine.Machine.levels.Goals as goal

pub overflow_cast-result : goal.overflow_cast-result
overflow_cast-result c =
    let few : c.len.result ≤ 18 =
    omega (
      arith,
      c.len.ensures,
      ap length c.self.invariant.names,
      few_levels c.self.inside.cpus
          c.self.inside.distances c.self.invariant.some c.self.invariant.good,
      c.self.invariant.nodes,
    ) in
    search rules

pub returns-clause-few : goal.returns-clause-few
returns-clause-few c =
    let levels = ap (λ (m : Layout). length (levels_of m.distances)) c.self.view_is in
    omega (
      arith,
      few_levels c.self.inside.cpus c.self.inside.distances c.self.invariant.some c.self.invariant.good,
      c.self.invariant.nodes,
      levels,
    )
