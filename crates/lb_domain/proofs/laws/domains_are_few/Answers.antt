-- For `domains_are_few` of src/laws.rt: a CPU has at most as many domains as the machine has levels, so at
-- most `MAX_LEVELS`.
use Rattle.std.proofs.Common.{arith}
use Rattle.lb_domain.proofs.Sizes.{domains_few}
use Rattle.lb_domain.proofs.laws.domains_are_few.Goals as goal

pub returns-clause-of_levels : goal.returns-clause-of_levels
returns-clause-of_levels c = domains_few

pub returns-clause-most : goal.returns-clause-most
returns-clause-most c cpus table parts cpu can nodes =
    omega (arith, domains_few cpus table parts cpu, c.levels_are_few.ensures.most cpus table can nodes)
