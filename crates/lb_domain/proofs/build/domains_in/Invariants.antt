-- The loops of `domains_in` of src/build.rt: the domains of a CPU within its part.
use Rattle.std.proofs.Common.{◌≡◌, ◌≤◌, ◌++◌, drop, Some}
use Rattle.lb_levels.specs.Spans.{levels_of}
use Rattle.lb_domain.specs.Domains.{cut_span, position_above, domains_from, domains_in}
use Rattle.lb_domain.specs.Steps.{step_span}
use Rattle.lb_domain.proofs.build.domains_in.Given as goal

abbrev pub invariant-loop-level : goal.invariant-loop-level
invariant-loop-level l = record {
  position : position_above l.below ≤ l.level;
  rest : domains_in l.machine.cpus l.machine.distances (Some l.part) l.cpu
      ≡ l.domains ++ domains_from (cut_span l.machine.cpus l.machine.distances l.part) l.cpu
      (step_span l.machine.cpus l.machine.distances l.part l.level) l.below (drop l.level (levels_of l.machine.distances));
}
