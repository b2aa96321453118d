-- The loops of `copy_domains` of src/domains.rt: a copy of the domains of a CPU.
use Rattle.std.proofs.Common.{◌≡◌, take}
use Rattle.lb_lane.proofs.domains.copy_domains.Given as goal

abbrev pub invariant-loop-domain : goal.invariant-loop-domain
invariant-loop-domain l = l.copy ≡ take l.domain-index l.domains
