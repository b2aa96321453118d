-- The loops of `domains_of_all` of src/build.rt: the domains of every CPU, each within its own part.
use Rattle.std.proofs.Common.{◌≡◌, map, None}
use Rattle.std.specs.List.{range_with_len, slice_index_or}
use Rattle.lb_domain.specs.Domains.{domains_in}
use Rattle.lb_domain.proofs.build.domains_of_all.Given as goal

abbrev pub invariant-loop-cpu : goal.invariant-loop-cpu
invariant-loop-cpu l =
    l.all ≡ map (λ cpu. domains_in l.machine.cpus l.machine.distances (slice_index_or l.own cpu None) cpu)
    (range_with_len 0 l.cpu)
