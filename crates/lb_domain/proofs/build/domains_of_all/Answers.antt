-- For `domains_of_all` of src/build.rt: the domains of every CPU, each within its own part.
use Rattle.std.proofs.Common.{◌≡◌, ℕ, List, map, length, None, ◌∙◌, ap, arith}
use Rattle.std.specs.List.{range_with_len, slice_index_or}
use Rattle.lb_base.proofs.Ranges.{map_range_more}
use Rattle.lb_domain.specs.declared.domain.Domain.{Domain}
use Rattle.lb_domain.specs.Domains.{domains_in}
use Rattle.lb_domain.proofs.build.domains_of_all.Goals as goal

pub loop-cpu-preserved : goal.loop-cpu-preserved
loop-cpu-preserved c =
    let each : ℕ → List Domain = λ cpu. domains_in c.args.machine.now.cpus c.args.machine.now.distances
    (slice_index_or c.args.own.now cpu None) cpu in
    grind (arith, map_range_more each c.loop-cpu.cpu)

pub returns : goal.returns
returns c =
    let all : c.loop-cpu.cpu ≡ length c.args.own.now = omega arith in
    c.loop-cpu.invariant ∙ ap (λ (n : ℕ). map
    (λ cpu. domains_in c.args.machine.now.cpus c.args.machine.now.distances
    (slice_index_or c.args.own.now cpu None) cpu) (range_with_len 0 n)) all
