-- The loops of `put_domains` of src/lines.rt: appends the lines of a CPU's domains.
use Rattle.std.proofs.Common.{◌≡◌, ◌++◌, drop}
use Rattle.std.specs.List.{flat_map}
use Rattle.lb_domain.specs.Domains.{domains_at}
use Rattle.lb_topo.specs.Text.{domain_line}
use Rattle.lb_topo.proofs.lines.put_domains.Given as goal

abbrev pub invariant-loop-position : goal.invariant-loop-position
invariant-loop-position l =
    l.to.items ++ flat_map (domain_line l.cpu) (drop l.position (domains_at l.topology.all l.cpu))
    ≡ l.fn.to.items ++ flat_map (domain_line l.cpu) (domains_at l.topology.all l.cpu)
