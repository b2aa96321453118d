-- The loops of `put_groups` of src/lines.rt: appends the groups of a domain, each behind a bar.
use Rattle.std.proofs.Common.{◌≡◌, ◌++◌, drop}
use Rattle.lb_domain.specs.Domains.{domains_at, domain_at}
use Rattle.lb_topo.specs.Text.{groups_text}
use Rattle.lb_topo.proofs.lines.put_groups.Given as goal

abbrev pub invariant-loop-i : goal.invariant-loop-i
invariant-loop-i l =
    l.to.items ++ groups_text (drop l.i (domain_at (domains_at l.topology.all l.cpu) l.position).groups)
    ≡ l.fn.to.items ++ groups_text (domain_at (domains_at l.topology.all l.cpu) l.position).groups
