use Rattle.std.proofs.Common.{sym, ◌∙◌}
use Rattle.lb_links.proofs.Chained.{right_at_node}
use Rattle.lb_links.proofs.node.link_before.Goals as goal

pub returns-in-Some-clause-right : goal.returns-in-Some-clause-right
returns-in-Some-clause-right g c =
    λ ys b0 b1 is h distinct back. right_at_node c.args.nodes.now c.set_before.new.nodes c.in-Some.key c.args.before
    c.args.ends.now.back c.set_before.ensures ys b0 b1 (sym c.in-Some.is ∙ is) h distinct back
