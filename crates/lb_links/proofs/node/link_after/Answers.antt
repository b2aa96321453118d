use Rattle.std.proofs.Common.{sym, ◌∙◌}
use Rattle.lb_links.proofs.Chained.{left_at_node, left_at_end}
use Rattle.lb_links.proofs.node.link_after.Goals as goal

pub returns-in-Some-clause-left : goal.returns-in-Some-clause-left
returns-in-Some-clause-left g c =
    λ xs a0 a1 is h distinct front. left_at_node c.args.nodes.now c.set_after.new.nodes c.in-Some.key c.args.after
    c.args.ends.now.front c.set_after.ensures xs a0 a1 (sym c.in-Some.is ∙ is) h distinct front

pub returns-in-None-clause-left : goal.returns-in-None-clause-left
returns-in-None-clause-left g c =
    λ xs a0 a1 is h distinct front. left_at_end c.args.nodes.now c.args.after xs (sym c.in-None.is ∙ is)
