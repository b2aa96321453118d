use Rattle.std.proofs.Common.{refl, [], ◌∷◌}
use Rattle.lb_links.proofs.Chained.{gap_before}
use Rattle.lb_links.proofs.node.lead.Goals as goal

pub returns-clause-chain : goal.returns-clause-chain
returns-clause-chain g c = λ cells x h lacks value.
    c.link.ensures.chain ((c.args.key, x) ∷ []) cells
    (gap_before c.args.nodes.now c.set_before.new.nodes c.args.ends.now _ c.args.key x cells c.set_before.ensures refl
    refl h lacks value)
