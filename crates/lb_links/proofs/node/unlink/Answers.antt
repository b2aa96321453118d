use Rattle.std.proofs.Common.{sym, ap, ◌∙◌}
use Rattle.std.specs.Option.{option_copied}
use Rattle.lb_links.proofs.Chained.{gap_of, not_missing}
use Rattle.lb_links.proofs.node.unlink.Goals as goal

pub returns-in-Some-clause-chain : goal.returns-in-Some-clause-chain
returns-in-Some-clause-chain g c = λ xs ys x h.
    c.link.ensures.chain xs ys (gap_of c.args.nodes.now c.args.ends.now c.args.key x c.in-Some.node.now xs ys
    (sym c.in-Some.ensures) h)

pub returns-in_default-clause-chain : goal.returns-in_default-clause-chain
returns-in_default-clause-chain g c = λ xs ys x h.
    absurd (not_missing c.args.nodes.now c.args.ends.now c.args.key x xs ys (sym c.get.ensures
    ∙ ap option_copied c.in_default.is) h)
