use Rattle.std.proofs.Common.{◌∙◌}
use Rattle.lb_links.proofs.Splits.{distinct_left, distinct_right}
use Rattle.lb_links.proofs.Chained.{right_stays, closed}
use Rattle.lb_links.proofs.node.link.Goals as goal

pub returns-clause-chain : goal.returns-clause-chain
returns-clause-chain g c = λ xs ys gap.
    let s = c.args.nodes.now in
    let s1 = c.link_after.new.nodes in
    let s2 = c.link_before.new.nodes in
    let first = c.link_after.ensures in
    let second = c.link_before.ensures in
    let left = first.left xs gap.left_after gap.other_front gap.is_before gap.left
    (distinct_left xs ys gap.distinct) gap.front in
    let stays = right_stays s s1 c.args.before xs ys gap.right_before first.others gap.distinct gap.is_before gap.right in
    let right = second.right ys gap.right_before gap.other_back gap.is_after stays (distinct_right xs ys gap.distinct)
    (first.back ∙ gap.back) in
    closed s1 s2 c.link_before.new.ends c.args.before c.args.after xs ys second.others gap.distinct gap.is_before
    gap.is_after left.0 (second.front ∙ left.1) right.0 right.1
