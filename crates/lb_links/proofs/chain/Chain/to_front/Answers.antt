use Rattle.std.proofs.Common.{◌∷◌, ◌++◌, ap, subst, sym, ◌∙◌}
use Rattle.lb_links.specs.Lists.{AreDistinct}
use Rattle.lb_links.specs.Chains.{value_in}
use Rattle.lb_links.proofs.Splits.{lacks_both}
use Rattle.lb_links.proofs.Held.{held_items, found_at, found_fronted, listed, room_same}
use Rattle.lb_links.proofs.chain.Chain.to_front.Goals as goal

pub invariant_of-self : goal.invariant_of-self
invariant_of-self g c =
    let found = found_at c.self.inside.nodes c.self.inside.ends c.args.key c.args.self.now.items c.self.invariant
    (ap (λ v. v.items) c.self.view_is) c.requires in
    record {
      cells = (c.args.key, found.value) ∷ (found.left ++ found.right);
      chain = c.lead.ensures.chain (found.left ++ found.right) found.value
          (c.unlink.ensures.chain found.left found.right found.value found.chain)
          (lacks_both c.args.key found.left found.right found.lacks_left found.lacks_right)
          (c.unlink.ensures.kept.stays c.args.key ∙ ap value_in found.node);
      count = c.lead.ensures.kept.len ∙ c.unlink.ensures.kept.len ∙ found.count;
    }

pub returns-clause-list : goal.returns-clause-list
returns-clause-list g c =
    let found = found_at c.self.inside.nodes c.self.inside.ends c.args.key c.args.self.now.items c.self.invariant
    (ap (λ v. v.items) c.self.view_is) c.requires in
    let kept = c.lead.ensures.kept in
    let first = c.unlink.ensures.kept in
    listed c.lead.new.nodes c.lead.new.ends ((c.args.key, found.value) ∷ (found.left ++ found.right)) _ _
    (c.lead.ensures.chain (found.left ++ found.right) found.value
    (c.unlink.ensures.chain found.left found.right found.value found.chain)
    (lacks_both c.args.key found.left found.right found.lacks_left found.lacks_right) (first.stays c.args.key
    ∙ ap value_in found.node))
    (kept.len ∙ first.len ∙ found.count) (found_fronted _ _ _ _ found)
    (room_same _ _ _ _ _ (kept.capacity ∙ first.capacity) (kept.len ∙ first.len) (ap (λ v. v.spare) c.self.view_is))

pub returns-clause-distinct : goal.returns-clause-distinct
returns-clause-distinct g c =
    let in_nodes = held_items c.self.inside.nodes c.self.inside.ends c.self.invariant in
    subst AreDistinct (sym in_nodes ∙ ap (λ v. v.items) c.self.view_is) c.self.invariant.chain.distinct
