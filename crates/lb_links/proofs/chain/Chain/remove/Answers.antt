use Rattle.std.proofs.Common.{◌++◌, ap, subst, sym, ◌∙◌}
use Rattle.lb_links.specs.Lists.{AreDistinct}
use Rattle.lb_links.specs.Chains.{value_in}
use Rattle.lb_links.proofs.Splits.{lacks_both}
use Rattle.lb_links.proofs.Held.{held_items, found_at, found_is, found_without, contains_stored, chain_stays, listed, room_more, one_less}
use Rattle.lb_links.proofs.chain.Chain.remove.Goals as goal

pub remove-value-requires : goal.remove-value-requires
remove-value-requires g c =
    let found = found_at c.self.inside.nodes c.self.inside.ends c.args.key c.args.self.now.items c.self.invariant
    (ap (λ v. v.items) c.self.view_is) c.requires in
    contains_stored c.unlink.new.nodes c.args.key found.value (c.unlink.ensures.kept.stays c.args.key ∙ ap value_in found.node)

pub invariant_of-self : goal.invariant_of-self
invariant_of-self g c =
    let found = found_at c.self.inside.nodes c.self.inside.ends c.args.key c.args.self.now.items c.self.invariant
    (ap (λ v. v.items) c.self.view_is) c.requires in
    let took = c.remove-value.ensures in
    record {
      cells = found.left ++ found.right;
      chain = chain_stays c.unlink.new.nodes c.remove-value.new.self c.unlink.new.ends
          (found.left ++ found.right) c.args.key took.updates.others
          (lacks_both c.args.key found.left found.right found.lacks_left found.lacks_right)
          (c.unlink.ensures.chain found.left found.right found.value found.chain);
      count = one_less _ _ _ _ took.len c.unlink.ensures.kept.len found.count;
    }

pub returns-clause-value : goal.returns-clause-value
returns-clause-value g c =
    let found = found_at c.self.inside.nodes c.self.inside.ends c.args.key c.args.self.now.items c.self.invariant
    (ap (λ v. v.items) c.self.view_is) c.requires in
    found_is _ _ _ _ found ∙ sym (ap value_in found.node) ∙ sym (c.unlink.ensures.kept.stays c.args.key)
    ∙ ap value_in c.remove-value.ensures.value

pub returns-clause-list : goal.returns-clause-list
returns-clause-list g c =
    let found = found_at c.self.inside.nodes c.self.inside.ends c.args.key c.args.self.now.items c.self.invariant
    (ap (λ v. v.items) c.self.view_is) c.requires in
    let took = c.remove-value.ensures in
    let kept = c.unlink.ensures.kept in
    listed c.remove-value.new.self c.unlink.new.ends (found.left ++ found.right) _ _
    (chain_stays c.unlink.new.nodes c.remove-value.new.self c.unlink.new.ends
    (found.left ++ found.right) c.args.key took.updates.others
    (lacks_both c.args.key found.left found.right found.lacks_left found.lacks_right)
    (c.unlink.ensures.chain found.left found.right found.value found.chain))
    (one_less _ _ _ _ took.len kept.len found.count) (found_without _ _ _ _ found)
    (room_more _ _ _ _ _ (took.capacity ∙ kept.capacity) (took.len ∙ kept.len) took.room (ap (λ v. v.spare) c.self.view_is))

pub returns-clause-distinct : goal.returns-clause-distinct
returns-clause-distinct g c =
    let in_nodes = held_items c.self.inside.nodes c.self.inside.ends c.self.invariant in
    subst AreDistinct (sym in_nodes ∙ ap (λ v. v.items) c.self.view_is) c.self.invariant.chain.distinct
