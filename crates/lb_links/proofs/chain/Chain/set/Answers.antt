use Rattle.std.proofs.Common.{◌∷◌, ◌++◌, ap, subst, sym, ◌∙◌}
use Rattle.lb_links.specs.Lists.{AreDistinct}
use Rattle.lb_links.specs.Chains.{value_in}
use Rattle.lb_links.proofs.Held.{held_items, found_at, contains_found, found_is, found_set, found_count, found_with, listed, room_same}
use Rattle.lb_links.proofs.chain.Chain.set.Goals as goal

pub replace_value-requires : goal.replace_value-requires
replace_value-requires g c =
    let found = found_at c.self.inside.nodes c.self.inside.ends c.args.key c.args.self.now.items c.self.invariant
    (ap (λ v. v.items) c.self.view_is) c.requires in
    contains_found _ _ _ _ found

pub invariant_of-self : goal.invariant_of-self
invariant_of-self g c =
    let found = found_at c.self.inside.nodes c.self.inside.ends c.args.key c.args.self.now.items c.self.invariant
    (ap (λ v. v.items) c.self.view_is) c.requires in
    let put = c.replace_value.ensures in
    record {
      cells = found.left ++ (c.args.key, c.args.value) ∷ found.right;
      chain = found_set c.self.inside.nodes c.replace_value.new.nodes c.self.inside.ends c.args.key c.args.value _ found
          put.node put.others;
      count = put.len ∙ found_count _ _ _ c.args.value _ found;
    }

pub returns-clause-value : goal.returns-clause-value
returns-clause-value g c =
    let found = found_at c.self.inside.nodes c.self.inside.ends c.args.key c.args.self.now.items c.self.invariant
    (ap (λ v. v.items) c.self.view_is) c.requires in
    found_is _ _ _ _ found ∙ sym (ap value_in found.node) ∙ c.replace_value.ensures.value

pub returns-clause-list : goal.returns-clause-list
returns-clause-list g c =
    let found = found_at c.self.inside.nodes c.self.inside.ends c.args.key c.args.self.now.items c.self.invariant
    (ap (λ v. v.items) c.self.view_is) c.requires in
    let put = c.replace_value.ensures in
    listed c.replace_value.new.nodes c.self.inside.ends (found.left ++ (c.args.key, c.args.value) ∷ found.right) _ _
    (found_set c.self.inside.nodes c.replace_value.new.nodes c.self.inside.ends c.args.key c.args.value _ found put.node
    put.others)
    (put.len ∙ found_count _ _ _ c.args.value _ found) (found_with _ _ _ c.args.value _ found)
    (room_same _ _ _ _ _ put.capacity put.len (ap (λ v. v.spare) c.self.view_is))

pub returns-clause-distinct : goal.returns-clause-distinct
returns-clause-distinct g c =
    let in_nodes = held_items c.self.inside.nodes c.self.inside.ends c.self.invariant in
    subst AreDistinct (sym in_nodes ∙ ap (λ v. v.items) c.self.view_is) c.self.invariant.chain.distinct
