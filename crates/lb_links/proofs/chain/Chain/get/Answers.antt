use Rattle.std.proofs.Common.{◌∙◌, ap, subst, sym}
use Rattle.lb_links.specs.Lists.{AreDistinct}
use Rattle.lb_links.proofs.Held.{held_items, found_at, contains_found, found_value}
use Rattle.lb_links.proofs.chain.Chain.get.Goals as goal

pub index-requires : goal.index-requires
index-requires g c = contains_found _ _ _ _
    (found_at c.self.inside.nodes c.self.inside.ends c.args.key c.args.self.now.items c.self.invariant
    (ap (λ v. v.items) c.self.view_is) c.requires)

pub returns-clause-value : goal.returns-clause-value
returns-clause-value g c =
    let found = found_at c.self.inside.nodes c.self.inside.ends c.args.key c.args.self.now.items c.self.invariant
    (ap (λ v. v.items) c.self.view_is) c.requires in
    found_value _ _ _ _ c.index.result.now found c.index.ensures

pub returns-clause-distinct : goal.returns-clause-distinct
returns-clause-distinct g c =
    let in_nodes = held_items c.self.inside.nodes c.self.inside.ends c.self.invariant in
    subst AreDistinct (sym in_nodes ∙ ap (λ v. v.items) c.self.view_is) c.self.invariant.chain.distinct
