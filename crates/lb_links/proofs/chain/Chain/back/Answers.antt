use Rattle.std.proofs.Common.{◌∙◌, ap, subst, sym}
use Rattle.lb_links.specs.Lists.{AreDistinct, last_id}
use Rattle.lb_links.proofs.Held.{held_items}
use Rattle.lb_links.proofs.chain.Chain.back.Goals as goal

pub returns-clause-value : goal.returns-clause-value
returns-clause-value g c =
    let in_nodes = held_items c.self.inside.nodes c.self.inside.ends c.self.invariant in
    c.self.invariant.chain.back ∙ ap last_id (sym in_nodes) ∙ ap (λ v. last_id v.items) c.self.view_is

pub returns-clause-distinct : goal.returns-clause-distinct
returns-clause-distinct g c =
    let in_nodes = held_items c.self.inside.nodes c.self.inside.ends c.self.invariant in
    subst AreDistinct (sym in_nodes ∙ ap (λ v. v.items) c.self.view_is) c.self.invariant.chain.distinct
