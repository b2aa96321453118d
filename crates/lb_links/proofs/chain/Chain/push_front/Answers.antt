use Rattle.std.proofs.Common.{◌∷◌, ap, subst, sym, ◌∙◌, suc, add-one}
use Rattle.lb_links.specs.Lists.{AreDistinct, Lacks}
use Rattle.lb_links.proofs.Held.{held_items, pushed, listed, room_less, vacant_lacks}
use Rattle.lb_links.proofs.chain.Chain.push_front.Goals as goal

pub invariant_of-self : goal.invariant_of-self
invariant_of-self g c =
    let h = c.self.invariant in
    let key = c.insert_reserved-key.result in
    record {
      cells = (key, c.args.value) ∷ h.cells;
      chain = pushed c.self.inside.nodes c.insert_reserved-key.new.self c.lead.new.nodes c.self.inside.ends c.lead.new.ends
          key c.args.value c.insert_reserved-key.ensures.was_vacant c.insert_reserved-key.ensures.updates c.lead.ensures.chain h;
      count = c.lead.ensures.kept.len ∙ c.insert_reserved-key.ensures.len ∙ add-one _ ∙ ap suc h.count;
    }

pub returns-clause-key : goal.returns-clause-key
returns-clause-key g c =
    let h = c.self.invariant in
    let key = c.insert_reserved-key.result in
    let items = sym (held_items c.self.inside.nodes c.self.inside.ends h) ∙ ap (λ v. v.items) c.self.view_is in
    subst (Lacks key) items (vacant_lacks c.self.inside.nodes key _ h.cells _ c.insert_reserved-key.ensures.was_vacant
    h.chain.linked)

pub returns-clause-list : goal.returns-clause-list
returns-clause-list g c =
    let h = c.self.invariant in
    let key = c.insert_reserved-key.result in
    let items = sym (held_items c.self.inside.nodes c.self.inside.ends h) ∙ ap (λ v. v.items) c.self.view_is in
    let kept = c.lead.ensures.kept in
    let put = c.insert_reserved-key.ensures in
    listed c.lead.new.nodes c.lead.new.ends ((key, c.args.value) ∷ h.cells) _ _
    (pushed c.self.inside.nodes c.insert_reserved-key.new.self c.lead.new.nodes c.self.inside.ends c.lead.new.ends key
    c.args.value put.was_vacant put.updates c.lead.ensures.chain h)
    (kept.len ∙ put.len ∙ add-one _ ∙ ap suc h.count) (ap (λ l. (key, c.args.value) ∷ l) items)
    (room_less _ _ _ _ _ (kept.capacity ∙ put.capacity) (kept.len ∙ put.len) (ap (λ v. v.spare) c.self.view_is))

pub returns-clause-distinct : goal.returns-clause-distinct
returns-clause-distinct g c =
    let in_nodes = held_items c.self.inside.nodes c.self.inside.ends c.self.invariant in
    subst AreDistinct (sym in_nodes ∙ ap (λ v. v.items) c.self.view_is) c.self.invariant.chain.distinct
