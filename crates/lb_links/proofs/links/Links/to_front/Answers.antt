use Rattle.std.proofs.Common.{◌∙◌, ap, subst, sym, arith}
use Rattle.lb_links.specs.Lists.{value_of, fronted, AreDistinct}
use Rattle.lb_links.specs.Inside.{named, keyed}
use Rattle.lb_links.proofs.Splits.{not_none}
use Rattle.lb_links.proofs.Named.{placed, key_there, no_value, keys_fronted, names_fronted, distinct_first}
use Rattle.lb_links.proofs.links.Links.to_front.Goals as goal

pub to_front-requires : goal.to_front-requires
to_front-requires g c = key_there c.args.id c.in-Some.key c.self.inside.chain.items (sym (c.self.invariant.found c.args.id)
    ∙ sym c.in-Some.ensures)

pub invariant_of-self : goal.invariant_of-self
invariant_of-self g c =
    let inv = c.self.invariant in
    let moved = c.to_front.ensures.list in
    let p = placed c.args.id c.in-Some.key c.self.inside.chain.items c.to_front.ensures.distinct inv.distinct
    (sym (inv.found c.args.id) ∙ sym c.in-Some.ensures) in
    let nodes = ap (λ v. v.spare) moved in
    record {
      found = λ other. inv.found other ∙ sym (keys_fronted _ _ _ p other) ∙ ap (λ v. value_of other (keyed v.items)) (sym moved);
      distinct = subst (λ v. AreDistinct (named v.items)) (sym moved) (distinct_first _ _ _ p);
      nodes = omega (arith, inv.nodes, nodes);
      ids = inv.ids;
    }

pub returns-in-Some-clause-list : goal.returns-in-Some-clause-list
returns-in-Some-clause-list g c =
    let p = placed c.args.id c.in-Some.key c.self.inside.chain.items c.to_front.ensures.distinct c.self.invariant.distinct
    (sym (c.self.invariant.found c.args.id) ∙ sym c.in-Some.ensures) in
    let is = ap (λ v. named v.items) c.to_front.ensures.list ∙ names_fronted _ _ _ p
    ∙ ap (λ v. fronted c.args.id v.items) c.self.view_is in
    λ i. record { items = is i; spare = (ap (λ v. v.spare) c.self.view_is) i }

pub returns-in_default-clause-list : goal.returns-in_default-clause-list
returns-in_default-clause-list g c =
    let none = sym (ap (λ v. value_of c.args.id v.items) c.self.view_is)
    ∙ no_value c.args.id c.self.inside.chain.items (sym (c.self.invariant.found c.args.id) ∙ sym c.find.ensures
    ∙ c.in_default.is) in
    absurd (not_none (value_of c.args.id c.args.self.now.items) c.requires none)
