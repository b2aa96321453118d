use Rattle.std.proofs.Common.{◌≡◌, ◌∙◌, ap, subst, sym, arith, Some}
use Rattle.lb_links.specs.Lists.{value_of, with_value, AreDistinct}
use Rattle.lb_links.specs.Inside.{named, keyed}
use Rattle.lb_links.proofs.Splits.{not_none}
use Rattle.lb_links.proofs.Named.{placed, by_id, by_key, key_there, no_value, keys_with, names_with, distinct_with}
use Rattle.lb_links.proofs.links.Links.set.Goals as goal

pub set-old-requires : goal.set-old-requires
set-old-requires g c = key_there c.args.id c.in-Some.key c.self.inside.chain.items (sym (c.self.invariant.found c.args.id)
    ∙ sym c.in-Some.ensures)

pub invariant_of-self : goal.invariant_of-self
invariant_of-self g c =
    let inv = c.self.invariant in
    let put = c.set-old.ensures.list in
    let p = placed c.args.id c.in-Some.key c.self.inside.chain.items c.set-old.ensures.distinct inv.distinct
    (sym (inv.found c.args.id) ∙ sym c.in-Some.ensures) in
    let nodes = ap (λ v. v.spare) put in
    record {
      found = λ other. inv.found other ∙ sym (keys_with _ _ _ p c.args.value other)
          ∙ ap (λ v. value_of other (keyed v.items)) (sym put);
      distinct = subst (λ v. AreDistinct (named v.items)) (sym put) (distinct_with _ _ _ p c.args.value);
      nodes = omega (arith, inv.nodes, nodes);
      ids = inv.ids;
    }

pub unreachable-requires : goal.unreachable-requires
unreachable-requires g c =
    let none = sym (ap (λ v. value_of c.args.id v.items) c.self.view_is)
    ∙ no_value c.args.id c.self.inside.chain.items (sym (c.self.invariant.found c.args.id) ∙ sym c.in-None.ensures) in
    not_none (value_of c.args.id c.args.self.now.items) c.requires none

pub returns-clause-value : goal.returns-clause-value
returns-clause-value g c =
    let p = placed c.args.id c.in-Some.key c.self.inside.chain.items c.set-old.ensures.distinct c.self.invariant.distinct
    (sym (c.self.invariant.found c.args.id) ∙ sym c.in-Some.ensures) in
    let same : Some c.set-old.result ≡ Some (c.args.id, p.value) = sym c.set-old.ensures.value ∙ by_key _ _ _ p in
    let is : c.set-old.result ≡ (c.args.id, p.value) = cc in
    sym (ap (λ v. value_of c.args.id v.items) c.self.view_is) ∙ by_id _ _ _ p ∙ ap (λ e. Some e.1) (sym is)

pub returns-clause-list : goal.returns-clause-list
returns-clause-list g c =
    let p = placed c.args.id c.in-Some.key c.self.inside.chain.items c.set-old.ensures.distinct c.self.invariant.distinct
    (sym (c.self.invariant.found c.args.id) ∙ sym c.in-Some.ensures) in
    let is = ap (λ v. named v.items) c.set-old.ensures.list ∙ names_with _ _ _ p c.args.value
    ∙ ap (λ v. with_value c.args.id c.args.value v.items) c.self.view_is in
    λ i. record { items = is i; spare = (ap (λ v. v.spare) c.self.view_is) i }
