use Rattle.std.proofs.Common.{◌≡◌, ◌∙◌, ap, subst, sym, Some, if◌then◌else◌, eqb, None, arith}
use Rattle.lb_links.specs.Lists.{value_of, without, AreDistinct}
use Rattle.lb_links.specs.Inside.{named, keyed}
use Rattle.lb_links.proofs.Splits.{lacking_where_none, without_lacking}
use Rattle.lb_links.proofs.Named.{placed, by_id, by_key, key_there, no_value, keys_without, names_without, distinct_without}
use Rattle.lb_links.proofs.links.Links.remove.Goals as goal

pub returns-in_err-key-clause-value : goal.returns-in_err-key-clause-value
returns-in_err-key-clause-value g c =
    let none = no_value c.args.id c.self.inside.chain.items (sym (c.self.invariant.found c.args.id)
    ∙ sym c.in_err-key.ensures.found) in
    c.from_residual.ensures ∙ sym none ∙ ap (λ v. value_of c.args.id v.items) c.self.view_is

pub returns-in_err-key-clause-list : goal.returns-in_err-key-clause-list
returns-in_err-key-clause-list g c =
    let items = c.self.inside.chain.items in
    let none = no_value c.args.id items (sym (c.self.invariant.found c.args.id) ∙ sym c.in_err-key.ensures.found) in
    sym (without_lacking c.args.id (named items) (lacking_where_none c.args.id (named items) none))
    ∙ ap (λ v. without c.args.id v.items) c.self.view_is

pub remove-value-requires : goal.remove-value-requires
remove-value-requires g c = key_there c.args.id c.in_ok-key.key c.self.inside.chain.items
    (sym (c.self.invariant.found c.args.id) ∙ sym c.in_ok-key.ensures.found)

pub invariant_of-self-2 : goal.invariant_of-self-2
invariant_of-self-2 g c =
    let inv = c.self.invariant in
    let took = c.remove-value.ensures.list in
    let p = placed c.args.id c.in_ok-key.key c.self.inside.chain.items c.remove-value.ensures.distinct inv.distinct
    (sym (inv.found c.args.id) ∙ sym c.in_ok-key.ensures.found) in
    let nodes = ap (λ v. v.spare) took in
    let ids = c.in_ok-key.ensures.spare in
    record {
      found = λ other. c.in_ok-key.ensures.keys other
          ∙ ap (λ o. if eqb c.args.id other then None else o) (inv.found other)
          ∙ sym (keys_without _ _ _ p other)
          ∙ ap (λ v. value_of other (keyed v.items)) (sym took);
      distinct = subst (λ v. AreDistinct (named v.items)) (sym took) (distinct_without _ _ _ p);
      nodes = omega (arith, inv.nodes, nodes);
      ids = omega (arith, inv.ids, ids);
    }

pub returns-clause-value : goal.returns-clause-value
returns-clause-value g c =
    let p = placed c.args.id c.in_ok-key.key c.self.inside.chain.items c.remove-value.ensures.distinct
    c.self.invariant.distinct (sym (c.self.invariant.found c.args.id) ∙ sym c.in_ok-key.ensures.found) in
    let same : Some c.remove-value.result ≡ Some (c.args.id, p.value) = sym c.remove-value.ensures.value ∙ by_key _ _ _ p in
    let is : c.remove-value.result ≡ (c.args.id, p.value) = cc in
    ap (λ e. Some e.1) is ∙ sym (by_id _ _ _ p) ∙ ap (λ v. value_of c.args.id v.items) c.self.view_is

pub returns-clause-list : goal.returns-clause-list
returns-clause-list g c =
    let p = placed c.args.id c.in_ok-key.key c.self.inside.chain.items c.remove-value.ensures.distinct
    c.self.invariant.distinct (sym (c.self.invariant.found c.args.id) ∙ sym c.in_ok-key.ensures.found) in
    ap (λ v. named v.items) c.remove-value.ensures.list ∙ names_without _ _ _ p
    ∙ ap (λ v. without c.args.id v.items) c.self.view_is
