use Rattle.std.proofs.Common.{◌≡◌, ◌∙◌, ap, subst, sym, Some, if◌then◌else◌, eqb, None, arith}
use Rattle.lb_links.specs.Lists.{value_of, AreDistinct}
use Rattle.lb_links.specs.Inside.{named, keyed}
use Rattle.lb_links.proofs.Splits.{lacking_where_none}
use Rattle.lb_links.proofs.Named.{no_key}
use Rattle.lb_links.proofs.links.Links.push_front.Goals as goal

pub insert-requires-clause-new : goal.insert-requires-clause-new
insert-requires-clause-new g c =
    let none : value_of c.args.id (named c.self.inside.chain.items) ≡ None =
    ap (λ v. value_of c.args.id v.items) c.self.view_is ∙ c.requires.new in
    c.self.invariant.found c.args.id ∙ no_key c.args.id c.self.inside.chain.items none

pub invariant_of-self : goal.invariant_of-self
invariant_of-self g c =
    let inv = c.self.invariant in
    let put = c.push_front-key.ensures.list in
    let none : value_of c.args.id (named c.self.inside.chain.items) ≡ None =
    ap (λ v. value_of c.args.id v.items) c.self.view_is ∙ c.requires.new in
    let nodes = ap (λ v. v.spare) put in
    let ids = c.insert.ensures.spare in
    record {
      found = λ other. c.insert.ensures.keys other
          ∙ ap (λ o. if eqb c.args.id other then Some c.push_front-key.result else o) (inv.found other)
          ∙ ap (λ v. value_of other (keyed v.items)) (sym put);
      distinct = subst (λ v. AreDistinct (named v.items)) (sym put)
          (lacking_where_none c.args.id (named c.self.inside.chain.items) none, inv.distinct);
      nodes = omega (arith, inv.nodes, nodes);
      ids = omega (arith, inv.ids, ids);
    }

pub returns-clause-distinct : goal.returns-clause-distinct
returns-clause-distinct g c =
    let none : value_of c.args.id (named c.self.inside.chain.items) ≡ None =
    ap (λ v. value_of c.args.id v.items) c.self.view_is ∙ c.requires.new in
    subst (λ v. AreDistinct (named v.items)) (sym c.push_front-key.ensures.list)
    (lacking_where_none c.args.id (named c.self.inside.chain.items) none, c.self.invariant.distinct)
