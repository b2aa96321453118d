use Rattle.std.proofs.Common.{◌≡◌, ◌∙◌, ap, sym, Some}
use Rattle.lb_links.specs.Lists.{id_before}
use Rattle.lb_links.specs.Inside.{named}
use Rattle.lb_links.proofs.Splits.{there_is, before_lacking, lacking_where_none}
use Rattle.lb_links.proofs.Named.{placed, key_there, no_value, last_before, found_before, none_before, name_before}
use Rattle.lb_links.proofs.links.Links.before.Goals as goal

pub returns-in_err-key-clause-value : goal.returns-in_err-key-clause-value
returns-in_err-key-clause-value g c =
    let items = c.self.inside.chain.items in
    let none = no_value c.args.id items (sym (c.self.invariant.found c.args.id) ∙ sym c.in_err-key.ensures) in
    c.from_residual.ensures ∙ sym (before_lacking _ c.args.id (named items)
    (lacking_where_none c.args.id (named items) none)) ∙ ap (λ v. id_before c.args.id v.items) c.self.view_is

pub before-requires : goal.before-requires
before-requires g c = key_there c.args.id c.in_ok-key.key c.self.inside.chain.items (sym (c.self.invariant.found c.args.id)
    ∙ sym c.in_ok-key.ensures)

pub returns-in_err-key-2-clause-value : goal.returns-in_err-key-2-clause-value
returns-in_err-key-2-clause-value g c =
    let p = placed c.args.id c.in_ok-key.key c.self.inside.chain.items c.in_err-key-2.ensures.distinct
    c.self.invariant.distinct (sym (c.self.invariant.found c.args.id) ∙ sym c.in_ok-key.ensures) in
    c.from_residual-in_err-key-2.ensures ∙ sym (none_before _ _ _ p (sym c.in_err-key-2.ensures.value))
    ∙ ap (λ v. id_before c.args.id v.items) c.self.view_is

pub get-requires : goal.get-requires
get-requires g c =
    let p = placed c.args.id c.in_ok-key.key c.self.inside.chain.items c.in_ok-key-2.ensures.distinct
    c.self.invariant.distinct (sym (c.self.invariant.found c.args.id) ∙ sym c.in_ok-key.ensures) in
    let last = last_before _ _ _ p c.in_ok-key-2.key (sym c.in_ok-key-2.ensures.value) in
    there_is _ _ (found_before _ _ _ p c.in_ok-key-2.key last)

pub returns-clause-value : goal.returns-clause-value
returns-clause-value g c =
    let p = placed c.args.id c.in_ok-key.key c.self.inside.chain.items c.in_ok-key-2.ensures.distinct
    c.self.invariant.distinct (sym (c.self.invariant.found c.args.id) ∙ sym c.in_ok-key.ensures) in
    let last = last_before _ _ _ p c.in_ok-key-2.key (sym c.in_ok-key-2.ensures.value) in
    let same : Some c.get.result.now ≡ Some last.entry = sym c.get.ensures.value ∙ found_before _ _ _ p c.in_ok-key-2.key last in
    let is : c.get.result.now ≡ last.entry = cc in
    ap (λ e. Some e.0) is ∙ sym (name_before _ _ _ p ∙ last.name) ∙ ap (λ v. id_before c.args.id v.items) c.self.view_is
