use Rattle.std.proofs.Common.{◌≡◌, ◌∙◌, ap, sym, Some}
use Rattle.lb_links.specs.Lists.{last_id}
use Rattle.lb_links.proofs.Splits.{there_is}
use Rattle.lb_links.proofs.Named.{last_none, last_found}
use Rattle.lb_links.proofs.links.Links.back.Goals as goal

pub returns-in_err-key-clause-value : goal.returns-in_err-key-clause-value
returns-in_err-key-clause-value g c =
    c.from_residual.ensures ∙ sym (last_none c.self.inside.chain.items (sym c.in_err-key.ensures.value))
    ∙ ap (λ v. last_id v.items) c.self.view_is

pub get-requires : goal.get-requires
get-requires g c =
    let last = last_found c.in_ok-key.key c.self.inside.chain.items c.in_ok-key.ensures.distinct
    (sym c.in_ok-key.ensures.value) in
    there_is _ _ last.found

pub returns-clause-value : goal.returns-clause-value
returns-clause-value g c =
    let last = last_found c.in_ok-key.key c.self.inside.chain.items c.in_ok-key.ensures.distinct
    (sym c.in_ok-key.ensures.value) in
    let same : Some c.get.result.now ≡ Some last.entry = sym c.get.ensures.value ∙ last.found in
    let is : c.get.result.now ≡ last.entry = cc in
    ap (λ e. Some e.0) is ∙ sym last.name ∙ ap (λ v. last_id v.items) c.self.view_is
