use Rattle.std.proofs.Common.{◌≡◌, ◌∙◌, ap, sym, Some}
use Rattle.std.specs.Option.{option_copied}
use Rattle.lb_links.specs.Lists.{value_of}
use Rattle.lb_links.proofs.Named.{placed, by_id, by_key, key_there, no_value}
use Rattle.lb_links.proofs.links.Links.get.Goals as goal

pub returns-in_err-key-clause-value : goal.returns-in_err-key-clause-value
returns-in_err-key-clause-value g c =
    let none = no_value c.args.id c.self.inside.chain.items (sym (c.self.invariant.found c.args.id)
    ∙ sym c.in_err-key.ensures) in
    ap option_copied c.from_residual.ensures ∙ sym none ∙ ap (λ v. value_of c.args.id v.items) c.self.view_is

pub get-requires : goal.get-requires
get-requires g c = key_there c.args.id c.in_ok-key.key c.self.inside.chain.items (sym (c.self.invariant.found c.args.id)
    ∙ sym c.in_ok-key.ensures)

pub returns-clause-value : goal.returns-clause-value
returns-clause-value g c =
    let p = placed c.args.id c.in_ok-key.key c.self.inside.chain.items c.get.ensures.distinct c.self.invariant.distinct
    (sym (c.self.invariant.found c.args.id) ∙ sym c.in_ok-key.ensures) in
    let same : Some c.get.result.now ≡ Some (c.args.id, p.value) = sym c.get.ensures.value ∙ by_key _ _ _ p in
    let is : c.get.result.now ≡ (c.args.id, p.value) = cc in
    ap (λ e. Some e.1) is ∙ sym (by_id _ _ _ p) ∙ ap (λ v. value_of c.args.id v.items) c.self.view_is
