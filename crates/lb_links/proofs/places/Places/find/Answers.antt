use Rattle.std.proofs.Common.{◌∙◌, ap, subst, sym, Some}
use Rattle.std.proofs.lemmas.List.{get_or_default}
use Rattle.lb_links.specs.Lists.{value_of}
use Rattle.lb_links.specs.Places.{IsAt, IsGapFor}
use Rattle.lb_links.proofs.Rising.{value_at_place, value_in_gap}
use Rattle.lb_links.proofs.places.Places.find.Goals as goal

pub returns-in-Ok : goal.returns-in-Ok
returns-in-Ok c =
    let pairs = c.self.inside.pairs.items in
    let here = subst (λ l. IsAt l c.args.id c.in-Ok.at) c.deref.ensures.value c.in-Ok.ensures.found in
    let read = get_or_default pairs c.in-Ok.at c.index.result.now (0, 0) here.in_range in
    ap (λ p. Some p.1) (c.index.ensures ∙ read) ∙ sym (value_at_place pairs c.self.invariant c.args.id c.in-Ok.at here)
    ∙ ap (λ v. value_of c.args.id v.items) c.self.view_is

pub returns-in-Err : goal.returns-in-Err
returns-in-Err c =
    let gap = subst (λ l. IsGapFor l c.args.id c.in-Err.field-0) c.deref.ensures.value c.in-Err.ensures.absent in
    sym (value_in_gap c.self.inside.pairs.items c.args.id c.in-Err.field-0 gap)
    ∙ ap (λ v. value_of c.args.id v.items) c.self.view_is
