use Rattle.std.proofs.Common.{◌∙◌, ap, subst, sym, Some, None, if◌then◌else◌, eqb}
use Rattle.std.proofs.lemmas.List.{get_or_default}
use Rattle.lb_links.specs.Lists.{value_of}
use Rattle.lb_links.specs.Places.{IsAt, IsGapFor}
use Rattle.lb_links.proofs.Rising.{value_at_place, value_in_gap, values_removed, values_kept}
use Rattle.lb_links.proofs.places.Places.remove.Goals as goal

pub returns-in-Ok-clause-found : goal.returns-in-Ok-clause-found
returns-in-Ok-clause-found c =
    let pairs = c.self.inside.pairs.items in
    let here = subst (λ l. IsAt l c.args.id c.in-Ok.at) c.deref.ensures.value c.in-Ok.ensures.found in
    let read = get_or_default pairs c.in-Ok.at c.remove.result (0, 0) here.in_range in
    ap (λ p. Some p.1) (c.remove.ensures.value ∙ read)
    ∙ sym (value_at_place pairs c.self.invariant c.args.id c.in-Ok.at here)
    ∙ ap (λ v. value_of c.args.id v.items) c.self.view_is

pub returns-in-Ok-clause-keys : goal.returns-in-Ok-clause-keys
returns-in-Ok-clause-keys c = λ other.
    let here = subst (λ l. IsAt l c.args.id c.in-Ok.at) c.deref.ensures.value c.in-Ok.ensures.found in
    ap (value_of other) c.remove.ensures.items
    ∙ values_removed c.self.inside.pairs.items c.self.invariant c.args.id c.in-Ok.at here other
    ∙ ap (λ v. if eqb c.args.id other then None else value_of other v.items) c.self.view_is

pub returns-in-Err-clause-found : goal.returns-in-Err-clause-found
returns-in-Err-clause-found c =
    let gap = subst (λ l. IsGapFor l c.args.id c.in-Err.field-0) c.deref.ensures.value c.in-Err.ensures.absent in
    sym (value_in_gap c.self.inside.pairs.items c.args.id c.in-Err.field-0 gap)
    ∙ ap (λ v. value_of c.args.id v.items) c.self.view_is

pub returns-in-Err-clause-keys : goal.returns-in-Err-clause-keys
returns-in-Err-clause-keys c = λ other.
    let gap = subst (λ l. IsGapFor l c.args.id c.in-Err.field-0) (c.deref.ensures.value
    ∙ ap (λ v. v.items) c.self.view_is) c.in-Err.ensures.absent in
    values_kept c.args.self.now.items c.args.id c.in-Err.field-0 gap other
