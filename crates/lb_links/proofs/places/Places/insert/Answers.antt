use Rattle.std.proofs.Common.{◌∙◌, ap, subst, sym, Some, if◌then◌else◌, eqb}
use Rattle.lb_links.specs.Lists.{value_of}
use Rattle.lb_links.specs.Places.{IsAt, IsGapFor, IsRising}
use Rattle.lb_links.proofs.Rising.{value_at_place, values_inserted, rising_inserted}
use Rattle.lb_links.proofs.places.Places.insert.Goals as goal

pub unreachable-requires : goal.unreachable-requires
unreachable-requires c =
    let here = subst (λ l. IsAt l c.args.id c.in-Ok.field-0) c.deref.ensures.value c.in-Ok.ensures.found in
    let there = sym (value_at_place c.self.inside.pairs.items c.self.invariant c.args.id c.in-Ok.field-0 here)
    ∙ ap (λ v. value_of c.args.id v.items) c.self.view_is ∙ c.requires.new in
    cc

pub invariant_of-self : goal.invariant_of-self
invariant_of-self c =
    let gap = subst (λ l. IsGapFor l c.args.id c.in-Err.at) c.deref.ensures.value c.in-Err.ensures.absent in
    subst IsRising (sym c.in-Ok-insert.ensures.items)
    (rising_inserted c.self.inside.pairs.items c.args.id c.in-Err.at gap c.args.key c.self.invariant)

pub returns-clause-keys : goal.returns-clause-keys
returns-clause-keys c = λ other.
    let gap = subst (λ l. IsGapFor l c.args.id c.in-Err.at) c.deref.ensures.value c.in-Err.ensures.absent in
    ap (value_of other) c.in-Ok-insert.ensures.items
    ∙ values_inserted c.self.inside.pairs.items c.args.id c.in-Err.at gap c.args.key other
    ∙ ap (λ v. if eqb c.args.id other then Some c.args.key else value_of other v.items) c.self.view_is
