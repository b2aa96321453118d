-- For `gather` of src/closing.rt: spends a publisher and its lookers, and answers the last version.
use Rattle.std.proofs.Common.{rules, ◌≡◌, get_or, ap, sym, subst, arith, ◌∙◌}
use Rattle.std.proofs.lemmas.List.{get_or_default}
use mathlib.Core.List.{IsPrefix}
use mathlib.Core.Logic.{dite}
use native.Mathlib.Decide.{ℕ_discrete}
use Rattle.lb_topub.specs.Versions.{VersionsSeen}
use Rattle.lb_topub.proofs.closing.gather.Goals as goal

pub loop-i-preserved : goal.loop-i-preserved
loop-i-preserved g c k d lt =
    let items = c.args.lookers.items in
    let i = c.loop-i.i in
    let r : VersionsSeen = c.index.result.now in
    let seen : IsPrefix r.topologies c.args.publisher.topologies =
    subst (λ (p : VersionsSeen). IsPrefix r.topologies p.topologies) c.publisher.view_is
    (subst (λ (s : VersionsSeen). IsPrefix s.topologies c.publisher.inside.known.topologies)
    c.behind-lookers.view_is c.check.ensures) in
    dite (ℕ_discrete k i)
    (λ (e : k ≡ i). let here : r ≡ get_or items k d = c.index.ensures
    ∙ (get_or_default items i r d (search rules) ∙ ap (λ j. get_or items j d) (sym e)) in
    subst (λ (s : VersionsSeen). IsPrefix s.topologies c.args.publisher.topologies) here seen)
    (λ ne. c.loop-i.invariant k d (omega (arith, ne)))
