-- For `are_of` of src/figures.rt: whether there is one name for each CPU of the mask, in their order.
use Rattle.std.proofs.Common.{◌≡◌, Bool, true, false, not, refl, List, map, sym, ◌∙◌, ap, is_some}
use Rattle.std.proofs.lemmas.Bool.{not-true, not-false}
use Rattle.std.proofs.lemmas.List.{drop_all}
use Rattle.lb_base.proofs.Walks.{stands}
use Rattle.lb_core.specs.declared.entry.FigName.{FigName}
use Rattle.lb_core.specs.Same.{same_numbers}
use Rattle.lb_judge.proofs.Ahead.{ahead, all_ahead, same_ahead, differs_ahead, none_ahead}
use Rattle.lb_judge.proofs.figures.are_of.Goals as goal

pub loop-name-init : goal.loop-name-init
loop-name-init c = record {
  at = stands c.args.mask 0 c.first-next.result c.first-next.ensures.cpus;
  so_far = ap (same_numbers (map (λ (f : FigName). f.cpu) c.args.names.now))
      (all_ahead c.args.mask c.first-next.result c.first-next.ensures.cpus);
}

pub returns-then-ne : goal.returns-then-ne
returns-then-ne c =
    sym (c.loop-name.invariant.so_far
    ∙ differs_ahead c.args.mask c.args.names.now c.loop-name.name-index _ c.loop-name.next c.loop-name-test.true
    c.loop-name.invariant.at
    (not-true _ (sym c.ne.ensures ∙ c.if-ne.true)))

pub loop-name-preserved : goal.loop-name-preserved
loop-name-preserved c = record {
  at = stands c.args.mask _ c.next_after-next.result c.next_after-next.ensures.cpus;
  so_far =
      c.loop-name.invariant.so_far
      ∙ same_ahead c.args.mask c.args.names.now c.loop-name.name-index _ c.loop-name.next c.next_after-next.result
      c.loop-name-test.true
      c.loop-name.invariant.at (not-false _ (sym c.ne.ensures ∙ c.if-ne.false)) c.next_after-next.ensures.cpus;
}

pub returns : goal.returns
returns c =
    let none : c.is_none.result ≡ not (is_some c.loop-name.next) = by_test c.is_none.result (is_some c.loop-name.next)
    c.is_none.ensures in
    none ∙ sym (c.loop-name.invariant.so_far
    ∙ ap (λ (l : List FigName). same_numbers (map (λ (f : FigName). f.cpu) l) (ahead c.args.mask c.loop-name.next))
    (drop_all c.loop-name.name-index c.args.names.now c.loop-name-test.false)
    ∙ none_ahead c.args.mask c.loop-name.next c.loop-name.invariant.at)
  where
    by_test : (a b : Bool) → b ≡ not a → a ≡ not b
    by_test true b h = let e : b ≡ false = h in rw e refl
    by_test false b h = let e : b ≡ true = h in rw e refl
