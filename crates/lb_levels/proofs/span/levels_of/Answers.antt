-- For `levels_of` of src/span.rt: the levels, from the bottom.
use Rattle.std.proofs.Common.{◌≡◌, ℕ, List, ◌∷◌, map, filter, sym, ◌∙◌, ap, arith}
use Rattle.std.specs.List.{range_with_len}
use Rattle.std.proofs.lemmas.List.{map_push}
use Rattle.std.proofs.lemmas.Grind.{common_steps}
use Rattle.lb_base.specs.declared.shape.LevelName.{LevelName}
use Rattle.lb_base.specs.declared.shape.LevelName.TheVariants.{Smt, Mc, Pkg, Numa}
use Rattle.lb_levels.specs.Spans.{is_far, levels_of}
use Rattle.lb_base.proofs.Ranges.{filter_more, filter_same}
use Rattle.lb_levels.proofs.span.levels_of.Goals.{then-is_far+in_ok-push-4, else-is_far}
use Rattle.lb_levels.proofs.span.levels_of.Goals as goal

pub loop-d-preserved : goal.loop-d-preserved
loop-d-preserved c =
    let numa : ℕ → LevelName = λ d. Numa d in
    elim c.if-is_far.branch [
      | then-is_far+in_ok-push-4 w ↦
          let more = ap (map numa) (filter_more (is_far c.args.distances.now) c.loop-d.d
          (sym c.is_far.ensures ∙ w.if-is_far.true))
          ∙ map_push numa (filter (is_far c.args.distances.now) (range_with_len 0 c.loop-d.d)) c.loop-d.d in
          grind (arith, common_steps, more, w.names-is, w.in_ok-push-4.ensures, c.loop-d.invariant)
      | else-is_far w ↦
          let same = ap (map numa) (filter_same (is_far c.args.distances.now) c.loop-d.d
          (sym c.is_far.ensures ∙ w.if-is_far.false)) in
          w.names-is ∙ c.loop-d.invariant ∙ ap (λ (ls : List LevelName). Smt ∷ Mc ∷ Pkg ∷ ls) (sym same)
    ]

pub returns : goal.returns
unfolding levels_of
returns c =
    let all : c.loop-d.d ≡ 256 = omega arith in
    c.loop-d.invariant ∙ ap (λ (n : ℕ). Smt ∷ Mc ∷ Pkg ∷ map (λ d. Numa d)
    (filter (is_far c.args.distances.now) (range_with_len 0 n))) all
