-- For `span_of` of src/span.rt: the span of a CPU at a level.
use Rattle.std.proofs.Common.{◌≡◌, ℕ, Bool, ltb, eqb, ◌&&◌, ◌||◌, length, ◌∙◌, ap, arith}
use Rattle.lb_levels.specs.Rows.{row_at}
use Rattle.lb_levels.specs.Spans.{shares, span_of}
use Rattle.lb_base.proofs.Sets.{same_where}
use Rattle.lb_base.proofs.Ranges.{one_joins}
use Rattle.lb_levels.proofs.span.span_of.Goals as goal

pub loop-k-preserved : goal.loop-k-preserved
loop-k-preserved c i =
    let together : ℕ → Bool = λ k. shares c.args.distances.now c.args.level (row_at c.args.cpus.now c.args.cpu)
    (row_at c.args.cpus.now k) in
    c.joined-span.ensures i
    ∙ ap (λ (b : Bool). b || (eqb i c.loop-k.k && c.shares-joins.result)) (c.loop-k.invariant i)
    ∙ ap (λ (b : Bool). (ltb i c.loop-k.k && together i) || (eqb i c.loop-k.k && b)) c.shares-joins.ensures
    ∙ one_joins together c.loop-k.k i

pub returns : goal.returns
unfolding span_of
returns c =
    let together : ℕ → Bool = λ k. shares c.args.distances.now c.args.level (row_at c.args.cpus.now c.args.cpu)
    (row_at c.args.cpus.now k) in
    let all : c.loop-k.k ≡ length c.args.cpus.now = omega arith in
    same_where c.loop-k.span (length c.args.cpus.now) together c.requires.few
    (λ k. c.loop-k.invariant k ∙ ap (λ (n : ℕ). ltb k n && together k) all)
