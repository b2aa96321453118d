-- For `add_group` of src/sums.rt: a sum with the numbers of all CPUs of a group; None where it is not below
-- the limit.
use Rattle.std.proofs.Common.{rules, ℕ, ◌≡◌, ◌+◌, List, sym, ap, ◌∙◌, arith}
use Rattle.std.specs.List.{sum_by}
use Rattle.std.proofs.lemmas.List.Sums.{sum_by_push}
use Rattle.lb_base.specs.Mask.{members_below}
use Rattle.lb_base.specs.Figures.{fig_at, total}
use Rattle.lb_base.proofs.Members.{members_all}
use Rattle.lb_base.proofs.Walks.{stands, walk_starts, walk_steps, IsAt}
use Rattle.lb_lane.specs.Figures.{number_of}
use Rattle.lb_lane.proofs.sums.add_group.Goals as goal

pub loop-next-init : goal.loop-next-init
loop-next-init c =
    let f : ℕ → ℕ = λ cpu. number_of c.args.number (fig_at c.args.figs.now cpu) in
    let none : sum_by f (members_below c.args.group _) ≡ 0 =
    ap (sum_by f) (walk_starts c.args.group c.first-next.result c.first-next.ensures.cpus) in
    record {
      at = stands c.args.group 0 c.first-next.result c.first-next.ensures.cpus;
      so_far = omega (arith, none);
      below = c.requires.before;
    }

pub loop-next-preserved : goal.loop-next-preserved
loop-next-preserved c =
    let f : ℕ → ℕ = λ cpu. number_of c.args.number (fig_at c.args.figs.now cpu) in
    let m = c.args.group in
    let cpu = c.in-Some.cpu in
    let here : IsAt m cpu = rw c.in-Some.is at c.loop-next.invariant.at in
    let so_far : c.loop-next.sum ≡ c.args.before + sum_by f (members_below m cpu) =
    rw c.in-Some.is at c.loop-next.invariant.so_far in
    let here_is : c.of.result ≡ f cpu = c.of.ensures ∙ ap (number_of c.args.number) (search rules) in
    let more : sum_by f (members_below m _) ≡ sum_by f (members_below m cpu) + f cpu =
    ap (sum_by f) (walk_steps m cpu c.next_after-next.result here c.next_after-next.ensures.cpus)
    ∙ sum_by_push f (members_below m cpu) cpu in
    let step : c.in_ok-sum.sum ≡ c.loop-next.sum + c.of.result = c.in_ok-sum.ensures.0 in
    record {
      at = stands m (cpu + 1) c.next_after-next.result c.next_after-next.ensures.cpus;
      so_far = omega (arith, step, so_far, here_is, more);
      below = c.in_ok-sum.ensures.1;
    }

pub returns : goal.returns
unfolding total
returns c =
    let f : ℕ → ℕ = λ cpu. number_of c.args.number (fig_at c.args.figs.now cpu) in
    let so_far : c.loop-next.sum ≡ c.args.before + sum_by f (members_below c.args.group 64) =
    rw c.in_default.is at c.loop-next.invariant.so_far in
    (so_far ∙ ap (λ (l : List ℕ). c.args.before + sum_by f l) (sym (members_all c.args.group)), c.loop-next.invariant.below)
