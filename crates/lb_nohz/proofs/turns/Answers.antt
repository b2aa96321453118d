-- For `turns` of src/lib.rt: the CPUs for which a kick starts a turn: those of `span` whose figure has the
-- tickless flag.
use Rattle.std.proofs.Common.{◌≡◌, ◌^◌, ◌<◌, ◌&&◌, arith, rules, sym, ◌∙◌, inl, inr}
use Rattle.std.proofs.lemmas.Bool.{cases_lt, lt-ltb, le-ltb, and_left}
use Rattle.lb_base.specs.Mask.{has}
use Rattle.lb_base.specs.Figures.{fig_at, is_tickless}
use Rattle.lb_base.proofs.Members.{has_above, same_mask}
use Rattle.lb_base.proofs.Sets.{mask_where_has}
use Rattle.lb_nohz.specs.Kick.{tickless_cpus}
use Rattle.lb_nohz.proofs.turns.Goals as goal

pub returns-clause-value : goal.returns-clause-value
unfolding tickless_cpus
returns-clause-value c =
    let all : c.loop-cpu.cpu ≡ 64 = omega arith in
    same_mask _ _ (λ k.
    let found = c.loop-cpu.invariant k in
    (rw all at found) ∙ sym (mask_where_has (λ cpu. has c.args.span cpu && is_tickless (fig_at c.args.figs.now cpu)) k))

pub returns-clause-cpus : goal.returns-clause-cpus
returns-clause-cpus c k =
    let fits : c.args.span.bits < 2 ^ 64 = search rules in
    let found = c.loop-cpu.invariant k in
    elim (cases_lt k c.loop-cpu.cpu) [
      | inl below ↦ rw (lt-ltb k c.loop-cpu.cpu below) at found
      | inr past ↦ (rw (le-ltb k c.loop-cpu.cpu past) at found) ∙ sym (and_left _ _ (has_above c.args.span k fits (omega arith)))
    ]
