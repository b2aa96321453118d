-- For `first_idle` of src/destination.rt.
use Rattle.std.proofs.Common.{◌+◌, arith}
use Rattle.lb_base.proofs.Walks.{stands, IsAt}
use Rattle.lb_imbalance.proofs.Idle.{none_passed, none_more, first_idle_none, first_idle_some, NoneIdle}
use Rattle.lb_imbalance.proofs.destination.first_idle.Goals as goal
use Rattle.lb_imbalance.proofs.destination.first_idle.Goals.{In-Some}

pub loop-next-init : goal.loop-next-init
loop-next-init c = record {
  at = stands c.args.group 0 c.first-next.result c.first-next.ensures.cpus;
  none = none_passed c.args.figs.now c.args.group 0 c.first-next.result (λ k lt. absurd (omega (arith, lt)))
      c.first-next.ensures.cpus;
}

at : (c : In-Some) → IsAt c.args.group c.in-Some.cpu
at c = rw c.in-Some.is at c.loop-next.invariant.at

none : (c : In-Some) → NoneIdle c.args.figs.now c.args.group c.in-Some.cpu
none c = rw c.in-Some.is at c.loop-next.invariant.none

pub returns-then-figs-cpu-eq0 : goal.returns-then-figs-cpu-eq0
returns-then-figs-cpu-eq0 c =
    let d = (goal.at.returns-then-figs-cpu-eq0 c).In-Some in
    first_idle_some c.args.figs.now c.args.group c.in-Some.cpu (at d) c.if-figs-cpu-eq0.true (none d)

pub loop-next-preserved : goal.loop-next-preserved
loop-next-preserved c =
    let d = (goal.at.loop-next-preserved c).In-Some in
    record {
      at = stands c.args.group (c.in-Some.cpu + 1) c.next_after-next.result c.next_after-next.ensures.cpus;
      none = none_passed c.args.figs.now c.args.group (c.in-Some.cpu + 1) c.next_after-next.result
          (none_more c.args.figs.now c.args.group c.in-Some.cpu (none d) c.if-figs-cpu-eq0.false) c.next_after-next.ensures.cpus;
    }

pub returns : goal.returns
returns c = first_idle_none c.args.figs.now c.args.group (rw c.in_default.is at c.loop-next.invariant.none)
