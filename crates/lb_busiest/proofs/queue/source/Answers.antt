-- For `source` of src/queue.rt: the CPU of `group` that a pull takes from, or None where no CPU of it has
-- something to give (docs/rules/decision.md).
use Rattle.std.proofs.Common.{◌+◌, None, arith}
use Rattle.lb_base.specs.declared.mask.TheConstants.{MAX_CPUS}
use Rattle.lb_base.specs.Greatest.{Picks}
use Rattle.lb_busiest.specs.Sources.{may_be_source, has_more}
use Rattle.lb_busiest.proofs.Order.{no_source, source_of-found}
use Rattle.lb_busiest.proofs.Walk.{StandsAt, walks}
use Rattle.lb_busiest.proofs.queue.source.Goals as goal
use Rattle.lb_busiest.proofs.queue.source.Goals.{In-Some}

at : (c : In-Some) → StandsAt (may_be_source c.args.figs.now c.args.group c.args.kind c.args.imbalance)
    (has_more c.args.figs.now c.args.kind) c.args.group c.loop-next.best c.in-Some.cpu
at c = rw c.in-Some.is at c.loop-next.invariant

pub loop-next-init : goal.loop-next-init
loop-next-init c =
    walks (may_be_source c.args.figs.now c.args.group c.args.kind c.args.imbalance)
    (has_more c.args.figs.now c.args.kind) c.args.group None 0 c.first-next.result
    (no_source c.args.figs.now c.args.group c.args.kind c.args.imbalance) (omega arith)
    (λ k lt. absurd (omega (arith, lt))) c.first-next.ensures.cpus

pub with_cpu-best-requires : goal.with_cpu-best-requires
with_cpu-best-requires c = let here = at (goal.at.with_cpu-best-requires c).In-Some in
    record { figures = c.requires; in_range = here.in_range; so_far = here.so_far }

pub loop-next-preserved : goal.loop-next-preserved
loop-next-preserved c =
    let here = at (goal.at.loop-next-preserved c).In-Some in
    let room = here.in_range in
    walks (may_be_source c.args.figs.now c.args.group c.args.kind c.args.imbalance)
    (has_more c.args.figs.now c.args.kind) c.args.group c.with_cpu-best.result (c.in-Some.cpu + 1) c.next_after-next.result
    (no_source c.args.figs.now c.args.group c.args.kind c.args.imbalance)
    (omega arith) c.with_cpu-best.ensures c.next_after-next.ensures.cpus

pub returns : goal.returns
returns c =
    let found : Picks (may_be_source c.args.figs.now c.args.group c.args.kind c.args.imbalance)
    (has_more c.args.figs.now c.args.kind) MAX_CPUS c.loop-next.best = rw c.in_default.is at c.loop-next.invariant in
    record {
      value = source_of-found c.args.figs.now c.args.group c.args.kind c.args.imbalance c.loop-next.best found;
      first = found;
    }
