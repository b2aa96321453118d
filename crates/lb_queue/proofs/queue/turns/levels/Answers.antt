-- For `levels` of src/queue/turns.rt: how many levels a newly-idle turn goes up.
use Rattle.std.proofs.Common.{◌≡◌, ◌≤◌, ◌∙◌, true, sym, arith}
use Rattle.lb_base.proofs.Members.{length-members_le}
use Rattle.lb_newidle.specs.Budget.{goes_on}
use Rattle.lb_queue.proofs.Opening.{level_step}
use Rattle.lb_queue.proofs.queue.turns.levels.Goals as goal

pub loop-shape-preserved : goal.loop-shape-preserved
loop-shape-preserved c =
    let least : c.weight-weight.result ≤ 64 = rw c.weight-weight.ensures (length-members_le _) in
    let taken : goes_on c.args.avg_idle c.loop-shape.spent c.from.result ≡ true =
    rw c.from.ensures (sym c.next_level.ensures ∙ c.if-not-next_level.false) in
    let small = c.loop-shape.invariant.2 in
    let same = c.loop-shape.invariant.0 in
    let width = c.from.ensures in (
      omega arith,
      level_step c.args.avg_idle c.loop-shape.spent c.from.result c.loop-shape.level _ c.loop-shape.shape-index
          c.args.shapes.now _ c.loop-shape-test.true (c.from.ensures ∙ c.weight-weight.ensures) taken c.loop-shape.invariant.1,
      omega arith,
    )
