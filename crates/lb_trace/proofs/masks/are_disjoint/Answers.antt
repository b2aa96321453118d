-- For `are_disjoint` of src/masks.rt: whether no two masks share a CPU.
use Rattle.std.proofs.Common.{sym}
use Rattle.std.proofs.lemmas.Bool.{not-false, not-true}
use Rattle.lb_trace.proofs.MaskFacts.{one_more, one_shared}
use Rattle.lb_trace.proofs.masks.are_disjoint.Goals as goal

pub returns-then-share : goal.returns-then-share
returns-then-share c = one_shared c.args.masks.now c.loop-mask.mask-index c.loop-mask.seen c.loop-mask-test.true
    c.loop-mask.invariant (not-true _ (sym c.if-share.ensures))

pub loop-mask-preserved : goal.loop-mask-preserved
loop-mask-preserved c =
    one_more c.args.masks.now c.loop-mask.mask-index c.loop-mask.seen c.or-seen.result c.loop-mask-test.true
    c.loop-mask.invariant (not-false _ (sym c.if-share.ensures)) c.or-seen.ensures.cpus
