-- For `first_overlap` of src/parts.rt: the first mask that shares a CPU with one before it, and the first of
-- those.
use Rattle.std.proofs.Common.{◌∙◌, arith}
use borrow.Author.Count.{below_more}
use Rattle.lb_levels.proofs.Overlaps.{sharing, not_sharing, none_seen, one_more_seen, overlap_found, no_overlap}
use Rattle.lb_levels.proofs.parts.first_overlap.Goals as goal

pub loop-second-init : goal.loop-second-init
loop-second-init c = record {
  none = λ i lt. absurd (omega (arith, lt));
  union = none_seen c.args.parts.now c.none-seen.result c.none-seen.ensures.cpus;
}

pub returns-then-shares : goal.returns-then-shares
returns-then-shares c =
    c.overlap_with.ensures
    ∙ overlap_found c.args.parts.now c.loop-second.second c.loop-second-test.true c.loop-second.invariant.none
    (sharing c.args.parts.now c.loop-second.second c.loop-second.seen c.loop-second.invariant.union c.if-shares.ensures)

pub loop-second-preserved : goal.loop-second-preserved
loop-second-preserved c = record {
  none = below_more _ c.loop-second.second c.loop-second.invariant.none
      (not_sharing c.args.parts.now c.loop-second.second c.loop-second.seen c.loop-second.invariant.union c.if-shares.ensures);
  union = one_more_seen c.args.parts.now c.loop-second.second c.loop-second.seen c.or-seen.result
      c.or-seen.ensures.cpus c.loop-second.invariant.union;
}

pub returns : goal.returns
returns c = no_overlap c.args.parts.now (λ i lt. c.loop-second.invariant.none i (omega (arith, lt)))
