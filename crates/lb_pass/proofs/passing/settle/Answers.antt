-- For `settle` of src/passing.rt: attempts until no further look is due, or one moves nothing.
use Rattle.std.proofs.Common.{refl}
use Rattle.lb_pass.proofs.Settling.{ends_in_vain, ends_pulled, one_more, pull_of, still, stop_stays, vain_of}
use Rattle.lb_pass.proofs.passing.settle.Goals as goal

pub returns-in_err-pulled-clause-stays : goal.returns-in_err-pulled-clause-stays
returns-in_err-pulled-clause-stays g c =
    still c.args.lane.now c.loop.lane c.attempt.new.lane c.loop.invariant.2.stays
    (stop_stays g.N.Names.header g.N.Names.board c.loop.lane c.attempt.new.lane c.in_err-pulled.ensures.refused)

pub returns-then-not-pulled-clause-stays : goal.returns-then-not-pulled-clause-stays
returns-then-not-pulled-clause-stays g c =
    (ends_in_vain g.N.Names.header g.N.Names.book g.N.Names.board _ c.args.lane.now c.loop.lane c.attempt.new.lane
    c.loop.invariant.2 (vain_of _ _ c.in_ok-pulled.pulled c.if-not-pulled.true c.in_ok-pulled.ensures.ok)).stays

pub returns-then-not-can_look-clause-settled : goal.returns-then-not-can_look-clause-settled
returns-then-not-can_look-clause-settled g c =
    (ends_pulled g.N.Names.header g.N.Names.book g.N.Names.board _ c.args.lane.now c.loop.lane c.attempt.new.lane
    c.loop.invariant.2 (pull_of _ _ c.in_ok-pulled.pulled c.if-not-pulled.false c.in_ok-pulled.ensures.ok)
    c.in_ok-pulled.ensures.further c.if-not-can_look.ensures.1).settled

pub returns-then-not-can_look-clause-stays : goal.returns-then-not-can_look-clause-stays
returns-then-not-can_look-clause-stays g c =
    (ends_pulled g.N.Names.header g.N.Names.book g.N.Names.board _ c.args.lane.now c.loop.lane c.attempt.new.lane
    c.loop.invariant.2 (pull_of _ _ c.in_ok-pulled.pulled c.if-not-pulled.false c.in_ok-pulled.ensures.ok)
    c.in_ok-pulled.ensures.further c.if-not-can_look.ensures.1).stays

pub loop-preserved : goal.loop-preserved
loop-preserved g c = (
  tt,
  tt,
  one_more g.N.Names.header g.N.Names.book g.N.Names.board _ c.args.lane.now c.loop.lane c.attempt.new.lane
      c.loop.invariant.2 (pull_of _ _ c.in_ok-pulled.pulled c.if-not-pulled.false c.in_ok-pulled.ensures.ok)
      (c.if-not-can_look.ensures.0 refl),
)
