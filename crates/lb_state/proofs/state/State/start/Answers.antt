-- For `State::start` of src/state.rt: the machine of an accepted header before any entry.
use Rattle.std.proofs.Common.{sym, subst}
use Rattle.lb_ready.specs.Ready.{IsReady}
use Rattle.lb_state.proofs.state.State.start.Goals as goal

pub invariant_of-result : goal.invariant_of-result
invariant_of-result c = record {
  ready = subst IsReady (sym c.in_ok-engine.ensures.machine) (c.ready.ensures.opens c.args.header.now c.requires);
  hands = c.in_ok-engine.ensures.hands;
}
