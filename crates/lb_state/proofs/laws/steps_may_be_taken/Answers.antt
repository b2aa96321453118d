-- For `steps_may_be_taken` of src/laws.rt: an entry that may be added to a ready machine meets what its step
-- asks of the engine, where the nice value of its row, if it takes up one, is in range.
use Rattle.lb_state.proofs.Taking.{ReadyLaws, steps_may_be_taken}
use Rattle.lb_state.proofs.laws.steps_may_be_taken.Goals as goal

pub returns : goal.returns
returns c =
    let laws : ReadyLaws = record {
      stays = c.ready.ensures.stays;
      calls = c.calls_may_be_made.ensures.calls;
      stand = c.calls_may_be_made.ensures.stand;
      suit = c.lanes_suit.ensures;
      inside = c.spans_lie_inside.ensures;
    } in
    steps_may_be_taken laws
