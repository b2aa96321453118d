-- For `entries_fall` of src/laws.rt: every entry that may be added lowers the number of entries that are
-- left, whichever lane draws it.
use Rattle.lb_ready.proofs.Work.{entries_fall}
use Rattle.lb_ready.proofs.laws.entries_fall.Goals as goal

pub returns : goal.returns
returns c m e rows k h = entries_fall (record {
  advanced_is = c.advanced_is_bounded.ensures;
  value_is = c.value_is_bounded.ensures;
  moves = c.calls_move.ensures;
  tests = c.tests_last.ensures;
  rest = c.calls_keep_rest.ensures;
  asked = c.next_stops.ensures.asked;
  taken = c.next_stops.ensures.taken;
}) m e rows k.placed h
