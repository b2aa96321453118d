-- For `permitted` of src/laws.rt: after every legal front of an accepted header, each awake task may run
-- where it is or is asked to leave, and each task in a hand may run where the hand goes
-- (docs/rules/queue.md).
use Rattle.lb_core.proofs.Permits.{permitted_always}
use Rattle.lb_core.proofs.Passing.{passes_always}
use Rattle.lb_core.proofs.laws.permitted.Goals as goal

pub returns-clause-permitted : goal.returns-clause-permitted
returns-clause-permitted c =
    permitted_always c.calls_move.ensures
    (record {
      last = c.tests_last.ensures;
      rest = c.calls_keep_rest.ensures;
      run = c.taken_may_run.ensures;
      next = c.next_stops.ensures.taken;
    })

pub returns-clause-passes : goal.returns-clause-passes
returns-clause-passes c = passes_always (record {
  rest = c.calls_keep_rest.ensures;
  order = c.domains_stand_in_order.ensures;
}) c.pulls_follow_picks.ensures
