-- For `permitted_stays` of src/laws.rt: in the opening state of an accepted header each awake task may run
-- where it is or is asked to leave, and each task in a hand may run where the hand goes; and each queue is
-- its CPU's, and no task's mask is empty.
use Rattle.lb_core.proofs.Permits.{permitted_opens, permitted_stays}
use Rattle.lb_core.proofs.laws.permitted_stays.Goals as goal

pub returns-clause-opens : goal.returns-clause-opens
returns-clause-opens c = permitted_opens

pub returns-clause-stays : goal.returns-clause-stays
returns-clause-stays c = permitted_stays (record {
  last = c.tests_last.ensures;
  rest = c.calls_keep_rest.ensures;
  run = c.taken_may_run.ensures;
  next = c.next_stops.ensures.taken;
})
