-- For `serial_runs` of src/laws.rt: a serial run is never stuck: a lane that serves its row while the others
-- rest has a next entry; where all rest, each accepted row may be taken up, or else lane 0 goes on closing
-- the history.
use Rattle.lb_ready.proofs.Running.{service_goes_on, rows_are_taken, closing_goes_on, traces_have_runs}
use Rattle.lb_ready.proofs.laws.serial_runs.Goals as goal

pub returns-clause-service : goal.returns-clause-service
returns-clause-service c = service_goes_on c.next_stops.ensures.asked

pub returns-clause-rows : goal.returns-clause-rows
returns-clause-rows c = rows_are_taken c.a_partition_has_no_fault.ensures

pub returns-clause-closing : goal.returns-clause-closing
returns-clause-closing c = closing_goes_on c.next_stops.ensures.asked

pub returns-clause-traces : goal.returns-clause-traces
returns-clause-traces c = traces_have_runs
    (record {
      partition = c.a_partition_has_no_fault.ensures;
      asked = c.next_stops.ensures.asked;
      opens = c.ready.ensures.opens;
      stays = c.ready.ensures.stays;
      falls = c.entries_fall.ensures;
    })
