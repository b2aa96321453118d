-- For `writes_runs` of src/laws.rt: the runs that are written have exactly the CPUs of the mask, rise, and
-- leave a gap between each two: none could be longer.
use Rattle.lb_text.proofs.RoundTrip.{writes_runs}
use Rattle.lb_text.proofs.laws.writes_runs.Goals as goal

pub returns : goal.returns
returns c = writes_runs
