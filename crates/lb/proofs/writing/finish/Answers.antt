-- For `finish` of src/writing.rt: ends a call: writes what its work made of its source, or keeps the status
-- with which it failed, and reports how the call ended.
use Rattle.lb.proofs.Ending.{Reading}
use Rattle.lb.proofs.Reporting.{reported, completes}
use Rattle.lb.proofs.writing.finish.Goals as goal

pub returns-clause-answers : goal.returns-clause-answers
returns-clause-answers g c asked source has fails =
    reported c.put-status.result c.report.result _ _ (c.put-status.ensures.says asked source has fails) c.report.ensures

pub returns-clause-completes : goal.returns-clause-completes
returns-clause-completes g c asked source has fails =
    let law : Reading =
    record {
      once = c.texts_read_once.ensures.once;
      apart = c.texts_read_once.ensures.apart;
      first = c.texts_read_once.ensures.first;
    }
    in
    completes law c.report.result _ _
    (reported c.put-status.result c.report.result _ _ (c.put-status.ensures.says asked source has fails) c.report.ensures)
