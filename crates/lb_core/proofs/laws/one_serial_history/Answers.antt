-- For `one_serial_history` of src/laws.rt: a trace has at most one serial history: with the newest versions
-- and figures, and the rows in file order, each served to its end before the next, the rules leave one entry
-- at each place.
use Rattle.lb_core.proofs.OneSerial.{one_serial_history}
use Rattle.lb_core.proofs.laws.one_serial_history.Goals as goal

pub returns : goal.returns
returns c = one_serial_history
