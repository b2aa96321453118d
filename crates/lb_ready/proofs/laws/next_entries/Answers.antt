-- For `next_entries` of src/laws.rt: the entry that a lane draws next with the newest version and figures, as
-- it is computed, may be added; and it is the only serial entry of the lane that may.
use Rattle.lb_ready.proofs.Drawing.{next_is_serial, serial_is_next}
use Rattle.lb_ready.proofs.laws.next_entries.Goals as goal

pub returns : goal.returns
returns c = record {
  serial = next_is_serial c.next_stops.ensures.asked;
  all = serial_is_next c.next_stops.ensures.asked
      c.choices.ensures;
}
