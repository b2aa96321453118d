-- The loops of `note_records` of src/hands.rt: the records of the tasks in a hand take the place of as many
-- others.
use Rattle.std.proofs.Common.{◌≡◌, length, take}
use Rattle.lb_act.proofs.hands.note_records.Given as goal

abbrev pub invariant-loop-i : goal.invariant-loop-i
invariant-loop-i l = record {
  room : length l.records ≡ length l.hand.tasks;
  so_far : take l.i l.records ≡ take l.i l.hand.tasks;
}
