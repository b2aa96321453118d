-- For `judge`, which calls `State::step`: an entry that was read in range (`written_fits`) says what is in range
-- (`what_fits`).
use Rattle.std.proofs.Common.{◌≡◌, true}
use Rattle.std.proofs.lemmas.Bool.{and_parts}
use Rattle.lb_core.specs.Ranges.{entry_fits, what_fits}
use Rattle.lb_read.specs.declared.written.WrittenEntry.{WrittenEntry}
use Rattle.lb_read.specs.Written.{written_fits}

pub says_what_fits : (w : WrittenEntry) → written_fits w ≡ true → what_fits w.entry.what ≡ true
unfolding entry_fits
says_what_fits w k = (and_parts _ _ k).1
