-- The loops of `read_all` of src/whole.rt: all bytes up to the end of the input, of which there may be at
-- most `max`.
use Rattle.std.proofs.Common.{◌-◌, ◌≤◌, vec_len}
use Rattle.std.specs.Io.KnownBytes.{Consumes}
use Rattle.lb_io.proofs.whole.read_all.Given as goal

abbrev pub invariant-loop-count : goal.invariant-loop-count
invariant-loop-count g l = record {
  read : Consumes (g.S.Source.left l.fn.src) (g.S.Source.left l.src) l.all.items;
  counts : g.S.Source.faults l.fn.src ≤ g.S.Source.faults l.src;
  within : vec_len l.all ≤ l.max;
}

abbrev pub decreases-loop-count : goal.decreases-loop-count
decreases-loop-count g l = l.max - vec_len l.all
