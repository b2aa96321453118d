-- The loops of `lines_from` of src/read.rt: reads all lines of a text.
use Rattle.std.proofs.Common.{◌≡◌, ◌≤◌, ◌+◌, ◌∷◌, true, length}
use Rattle.std.specs.List.{join_with_byte}
use Rattle.lb_fields.specs.Pieces.{pieces, is_plain}
use Rattle.lb_fields.specs.Standing.{Stands}
use Rattle.lb_trace.specs.declared.trace.TheConstants.{MAX_BYTES}
use Rattle.lb_trace.specs.Grammar.{lines_from, nothing_read}
use Rattle.lb_trace.specs.Sound.{IsSound}
use Rattle.lb_trace.specs.Ticked.{AreTicked}
use Rattle.lb_trace.proofs.read.lines_from.Given as goal

abbrev pub invariant-loop-next : goal.invariant-loop-next
invariant-loop-next l = record {
  sound : IsSound l.reading;
  ticked : AreTicked l.reading.rows l.ticked;
  some : 1 ≤ l.reading.line;
  room : l.reading.line + length (join_with_byte 10 (l.line ∷ l.lines)) ≤ MAX_BYTES + 1;
  from : lines_from l.reading (l.line ∷ l.lines) ≡ lines_from nothing_read (pieces 10 l.text);
  stands : is_plain l.line ≡ true → Stands l.reader (join_with_byte 10 (l.line ∷ l.lines));
}

abbrev pub decreases-loop-next : goal.decreases-loop-next
decreases-loop-next l = length l.lines
