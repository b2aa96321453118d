-- The loops of `cut_line` of src/lines.rt: the first line of a text, without its line feed, and what stands
-- behind that; None where there is no line feed.
use Rattle.std.proofs.Common.{◌≡◌, eqb, take, drop}
use Rattle.std.specs.List.{slice_split}
use Rattle.lb_text.proofs.Cut.{onto_front}
use Rattle.lb_read.proofs.lines.cut_line.Given as goal

abbrev pub invariant-loop-i : goal.invariant-loop-i
invariant-loop-i l =
    onto_front (take l.i l.text) (slice_split (λ b. eqb b 10) (drop l.i l.text)) ≡ slice_split (λ b. eqb b 10) l.text
