-- The loops of `cut_at` of src/pieces.rt: the bytes before the first mark, and those after it.
use Rattle.std.proofs.Common.{◌≡◌, eqb, take, drop}
use Rattle.std.specs.List.{slice_split}
use Rattle.lb_text.proofs.Cut.{onto_front}
use Rattle.lb_text.proofs.pieces.cut_at.Given as goal

abbrev pub invariant-loop-i : goal.invariant-loop-i
invariant-loop-i l = onto_front (take l.i l.text) (slice_split (λ b. eqb b l.mark) (drop l.i l.text)) ≡ slice_split
    (λ b. eqb b l.mark) l.text
