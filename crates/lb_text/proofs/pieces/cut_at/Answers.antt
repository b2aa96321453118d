-- For `cut_at` of src/pieces.rt: the bytes before the first mark, and those after it.
use Rattle.lb_text.proofs.Cut.{starts}
use Rattle.lb_text.proofs.pieces.cut_at.Goals as goal

pub loop-i-init : goal.loop-i-init
loop-i-init c = starts c.args.text.now c.args.mark
