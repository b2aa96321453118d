-- For `cut_line` of src/lines.rt: the first line of a text, without its line feed, and what stands behind
-- that; None where there is no line feed.
use Rattle.lb_text.proofs.Cut.{starts}
use Rattle.lb_read.proofs.lines.cut_line.Goals as goal

pub loop-i-init : goal.loop-i-init
loop-i-init c = starts c.args.text.now 10
