-- For `look` of src/cell.rt: the figure that is there now, and all that were published before it are seen.
use Rattle.std.proofs.Common.{rules}
use Rattle.lb_board.specs.Board.{Posts}
use Rattle.lb_seen.proofs.Steps.{looks}
use Rattle.lb_board.proofs.cell.look.Goals as goal

pub load_as-requires : goal.load_as-requires
load_as-requires g c = (search rules, (search rules, (search rules, looks Posts _ _)))
