-- For `positions_due` of src/turns.rt: the positions of the turn that is due, where no turn is open.
use Rattle.lb_due.proofs.Opened.{not_open, opened}
use Rattle.lb_due.proofs.turns.positions_due.Goals as goal

pub unreachable-requires : goal.unreachable-requires
unreachable-requires c = not_open _ _ _ _ _ c.in-TurnOpen.ensures c.requires.none

pub returns : goal.returns
returns c = opened _ _ _ _ _ _ c.in-Opened.ensures c.requires.none
