-- The loops of `settle` of src/passing.rt: attempts until no further look is due, or one moves nothing.
use Rattle.lb_journal.specs.contracts.journal.Journal.{the_row}
use Rattle.lb_pass.proofs.Settling.{Tries}
use Rattle.lb_pass.proofs.passing.settle.Given as goal

abbrev pub invariant-loop : goal.invariant-loop
invariant-loop g l =
    (goal.iterator-loop g).can_next l.iterator' × (goal.iterator-loop g).is_finite l.iterator'
    × Tries g.N.Names.header g.N.Names.book g.N.Names.board the_row.coded l.fn.lane l.lane
