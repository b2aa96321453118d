-- The loops of `Ended::serve_all` of src/requests.rt: serves every pending stop request, CPUs rising and, at
-- a CPU, tasks rising.
use Rattle.lb_end.specs.Closing.{ClosesOn}
use Rattle.lb_end.specs.Finished.{AllRest}
use Rattle.lb_end.proofs.ended.Ended.serve_all.Given as goal

abbrev pub invariant-loop : goal.invariant-loop
invariant-loop g l =
    (goal.iterator-loop g).can_next l.iterator' × (goal.iterator-loop g).is_finite l.iterator'
    × ClosesOn g.N.Names.header l.initial.self l.self × AllRest l.self.courses
