-- For `close_at` of src/closing.rt: the position in work is closed.
use Rattle.std.proofs.Common.{ap, refl}
use Rattle.lb_journal.specs.contracts.journal.Journal.{the_row}
use Rattle.lb_cpu.proofs.There.{drew_there}
use Rattle.lb_cpu.proofs.closing.close_at.Goals as goal

pub returns-clause-closed : goal.returns-clause-closed
returns-clause-closed g c =
    let n = g.N.Names in
    let cpu = c.args.cell.now.log.writer.cpu in
    let here = ap (λ w. w.cpu) c.make_room.ensures.log.1 in
    let x = c.close-outcome in
    let f = c.follow.ensures in
    record {
      what = _;
      there =
          drew_there n.header n.book n.board the_row.coded c.args.lane.now x.new.self c.follow.new.self cpu _ c.make_room.new.cell
          x.new.cell c.keeps.ensures here x.ensures.drew x.ensures.rest f.same f.read f.rest;
      is = refl;
      outcome_is = x.ensures.outcome;
    }
