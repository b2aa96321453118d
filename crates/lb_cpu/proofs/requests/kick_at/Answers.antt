-- For `kick_at` of src/requests.rt: a tickless CPU is kicked.
use Rattle.std.proofs.Common.{ap}
use Rattle.lb_journal.specs.contracts.journal.Journal.{the_row}
use Rattle.lb_cpu.proofs.There.{drew_there}
use Rattle.lb_cpu.proofs.requests.kick_at.Goals as goal

pub returns-clause-kicked : goal.returns-clause-kicked
returns-clause-kicked g c =
    let n = g.N.Names in
    let cpu = c.args.cell.now.log.writer.cpu in
    let here = ap (λ w. w.cpu) c.make_room.ensures.log.1 in
    let x = c.kick-reply in
    let f = c.follow.ensures in
    record {
      there =
          drew_there n.header n.book n.board the_row.coded c.args.lane.now x.new.self c.follow.new.self cpu _ c.make_room.new.cell
          x.new.cell c.keeps.ensures here x.ensures.drew x.ensures.rest f.same f.read f.rest;
      reply_is = x.ensures.reply;
    }
