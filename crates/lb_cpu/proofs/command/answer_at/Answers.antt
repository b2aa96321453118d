-- For `answer_at` of src/command.rt: a queue answers the command in service, which it may.
use Rattle.std.proofs.Common.{ap, sym, subst}
use Rattle.lb_queue.specs.Queue.{BookedQueue}
use Rattle.lb_cell.specs.Commands.{CanAnswer}
use Rattle.lb_journal.specs.contracts.journal.Journal.{the_row}
use Rattle.lb_cpu.proofs.There.{drew_there}
use Rattle.lb_cpu.proofs.command.answer_at.Goals as goal

pub returns-clause-ok : goal.returns-clause-ok
returns-clause-ok g c =
    let n = g.N.Names in
    let l = c.args.lane.now in
    let cpu = c.args.cell.now.log.writer.cpu in
    let room = c.make_room.ensures in
    let x = c.answer-reply in
    let f = c.follow.ensures in
    record {
      cpu = cpu;
      there =
          drew_there n.header n.book n.board the_row.coded l x.new.self c.follow.new.self cpu _ c.make_room.new.cell x.new.cell
          c.keeps.ensures (ap (λ w. w.cpu) room.log.1) x.ensures.drew x.ensures.rest f.same f.read f.rest;
      asked = subst (λ (q : BookedQueue). CanAnswer q.state cpu l.side.course) (sym room.queue) c.requires;
      answer = x.ensures.reply;
    }
