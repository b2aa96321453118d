-- For `Cell::cpu` of src/cell.rt: the CPU of the queue.
use Rattle.std.proofs.Common.{sym, ap, ◌∙◌, map}
use Rattle.lb_queue.specs.Queue.{QueueState}
use Rattle.lb_ticket.specs.Tickets.{pair}
use Rattle.lb_cell.specs.Cells.{CellIs}
use Rattle.lb_cell.proofs.Staying.{replay_stays}
use Rattle.lb_cell.proofs.cell.Cell.cpu.Goals as goal

pub returns-clause-own : goal.returns-clause-own
returns-clause-own g c =
    let s = c.self.inside.parts in
    let own = replay_stays c.calls_keep_rest.ensures g.N.Names.header s.log.writer.cpu (map pair s.log.seat.list) in
    ap (λ (x : CellIs). x.queue.state.cpu) (sym c.self.view_is)
    ∙ (ap (λ (q : QueueState). q.cpu) c.self.invariant.replayed ∙ (own ∙ sym c.cpu.ensures))
