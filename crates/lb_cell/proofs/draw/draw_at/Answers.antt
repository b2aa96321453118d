-- For `draw_at` of src/draw.rt: draws an entry of a queue for a lane, and answers its ticket: the queue has
-- made its step.
use Rattle.lb_cell.proofs.Publishing.{next_figure}
use Rattle.lb_cell.proofs.draw.draw_at.Goals as goal

pub publish-requires-clause-next : goal.publish-requires-clause-next
publish-requires-clause-next g c =
    next_figure c.args.queue.now.state c.args.item.header c.args.log.now.writer.cpu c.len.result c.draw_noted-ticket.result
    c.args.log.now.seat.list c.draw_noted-ticket.new.seat.list _ c.figure-fig.result c.args.log.now.writer.figures
    c.figure-fig.ensures c.len.ensures c.draw_noted-ticket.ensures.list c.requires.published c.requires.short
