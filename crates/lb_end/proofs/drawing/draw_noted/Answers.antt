-- For `draw_noted` of src/drawing.rt: draws an entry of any owner for lane 0. It quotes the lane's last
-- entry, and is that from now on.
use Rattle.std.proofs.Common.{length}
use Rattle.lb_journal.specs.contracts.journal.Left.{the_row}
use Rattle.lb_cell.proofs.Quoting.{quote_known}
use Rattle.lb_end.proofs.drawing.draw_noted.Goals as goal

pub draw-ticket-requires-clause-quote : goal.draw-ticket-requires-clause-quote
draw-ticket-requires-clause-quote c =
    quote_known c.args.book.now.table the_row.coded (length c.args.item.header.cpus) c.args.last.now c.args.item c.args.note.now
    c.requires.quotes.0 c.requires.quotes.1 c.args.seat.now.known c.learn_last.new.seat.known c.learn_last.ensures.learnt
