-- For `draw_noted` of src/draw.rt: draws an entry of any owner for a lane, and answers its ticket.
use Rattle.std.proofs.Common.{subst, sym, map, length}
use Rattle.lb_ticket.specs.Tickets.{pair}
use Rattle.lb_journal.specs.Journal.{Fits}
use Rattle.lb_journal.specs.contracts.journal.Left.{the_row}
use Rattle.lb_cell.proofs.Quoting.{quote_known}
use Rattle.lb_cell.proofs.draw.draw_noted.Goals as goal

pub draw-ticket-requires-clause-fits : goal.draw-ticket-requires-clause-fits
draw-ticket-requires-clause-fits c =
    subst (λ l. Fits (map pair l) c.args.item) (sym c.learn_last.ensures.seat.0.2) c.requires.fits

pub draw-ticket-requires-clause-quote : goal.draw-ticket-requires-clause-quote
draw-ticket-requires-clause-quote c =
    quote_known c.args.book.now.table the_row.coded (length c.args.item.header.cpus) c.args.known.now.ticket c.args.item
    c.args.known.now.note c.requires.quotes.0 c.requires.quotes.1 c.args.seat.now.known c.learn_last.new.seat.known
    c.learn_last.ensures.learnt
