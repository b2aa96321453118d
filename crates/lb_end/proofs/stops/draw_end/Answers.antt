-- For `draw_end` of src/stops.rt: lane 0, which is at rest, ends the history with the CPUs whose active
-- request is unserved.
use Rattle.std.proofs.Common.{sym, subst, map}
use Rattle.lb_core.specs.declared.course.Course.{Course}
use Rattle.lb_core.specs.declared.entry.Owner.TheVariants as owner
use Rattle.lb_core.specs.declared.entry.What.TheVariants as what
use Rattle.lb_ticket.specs.Tickets.{pair}
use Rattle.lb_journal.specs.Journal.{Fits}
use Rattle.lb_journal.specs.contracts.journal.Left.{the_row}
use Rattle.lb_end.specs.Drawing.{item_of}
use Rattle.lb_end.proofs.Fitting.{fits_end}
use Rattle.lb_end.proofs.stops.draw_end.Goals as goal

pub draw-requires-clause-fits : goal.draw-requires-clause-fits
draw-requires-clause-fits c =
    let h = c.args.header.now in
    subst
    (λ (x : Course).
    Fits (map pair c.args.seat.now.list)
    (item_of h (owner.Lane 0) x c.ended.new.course c.args.last.now (what.End c.args.unserved)))
    (sym c.of-quoted.ensures)
    (fits_end h c.args.seat.now.list c.args.book.now.table the_row.coded c.args.note.now c.args.course.now c.ended.new.course
    c.args.last.now c.args.unserved c.requires.declared c.requires.headers c.requires.course.0 c.requires.quotes
    c.requires.first c.ended.ensures)
