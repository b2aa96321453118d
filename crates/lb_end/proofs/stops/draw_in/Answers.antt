-- For `draw_in` of src/stops.rt: the task of lane 0's hand lands at the queue where it goes, by an `in`, and
-- lane 0 is at rest again.
use Rattle.std.proofs.Common.{◌≡◌, ◌+◌, length, sym, subst, ap, ◌∙◌, map}
use Rattle.lb_queue.specs.declared.answers.OutCause.TheVariants as cause
use Rattle.lb_core.specs.declared.course.Course.{Course}
use Rattle.lb_core.specs.declared.entry.Owner.TheVariants as owner
use Rattle.lb_core.specs.declared.entry.What.TheVariants as what
use Rattle.lb_core.specs.CourseAfter.{lands}
use Rattle.lb_core.specs.QueueAfter.{cause_of}
use Rattle.lb_cell.specs.Draws.{counted_at}
use Rattle.lb_ticket.specs.Tickets.{pair}
use Rattle.lb_journal.specs.Journal.{Fits}
use Rattle.lb_journal.specs.contracts.journal.Left.{the_row}
use Rattle.lb_end.specs.Drawing.{item_of}
use Rattle.lb_end.proofs.Fitting.{fits_in, in_step}
use Rattle.lb_end.proofs.stops.draw_in.Goals as goal

pub enter-requires-clause-fits : goal.enter-requires-clause-fits
enter-requires-clause-fits c =
    let h = c.args.header.now in
    let n = length c.args.seat.now.list + 1 in
    subst
    (λ (x : Course).
    Fits (map pair c.args.seat.now.list)
    (item_of h (owner.Queue c.args.cpu) x (counted_at c.args.cpu n c.arrive.new.course) c.args.last.now
    (what.Landed c.args.landing)))
    (sym c.of-quoted.ensures)
    (fits_in h c.args.cpu c.args.seat.now.list c.args.queue.now.state c.requires.queue c.args.course.now c.requires.course.0
    c.requires.to c.args.book.now.table the_row.coded c.args.note.now c.args.last.now
    (counted_at c.args.cpu n c.arrive.new.course) c.args.landing c.requires.declared.0 c.requires.declared.1
    c.requires.headers c.requires.quotes c.requires.list (ap (counted_at c.args.cpu n) c.arrive.ensures.course))

pub returns-clause-step : goal.returns-clause-step
returns-clause-step c =
    c.arrive.ensures.queue
    ∙ in_step c.args.header.now c.args.cpu c.args.seat.now.list c.args.queue.now.state c.requires.queue c.args.course.now
    c.requires.course.0 c.requires.to c.args.last.now c.enter.new.course c.args.landing
