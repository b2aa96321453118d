-- For `draw_out` of src/stops.rt: the task of the queue's next pending stop request leaves in a hand that
-- goes where it does, by an `out stop`.
use Rattle.std.proofs.Common.{◌≡◌, ◌<◌, ◌+◌, length, sym, subst, ap, ◌∙◌, map, arith}
use Rattle.std.proofs.lemmas.List.{length-set}
use Rattle.std.specs.Prelude.{None}
use Rattle.lb_queue.specs.declared.answers.OutCause.TheVariants as cause
use Rattle.lb_queue.specs.Hands.{HandState, take_stop}
use Rattle.lb_core.specs.declared.course.Course.{Course}
use Rattle.lb_core.specs.declared.entry.Owner.TheVariants as owner
use Rattle.lb_core.specs.declared.entry.What.TheVariants as what
use Rattle.lb_core.specs.CourseAfter.{takes_off}
use Rattle.lb_core.specs.Leaving.{leaving_by}
use Rattle.lb_cell.specs.Draws.{counted_at}
use Rattle.lb_ticket.specs.Tickets.{pair}
use Rattle.lb_journal.specs.Journal.{Fits}
use Rattle.lb_journal.specs.contracts.journal.Left.{the_row}
use Rattle.lb_end.specs.Drawing.{item_of}
use Rattle.lb_end.proofs.Fitting.{fits_out, out_step}
use Rattle.lb_end.proofs.Leaving.{goes_off, hand_tasks, one_id, one_long, one_task, stop_clock, OneTask}
use Rattle.lb_end.proofs.stops.draw_out.Goals as goal

pub note_records-requires : goal.note_records-requires
note_records-requires c =
    let q = c.args.queue.now.state in
    let at = c.args.course.now.at in
    c.requires.lists.0
    ∙ sym (ap length (hand_tasks q at (take_stop q at c.args.stop.id).0 c.args.hand.now c.take_stop.new.hand
    c.take_stop.ensures.hand
    c.requires.hand.0)
    ∙ one_long c.args.stop.id _ (one_task q at c.args.stop.id c.args.hand.now.to c.requires.stop.1))

pub taken_off-requires : goal.taken_off-requires
taken_off-requires c =
    let q = c.args.queue.now.state in
    let at = c.args.course.now.at in
    let one : length c.note_records.new.records ≡ 1 =
    ap length c.note_records.ensures
    ∙ (ap length (hand_tasks q at (take_stop q at c.args.stop.id).0 c.args.hand.now c.take_stop.new.hand c.take_stop.ensures.hand
    c.requires.hand.0)
    ∙ one_long c.args.stop.id _ (one_task q at c.args.stop.id c.args.hand.now.to c.requires.stop.1)) in
    omega (arith, one)

pub enter-requires-clause-owner : goal.enter-requires-clause-owner
enter-requires-clause-owner c =
    let q = c.args.queue.now.state in
    let gone =
    goes_off q c.args.stop c.args.hand.now c.take_stop.new.hand c.note_records.new.records c.to-to.result c.moment.result
    c.args.course.now c.taken_off.new.course c.take_stop.ensures.hand c.requires.hand.0 c.requires.stop.2
    c.note_records.ensures c.to-to.ensures c.moment.ensures c.taken_off.ensures in
    let named : length c.taken_off.new.course.named ≡ length c.args.header.now.cpus =
    ap (λ (x : Course). length x.named) gone ∙ c.requires.course.1.0 in
    let here = c.requires.declared.1 in
    (c.requires.owner.0, c.requires.owner.1, omega (arith, named, here))

pub enter-requires-clause-fits : goal.enter-requires-clause-fits
enter-requires-clause-fits c =
    let h = c.args.header.now in
    let q = c.args.queue.now.state in
    let n = length c.args.seat.now.list + 1 in
    let gone =
    goes_off q c.args.stop c.args.hand.now c.take_stop.new.hand c.note_records.new.records c.to-to.result c.moment.result
    c.args.course.now c.taken_off.new.course c.take_stop.ensures.hand c.requires.hand.0 c.requires.stop.2
    c.note_records.ensures c.to-to.ensures c.moment.ensures c.taken_off.ensures in
    subst
    (λ (x : Course).
    Fits (map pair c.args.seat.now.list)
    (item_of h (owner.Queue c.args.cpu) x (counted_at c.args.cpu n c.taken_off.new.course) c.args.last.now
    (what.Out cause.Stop c.to-to.result c.args.out)))
    (sym c.of-quoted.ensures)
    (fits_out h c.args.cpu c.args.seat.now.list q c.requires.queue c.args.course.now c.requires.course.0 c.args.stop
    c.requires.stop.0 c.args.book.now.table the_row.coded c.args.note.now c.args.last.now c.to-to.result
    (counted_at c.args.cpu n c.taken_off.new.course) c.args.out c.requires.declared.0 c.requires.declared.1
    c.requires.headers c.requires.quotes
    (c.to-to.ensures ∙ (ap (λ (x : HandState). x.to) c.take_stop.ensures.hand ∙ sym c.requires.stop.2))
    (c.requires.lists.1
    ∙ sym (one_id c.args.stop.id _ (one_task q c.args.course.now.at c.args.stop.id c.args.hand.now.to c.requires.stop.1)))
    (ap (counted_at c.args.cpu n) gone))

pub returns-clause-step : goal.returns-clause-step
returns-clause-step c =
    c.take_stop.ensures.step
    ∙ out_step c.args.header.now c.args.cpu c.args.seat.now.list c.args.queue.now.state c.requires.queue c.args.course.now
    c.requires.course.0 c.args.stop c.requires.stop.0 c.args.last.now c.take_stop.new.hand.to c.enter.new.course c.args.out

pub returns-clause-course : goal.returns-clause-course
returns-clause-course c =
    let gone =
    goes_off c.args.queue.now.state c.args.stop c.args.hand.now c.take_stop.new.hand c.note_records.new.records c.to-to.result
    c.moment.result c.args.course.now c.taken_off.new.course c.take_stop.ensures.hand c.requires.hand.0 c.requires.stop.2
    c.note_records.ensures c.to-to.ensures c.moment.ensures c.taken_off.ensures in
    let off = c.enter.ensures.course in
    let quiet = c.requires.course.1.1 c.requires.course.0 in
    let command = ap (λ (x : Course). x.command) off ∙ (ap (λ (x : Course). x.command) gone ∙ quiet.0) in
    let decision = ap (λ (x : Course). x.decision) off ∙ (ap (λ (x : Course). x.decision) gone ∙ quiet.1) in (
      ap (λ (x : Course). x.form) off ∙ ap (λ (x : Course). x.form) gone,
      ap (λ (x : Course). x.cause) off ∙ ap (λ (x : Course). x.cause) gone,
      command,
      decision,
      (
        ap (λ (x : Course). length x.named) off
            ∙ (length-set c.taken_off.new.course.named c.args.cpu (length c.args.seat.now.list + 1)
            ∙ (ap (λ (x : Course). length x.named) gone ∙ c.requires.course.1.0)),
        λ rest. (command, decision),
      ),
    )

pub returns-clause-loaded : goal.returns-clause-loaded
returns-clause-loaded c =
    let q = c.args.queue.now.state in
    let moved = take_stop q c.args.course.now.at c.args.stop.id in
    let gone =
    goes_off q c.args.stop c.args.hand.now c.take_stop.new.hand c.note_records.new.records c.to-to.result c.moment.result
    c.args.course.now c.taken_off.new.course c.take_stop.ensures.hand c.requires.hand.0 c.requires.stop.2
    c.note_records.ensures c.to-to.ensures c.moment.ensures c.taken_off.ensures in
    let off = c.enter.ensures.course in
    let is = c.take_stop.ensures.hand in
    record {
      to =
          ap (λ (x : HandState). x.to) is
          ∙ (sym c.requires.stop.2 ∙ sym (ap (λ (x : Course). x.to) off ∙ ap (λ (x : Course). x.to) gone));
      moment =
          ap (λ (x : HandState). x.moment) is
          ∙ (stop_clock q c.args.course.now.at c.args.stop.id
          ∙ sym (ap (λ (x : Course). x.moment) off ∙ ap (λ (x : Course). x.moment) gone));
      tasks =
          hand_tasks q c.args.course.now.at moved.0 c.args.hand.now c.take_stop.new.hand is c.requires.hand.0
          ∙ sym (ap (λ (x : Course). x.hand) off ∙ ap (λ (x : Course). x.hand) gone);
    }

pub returns-clause-hand : goal.returns-clause-hand
returns-clause-hand c =
    let q = c.args.queue.now.state in
    let at = c.args.course.now.at in (
      ap (λ (x : HandState). x.to) c.take_stop.ensures.hand,
      one_id c.args.stop.id _
          (subst (λ t. OneTask c.args.stop.id t)
          (sym (hand_tasks q at (take_stop q at c.args.stop.id).0 c.args.hand.now c.take_stop.new.hand c.take_stop.ensures.hand
          c.requires.hand.0))
          (one_task q at c.args.stop.id c.args.hand.now.to c.requires.stop.1)),
    )
