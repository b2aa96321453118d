-- For `Ended::leave` of src/serving.rt: the task of a queue's next pending stop request leaves in a hand that
-- goes where it does.
use Rattle.std.proofs.Common.{ℕ, false, refl, ◌≡◌, ◌+◌, ◌<◌, ◌≤◌, List, length, sym, subst, ap, ◌∙◌, map, get_or, set, arith}
use Rattle.std.proofs.lemmas.List.{get_or-set_same}
use Rattle.lb_queue.specs.Queue.{BookedQueue, QueueState}
use Rattle.lb_queue.specs.declared.answers.OutCause.TheVariants as cause
use Rattle.lb_queue.specs.Requests.{next_stop}
use Rattle.lb_queue.specs.Hands.{stop_to}
use Rattle.lb_trace.specs.declared.trace.Header.{Header}
use Rattle.lb_core.specs.declared.course.Course.{Course}
use Rattle.lb_core.specs.declared.entry.Owner.TheVariants as owner
use Rattle.lb_core.specs.declared.entry.What.{What}
use Rattle.lb_core.specs.declared.entry.What.TheVariants as what
use Rattle.lb_core.specs.Course.{opening_course}
use Rattle.lb_ticket.specs.Tickets.{pair}
use Rattle.lb_journal.specs.Journal.{Journal, replay}
use Rattle.lb_journal.specs.declared.journal.Journal.{the_code}
use Rattle.lb_journal.specs.contracts.journal.Left.{the_row}
use Rattle.lb_end.specs.Ends.{EndedIs, IsFirstCourse}
use Rattle.lb_end.specs.Drawing.{Drew, booked_at, first_course, first_ticket, item_of, state_at}
use Rattle.lb_end.proofs.Parts.{first_is, queue_is, drew_seen, bookings_kept, keeps_at_queue}
use Rattle.lb_end.proofs.ended.Ended.leave.Goals as goal

pub draw_out-requires-clause-book : goal.draw_out-requires-clause-book
draw_out-requires-clause-book g c =
    (queue_is g.N.Names.header g.N.Names.book the_code the_row.coded _ c.self.invariant c.args.cpu c.requires.cpu _ _
    c.index_mut.ensures.value c.index_mut-2.ensures.value).table

pub draw_out-requires-clause-owner : goal.draw_out-requires-clause-owner
draw_out-requires-clause-owner g c =
    let q =
    queue_is g.N.Names.header g.N.Names.book the_code the_row.coded _ c.self.invariant c.args.cpu c.requires.cpu _ _
    c.index_mut.ensures.value c.index_mut-2.ensures.value in
    (q.number, q.small)

pub draw_out-requires-clause-queue : goal.draw_out-requires-clause-queue
draw_out-requires-clause-queue g c =
    let q =
    queue_is g.N.Names.header g.N.Names.book the_code the_row.coded _ c.self.invariant c.args.cpu c.requires.cpu _ _
    c.index_mut.ensures.value c.index_mut-2.ensures.value in
    q.state
    ∙ ap (λ (h : Header). replay h c.args.cpu (map pair c.index_mut-2.result.now.list)) (sym c.self.invariant.header_is)

pub invariant_of-self : goal.invariant_of-self
invariant_of-self g c =
    let q =
    queue_is g.N.Names.header g.N.Names.book the_code the_row.coded _ c.self.invariant c.args.cpu c.requires.cpu _ _
    c.index_mut.ensures.value c.index_mut-2.ensures.value in
    let d = c.draw_out.ensures in
    let item : Journal =
    item_of c.self.inside.header (owner.Queue c.args.cpu) c.index_mut-3.result.now c.draw_out.new.course c.index_mut-4.result.now
    (what.Out cause.Stop c.draw_out.new.hand.to c.args.out) in
    keeps_at_queue c.growth_keeps.ensures c.queue_grows.ensures g.N.Names.header g.N.Names.book the_code the_row.coded _
    c.self.invariant c.args.cpu c.index_mut.result.now c.draw_out.new.queue c.index_mut-2.result.now c.draw_out.new.seat item
    c.draw_out.new.last c.draw_out.new.note q d.drew c.self.invariant.header_is refl refl tt d.step
    (subst (λ (h : Header). IsFirstCourse h c.draw_out.new.course) c.self.invariant.header_is d.course.4)

pub returns-clause-drew : goal.returns-clause-drew
returns-clause-drew g c =
    let q =
    queue_is g.N.Names.header g.N.Names.book the_code the_row.coded _ c.self.invariant c.args.cpu c.requires.cpu _ _
    c.index_mut.ensures.value c.index_mut-2.ensures.value in
    let f =
    first_is g.N.Names.header g.N.Names.book the_code the_row.coded _ c.self.invariant _ _ _ c.index_mut-3.ensures.value
    c.index_mut-4.ensures.value c.index_mut-5.ensures.value in
    drew_seen g.N.Names.header the_row.coded (17 + c.args.cpu) (owner.Queue c.args.cpu) (what.Out cause.Stop c.draw_out.new.hand.to c.args.out)
    _ _ _ _ _ _ _ _ _ _ _ c.self.invariant.header_is c.self.view_is f q.seat c.draw_out.ensures.drew

pub draw_out-requires-clause-course : goal.draw_out-requires-clause-course
draw_out-requires-clause-course g c =
    let f =
    first_is g.N.Names.header g.N.Names.book the_code the_row.coded _ c.self.invariant _ _ _ c.index_mut-3.ensures.value
    c.index_mut-4.ensures.value c.index_mut-5.ensures.value in (
      ap (λ (x : Course). x.form) (sym f.course) ∙ (ap (λ (x : EndedIs). (first_course x).form) c.self.view_is ∙ c.requires.rest),
      (f.quiet.0 ∙ ap (λ (h : Header). length h.cpus) (sym c.self.invariant.header_is), f.quiet.1),
    )

pub draw_out-requires-clause-stop : goal.draw_out-requires-clause-stop
draw_out-requires-clause-stop g c =
    let h = g.N.Names.header in
    let q =
    queue_is g.N.Names.header g.N.Names.book the_code the_row.coded _ c.self.invariant c.args.cpu c.requires.cpu _ _
    c.index_mut.ensures.value c.index_mut-2.ensures.value in
    let is : state_at h c.args.self.now c.args.cpu ≡ c.index_mut.result.now.state =
    sym (ap (λ (x : EndedIs). state_at h x c.args.cpu) c.self.view_is)
    ∙ (ap (λ l. replay h c.args.cpu (map pair l)) q.list ∙ sym q.state) in (
      ap (λ (x : QueueState). next_stop x false) (sym is) ∙ c.requires.stop.0,
      ap (λ (x : QueueState). stop_to x c.args.stop.id) (sym is) ∙ c.requires.stop.1,
      c.requires.stop.2,
    )

pub returns-clause-booked : goal.returns-clause-booked
returns-clause-booked g c =
    let q =
    queue_is g.N.Names.header g.N.Names.book the_code the_row.coded _ c.self.invariant c.args.cpu c.requires.cpu _ _
    c.index_mut.ensures.value c.index_mut-2.ensures.value in
    λ k.
    ap (λ (l : List ℕ). get_or l k 0)
    (bookings_kept c.self.inside.queues.items c.args.cpu c.index_mut.result.now c.draw_out.new.queue q.queue
    c.draw_out.ensures.booked)
    ∙ ap (λ (x : EndedIs). booked_at x k) c.self.view_is
