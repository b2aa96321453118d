-- For `Ended::land` of src/serving.rt: the task of lane 0's hand lands where it goes, and lane 0 is at rest
-- again.
use Rattle.std.proofs.Common.{ℕ, refl, ◌≡◌, ◌+◌, ◌<◌, ◌≤◌, List, length, sym, subst, ap, ◌∙◌, map, get_or, set, arith}
use Rattle.std.proofs.lemmas.List.{get_or-set_same}
use Rattle.lb_queue.specs.Queue.{BookedQueue, QueueState}
use Rattle.lb_queue.specs.declared.answers.OutCause.TheVariants as cause
use Rattle.lb_queue.specs.Requests.{next_stop}
use Rattle.lb_queue.specs.Hands.{stop_to}
use Rattle.lb_trace.specs.declared.trace.Header.{Header}
use Rattle.lb_core.specs.declared.course.Course.{Course}
use Rattle.lb_core.specs.declared.entry.Owner.TheVariants as owner
use Rattle.lb_core.specs.declared.entry.What.{What}
use Rattle.lb_core.specs.declared.entry.What.TheVariants as what
use Rattle.lb_core.specs.Asks.{LandingAsks}
use Rattle.lb_core.specs.Course.{opening_course}
use Rattle.lb_act.specs.Hands.{IsLoaded}
use Rattle.lb_ticket.specs.Tickets.{pair}
use Rattle.lb_journal.specs.Journal.{Journal, replay}
use Rattle.lb_journal.specs.declared.journal.Journal.{the_code}
use Rattle.lb_journal.specs.contracts.journal.Left.{the_row}
use Rattle.lb_end.specs.Ends.{EndedIs, IsFirstCourse}
use Rattle.lb_end.specs.Drawing.{Drew, booked_at, first_course, first_ticket, item_of, state_at}
use Rattle.lb_end.proofs.Parts.{first_is, queue_is, drew_seen, bookings_kept, keeps_at_queue}
use Rattle.lb_end.proofs.ended.Ended.land.Goals as goal

pub draw_in-requires-clause-book : goal.draw_in-requires-clause-book
draw_in-requires-clause-book g c =
    (queue_is g.N.Names.header g.N.Names.book the_code the_row.coded _ c.self.invariant c.args.cpu c.requires.cpu _ _
    c.index_mut.ensures.value c.index_mut-2.ensures.value).table

pub draw_in-requires-clause-owner : goal.draw_in-requires-clause-owner
draw_in-requires-clause-owner g c =
    let q =
    queue_is g.N.Names.header g.N.Names.book the_code the_row.coded _ c.self.invariant c.args.cpu c.requires.cpu _ _
    c.index_mut.ensures.value c.index_mut-2.ensures.value in
    (q.number, q.small)

pub draw_in-requires-clause-queue : goal.draw_in-requires-clause-queue
draw_in-requires-clause-queue g c =
    let q =
    queue_is g.N.Names.header g.N.Names.book the_code the_row.coded _ c.self.invariant c.args.cpu c.requires.cpu _ _
    c.index_mut.ensures.value c.index_mut-2.ensures.value in
    q.state
    ∙ ap (λ (h : Header). replay h c.args.cpu (map pair c.index_mut-2.result.now.list)) (sym c.self.invariant.header_is)

pub invariant_of-self : goal.invariant_of-self
invariant_of-self g c =
    let q =
    queue_is g.N.Names.header g.N.Names.book the_code the_row.coded _ c.self.invariant c.args.cpu c.requires.cpu _ _
    c.index_mut.ensures.value c.index_mut-2.ensures.value in
    let d = c.draw_in.ensures in
    let item : Journal =
    item_of c.self.inside.header (owner.Queue c.args.cpu) c.index_mut-3.result.now c.draw_in.new.course c.index_mut-4.result.now
    (what.Landed c.args.landing) in
    keeps_at_queue c.growth_keeps.ensures c.queue_grows.ensures g.N.Names.header g.N.Names.book the_code the_row.coded _
    c.self.invariant c.args.cpu c.index_mut.result.now c.draw_in.new.queue c.index_mut-2.result.now c.draw_in.new.seat item
    c.draw_in.new.last c.draw_in.new.note q d.drew c.self.invariant.header_is refl refl tt d.step
    (subst (λ (h : Header). IsFirstCourse h c.draw_in.new.course) c.self.invariant.header_is d.course.1)

pub returns-clause-drew : goal.returns-clause-drew
returns-clause-drew g c =
    let q =
    queue_is g.N.Names.header g.N.Names.book the_code the_row.coded _ c.self.invariant c.args.cpu c.requires.cpu _ _
    c.index_mut.ensures.value c.index_mut-2.ensures.value in
    let f =
    first_is g.N.Names.header g.N.Names.book the_code the_row.coded _ c.self.invariant _ _ _ c.index_mut-3.ensures.value
    c.index_mut-4.ensures.value c.index_mut-5.ensures.value in
    drew_seen g.N.Names.header the_row.coded (17 + c.args.cpu) (owner.Queue c.args.cpu) (what.Landed c.args.landing)
    _ _ _ _ _ _ _ _ _ _ _ c.self.invariant.header_is c.self.view_is f q.seat c.draw_in.ensures.drew

pub draw_in-requires-clause-asks : goal.draw_in-requires-clause-asks
draw_in-requires-clause-asks g c =
    let h = g.N.Names.header in
    let q =
    queue_is g.N.Names.header g.N.Names.book the_code the_row.coded _ c.self.invariant c.args.cpu c.requires.cpu _ _
    c.index_mut.ensures.value c.index_mut-2.ensures.value in
    let f =
    first_is g.N.Names.header g.N.Names.book the_code the_row.coded _ c.self.invariant _ _ _ c.index_mut-3.ensures.value
    c.index_mut-4.ensures.value c.index_mut-5.ensures.value in
    let is : state_at h c.args.self.now c.args.cpu ≡ c.index_mut.result.now.state =
    sym (ap (λ (x : EndedIs). state_at h x c.args.cpu) c.self.view_is)
    ∙ (ap (λ l. replay h c.args.cpu (map pair l)) q.list ∙ sym q.state) in
    let course : first_course c.args.self.now ≡ c.index_mut-3.result.now =
    sym (ap first_course c.self.view_is) ∙ f.course in
    subst (λ (t : Type 0). t) (λ i. LandingAsks (course i) (is i)) c.requires.asks
