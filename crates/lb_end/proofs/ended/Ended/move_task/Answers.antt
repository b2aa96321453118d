-- For `Ended::move_task` of src/requests.rt: the task of a stop request leaves and lands, with no refusal
-- between: room and lists are made.
use Rattle.std.proofs.Common.{ℕ, ◌≡◌, ◌+◌, false, List, map, sym, ap, ◌∙◌, arith}
use Rattle.lb_queue.specs.Queue.{knows}
use Rattle.lb_queue.specs.Tasks.{ids}
use Rattle.lb_ticket.specs.declared.item.Drawn.{Drawn}
use Rattle.lb_ticket.specs.Tickets.{pair}
use Rattle.lb_journal.specs.Journal.{Journal, replay}
use Rattle.lb_cell.proofs.Staying.{replay_stays}
use Rattle.lb_end.specs.Drawing.{first_course, state_at}
use Rattle.lb_end.specs.Seats.{list_at}
use Rattle.lb_end.proofs.Ongoing.{closes_through}
use Rattle.lb_end.proofs.Served.{landing_asks}
use Rattle.lb_end.proofs.ended.Ended.move_task.Goals as goal

pub arrive-requires-clause-asks : goal.arrive-requires-clause-asks
arrive-requires-clause-asks g c =
    let h = g.N.Names.header in
    let to = c.args.stop.to in
    let e = c.depart.new.self in
    let other : 17 + to ≡ 17 + c.args.cpu → ⊥ = (λ same. c.requires.can.elsewhere (omega (arith, same))) in
    let unknown : knows (state_at h e to) c.args.stop.id ≡ false =
    ap (λ (l : List (Drawn Journal)). knows (replay h to (map pair l)) c.args.stop.id) (c.depart.ensures.lists (17 + to) other)
    ∙ c.requires.can.unknown in
    landing_asks (state_at h e to) (first_course e) c.args.stop.id to
    (sym c.depart.ensures.loaded.to ∙ (c.depart.ensures.hand.0 ∙ c.requires.hand.0))
    (replay_stays c.calls_keep_rest.ensures h to (map pair (list_at e.seats (17 + to))))
    (ap ids (sym c.depart.ensures.loaded.tasks) ∙ c.depart.ensures.hand.1) unknown

pub returns-clause-on : goal.returns-clause-on
returns-clause-on g c =
    closes_through g.N.Names.header c.args.self.now c.depart.new.self c.arrive.new.self c.depart.ensures.on c.arrive.ensures.on
