-- For `Ended::serve` of src/requests.rt: serves the next stop request of the least CPU with one.
use Rattle.std.proofs.Common.{ℕ, ◌≡◌, ◌+◌, ◌≤◌, ◌<◌, false, List, [], get_or, length, map, sym, subst, ap, arith}
use Rattle.lb_queue.specs.Queue.{knows}
use Rattle.lb_ticket.specs.declared.item.Drawn.{Drawn}
use Rattle.lb_ticket.specs.Tickets.{pair}
use Rattle.lb_journal.specs.Journal.{Journal, replay}
use Rattle.lb_journal.specs.Merge.{queue_list}
use Rattle.lb_end.specs.Drawing.{first_ticket}
use Rattle.lb_end.proofs.Ongoing.{closes_through}
use Rattle.lb_end.proofs.Served.{on_same}
use Rattle.lb_end.proofs.ended.Ended.serve.Goals as goal

pub move_task-requires-clause-can : goal.move_task-requires-clause-can
move_task-requires-clause-can g c =
    let can = c.wait_until_served.ensures.0 in
    let h = g.N.Names.header in
    let stop = c.next_stop-stop.result in
    let same = sym c.make_room.ensures.lists in
    record {
      declared = can.declared;
      elsewhere = can.elsewhere;
      unknown =
          subst (λ (l : List (List (Drawn Journal))). knows (replay h stop.to (queue_list l stop.to)) stop.id ≡ false) same
          can.unknown;
      leaves =
          subst (λ (l : List (List (Drawn Journal))). length (get_or l (17 + c.args.cpu) []) + 1 < 1099511627776) same can.leaves;
      lands =
          subst (λ (l : List (List (Drawn Journal))). length (get_or l (17 + stop.to) []) + 1 < 1099511627776) same can.lands;
    }

pub returns-clause-on : goal.returns-clause-on
returns-clause-on g c =
    let h = g.N.Names.header in
    let room = c.make_room.ensures in
    closes_through h c.args.self.now c.make_room.new.self c.move_task.new.self
    (on_same h c.args.self.now c.make_room.new.self room.lists room.nexts (ap first_ticket room.same)
    (let lanes = c.keeps.ensures.accepted.most_lanes in omega (arith, lanes)) room.others) c.move_task.ensures.on
