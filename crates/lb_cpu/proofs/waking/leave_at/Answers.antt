-- For `leave_at` of src/waking.rt: the woken task leaves its queue in a hand.
use Rattle.std.proofs.Common.{ap, sym, subst}
use Rattle.lb_core.specs.declared.course.Course.{Course}
use Rattle.lb_core.specs.declared.entry.What.TheVariants.{Out}
use Rattle.lb_queue.specs.Tasks.{ids}
use Rattle.lb_cell.specs.Draws.{Drew}
use Rattle.lb_cpu.specs.Hands.{InFlight}
use Rattle.lb_queue.specs.declared.answers.OutCause.TheVariants.{Wake}
use Rattle.lb_queue.specs.Queue.{BookedQueue}
use Rattle.lb_cell.specs.Hands.{WakesElsewhere}
use Rattle.lb_journal.specs.contracts.journal.Journal.{the_row}
use Rattle.lb_cpu.proofs.Flying.{wake_flies}
use Rattle.lb_cpu.proofs.There.{drew_there}
use Rattle.lb_cpu.proofs.waking.leave_at.Goals as goal

pub returns-clause-to : goal.returns-clause-to
returns-clause-to g c =
    let l = c.args.lane.now in
    let hand = c.args.hand.now in
    let w : WakesElsewhere c.make_room.new.cell.queue.state l.side.course hand.to =
    subst (λ (q : BookedQueue). WakesElsewhere q.state l.side.course hand.to) (sym c.make_room.ensures.queue) c.requires.wake in
    (wake_flies g.N.Names.header c.make_room.new.cell l.side c.leave.new.self.side hand.to c.leave.new.hand _ w
    c.in_ok-leave.ensures.drew.course c.in_ok-leave.ensures.loaded c.requires.declared).1

pub returns-clause-ok : goal.returns-clause-ok
returns-clause-ok g c =
    let n = g.N.Names in
    let l = c.args.lane.now in
    let hand = c.args.hand.now in
    let cpu = c.args.cell.now.log.writer.cpu in
    let room = c.make_room.ensures in
    let e = c.in_ok-leave.ensures in
    let w : WakesElsewhere c.make_room.new.cell.queue.state l.side.course hand.to =
    subst (λ (q : BookedQueue). WakesElsewhere q.state l.side.course hand.to) (sym room.queue) c.requires.wake in
    let mid = c.leave.new.self in
    let after = c.leave.new.cell in
    let last = c.follow.new.self in
    let taken = c.leave.new.hand in
    let before = c.make_room.new.cell in
    let f = wake_flies n.header before l.side mid.side hand.to taken _ w e.drew.course e.loaded c.requires.declared in
    let drew : Drew n.header c.make_room.new.cell after l.side mid.side (Out Wake taken.to (ids taken.tasks)) =
    subst (λ k. Drew n.header c.make_room.new.cell after l.side mid.side (Out Wake k (ids taken.tasks))) (sym f.1) e.drew in
    record {
      cpu = cpu;
      there =
          drew_there n.header n.book n.board the_row.coded l mid last cpu _ c.make_room.new.cell after c.keeps.ensures
          (ap (λ w. w.cpu) room.log.1) drew e.rest c.follow.ensures.same c.follow.ensures.read c.follow.ensures.rest;
      wakes = subst (λ k. WakesElsewhere c.make_room.new.cell.queue.state l.side.course k) (sym f.1) w;
      flies = subst (λ (k : Course). InFlight n.header k Wake taken) (sym c.follow.ensures.same.course) f.0;
    }
