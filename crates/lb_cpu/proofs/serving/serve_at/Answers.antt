-- For `serve_at` of src/serving.rt: the tasks that are due leave the queue in a hand.
use Rattle.std.proofs.Common.{◌≡◌, ◌∙◌, Some, ap, refl, sym, subst}
use Rattle.lb_queue.specs.Queue.{BookedQueue}
use Rattle.lb_queue.specs.Tasks.{ids}
use Rattle.lb_core.specs.declared.course.Course.{Course}
use Rattle.lb_core.specs.declared.entry.What.TheVariants.{Out}
use Rattle.lb_cell.specs.Draws.{Drew}
use Rattle.lb_cell.specs.Serving.{out_cause, out_target}
use Rattle.lb_journal.specs.contracts.journal.Journal.{the_row}
use Rattle.lb_cpu.specs.Hands.{InFlight}
use Rattle.lb_cpu.proofs.Flying.{serve_flies}
use Rattle.lb_cpu.proofs.There.{drew_there}
use Rattle.lb_cpu.proofs.serving.serve_at.Goals as goal

pub returns-clause-to : goal.returns-clause-to
returns-clause-to g c =
    let l = c.args.lane.now in
    let before = c.make_room.new.cell in
    let e = c.in_ok-serve.ensures in
    let due : out_target l.side.course before.queue.state ≡ Some c.args.hand.now.to =
    ap (λ (q : BookedQueue). out_target l.side.course q.state) c.make_room.ensures.queue ∙ c.requires.target in
    (serve_flies g.N.Names.header before l.side c.serve.new.self.side c.args.hand.now.to c.serve.new.hand _ c.requires.due.form
    due e.drew.course e.loaded c.requires.declared).1

pub returns-clause-ok : goal.returns-clause-ok
returns-clause-ok g c =
    let n = g.N.Names in
    let l = c.args.lane.now in
    let before = c.make_room.new.cell in
    let after = c.serve.new.cell in
    let mid = c.serve.new.self in
    let last = c.follow.new.self in
    let to = c.args.hand.now.to in
    let taken = c.serve.new.hand in
    let cause = out_cause before.queue.state in
    let cpu = c.args.cell.now.log.writer.cpu in
    let read = c.follow.ensures in
    let e = c.in_ok-serve.ensures in
    let due : out_target l.side.course before.queue.state ≡ Some to =
    ap (λ (q : BookedQueue). out_target l.side.course q.state) c.make_room.ensures.queue ∙ c.requires.target in
    let f =
    serve_flies n.header before l.side mid.side to taken _ c.requires.due.form due e.drew.course e.loaded c.requires.declared in
    let drew : Drew n.header before after l.side mid.side (Out cause taken.to (ids taken.tasks)) =
    subst (λ k. Drew n.header before after l.side mid.side (Out cause k (ids taken.tasks))) (sym f.1) e.drew in
    record {
      cause = cause;
      there =
          drew_there n.header n.book n.board the_row.coded l mid last cpu _ before after c.keeps.ensures
          (ap (λ w. w.cpu) c.make_room.ensures.log.1) drew e.rest read.same read.read read.rest;
      due = due ∙ (λ i. Some (sym f.1 i));
      why = refl;
      flies = subst (λ (k : Course). InFlight n.header k cause taken) (sym c.follow.ensures.same.course) f.0;
    }
