-- For `take_at` of src/taking.rt: what the last look asks for leaves the source.
use Rattle.std.proofs.Common.{◌≡◌, ◌∙◌, ◌<◌, false, length, ap, sym, subst}
use Rattle.lb_queue.specs.declared.answers.OutCause.TheVariants.{Pull}
use Rattle.lb_queue.specs.Tasks.{ids}
use Rattle.lb_core.specs.declared.course.Course.{Course}
use Rattle.lb_core.specs.declared.entry.What.TheVariants.{Out}
use Rattle.lb_cell.specs.Draws.{Drew}
use Rattle.lb_lane.specs.Lanes.{is_due}
use Rattle.lb_journal.specs.contracts.journal.Journal.{the_row}
use Rattle.lb_cpu.specs.Hands.{InFlight}
use Rattle.lb_cpu.proofs.Flying.{pull_flies, pull_goes}
use Rattle.lb_cpu.proofs.There.{drew_there}
use Rattle.lb_cpu.proofs.taking.take_at.Goals as goal

pub returns-clause-taken : goal.returns-clause-taken
returns-clause-taken g c =
    let n = g.N.Names in
    let l = c.args.lane.now in
    let env = c.args.env.now in
    let before = c.make_room.new.cell in
    let after = c.take.new.cell in
    let mid = c.take.new.self in
    let last = c.follow.new.self in
    let taken = c.take.new.hand in
    let cpu = c.args.cell.now.log.writer.cpu in
    let e = c.in_ok-taken.ensures in
    let read = c.follow.ensures in
    let due : is_due l.side.course.form ≡ false = ap is_due c.requires.due.form in
    let declared : env.to < length n.header.cpus =
    subst (λ k. k < length n.header.cpus)
    (c.keeps.ensures.turns due ∙ sym (pull_goes n.header l.side.course env c.requires.pull.1))
    c.keeps.ensures.turned in
    let f =
    pull_flies n.header before l.side mid.side env c.args.hand.now.to taken _ c.requires.due.form c.requires.pull.1 e.drew.course
    e.loaded declared in
    let same = f.1 ∙ sym c.requires.hand.0 in
    let drew : Drew n.header before after l.side mid.side (Out Pull taken.to (ids taken.tasks)) =
    subst (λ k. Drew n.header before after l.side mid.side (Out Pull k (ids taken.tasks))) (sym same) e.drew in
    record {
      there =
          drew_there n.header n.book n.board the_row.coded l mid last cpu _ before after c.keeps-2.ensures
          (ap (λ w. w.cpu) c.make_room.ensures.log.1) drew e.rest read.same read.read read.rest;
      taken = e.taken;
      flies = subst (λ (k : Course). InFlight n.header k Pull taken) (sym c.follow.ensures.same.course) f.0;
    }
