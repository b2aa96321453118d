-- For `depart` of src/leaving.rt: draws the `out` of tasks that have left a queue in a hand, upon the cell
-- and the lane as they were before.
use Rattle.std.proofs.Common.{subst, sym, ap, ◌∙◌}
use Rattle.lb_queue.specs.Tasks.{ids}
use Rattle.lb_core.specs.declared.course.Course.{Course}
use Rattle.lb_core.specs.declared.entry.What.TheVariants.{Out}
use Rattle.lb_cell.specs.Cells.{LaneIs}
use Rattle.lb_cell.specs.Draws.{MayDraw}
use Rattle.lb_cell.proofs.Moving.{may_out, noted}
use Rattle.lb_cell.proofs.leaving.depart.Goals as goal

pub enter-requires-clause-may : goal.enter-requires-clause-may
enter-requires-clause-may g c =
    let h = g.N.Names.header in
    let b = c.args.before in
    subst (MayDraw h b.cell b.lane)
    (λ i. Out c.args.why (sym c.to-to.ensures i) (sym c.fill.ensures.out i))
    (may_out h b.cell b.lane c.args.why c.args.taken c.args.hand.now c.args.cell.now.queue.state c.requires.left)

pub enter-requires-clause-course : goal.enter-requires-clause-course
enter-requires-clause-course g c =
    let b = c.args.before in
    noted g.N.Names.header b.cell b.lane c.args.why c.args.taken c.args.hand.now c.args.cell.now.queue.state
    c.fill.new.self.records c.to-to.result c.moment.result c.args.lane.now.course c.taken_off.new.course c.requires.left
    (ap (λ (x : LaneIs). x.course) c.requires.lane) c.fill.ensures.records c.to-to.ensures c.moment.ensures c.taken_off.ensures

pub enter-requires-clause-landing : goal.enter-requires-clause-landing
enter-requires-clause-landing g c =
    let off = c.taken_off.ensures c.args.cell.now.queue.state (sym (c.moment.ensures ∙ c.requires.left.clock)) in
    λ out. c.fill.ensures.landing ∙ ap ids (sym c.fill.ensures.records ∙ sym (ap (λ (x : Course). x.hand) off))

pub returns-clause-loaded : goal.returns-clause-loaded
returns-clause-loaded g c =
    let off = c.enter.ensures.counted in
    let gone = c.taken_off.ensures c.args.cell.now.queue.state (sym (c.moment.ensures ∙ c.requires.left.clock)) in
    record {
      to = sym (ap (λ (x : Course). x.to) off ∙ (ap (λ (x : Course). x.to) gone ∙ c.to-to.ensures));
      moment =
          sym (ap (λ (x : Course). x.moment) off
          ∙ (ap (λ (x : Course). x.moment) gone ∙ (sym c.requires.left.clock)));
      tasks = sym (ap (λ (x : Course). x.hand) off ∙ (ap (λ (x : Course). x.hand) gone ∙ c.fill.ensures.records));
    }
