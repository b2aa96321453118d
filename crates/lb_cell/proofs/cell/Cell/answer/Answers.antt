-- For `Cell::answer` of src/answer.rt: answers the command of the lane's row, by a `did`.
use Rattle.std.proofs.Common.{rules, ◌≡◌, ◌∙◌, ap, sym, subst}
use Rattle.lb_core.specs.CourseAfter.{answered}
use Rattle.lb_cell.specs.Draws.{BeforeIs}
use Rattle.lb_cell.proofs.Answering.{may_answer, course_answered}
use Rattle.lb_cell.proofs.cell.Cell.answer.Goals as goal

pub enter-requires-clause-may : goal.enter-requires-clause-may
enter-requires-clause-may g c =
    may_answer g.N.Names.header c.of-before.result.cell c.of-before.result.lane c.obey-reply.result (search rules) (search rules)

pub enter-requires-clause-course : goal.enter-requires-clause-course
enter-requires-clause-course g c =
    let s = c.self.inside.parts in
    let l = c.lane.inside.parts in
    let q = c.obey-reply.new.queue.state in
    subst
    (λ (b : BeforeIs).
    c.answered.new.course ≡ answered b.lane.course.command b.cell.log.writer.cpu b.cell.queue.state q b.lane.course)
    ((λ i. record { cell = c.self.view_is i; lane = c.lane.view_is i }) ∙ sym c.of-before.ensures)
    (course_answered l.course.command s.log.writer.cpu l.course.at s.queue.state q l.course c.answered.new.course c.len-was.result
    c.len-awake.result c.cpu.result c.len-was.ensures c.len-awake.ensures c.cpu.ensures (ap (λ p. p.1) c.obey-reply.ensures.step)
    c.answered.ensures)
