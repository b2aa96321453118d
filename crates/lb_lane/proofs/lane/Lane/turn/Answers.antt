-- For `Lane::turn` of src/turns.rt: opens a turn of the queue's CPU: the lane takes up the chosen version, by
-- a `use` that is later than all entries of the queue, and the queue answers it, over the domains that the
-- lane has then.
use Rattle.std.proofs.Common.{rules, ◌≡◌, ◌∙◌, None, if◌then◌else◌, subst, sym}
use Rattle.lb_core.specs.declared.course.Form.TheVariants as forms
use Rattle.lb_core.specs.Asks.{OpeningAsks}
use Rattle.lb_core.specs.Stage.{waits_for_push}
use Rattle.lb_cell.specs.Cells.{CellIs}
use Rattle.lb_cell.specs.Draws.{Drew, IsDueAt, MayAnswerUse}
use Rattle.lb_cell.specs.Turns.{turn_what}
use Rattle.lb_lane.proofs.Turning.{answers_now, counters_fit, due_now, no_push, opening_asks}
use Rattle.lb_lane.proofs.lane.Lane.turn.Goals as goal

pub answer_use-reply-requires-clause-due : goal.answer_use-reply-requires-clause-due
answer_use-reply-requires-clause-due g c =
    subst (λ (x : CellIs). IsDueAt forms.Used c.adopt.new.self.side.course x.log.writer.cpu) (sym c.adopt.ensures.cell)
    (due_now g.N.Names.header c.args.cell.now c.args.self.now c.adopt.new.self c.args.chosen c.args.kind c.in_ok-adopt.field-0
    c.in_ok-adopt.ensures.ok c.requires.asks.here)

pub answer_use-reply-requires-clause-answers : goal.answer_use-reply-requires-clause-answers
answer_use-reply-requires-clause-answers g c =
    let l = c.args.self.now in
    let q = c.args.cell.now.queue.state in
    let none : None ≡ (if waits_for_push c.args.kind l.side.course q then q.active else None) = search rules in
    subst (λ (x : CellIs). MayAnswerUse x c.adopt.new.self.side) (sym c.adopt.ensures.cell)
    (answers_now g.N.Names.header c.args.cell.now l c.adopt.new.self c.args.chosen c.args.kind c.in_ok-adopt.field-0
    c.in_ok-adopt.ensures.ok (no_push c.args.kind l.side.course q none) c.requires.asks.owed)

pub answer_use-reply-requires-clause-asks : goal.answer_use-reply-requires-clause-asks
answer_use-reply-requires-clause-asks g c =
    let h = g.N.Names.header in
    subst (λ (x : CellIs). OpeningAsks h x.queue.state c.adopt.new.self.side.course) (sym c.adopt.ensures.cell)
    (opening_asks h c.args.cell.now c.args.self.now c.adopt.new.self c.args.chosen c.args.kind c.in_ok-adopt.field-0
    c.in_ok-adopt.ensures.ok c.requires.chosen c.requires.asks c.domains_stand_in_order.ensures)

pub answer_use-reply-requires-clause-counters : goal.answer_use-reply-requires-clause-counters
answer_use-reply-requires-clause-counters g c =
    c.requires.counters
    ∙ sym (counters_fit g.N.Names.header c.args.cell.now c.args.self.now c.adopt.new.self c.args.chosen c.args.kind
    c.in_ok-adopt.field-0 c.in_ok-adopt.ensures.ok c.requires.chosen)

pub returns-clause-ok : goal.returns-clause-ok
returns-clause-ok g c =
    let l = c.args.self.now in
    let q = c.args.cell.now.queue.state in
    let none : None ≡ (if waits_for_push c.args.kind l.side.course q then q.active else None) = search rules in
    let e = c.answer_use-reply.ensures in
    record {
      served = no_push c.args.kind l.side.course q none;
      mid = c.adopt.new.self;
      ticket = c.in_ok-adopt.field-0;
      adopted = c.in_ok-adopt.ensures.ok;
      asks = opening_asks g.N.Names.header c.args.cell.now l c.adopt.new.self c.args.chosen c.args.kind c.in_ok-adopt.field-0
          c.in_ok-adopt.ensures.ok c.requires.chosen c.requires.asks c.domains_stand_in_order.ensures;
      answered = subst
          (λ (x : CellIs).
          Drew g.N.Names.header x c.answer_use-reply.new.cell c.adopt.new.self.side c.answer_use-reply.new.self.side
          (turn_what c.answer_use-reply.result))
          c.adopt.ensures.cell e.drew;
      rest = e.rest;
    }
