-- For `answer_row` of src/row.rt: the row is taken up and answered.
use Rattle.std.proofs.Common.{ap, ◌∙◌, inl, inr}
use Rattle.lb_core.specs.declared.course.Course.{Course}
use Rattle.lb_core.specs.Placed.{is_flight}
use Rattle.lb_journal.specs.contracts.journal.Journal.{the_row}
use Rattle.lb_service.proofs.Entries.{serving_empty_handed}
use Rattle.lb_service.proofs.RowAnswers.{row_answered, took_row}
use Rattle.lb_service.proofs.row.answer_row.Goals as goal

pub returns-in_err-command-clause-empty_handed : goal.returns-in_err-command-clause-empty_handed
returns-in_err-command-clause-empty_handed g c = elim c.in_err-command.ensures.refused [
  | inl nothing ↦ ap is_flight (ap (λ (x : Course). x.form) nothing.side.course ∙ c.requires.rest)
  | inr took ↦ ap is_flight (took_row g.N.Names.header c.args.lane.now c.command.new.lane took).form
]

pub returns-clause-serving : goal.returns-clause-serving
returns-clause-serving g c =
    let n = g.N.Names in
    (row_answered n.header n.book n.board g.N.Versions.versions the_row.coded c.args.lane.now c.command.new.lane c.args.row.now
    c.in_ok-command.field-0 c.in_ok-command.ensures.ok).serving

pub returns-clause-taken_up : goal.returns-clause-taken_up
returns-clause-taken_up g c =
    let n = g.N.Names in
    (row_answered n.header n.book n.board g.N.Versions.versions the_row.coded c.args.lane.now c.command.new.lane c.args.row.now
    c.in_ok-command.field-0 c.in_ok-command.ensures.ok).taken_up

pub returns-clause-empty_handed : goal.returns-clause-empty_handed
returns-clause-empty_handed g c =
    let n = g.N.Names in
    serving_empty_handed n.header c.command.new.lane.side.course
    (row_answered n.header n.book n.board g.N.Versions.versions the_row.coded c.args.lane.now c.command.new.lane c.args.row.now
    c.in_ok-command.field-0 c.in_ok-command.ensures.ok).serving
