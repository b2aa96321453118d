-- For `pass_position` of src/turns.rt: passes the position in work, and asks its source for a push where it
-- ends so.
use Rattle.std.proofs.Common.{rules, ◌≡◌}
use Rattle.lb_interval.specs.declared.Outcome.TheVariants.{Asking}
use Rattle.lb_journal.specs.contracts.journal.Journal.{the_row}
use Rattle.lb_core.specs.declared.entry.What.TheVariants as whats
use Rattle.lb_lane_laws.proofs.Lanes.{rows_still}
use Rattle.lb_cpu.specs.Turns.{due_at}
use Rattle.lb_service.proofs.Entries.{turning_empty_handed}
use Rattle.lb_service.proofs.Rows.{there_same}
use Rattle.lb_service.proofs.Turning.{asked_on, passed_on}
use Rattle.lb_service.proofs.turns.pass_position.Goals as goal

pub returns-in_ok-ask-clause-turning : goal.returns-in_ok-ask-clause-turning
returns-in_ok-ask-clause-turning g c =
    let n = g.N.Names in
    let m = c.pass.new.lane in
    asked_on n.header n.book n.board the_row.coded c.args.lane.now m c.ask.new.lane (due_at m.side.course) c.in_ok-ask.field-0
    c.requires.turning c.pass.ensures.turn c.in_ok-ask.ensures.asked

pub returns-in_ok-ask-clause-rows : goal.returns-in_ok-ask-clause-rows
returns-in_ok-ask-clause-rows g c =
    let n = g.N.Names in
    let m = c.pass.new.lane in
    rows_still c.args.lane.now m c.ask.new.lane c.pass.ensures.rows
    (there_same n.header n.book n.board the_row.coded m c.ask.new.lane (due_at m.side.course) (whats.Ask c.in_ok-ask.field-0)
    c.in_ok-ask.ensures.asked.there)

pub returns-in_ok-ask-clause-empty_handed : goal.returns-in_ok-ask-clause-empty_handed
returns-in_ok-ask-clause-empty_handed g c =
    turning_empty_handed g.N.Names.header c.ask.new.lane.side.course (returns-in_ok-ask-clause-turning g c)

pub returns-else-eq-clause-turning : goal.returns-else-eq-clause-turning
returns-else-eq-clause-turning g c =
    let l = c.args.lane.now in
    let differs : c.in_ok-outcome.outcome ≡ Asking → ⊥ = search rules in
    passed_on g.N.Names.header l.side.course c.pass.new.lane.side.course c.in_ok-outcome.outcome c.turn_kind-kind.result
    c.requires.turning c.pass.ensures.turn differs c.in_ok-outcome.ensures.goes_on
