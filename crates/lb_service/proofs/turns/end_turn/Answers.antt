-- For `end_turn` of src/turns.rt: ends the open turn of a lane that has passed its positions.
use Rattle.std.proofs.Common.{subst, sym}
use Rattle.lb_journal.specs.contracts.journal.Journal.{the_row}
use Rattle.lb_core.specs.declared.entry.What.TheVariants as whats
use Rattle.lb_cpu.specs.Turns.{due_at}
use Rattle.lb_service.proofs.Entries.{over_serves, serving_empty_handed}
use Rattle.lb_service.proofs.Rows.{there_same}
use Rattle.lb_service.proofs.turns.end_turn.Goals as goal

pub returns-clause-serving : goal.returns-clause-serving
returns-clause-serving g c =
    let n = g.N.Names in
    let l = c.args.lane.now in
    over_serves n.header n.book n.board the_row.coded l c.over.new.lane (due_at l.side.course) c.requires.turning.kicks
    c.in_ok-over.ensures.over

pub returns-clause-rows : goal.returns-clause-rows
returns-clause-rows g c =
    let n = g.N.Names in
    let l = c.args.lane.now in
    there_same n.header n.book n.board the_row.coded l c.over.new.lane (due_at l.side.course) whats.Over c.in_ok-over.ensures.over

pub returns-clause-empty_handed : goal.returns-clause-empty_handed
returns-clause-empty_handed g c =
    let n = g.N.Names in
    let l = c.args.lane.now in
    serving_empty_handed n.header c.over.new.lane.side.course
    (over_serves n.header n.book n.board the_row.coded l c.over.new.lane (due_at l.side.course) c.requires.turning.kicks
    c.in_ok-over.ensures.over)
