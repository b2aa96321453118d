-- For `serve_kick` of src/ticks.rt: scannedAreDeclared the CPU that the scan found.
use Rattle.lb_journal.specs.contracts.journal.Journal.{the_row}
use Rattle.lb_core.specs.declared.entry.What.TheVariants as whats
use Rattle.lb_cpu.specs.Turns.{due_at}
use Rattle.lb_service.proofs.Entries.{kicked_serves, serving_empty_handed}
use Rattle.lb_service.proofs.Rows.{there_same}
use Rattle.lb_service.proofs.ticks.serve_kick.Goals as goal

pub returns-clause-serving : goal.returns-clause-serving
returns-clause-serving g c =
    let n = g.N.Names in
    let l = c.args.lane.now in
    kicked_serves n.header n.book n.board the_row.coded l c.kick.new.lane (due_at l.side.course) c.in_ok-kick.field-0
    c.requires.kicks
    c.in_ok-kick.ensures.kicked

pub returns-clause-rows : goal.returns-clause-rows
returns-clause-rows g c =
    let n = g.N.Names in
    let l = c.args.lane.now in
    there_same n.header n.book n.board the_row.coded l c.kick.new.lane (due_at l.side.course) (whats.Kick c.in_ok-kick.field-0)
    c.in_ok-kick.ensures.kicked.there

pub returns-clause-empty_handed : goal.returns-clause-empty_handed
returns-clause-empty_handed g c =
    let n = g.N.Names in
    let l = c.args.lane.now in
    serving_empty_handed n.header c.kick.new.lane.side.course
    (kicked_serves n.header n.book n.board the_row.coded l c.kick.new.lane (due_at l.side.course) c.in_ok-kick.field-0
    c.requires.kicks c.in_ok-kick.ensures.kicked)
