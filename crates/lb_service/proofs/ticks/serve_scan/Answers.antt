-- For `serve_scan` of src/ticks.rt: draws the scan that is due.
use Rattle.std.proofs.Common.{length}
use Rattle.lb_service.proofs.Entries.{scan_same, scanned_serves, serving_empty_handed}
use Rattle.lb_service.proofs.ticks.serve_scan.Goals as goal

pub returns-clause-serving : goal.returns-clause-serving
returns-clause-serving g c =
    let n = g.N.Names in
    scanned_serves n.header (length n.board) c.args.lane.now c.scan.new.lane c.in_ok-scan.field-0 c.keeps.ensures.cells
    c.in_ok-scan.ensures.ok

pub returns-clause-rows : goal.returns-clause-rows
returns-clause-rows g c =
    let n = g.N.Names in
    scan_same n.header (length n.board) c.args.lane.now c.scan.new.lane c.in_ok-scan.field-0 c.in_ok-scan.ensures.ok

pub returns-clause-empty_handed : goal.returns-clause-empty_handed
returns-clause-empty_handed g c =
    let n = g.N.Names in
    serving_empty_handed n.header c.scan.new.lane.side.course
    (scanned_serves n.header (length n.board) c.args.lane.now c.scan.new.lane c.in_ok-scan.field-0 c.keeps.ensures.cells
    c.in_ok-scan.ensures.ok)
