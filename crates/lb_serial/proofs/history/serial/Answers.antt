-- For `serial` of src/history.rt: the serial history of a trace: the rows in file order, each with all that
-- follows it until its lane rests, and the end (docs/rules/lanes.md).
use Rattle.std.proofs.Common.{[], sym, ◌∙◌}
use Rattle.lb_serial.proofs.Next.{all_drawn}
use Rattle.lb_serial.proofs.Draws.{after_draw, closes_on}
use Rattle.lb_serial.proofs.Starting.{starts}
use Rattle.lb_serial.proofs.history.serial.Goals as goal

pub serve_rows-requires-clause-rest : goal.serve_rows-requires-clause-rest
serve_rows-requires-clause-rest c = starts c.serial_runs.ensures.traces c.histories_end.ensures c.args.trace.now c.requires
    c.in_ok-run.run' c.in_ok-run.ensures

pub draw-requires-clause-lane : goal.draw-requires-clause-lane
draw-requires-clause-lane c = (closes_on c.args.trace.now c.loop-run.run c.loop-run.invariant
    (sym c.has_ended.ensures ∙ c.loop-run-test.true)).there

pub loop-run-smaller : goal.loop-run-smaller
loop-run-smaller c =
    let w = closes_on c.args.trace.now c.loop-run.run c.loop-run.invariant (sym c.has_ended.ensures ∙ c.loop-run-test.true) in
    (after_draw _ _ _ _ _ c.draw.new.self w c.in_ok-draw.ensures).1

pub loop-run-preserved : goal.loop-run-preserved
loop-run-preserved c =
    let w = closes_on c.args.trace.now c.loop-run.run c.loop-run.invariant (sym c.has_ended.ensures ∙ c.loop-run-test.true) in
    (after_draw _ _ _ _ _ c.draw.new.self w c.in_ok-draw.ensures).0

pub returns : goal.returns
returns c = all_drawn c.args.trace.now [] c.loop-run.run c.loop-run.invariant.front
    (sym c.has_ended.ensures ∙ c.loop-run-test.false)
