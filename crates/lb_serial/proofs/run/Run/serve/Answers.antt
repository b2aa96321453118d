-- For `Run::serve` of src/run.rt: serves the row of the trace at this place, from 0: its lane takes it up,
-- and goes on until it rests.
use Rattle.std.proofs.Common.{◌≡◌, true, sym, ◌∙◌, subst}
use Rattle.lb_trace.specs.declared.trace.Header.{Header}
use Rattle.lb_trace.specs.declared.trace.Row.{Row}
use Rattle.lb_trace.specs.Accepted.{is_row}
use Rattle.lb_serial.proofs.Draws.{accepts, after_draw, takes_up_at, serves_on}
use Rattle.lb_serial.proofs.run.Run.serve.Goals as goal

pub draw-requires-clause-lane : goal.draw-requires-clause-lane
draw-requires-clause-lane c = (takes_up_at c.args.trace.now c.args.place c.get-row.result.now c.args.self.now
    c.get-row.ensures c.requires.place c.requires.rest).there

pub draw-requires-clause-accepted : goal.draw-requires-clause-accepted
draw-requires-clause-accepted c =
    let row : Row = c.get-row.result.now in
    subst (λ (h : Header). is_row h row ≡ true) (sym c.requires.rest.front.header)
    (accepts c.args.trace.now c.args.place row c.requires.trace c.get-row.ensures c.requires.place)

pub loop-self-init : goal.loop-self-init
loop-self-init c =
    let w = takes_up_at c.args.trace.now c.args.place c.get-row.result.now c.args.self.now c.get-row.ensures
    c.requires.place c.requires.rest in
    (after_draw _ _ _ _ _ c.draw.new.self w c.in_ok-draw.ensures).0

pub loop-self-smaller : goal.loop-self-smaller
loop-self-smaller c =
    let w = serves_on c.args.trace.now c.get-row.result.now.lane _ c.loop-self.self c.loop-self.invariant
    (sym c.is_at_rest.ensures ∙ c.loop-self-test.true) in
    (after_draw _ _ _ _ _ c.draw-in-loop-self.new.self w c.in_ok-draw-2.ensures).1

pub loop-self-preserved : goal.loop-self-preserved
loop-self-preserved c =
    let w = serves_on c.args.trace.now c.get-row.result.now.lane _ c.loop-self.self c.loop-self.invariant
    (sym c.is_at_rest.ensures ∙ c.loop-self-test.true) in
    (after_draw _ _ _ _ _ c.draw-in-loop-self.new.self w c.in_ok-draw-2.ensures).0
