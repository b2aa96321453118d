-- For `pass` of src/passing.rt: makes the looks, takes and landings of one position of the lane's open turn,
-- and its close, and answers how the position ended (docs/rules/lanes.md, docs/rules/counters.md).
use Rattle.lb_pass.proofs.Closing.{can_close, closed_rows, closed_turn, due_declared, first_look, goes_on_after, passed, stops_settled}
use Rattle.lb_pass.proofs.Settling.{on_err}
use Rattle.lb_pass.proofs.passing.pass.Goals as goal

pub settle-requires-after_bounds : goal.settle-requires-after_bounds
settle-requires-after_bounds g c κs within =
    first_look g.N.Names.header c.args.lane.now c.args.cpu c.args.position c.args.kind c.requires

pub close-requires-clause-due : goal.close-requires-clause-due
close-requires-clause-due g c =
    can_close g.N.Names.header g.N.Names.book g.N.Names.board _ c.args.lane.now c.settle.new.lane c.args.cpu c.args.position
    c.args.kind c.requires c.in_ok-settle.ensures.settled c.in_ok-settle.ensures.stays

pub close-requires-clause-declared : goal.close-requires-clause-declared
close-requires-clause-declared g c =
    due_declared g.N.Names.header g.N.Names.book g.N.Names.board _ _ c.args.lane.now c.settle.new.lane
    c.in_ok-settle.ensures.settled c.keeps.ensures

pub returns-in_err-outcome-clause-stopped : goal.returns-in_err-outcome-clause-stopped
returns-in_err-outcome-clause-stopped g c =
    on_err c.from_residual-in_err-outcome.result _
    (stops_settled g.N.Names.header g.N.Names.book g.N.Names.board _ c.args.lane.now c.settle.new.lane c.close.new.lane
    c.in_ok-settle.ensures.settled c.in_err-outcome.ensures.refused)

pub returns-clause-passed : goal.returns-clause-passed
returns-clause-passed g c =
    passed g.N.Names.header g.N.Names.book g.N.Names.board _ c.args.lane.now c.settle.new.lane c.close.new.lane c.args.cpu
    c.args.position c.args.kind _ c.requires c.in_ok-settle.ensures.settled c.in_ok-settle.ensures.stays
    c.in_ok-outcome.ensures.closed

pub returns-clause-goes_on : goal.returns-clause-goes_on
returns-clause-goes_on g c =
    goes_on_after g.N.Names.header g.N.Names.book g.N.Names.board _ c.args.lane.now c.settle.new.lane c.close.new.lane c.args.cpu
    c.args.position c.args.kind _ _ c.requires c.in_ok-settle.ensures.stays c.in_ok-settle.ensures.source
    c.in_ok-outcome.ensures.closed

pub returns-clause-turn : goal.returns-clause-turn
returns-clause-turn g c =
    closed_turn g.N.Names.header g.N.Names.book g.N.Names.board _ c.args.lane.now c.settle.new.lane c.close.new.lane _ _
    c.in_ok-outcome.ensures.closed c.in_ok-settle.ensures.stays

pub returns-clause-rows : goal.returns-clause-rows
returns-clause-rows g c =
    closed_rows g.N.Names.header g.N.Names.book g.N.Names.board _ c.args.lane.now c.settle.new.lane c.close.new.lane _ _
    c.in_ok-outcome.ensures.closed c.in_ok-settle.ensures.stays
