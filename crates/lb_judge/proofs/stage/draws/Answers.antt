-- For `draws` of src/stage.rt: whether the form of the lane's course draws such an entry.
use Rattle.std.proofs.Common.{◌∙◌}
use Rattle.lb_judge.proofs.Undrawn.{row_drawn, scan_drawn, landed_drawn, turn_drawn, shut_drawn, ask_drawn, over_drawn, told}
use Rattle.lb_judge.proofs.stage.draws.Goals as goal

pub returns-in-Row : goal.returns-in-Row
returns-in-Row c = told _ _ _ _ _ _ _ _ c.in-Row.is (c.is_rest.ensures ∙ row_drawn _ _ _ _ _ _ _ _)

pub returns-in-Scan : goal.returns-in-Scan
returns-in-Scan c = told _ _ _ _ _ _ _ _ c.in-Scan.is (c.is_form.ensures ∙ scan_drawn _ _ _ _ _ _ _)

pub returns-in-Landed : goal.returns-in-Landed
returns-in-Landed c = told _ _ _ _ _ _ _ _ c.in-Landed.is (c.is_form-in-Landed.ensures ∙ landed_drawn _ _ _ _ _ _)

pub returns-in-Turn : goal.returns-in-Turn
returns-in-Turn c = told _ _ _ _ _ _ _ _ c.in-Turn.is (c.is_form-in-Turn.ensures ∙ turn_drawn _ _ _ _ _ _)

pub returns-in-Shut : goal.returns-in-Shut
returns-in-Shut c = told _ _ _ _ _ _ _ _ c.in-Shut.is (c.is_form-in-Shut.ensures ∙ shut_drawn _ _ _ _ _)

pub returns-in-Ask : goal.returns-in-Ask
returns-in-Ask c = told _ _ _ _ _ _ _ _ c.in-Ask.is (c.is_form-in-Ask.ensures ∙ ask_drawn _ _ _ _ _ _)

pub returns-in-Over : goal.returns-in-Over
returns-in-Over c = told _ _ _ _ _ _ _ _ c.in-Over.is (c.is_form-in-Over.ensures ∙ over_drawn _ _ _ _ _)
