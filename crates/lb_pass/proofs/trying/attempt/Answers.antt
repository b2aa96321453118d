-- For `attempt` of src/trying.rt: a look, and the pull that it decides for.
use Rattle.std.proofs.Common.{arith}
use Rattle.lb_lane_laws.proofs.Sources.{Laws}
use Rattle.lb_pass.proofs.Attempting.{further_after, pull_due, source_after}
use Rattle.lb_pass.proofs.Settling.{in_vain, looked_in_vain, on_err, stops_looked, vain_source}
use Rattle.lb_pass.proofs.trying.attempt.Goals as goal

pub pull-requires-after_bounds : goal.pull-requires-after_bounds
pull-requires-after_bounds g c κs within =
    let laws : Laws = record {
      choice = c.decision_is_the_choice.ensures.holds;
      part = c.groups_part_the_span.ensures;
      inside = c.spans_lie_inside.ensures;
    } in
    pull_due g.N.Names.header g.N.Names.board _ _ _ c.args.lane.now c.look.new.lane _ _ _ _ laws c.keeps.ensures c.requires
    c.in_ok-source.ensures.ok c.in-Pull.is

pub returns-in_err-pull-in-Pull-clause-refused : goal.returns-in_err-pull-in-Pull-clause-refused
returns-in_err-pull-in-Pull-clause-refused g c =
    on_err c.from_residual-in_err-pull-in-Pull.result _
    (stops_looked g.N.Names.header g.N.Names.board c.args.lane.now c.look.new.lane c.pull.new.lane _
    c.in_ok-source.ensures.ok c.in_err-pull-in-Pull.ensures.refused)

pub returns-in_ok-pull-in-Pull-clause-further : goal.returns-in_ok-pull-in-Pull-clause-further
returns-in_ok-pull-in-Pull-clause-further g c =
    let laws : Laws = record {
      choice = c.decision_is_the_choice.ensures.holds;
      part = c.groups_part_the_span.ensures;
      inside = c.spans_lie_inside.ensures;
    } in
    further_after g.N.Names.header g.N.Names.book g.N.Names.board _ _ c.args.lane.now c.look.new.lane c.pull.new.lane
    c.in_ok-source.field-0 _ _ _ laws c.keeps.ensures c.requires c.in_ok-source.ensures.ok c.in-Pull.is
    c.in_ok-pull-in-Pull.ensures.pulled

pub returns-in_ok-pull-in-Pull-clause-source : goal.returns-in_ok-pull-in-Pull-clause-source
returns-in_ok-pull-in-Pull-clause-source g c =
    source_after g.N.Names.header g.N.Names.book g.N.Names.board _ c.args.lane.now c.look.new.lane c.pull.new.lane
    c.in_ok-source.field-0 _ _ _ (pull_due g.N.Names.header g.N.Names.board _ _ _ c.args.lane.now c.look.new.lane _ _ _ _
    (record {
      choice = c.decision_is_the_choice.ensures.holds;
      part = c.groups_part_the_span.ensures;
      inside = c.spans_lie_inside.ensures;
    }) c.keeps.ensures c.requires c.in_ok-source.ensures.ok c.in-Pull.is).declared
    c.in_ok-source.ensures.ok c.in-Pull.is c.in_ok-pull-in-Pull.ensures.pulled

pub returns-in-NotMine : goal.returns-in-NotMine
returns-in-NotMine g c = record {
  ok = in_vain g.N.Names.header g.N.Names.board c.args.lane.now c.look.new.lane c.in_ok-source.field-0 c.in-NotMine.is
      c.in_ok-source.ensures.ok;
  source = vain_source g.N.Names.header _ c.args.lane.now c.look.new.lane _ c.in-NotMine.is c.in_ok-source.ensures.ok
      (omega (arith, c.keeps.ensures.turned));
  further = looked_in_vain g.N.Names.header _ c.args.lane.now c.look.new.lane _ c.in_ok-source.ensures.ok;
  refused = tt;
}
