-- For `run_blank` of src/run.rt: the same, of a machine before any entry, which the names are of.
use Rattle.std.proofs.Common.{◌≡◌, List, [], ◌++◌, length, take, drop, ap, sym, subst, ◌∙◌}
use Rattle.std.proofs.lemmas.List.{take_all}
use Rattle.lb_lane.specs.Lanes.{LaneIs}
use Rattle.lb_threads.specs.Lanes.{EachLane, IsDone, IsReady}
use Rattle.lb_threads.proofs.Numbers.{written_back}
use Rattle.lb_threads.proofs.Starting.{all_ready}
use Rattle.lb_threads.proofs.run.run_blank.Goals as goal

pub serve_lanes-requires-after_bounds : goal.serve_lanes-requires-after_bounds
serve_lanes-requires-after_bounds g c κs within =
    let rows = c.args.trace.now.rows in
    subst (λ (ls : List LaneIs). EachLane (IsReady rows) ls) (sym c.deref_mut.ensures.value)
    (all_ready g.N.Names.header rows c.args.trace.now.header.lanes c.in_ok-cpus.lanes.items c.in_ok-cpus.ensures.new
    (c.in_ok-cpus.ensures.rows ∙ c.requires.rows))

pub history_of-requires-clause-done : goal.history_of-requires-clause-done
history_of-requires-clause-done g c =
    let items = c.in_ok-cpus.lanes.items in
    let e = c.deref_mut.ensures in
    let count = c.in_ok-serve_lanes.ensures.count ∙ ap (λ (ls : List LaneIs). length ls) e.value in
    subst (λ (ls : List LaneIs). EachLane (IsDone c.args.trace.now.rows) ls)
    (sym (written_back c.serve_lanes.new.lanes items c.in_ok-cpus.lanes.len count
    (sym e.len ∙ ap (λ (ls : List LaneIs). length ls) e.value))) c.in_ok-serve_lanes.ensures.done
