-- For `differ` of src/landing.rt: whether the ids of the tasks differ.
use Rattle.std.proofs.Common.{rules, ◌≡◌, ◌∷◌, sym, subst}
use Rattle.lb_cpu.proofs.Differing.{Differ, front}
use Rattle.lb_cpu.proofs.landing.differ.Goals as goal

pub loop-task-preserved : goal.loop-task-preserved
loop-task-preserved c =
    let t = c.in-Some.task.now in
    let ts = c.in-Some.others.now in
    let is : c.loop-task.rest.now ≡ t ∷ ts = search rules in
    λ differ. c.loop-task.invariant (subst Differ (sym is) (front t ts (search rules) differ))
