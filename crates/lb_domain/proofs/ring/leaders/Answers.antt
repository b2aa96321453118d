-- For `leaders` of src/ring.rt: the CPUs that come first in their spans at a step, each within its own mask.
use Rattle.std.proofs.Common.{◌≡◌, ℕ, Bool, ltb, eqb, ◌&&◌, ◌||◌, length, None, ◌∙◌, ap, arith}
use Rattle.std.specs.List.{slice_index_or}
use Rattle.lb_base.proofs.Ranges.{one_joins}
use Rattle.lb_domain.specs.Steps.{leads}
use Rattle.lb_domain.proofs.ring.leaders.Goals as goal

pub loop-cpu-preserved : goal.loop-cpu-preserved
loop-cpu-preserved c i =
    let first : ℕ → Bool = λ k. leads c.args.machine.now.cpus c.args.machine.now.distances
    (slice_index_or c.args.own.now k None) c.args.step k in
    c.joined-leaders.ensures i
    ∙ ap (λ (b : Bool). b || (eqb i c.loop-cpu.cpu && c.leads-joins.result)) (c.loop-cpu.invariant i)
    ∙ ap (λ (b : Bool). (ltb i c.loop-cpu.cpu && first i) || (eqb i c.loop-cpu.cpu && b)) c.leads-joins.ensures
    ∙ one_joins first c.loop-cpu.cpu i

pub returns : goal.returns
returns c k =
    let all : c.loop-cpu.cpu ≡ length c.args.own.now = omega arith in
    c.loop-cpu.invariant k ∙ ap (λ (n : ℕ). ltb k n && leads c.args.machine.now.cpus c.args.machine.now.distances
    (slice_index_or c.args.own.now k None) c.args.step k) all
