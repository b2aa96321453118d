-- For `check` of src/audit.rt: whether a history that was read from a text is legal, or its first fault
-- (docs/rules/legality.md).
use Rattle.std.proofs.Common.{refl, sym, ◌∙◌, ap}
use Rattle.lb_core.specs.Machine.{MachineState}
use Rattle.lb_audit.proofs.Steps.{verdict_from, steps}
use Rattle.lb_audit.proofs.audit.check.Goals as goal

pub loop-written-init : goal.loop-written-init
loop-written-init c = record {
  place = refl;
  left = ap (λ (m : MachineState). verdict_from 1 c.args.read.now.entries m) c.in_ok-state.ensures
      ∙ sym (steps c.args.read.now);
}
