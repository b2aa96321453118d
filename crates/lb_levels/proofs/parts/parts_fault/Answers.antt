-- For `parts_fault` of src/parts.rt: the first fault of a list of masks that are to part the machine's CPUs,
-- or None where each of its masks has CPUs of the machine alone and no two share one (docs/rules/domains.md).
use Rattle.std.proofs.Common.{ℕ, length, sym, ◌∙◌, ap}
use Rattle.lb_levels.specs.Faults.{first_past}
use Rattle.lb_levels.proofs.Overlaps.{past_first, overlap_second}
use Rattle.lb_levels.proofs.parts.parts_fault.Goals as goal

pub returns-in-Some : goal.returns-in-Some
returns-in-Some c =
    let cpus = ap (λ (n : ℕ). first_past n c.args.parts.now) c.cpus.ensures.count in
    past_first (length c.args.machine.now.cpus) c.args.parts.now c.in-Some.part (sym (c.first_past.ensures ∙ cpus) ∙ c.in-Some.is)

pub returns : goal.returns
returns c =
    let cpus = ap (λ (n : ℕ). first_past n c.args.parts.now) c.cpus.ensures.count in
    c.first_overlap.ensures ∙ overlap_second (length c.args.machine.now.cpus) c.args.parts.now
    (sym (c.first_past.ensures ∙ cpus) ∙ c.in_default.is)
