-- For `domain_at` of src/build.rt: the domain of a level, if it is kept.
use Rattle.std.proofs.Common.{◌≡◌, ℕ, ◌&&◌, Some, List, sym, ◌∙◌, ap, arith}
use Rattle.std.specs.List.{slice_index_or}
use Rattle.std.proofs.lemmas.Bool.{and_parts}
use Rattle.lb_base.specs.declared.mask.Mask.{Mask}
use Rattle.lb_base.specs.declared.shape.Shape.{Shape}
use Rattle.lb_base.specs.declared.shape.LevelName.{LevelName}
use Rattle.lb_base.specs.Mask.{has, no_cpus}
use Rattle.lb_levels.specs.Spans.{level_at}
use Rattle.lb_domain.specs.Domains.{cut_span, is_kept, shape_above, ring_of}
use Rattle.lb_domain.specs.Steps.{step_span}
use Rattle.lb_domain.proofs.Rings.{step_up, in_span, leaders_first}
use Rattle.lb_domain.proofs.OneLevel.{is_dropped, is_there, domain_with}
use Rattle.lb_domain.proofs.build.domain_at.Goals as goal

pub returns-then-not-is_kept : goal.returns-then-not-is_kept
returns-then-not-is_kept c =
    let level = level_at c.args.machine.now.distances c.args.level in
    let span = c.step_span-span.ensures ∙ step_up c.args.machine.now.cpus c.args.machine.now.distances c.args.part
    c.args.level c.args.cpu in
    is_dropped (step_span c.args.machine.now.cpus c.args.machine.now.distances c.args.part c.args.level) c.args.cpu
    c.args.below level
    (cut_span c.args.machine.now.cpus c.args.machine.now.distances c.args.part level c.args.cpu)
    (sym (c.if-not-is_kept.ensures ∙ ap (is_kept c.args.below) span))

pub ring-requires-clause-cpus : goal.ring-requires-clause-cpus
ring-requires-clause-cpus c k there =
    let level = level_at c.args.machine.now.distances c.args.level in
    let span = c.step_span-span.ensures ∙ step_up c.args.machine.now.cpus c.args.machine.now.distances c.args.part
    c.args.level c.args.cpu in
    let both = and_parts _ _ (sym (c.and-leaders.ensures.cpus k) ∙ there) in
    (in_span c.args.machine.now.cpus c.args.machine.now.distances c.args.part level c.args.cpu k
    (sym (ap (λ (m : Mask). has m k) span) ∙ both.1)).in_range

pub returns : goal.returns
returns c =
    let level = level_at c.args.machine.now.distances c.args.level in
    let group = step_span c.args.machine.now.cpus c.args.machine.now.distances c.args.part c.args.level in
    let cut = cut_span c.args.machine.now.cpus c.args.machine.now.distances c.args.part level c.args.cpu in
    let span : c.step_span-span.result ≡ cut =
    c.step_span-span.ensures ∙ step_up c.args.machine.now.cpus c.args.machine.now.distances c.args.part c.args.level c.args.cpu in
    let shape = c.shape_above.ensures ∙ ap
    (λ (name : LevelName). shape_above c.args.below name c.step_span-span.result) c.name.ensures
    ∙ ap (shape_above c.args.below level) span in
    let firsts = leaders_first c.args.machine.now.cpus c.args.machine.now.distances c.args.part c.args.leaders.now
    c.args.level level c.args.cpu c.and-leaders.result c.requires.leaders
    (omega (arith, c.requires.leaders.steps, c.requires.level))
    (λ k. c.and-leaders.ensures.cpus k ∙ ap
    (λ (m : Mask). has (slice_index_or c.args.leaders.now c.args.level no_cpus) k && has m k) span) in
    let groups = c.in_ok-groups.ensures ∙ ap (λ (ks : List ℕ). ring_of group ks c.args.cpu) firsts in
    ap (λ (s : Shape). Some (domain_with s c.in_ok-groups.groups)) shape
    ∙ ap (λ (g : List Mask). Some (domain_with (shape_above c.args.below level cut) g)) groups
    ∙ is_there group c.args.cpu c.args.below level cut (sym (c.if-not-is_kept.ensures ∙ ap (is_kept c.args.below) span))
