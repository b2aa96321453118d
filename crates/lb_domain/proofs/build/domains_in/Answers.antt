-- For `domains_in` of src/build.rt: the domains of a CPU within its part.
use Rattle.std.proofs.Common.{◌≡◌, ◌+◌, List, [], ◌++◌, drop, Option, sym, ◌∙◌, ap, arith}
use Rattle.std.specs.List.{cons_option}
use Rattle.lb_base.specs.declared.shape.Shape.{Shape}
use Rattle.lb_levels.specs.Spans.{levels_of, level_at}
use Rattle.lb_domain.specs.declared.domain.Domain.{Domain}
use Rattle.lb_domain.specs.Domains.{cut_span, position_above, kept_domain, below_next, domains_from}
use Rattle.lb_domain.specs.Steps.{step_span}
use Rattle.lb_domain.proofs.OneLevel.{position_next, level_more}
use Rattle.lb_domain.proofs.build.domains_in.Goals as goal

pub loop-level-preserved : goal.loop-level-preserved
loop-level-preserved c =
    let group = step_span c.args.machine.now.cpus c.args.machine.now.distances c.in-Some.part c.loop-level.level in
    let level = level_at c.args.machine.now.distances c.loop-level.level in
    let cut = cut_span c.args.machine.now.cpus c.args.machine.now.distances c.in-Some.part level c.args.cpu in
    let rest : List Domain → Option Shape → List Domain =
    λ domains below. domains ++ domains_from (cut_span c.args.machine.now.cpus c.args.machine.now.distances
    c.in-Some.part) c.args.cpu (step_span c.args.machine.now.cpus c.args.machine.now.distances c.in-Some.part
    (c.loop-level.level + 1)) below (drop (c.loop-level.level + 1) (levels_of c.args.machine.now.distances)) in
    let next : c.in_ok-below.below ≡ below_next (kept_domain group c.args.cpu c.loop-level.below level cut) c.loop-level.below =
    c.in_ok-below.ensures.next ∙ ap (λ (d : Option Domain). below_next d c.loop-level.below) c.in_ok-domain.ensures in
    let added : c.add_kept.new.domains ≡ c.loop-level.domains ++ cons_option
    (kept_domain group c.args.cpu c.loop-level.below level cut) [] =
    c.in_ok-below.ensures.added ∙ ap (λ (d : Option Domain). c.loop-level.domains ++ cons_option d []) c.in_ok-domain.ensures in
    record {
      position = omega (
        arith,
        ap position_above next,
        position_next group c.args.cpu c.loop-level.below level cut
            c.loop-level.level c.loop-level.invariant.position,
      );
      rest = c.loop-level.invariant.rest
          ∙ level_more c.args.machine.now.cpus c.args.machine.now.distances c.in-Some.part c.args.cpu
          c.loop-level.level c.loop-level.below c.loop-level.domains (omega arith)
          ∙ sym (ap (λ (ds : List Domain). rest ds c.in_ok-below.below) added
          ∙ ap (rest (c.loop-level.domains ++ cons_option (kept_domain group c.args.cpu c.loop-level.below level cut) [])) next);
    }
