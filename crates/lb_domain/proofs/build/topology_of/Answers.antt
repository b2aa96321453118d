-- For `topology_of` of src/build.rt: the domains of every CPU within disjoint parts.
use Rattle.std.proofs.Common.{◌≡◌, ◌<◌, ◌≤◌, ℕ, List, length, Option, Some, None, ◌∙◌, sym, ap, subst, arith}
use Rattle.std.specs.List.{slice_index_or}
use Rattle.std.proofs.lemmas.Result.{IfOk-weaker}
use Rattle.lb_base.specs.declared.mask.Mask.{Mask}
use Rattle.lb_levels.specs.declared.limits.TheConstants.{MAX_LEVELS}
use Rattle.lb_levels.specs.Spans.{levels_of}
use Rattle.lb_domain.specs.Topologies.{IsSmall}
use Rattle.lb_domain.specs.Steps.{own_parts, LeadWithin}
use Rattle.lb_domain.proofs.Parts.{length-own_parts, own_parts_live, own_part_at, lead_within, all_domains}
use Rattle.lb_domain.proofs.Sizes.{small}
use Rattle.lb_domain.proofs.build.topology_of.Goals as goal

pub all_leaders-requires : goal.all_leaders-requires
all_leaders-requires c =
    ap length (c.as_slice-2.ensures ∙ c.in_ok-own.ensures) ∙ length-own_parts c.cpus.result c.as_slice.result.now ∙
    c.cpus.ensures.count

pub domains_of_all-requires-clause-all : goal.domains_of_all-requires-clause-all
domains_of_all-requires-clause-all c =
    ap length (c.as_slice-3.ensures ∙ c.in_ok-own.ensures) ∙ length-own_parts c.cpus.result c.as_slice.result.now ∙
    c.cpus.ensures.count

-- the parts of the CPUs
own_is : (c : goal.After-as_slice-4) → c.in_ok-own.own ≡ own_parts (length c.args.machine.now.cpus) c.args.parts.now
own_is c =
    c.in_ok-own.ensures
    ∙ ap (own_parts c.cpus.result) (c.as_slice.ensures ∙ c.in_ok-live.ensures)
    ∙ own_parts_live c.cpus.result c.args.parts.now
    ∙ ap (λ (n : ℕ). own_parts n c.args.parts.now) c.cpus.ensures.count

pub domains_of_all-requires-clause-leaders : goal.domains_of_all-requires-clause-leaders
domains_of_all-requires-clause-leaders c cpu part in_own is =
    let within : cpu < length c.args.machine.now.cpus = omega (arith, in_own, domains_of_all-requires-clause-all c) in
    let has_part : slice_index_or (own_parts (length c.args.machine.now.cpus) c.args.parts.now) cpu None ≡ Some part =
    ap (λ (own : List (Option Mask)). slice_index_or own cpu None) (sym (c.as_slice-3.ensures ∙ own_is c)) ∙ is in
    subst (LeadWithin c.args.machine.now.cpus c.args.machine.now.distances part) (sym c.as_slice-4.ensures)
    (lead_within c.args.machine.now.cpus c.args.machine.now.distances c.args.parts.now c.as_slice-2.result.now
    c.in_ok-leaders.leaders cpu part
    c.cpus.ensures.few ((c.a_partition_has_no_fault.ensures (length c.args.machine.now.cpus) c.args.parts.now).0 c.requires).apart
    (c.as_slice-2.ensures ∙ own_is c) c.in_ok-leaders.ensures
    (sym (own_part_at (length c.args.machine.now.cpus) c.args.parts.now cpu within) ∙ has_part))

pub returns-clause-value : goal.returns-clause-value
returns-clause-value c =
    let own : c.as_slice-3.result.now ≡ own_parts (length c.args.machine.now.cpus) c.args.parts.now =
    c.as_slice-3.ensures ∙ c.in_ok-own.ensures
    ∙ ap (own_parts c.cpus.result) (c.as_slice.ensures ∙ c.in_ok-live.ensures)
    ∙ own_parts_live c.cpus.result c.args.parts.now
    ∙ ap (λ (n : ℕ). own_parts n c.args.parts.now) c.cpus.ensures.count in
    IfOk-weaker c.domains_of_all.result _ _
    (λ all value. value ∙ all_domains c.args.machine.now.cpus c.args.machine.now.distances c.args.parts.now
    c.as_slice-3.result.now own)
    c.domains_of_all.ensures

pub returns-clause-small : goal.returns-clause-small
returns-clause-small c =
    let few : length (levels_of c.args.machine.now.distances) ≤ MAX_LEVELS =
    omega (arith, c.in_ok-leaders.ensures.few, c.in_ok-leaders.ensures.steps) in
    IfOk-weaker c.domains_of_all.result _ _
    (λ all value. subst IsSmall (sym value) (small c.args.machine.now.cpus c.args.machine.now.distances c.args.parts.now few))
    (returns-clause-value c)
