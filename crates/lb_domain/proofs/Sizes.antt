-- How many domains a CPU has, and how many groups a domain. For callers too.
-- For the law `domains_are_few`, and `Topology::build` and `topology_of`; cited by `lb_lane`, `lb_ready` and
-- `lb_turn` too.
use Rattle.std.proofs.Common.{◌≡◌, ℕ, zero, suc, ◌<◌, ◌≤◌, leb, ltb, Bool, true, false, not, List, [], ◌∷◌, ◌++◌, length, Option, Some, None, refl, sym, ◌∙◌, ap, arith, inl, inr}
use Rattle.std.specs.Prelude.{filter, unwrap_or}
use Rattle.std.specs.List.{range_with_len, slice_index_or}
use Rattle.std.proofs.lemmas.Bool.{cases_Bool}
use Rattle.std.proofs.lemmas.List.{length-map, length-append}
use Rattle.std.proofs.lemmas.List.Sums.{length-filter, count_by-le-length}
use Rattle.std.proofs.lemmas.List.Filters.{length-filter_both}
use Rattle.std.proofs.lemmas.List.FromFn.{get_or-map-range_with_len, length-range_with_len}
use Rattle.lb_base.specs.declared.mask.Mask.{Mask}
use Rattle.lb_base.specs.declared.shape.Shape.{Shape}
use Rattle.lb_base.specs.declared.shape.LevelName.{LevelName}
use Rattle.lb_base.specs.Mask.{members, only}
use Rattle.lb_base.specs.Sets.{least}
use Rattle.lb_base.proofs.Members.{length-members_le}
use Rattle.lb_levels.specs.declared.cpu_row.CpuRow.{CpuRow}
use Rattle.lb_levels.specs.declared.limits.TheConstants.{MAX_LEVELS}
use Rattle.lb_levels.specs.Spans.{levels_of}
use Rattle.lb_domain.specs.declared.domain.Domain.{Domain}
use Rattle.lb_domain.specs.Domains.{part_of, cut_span, is_first, firsts, ring_of, groups_of, is_kept, shape_above, domains_from, domains_in, domains_of, topology_of, domains_at, domain_at, no_domain}
use Rattle.lb_domain.specs.Topologies.{IsSmall}
use Rattle.lb_domain.proofs.Filters.{not_before}

pub few_domains : (span_at : LevelName → ℕ → Mask) (cpu : ℕ) (group : ℕ → Mask) (below : Option Shape)
    (levels : List LevelName) → length (domains_from span_at cpu group below levels) ≤ length levels
few_domains span_at cpu group below [] = omega arith
few_domains span_at cpu group below (level ∷ levels) =
    elim (cases_Bool (is_kept below (span_at level cpu))) [
      | inl kept ↦ rw kept (omega (
        arith,
        few_domains span_at cpu (span_at level)
            (Some (shape_above below level (span_at level cpu))) levels,
      ))
      | inr dropped ↦ rw dropped (omega (arith, few_domains span_at cpu (span_at level) below levels))
    ]

twice : (b : Bool) → not (not b) ≡ b
twice true = refl
twice false = refl

turned : (own k : ℕ) → ltb k own ≡ not (leb own k)
turned own k = sym (ap not (sym (not_before k own)) ∙ twice (ltb k own))

-- as many groups as CPUs that come first
length-ring_of : (group : ℕ → Mask) (ks : List ℕ) (cpu : ℕ) → length (ring_of group ks cpu) ≡ length ks
length-ring_of group ks cpu =
    let own = unwrap_or (least (group cpu)) 0 in
    length-map (filter (leb own) ks ++ filter (λ k. ltb k own) ks) group
    ∙ length-append (filter (leb own) ks) (filter (λ k. ltb k own) ks)
    ∙ length-filter_both (leb own) (λ k. ltb k own) (turned own) ks

few_firsts : (group : ℕ → Mask) (span : Mask) → length (firsts group span) ≤ 64
unfolding firsts
few_firsts group span =
    omega (
      arith,
      length-filter (λ k. is_first (least (group k)) k) (members span),
      count_by-le-length
          (λ k. is_first (least (group k)) k) (members span),
      length-members_le span,
    )

few_groups : (span_at : LevelName → ℕ → Mask) (cpu : ℕ) (group : ℕ → Mask) (below : Option Shape)
    (levels : List LevelName) (position : ℕ) → position < length (domains_from span_at cpu group below levels)
    → length (domain_at (domains_from span_at cpu group below levels) position).groups ≤ 64
few_groups span_at cpu group below [] position lt = absurd (omega (arith, lt))
few_groups span_at cpu group below (level ∷ levels) position lt =
    elim (cases_Bool (is_kept below (span_at level cpu))) [
      | inl kept ↦ rw kept (at_cons (few_groups span_at cpu (span_at level)
          (Some (shape_above below level (span_at level cpu))) levels) position (rw kept at lt))
      | inr dropped ↦ rw dropped (few_groups span_at cpu (span_at level) below levels position (rw dropped at lt))
    ]
  where
    at_cons : ((p : ℕ) → p < length (domains_from span_at cpu (span_at level)
        (Some (shape_above below level (span_at level cpu))) levels)
        → length (domain_at (domains_from span_at cpu (span_at level)
        (Some (shape_above below level (span_at level cpu))) levels) p).groups ≤ 64)
        → (p : ℕ) → p < suc (length (domains_from span_at cpu (span_at level)
        (Some (shape_above below level (span_at level cpu))) levels))
        → length (slice_index_or (record {
          shape = shape_above below level (span_at level cpu);
          groups = groups_of group (span_at level cpu) cpu;
        } ∷ domains_from span_at cpu (span_at level)
        (Some (shape_above below level (span_at level cpu))) levels) p no_domain).groups ≤ 64
    at_cons rest zero within = omega (
      arith,
      length-ring_of group
          (firsts group (span_at level cpu)) cpu,
      few_firsts group (span_at level cpu),
    )
    at_cons rest (suc p) within = rest p (omega (arith, within))

pub topology_at : (cpus : List CpuRow) (table : List (List ℕ)) (parts : List Mask) (cpu : ℕ) → cpu < length cpus
    → domains_at (topology_of cpus table parts) cpu ≡ domains_of cpus table parts cpu
unfolding topology_of
topology_at cpus table parts cpu lt =
    let none : List Domain = [] in
    get_or-map-range_with_len (domains_of cpus table parts) 0 (length cpus) cpu cpu none lt (omega arith)

pub length-topology_of : (cpus : List CpuRow) (table : List (List ℕ)) (parts : List Mask)
    → length (topology_of cpus table parts) ≡ length cpus
unfolding topology_of
length-topology_of cpus table parts = length-map (range_with_len 0 (length cpus)) (domains_of cpus table parts)
    ∙ length-range_with_len 0 (length cpus)

in_few : (cpus : List CpuRow) (table : List (List ℕ)) (part : Option Mask) (cpu : ℕ)
    → length (domains_in cpus table part cpu) ≤ length (levels_of table)
in_few cpus table None cpu = omega arith
in_few cpus table (Some part) cpu = few_domains (cut_span cpus table part) cpu only None (levels_of table)

in_groups : (cpus : List CpuRow) (table : List (List ℕ)) (part : Option Mask) (cpu position : ℕ)
    → position < length (domains_in cpus table part cpu)
    → length (domain_at (domains_in cpus table part cpu) position).groups ≤ 64
in_groups cpus table None cpu position lt = absurd (omega (arith, lt))
in_groups cpus table (Some part) cpu position lt = few_groups (cut_span cpus table part) cpu only None (levels_of table)
    position lt

pub domains_few : (cpus : List CpuRow) (table : List (List ℕ)) (parts : List Mask) (cpu : ℕ)
    → length (domains_of cpus table parts cpu) ≤ length (levels_of table)
unfolding domains_of
domains_few cpus table parts cpu = in_few cpus table (part_of parts cpu) cpu

pub groups_few : (cpus : List CpuRow) (table : List (List ℕ)) (parts : List Mask) (cpu position : ℕ)
    → position < length (domains_of cpus table parts cpu)
    → length (domain_at (domains_of cpus table parts cpu) position).groups ≤ 64
unfolding domains_of
groups_few cpus table parts cpu position lt = in_groups cpus table (part_of parts cpu) cpu position lt

pub small : (cpus : List CpuRow) (table : List (List ℕ)) (parts : List Mask) → length (levels_of table) ≤ MAX_LEVELS
    → IsSmall (topology_of cpus table parts)
small cpus table parts few cpu lt =
    let at = topology_at cpus table parts cpu (omega (arith, lt, length-topology_of cpus table parts)) in
    record {
      domains = omega (arith, ap length at, domains_few cpus table parts cpu, few);
      groups = λ position within. omega (
        arith,
        ap (λ (ds : List Domain). length (domain_at ds position).groups) at,
        groups_few cpus table parts cpu position (omega (arith, ap length at, within)),
      );
    }
