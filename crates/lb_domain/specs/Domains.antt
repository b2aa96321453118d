-- The scheduling domains of a CPU from scratch, from the spans of the machine alone: the spans cut
-- to the CPU's partition mask, the levels that are kept of them, and the groups of each kept one in
-- ring order.
-- Cited by the contracts of `topology_of`, `ring`, `Topology::domains` and others; also by `lb_core`,
-- `lb_journal_rows` and other crates.
use Rattle.std.specs.Prelude.{ℕ, ◌+◌, ◌==◌, nat_lt, nat_le, Bool, false, not, ◌&&◌, if◌then◌else◌, Option, Some, None, unwrap_or, List, [], ◌∷◌, ◌++◌, length, map, filter, find}
use Rattle.std.specs.List.{range_with_len, slice_index_or, cons_option}
use Rattle.lb_base.specs.declared.mask.Mask.{Mask}
use Rattle.lb_base.specs.declared.shape.Shape.{Shape}
use Rattle.lb_base.specs.declared.shape.LevelName.{LevelName}
use Rattle.lb_base.specs.declared.shape.LevelName.TheVariants.{Smt}
use Rattle.lb_base.specs.Mask.{has, members, no_cpus, only, both}
use Rattle.lb_base.specs.Sets.{least}
use Rattle.lb_levels.specs.declared.cpu_row.CpuRow.{CpuRow}
use Rattle.lb_levels.specs.Spans.{levels_of, span_of}
use Rattle.lb_domain.specs.declared.domain.Domain.{Domain}

-- the partition mask that has the CPU
abbrev pub part_of : List Mask → ℕ → Option Mask
part_of parts cpu = find (λ part. has part cpu) parts

-- the span of a CPU at a level, cut to its partition mask
unfoldable pub cut_span : List CpuRow → List (List ℕ) → Mask → LevelName → ℕ → Mask
cut_span cpus table part level cpu = both (span_of cpus table level cpu) part

-- the CPU is the first of the mask
abbrev pub is_first : Option ℕ → ℕ → Bool
is_first None cpu = false
is_first (Some first) cpu = first == cpu

-- the CPUs of a span that come first in their groups; `group` gives the group of each CPU
unfoldable pub firsts : (ℕ → Mask) → Mask → List ℕ
firsts group span = filter (λ k. is_first (least (group k)) k) (members span)

-- the groups of these first CPUs in ring order: from that of the CPU's own group on
abbrev pub ring_of : (ℕ → Mask) → List ℕ → ℕ → List Mask
ring_of group firsts cpu =
    let own = unwrap_or (least (group cpu)) 0 in
    map group (filter (nat_le own) firsts ++ filter (λ k. nat_lt k own) firsts)

-- the groups of a CPU's domain with this span
abbrev pub groups_of : (ℕ → Mask) → Mask → ℕ → List Mask
groups_of group span cpu = ring_of group (firsts group span) cpu

-- the span is that of the kept domain below
abbrev pub is_span_of : Option Shape → Mask → Bool
is_span_of None span = false
is_span_of (Some below) span = below.span.bits == span.bits

-- a domain is kept if it has more than one CPU, and not just those of the kept domain below
unfoldable pub is_kept : Option Shape → Mask → Bool
is_kept below span = nat_lt 1 (length (members span)) && not (is_span_of below span)

-- the name of the kept domain below
abbrev pub name_below : Option Shape → Option LevelName
name_below None = None
name_below (Some below) = Some below.name

-- the position above the kept domain below
abbrev pub position_above : Option Shape → ℕ
position_above None = 0
position_above (Some below) = below.position + 1

abbrev pub shape_above : Option Shape → LevelName → Mask → Shape
shape_above below level span =
    record { name = level; below = name_below below; position = position_above below; span = span }

-- the domain of a level, if it is kept: `group` gives the span of each CPU at the level below, and
-- `below` is the kept domain below
abbrev pub kept_domain : (ℕ → Mask) → ℕ → Option Shape → LevelName → Mask → Option Domain
kept_domain group cpu below level span =
    if is_kept below span
    then Some (record { shape = shape_above below level span; groups = groups_of group span cpu })
    else None

-- the kept domain below the next level
abbrev pub below_next : Option Domain → Option Shape → Option Shape
below_next None below = below
below_next (Some domain) below = Some domain.shape

-- the domains of a CPU from a level up; `span_at` gives the span of each CPU at a level
abbrev pub domains_from : (LevelName → ℕ → Mask) → ℕ → (ℕ → Mask) → Option Shape → List LevelName → List Domain
domains_from span_at cpu group below [] = []
domains_from span_at cpu group below (level ∷ levels) =
    let domain = kept_domain group cpu below level (span_at level cpu) in
    cons_option domain (domains_from span_at cpu (span_at level) (below_next domain below) levels)

-- the domains of a CPU in this partition mask; at the lowest level the groups are single CPUs
abbrev pub domains_in : List CpuRow → List (List ℕ) → Option Mask → ℕ → List Domain
domains_in cpus table None cpu = []
domains_in cpus table (Some part) cpu = domains_from (cut_span cpus table part) cpu only None (levels_of table)

-- the domains of a CPU, from the bottom
unfoldable pub domains_of : List CpuRow → List (List ℕ) → List Mask → ℕ → List Domain
domains_of cpus table parts cpu = domains_in cpus table (part_of parts cpu) cpu

-- the domains of every CPU
unfoldable pub topology_of : List CpuRow → List (List ℕ) → List Mask → List (List Domain)
topology_of cpus table parts = map (domains_of cpus table parts) (range_with_len 0 (length cpus))

-- the domains of a CPU in such a list
abbrev pub domains_at : List (List Domain) → ℕ → List Domain
domains_at all cpu = slice_index_or all cpu []

-- stands where there is no domain
abbrev pub no_domain : Domain
no_domain = record { shape = record { name = Smt; below = None; position = 0; span = no_cpus }; groups = [] }

-- the domain at a position
abbrev pub domain_at : List Domain → ℕ → Domain
domain_at domains position = slice_index_or domains position no_domain

-- the group with a number, from the CPU's own on
abbrev pub group_at : Domain → ℕ → Mask
group_at domain i = slice_index_or domain.groups i no_cpus
