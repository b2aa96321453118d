-- What holds of the domains of a CPU, for every machine and all masks.
-- Cited by the laws `domains_are_few`, `domains_stand_in_order`, `spans_lie_inside` and others; also by `lb_core`,
-- `lb_lane` and other crates.
use Rattle.std.specs.Prelude.{◌≡◌, ℕ, ◌<◌, ◌≤◌, true, List, length}
use Rattle.lb_base.specs.declared.mask.Mask.{Mask}
use Rattle.lb_levels.specs.declared.cpu_row.CpuRow.{CpuRow}
use Rattle.lb_levels.specs.declared.limits.TheConstants.{MAX_LEVELS}
use Rattle.lb_levels.specs.Rows.{nodes_in_range}
use Rattle.lb_levels.specs.Faults.{CanBeRead}
use Rattle.lb_levels.specs.Spans.{levels_of}
use Rattle.lb_domain.specs.Domains.{part_of, domains_of, domain_at}
use Rattle.lb_domain.specs.Parted.{DomainsPart, DomainsGrow, IsInside}

-- there are no more of them than levels
abbrev pub AreOfLevels : Type 0
AreOfLevels =
    (cpus : List CpuRow) (table : List (List ℕ)) (parts : List Mask) (cpu : ℕ)
    → length (domains_of cpus table parts cpu) ≤ length (levels_of table)

-- there are no more of them than levels that there can be
abbrev pub AreFew : Type 0
AreFew =
    (cpus : List CpuRow) (table : List (List ℕ)) (parts : List Mask) (cpu : ℕ) → CanBeRead cpus table
    → nodes_in_range cpus ≡ true → length (domains_of cpus table parts cpu) ≤ MAX_LEVELS

-- the one at position p has position p
abbrev pub StandInOrder : Type 0
StandInOrder =
    (cpus : List CpuRow) (table : List (List ℕ)) (parts : List Mask) (cpu p : ℕ)
    → p < length (domains_of cpus table parts cpu) → (domain_at (domains_of cpus table parts cpu) p).shape.position ≡ p

-- their spans lie within the machine, and within the mask that has the CPU
abbrev pub LieInside : Type 0
LieInside =
    (cpus : List CpuRow) (table : List (List ℕ)) (parts : List Mask) (cpu p : ℕ)
    → p < length (domains_of cpus table parts cpu)
    → IsInside (length cpus) (part_of parts cpu) (domain_at (domains_of cpus table parts cpu) p).shape.span

-- the groups of each part its span
abbrev pub GroupsPart : Type 0
GroupsPart =
    (cpus : List CpuRow) (table : List (List ℕ)) (parts : List Mask) → CanBeRead cpus table
    → (cpu : ℕ) → cpu < length cpus → DomainsPart cpu (domains_of cpus table parts cpu)

-- from position to position the span grows
abbrev pub SpansGrow : Type 0
SpansGrow =
    (cpus : List CpuRow) (table : List (List ℕ)) (parts : List Mask) → CanBeRead cpus table
    → (cpu : ℕ) → cpu < length cpus → DomainsGrow (domains_of cpus table parts cpu)
