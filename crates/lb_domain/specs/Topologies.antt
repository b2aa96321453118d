-- What a topology shows: the domains of every CPU, and the masks that they are within. How large it
-- can be.
-- Cited by the contracts of `topology_of`, `Topology::build`, `Topology::of` and `Topology::domains`; also by
-- `lb_cpu`, `lb_engine` and other crates.
use Rattle.std.specs.Prelude.{ℕ, ◌<◌, ◌≤◌, List, length}
use Rattle.lb_base.specs.declared.mask.Mask.{Mask}
use Rattle.lb_base.specs.declared.mask.TheConstants.{MAX_CPUS}
use Rattle.lb_levels.specs.declared.cpu_row.CpuRow.{CpuRow}
use Rattle.lb_levels.specs.declared.limits.TheConstants.{MAX_LEVELS}
use Rattle.lb_domain.specs.declared.domain.Domain.{Domain}
use Rattle.lb_domain.specs.Domains.{domains_at, domain_at, topology_of}

pub record DomainsWithin : Type 0 where
  pub masks : List Mask
  pub all : List (List Domain)

-- the domains of every CPU within these masks
abbrev pub domains_within : List CpuRow → List (List ℕ) → List Mask → DomainsWithin
domains_within cpus table parts = record { masks = parts; all = topology_of cpus table parts }

-- a CPU has so few domains, each with so few groups
pub record AreFew (ds : List Domain) : Type 0 where
  pub domains : length ds ≤ MAX_LEVELS
  pub groups : (position : ℕ) → position < length ds → length (domain_at ds position).groups ≤ MAX_CPUS

-- so has each CPU
abbrev pub IsSmall : List (List Domain) → Type 0
IsSmall all = (cpu : ℕ) → cpu < length all → AreFew (domains_at all cpu)
