-- What the domains of a CPU keep to: the groups of each part its span, which lies within the machine
-- and the CPU's mask, and within the span of the next domain, which has more CPUs.
-- For the definitions of `Laws`, and so for the laws `domains_are_few`, `domains_stand_in_order` and others; cited by
-- `lb_lane` and `lb_ready`.
use Rattle.std.specs.Prelude.{◌≡◌, ℕ, ◌<◌, true, Option, IsSomeAnd, List, length}
use Rattle.std.specs.List.{list_any}
use Rattle.lb_base.specs.declared.mask.Mask.{Mask}
use Rattle.lb_base.specs.Mask.{has, IsSubset}
use Rattle.lb_base.specs.Sets.{are_disjoint}
use Rattle.lb_domain.specs.declared.domain.Domain.{Domain}
use Rattle.lb_domain.specs.Domains.{group_at, domain_at}

-- the first group has the CPU, the groups have no CPU in common, and together they are the span
pub record IsParted (cpu : ℕ) (domain : Domain) : Type 0 where
  pub own : has (group_at domain 0) cpu ≡ true
  pub apart : are_disjoint domain.groups ≡ true
  pub whole : (k : ℕ) → has domain.shape.span k ≡ list_any (λ group. has group k) domain.groups
  pub inside : (i : ℕ) → i < length domain.groups → IsSubset (group_at domain i) domain.shape.span

-- so for each domain of a CPU
abbrev pub DomainsPart : ℕ → List Domain → Type 0
DomainsPart cpu domains = (p : ℕ) → p < length domains → IsParted cpu (domain_at domains p)

-- the CPUs of a span are of the machine, and of the mask that has the CPU
pub record IsInside (cpus : ℕ) (part : Option Mask) (span : Mask) : Type 0 where
  pub in_machine : (k : ℕ) → has span k ≡ true → k < cpus
  pub in_part : IsSomeAnd part (IsSubset span)

-- every CPU of a is in b, and b has others
pub record IsWithin (a b : Mask) : Type 0 where
  pub all : IsSubset a b
  pub others : a ≡ b → ⊥

-- the span of each domain lies within that of each domain above it
abbrev pub DomainsGrow : List Domain → Type 0
DomainsGrow domains =
    (lower upper : ℕ) → lower < upper → upper < length domains
    → IsWithin (domain_at domains lower).shape.span (domain_at domains upper).shape.span
