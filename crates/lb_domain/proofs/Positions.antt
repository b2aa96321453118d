-- The domain at a position of a CPU: its position, and where its span lies.
-- For the laws `spans_lie_inside` and `domains_stand_in_order`.
use Rattle.std.proofs.Common.{◌≡◌, ℕ, zero, suc, ◌+◌, ◌<◌, List, [], ◌∷◌, length, Option, Some, None, refl, arith, inl, inr}
use Rattle.std.proofs.lemmas.Bool.{cases_Bool}
use Rattle.lb_base.specs.declared.mask.Mask.{Mask}
use Rattle.lb_base.specs.declared.shape.Shape.{Shape}
use Rattle.lb_base.specs.declared.shape.LevelName.{LevelName}
use Rattle.lb_base.specs.Mask.{only}
use Rattle.lb_levels.specs.declared.cpu_row.CpuRow.{CpuRow}
use Rattle.lb_levels.specs.Spans.{levels_of}
use Rattle.lb_domain.specs.declared.domain.Domain.{Domain}
use Rattle.lb_domain.specs.Domains.{part_of, cut_span, is_kept, position_above, shape_above, groups_of, domains_from, domains_in, domains_of, domain_at}
use Rattle.lb_domain.specs.Parted.{IsInside}
use Rattle.lb_domain.proofs.Rings.{in_span}

-- what holds of the domain of each level, if it is kept, holds at each position of the kept ones
at_each : (P : ℕ → Domain → Type 0) (span_at : LevelName → ℕ → Mask) (cpu : ℕ)
    → ((below : Option Shape) (group : ℕ → Mask) (level : LevelName)
    → P (position_above below) (record {
      shape = shape_above below level (span_at level cpu);
      groups = groups_of group (span_at level cpu) cpu;
    }))
    → (levels : List LevelName) (group : ℕ → Mask) (below : Option Shape) (n p : ℕ) → n ≡ position_above below + p
    → p < length (domains_from span_at cpu group below levels) → P n (domain_at (domains_from span_at cpu group below levels) p)
at_each P span_at cpu each [] group below n p is within = absurd (omega (arith, within))
at_each P span_at cpu each (level ∷ levels) group below n p is within =
    elim (cases_Bool (is_kept below (span_at level cpu))) [
      | inl kept ↦ rw kept (here (at_each P span_at cpu each levels (span_at level)
          (Some (shape_above below level (span_at level cpu))) n) p is (rw kept at within))
      | inr dropped ↦ rw dropped (at_each P span_at cpu each levels (span_at level) below n p is (rw dropped at within))
    ]
  where
    rest : List Domain
    rest = domains_from span_at cpu (span_at level) (Some (shape_above below level (span_at level cpu))) levels

    here : ((q : ℕ) → n ≡ position_above below + 1 + q → q < length rest → P n (domain_at rest q))
        → (q : ℕ) → n ≡ position_above below + q → q < suc (length rest)
        → P n (domain_at (record {
          shape = shape_above below level (span_at level cpu);
          groups = groups_of group (span_at level cpu) cpu;
        } ∷ rest) q)
    here later zero is within = let e : n ≡ position_above below = omega (arith, is) in rw e (each below group level)
    here later (suc q) is within = later q (omega (arith, is)) (omega (arith, within))

pub at_position : (cpus : List CpuRow) (table : List (List ℕ)) (parts : List Mask) (cpu p : ℕ)
    → p < length (domains_of cpus table parts cpu) → (domain_at (domains_of cpus table parts cpu) p).shape.position ≡ p
unfolding domains_of
at_position cpus table parts cpu p within = by_part (part_of parts cpu) within
  where
    by_part : (o : Option Mask) → p < length (domains_in cpus table o cpu)
        → (domain_at (domains_in cpus table o cpu) p).shape.position ≡ p
    by_part None within = absurd (omega (arith, within))
    by_part (Some part) within =
        at_each (λ n d. d.shape.position ≡ n) (cut_span cpus table part) cpu (λ below group level. refl)
        (levels_of table) only None p p (omega arith) within

pub inside : (cpus : List CpuRow) (table : List (List ℕ)) (parts : List Mask) (cpu p : ℕ)
    → p < length (domains_of cpus table parts cpu)
    → IsInside (length cpus) (part_of parts cpu) (domain_at (domains_of cpus table parts cpu) p).shape.span
unfolding domains_of
inside cpus table parts cpu p within = by_part (part_of parts cpu) within
  where
    by_part : (o : Option Mask) → p < length (domains_in cpus table o cpu)
        → IsInside (length cpus) o (domain_at (domains_in cpus table o cpu) p).shape.span
    by_part None within = absurd (omega (arith, within))
    by_part (Some part) within =
        at_each (λ n d. IsInside (length cpus) (Some part) d.shape.span) (cut_span cpus table part) cpu
        (λ below group level. record {
          in_machine = λ k there. (in_span cpus table part level cpu k there).in_range;
          in_part = λ k there. (in_span cpus table part level cpu k there).in_part;
        })
        (levels_of table) only None p p (omega arith) within
