-- What holds of every domain of a CPU, from what holds level by level: its groups part its span,
-- and from domain to domain the span grows.
-- For the laws `groups_part_the_span` and `spans_grow`.
use Rattle.std.proofs.Common.{◌≡◌, ℕ, zero, suc, ◌<◌, eqb, Bool, true, false, List, [], ◌∷◌, length, Option, Some, None, refl, sym, ◌∙◌, ap, subst, arith, inl, inr}
use Rattle.std.specs.List.{slice_index_or}
use Rattle.std.proofs.lemmas.Bool.{cases_Bool, both_ways, and_parts, not-true, eq-eqb}
use Rattle.std.proofs.lemmas.List.Folds.{list_any_at}
use Rattle.lb_base.specs.declared.mask.Mask.{Mask}
use Rattle.lb_base.specs.declared.shape.Shape.{Shape}
use Rattle.lb_base.specs.declared.shape.LevelName.{LevelName}
use Rattle.lb_base.specs.declared.shape.LevelName.TheVariants.{Smt}
use Rattle.lb_base.specs.Mask.{has, only, no_cpus, IsSubset}
use Rattle.lb_base.proofs.Members.{same_mask}
use Rattle.lb_levels.specs.declared.cpu_row.CpuRow.{CpuRow}
use Rattle.lb_levels.specs.Spans.{levels_of, level_at}
use Rattle.lb_domain.specs.declared.domain.Domain.{Domain}
use Rattle.lb_domain.specs.Domains.{part_of, cut_span, is_kept, shape_above, groups_of, domains_from, domains_in, domains_of, domain_at}
use Rattle.lb_domain.specs.Parted.{IsParted, IsWithin}
use Rattle.lb_domain.specs.Steps.{step_span}
use Rattle.lb_domain.proofs.Groupings.{IsGrouping, ArePart, groups_part}
use Rattle.lb_domain.proofs.CutSpans.{IsSound, cut_own, cut_grow, steps_group}
use Rattle.lb_domain.proofs.Parts.{part_has}

-- ---- groups

-- the spans below a level: the first step's, or those of the level before
below_level : (LevelName → ℕ → Mask) → (ℕ → Mask) → List LevelName → ℕ → ℕ → Mask
below_level span_at group levels zero = group
below_level span_at group levels (suc i) = span_at (slice_index_or levels i Smt)

-- at each level the span of the CPU has it, and falls into the spans below
record FallsApart (span_at : LevelName → ℕ → Mask) (cpu : ℕ) (group : ℕ → Mask) (levels : List LevelName) (i : ℕ) : Type 0 where
  there : has (span_at (slice_index_or levels i Smt) cpu) cpu ≡ true
  falls : IsGrouping (below_level span_at group levels i) (span_at (slice_index_or levels i Smt) cpu)

falls_on : (span_at : LevelName → ℕ → Mask) (cpu : ℕ) (group : ℕ → Mask) (level : LevelName) (levels : List LevelName)
    (i : ℕ) → FallsApart span_at cpu group (level ∷ levels) (suc i) → FallsApart span_at cpu (span_at level) levels i
unfolding below_level
falls_on span_at cpu group level levels zero at = record { there = at.there; falls = at.falls }
falls_on span_at cpu group level levels (suc i) at = record { there = at.there; falls = at.falls }

from_part : (group : ℕ → Mask) (cpu : ℕ) (shape : Shape)
    → ArePart group shape.span cpu (groups_of group shape.span cpu)
    → IsParted cpu (record { shape = shape; groups = groups_of group shape.span cpu })
from_part group cpu shape part = record {
  own = part.own;
  apart = part.apart;
  whole = part.whole;
  inside = λ i within k there. part.whole k ∙ list_any_at (λ m. has m k) (groups_of group shape.span cpu) i no_cpus within there;
}

all_parted : (span_at : LevelName → ℕ → Mask) (cpu : ℕ) (group : ℕ → Mask) (below : Option Shape)
    (levels : List LevelName) → ((i : ℕ) → i < length levels → FallsApart span_at cpu group levels i) → (position : ℕ)
    → position < length (domains_from span_at cpu group below levels)
    → IsParted cpu (domain_at (domains_from span_at cpu group below levels) position)
unfolding below_level
all_parted span_at cpu group below [] falls position within = absurd (omega (arith, within))
all_parted span_at cpu group below (level ∷ levels) falls position within =
    let next : (i : ℕ) → i < length levels → FallsApart span_at cpu (span_at level) levels i =
    λ i lt. falls_on span_at cpu group level levels i (falls (suc i) (omega (arith, lt))) in
    elim (cases_Bool (is_kept below (span_at level cpu))) [
      | inl kept ↦ rw kept (here (all_parted span_at cpu (span_at level)
          (Some (shape_above below level (span_at level cpu))) levels next) position (rw kept at within))
      | inr dropped ↦ rw dropped (all_parted span_at cpu (span_at level) below levels next position (rw dropped at within))
    ]
  where
    here : ((p : ℕ) → p < length (domains_from span_at cpu (span_at level)
        (Some (shape_above below level (span_at level cpu))) levels)
        → IsParted cpu (domain_at (domains_from span_at cpu (span_at level)
        (Some (shape_above below level (span_at level cpu))) levels) p))
        → (p : ℕ) → p < suc (length (domains_from span_at cpu (span_at level)
        (Some (shape_above below level (span_at level cpu))) levels))
        → IsParted cpu (domain_at (record {
          shape = shape_above below level (span_at level cpu);
          groups = groups_of group (span_at level cpu) cpu;
        } ∷ domains_from span_at cpu (span_at level)
        (Some (shape_above below level (span_at level cpu))) levels) p)
    here rest zero within = let at = falls zero (omega arith) in
        from_part group cpu (shape_above below level (span_at level cpu))
        (groups_part group (span_at level cpu) cpu at.falls at.there)
    here rest (suc p) within = rest p (omega (arith, within))

-- ---- spans

within_through : (a b c : Mask) → IsSubset a b → IsWithin b c → IsWithin a c
within_through a b c ab bc = record {
  all = λ k there. bc.all k (ab k there);
  others = λ same. bc.others (same_mask b c
      (λ k. same_answers (has b k) (has c k) (bc.all k) (λ in_c. ab k (ap (λ (m : Mask). has m k) same ∙ in_c))));
}
  where
    same_answers : (x y : Bool) → (x ≡ true → y ≡ true) → (y ≡ true → x ≡ true) → x ≡ y
    same_answers true y there back = sym (there refl)
    same_answers false true there back = back refl
    same_answers false false there back = refl

-- from level to level the span of the CPU grows
abbrev Grow : (LevelName → ℕ → Mask) → ℕ → List LevelName → Type 0
Grow span_at cpu levels = (i j : ℕ) → i < j → j < length levels
    → IsSubset (span_at (slice_index_or levels i Smt) cpu) (span_at (slice_index_or levels j Smt) cpu)

-- a kept domain has CPUs that the kept one below lacks
kept_others : (below : Shape) (span : Mask) → is_kept (Some below) span ≡ true → below.span ≡ span → ⊥
unfolding is_kept
kept_others below span kept same =
    both_ways (eqb below.span.bits span.bits) (not-true _ (and_parts _ _ kept).1)
    (eq-eqb below.span.bits span.bits (ap (λ (m : Mask). m.bits) same))

-- a span that lies in that of each level lies within that of each kept domain above it
above_below : (span_at : LevelName → ℕ → Mask) (cpu : ℕ) (group : ℕ → Mask) (below : Shape) (levels : List LevelName)
    → Grow span_at cpu levels → ((i : ℕ) → i < length levels
    → IsSubset below.span (span_at (slice_index_or levels i Smt) cpu)) → (position : ℕ)
    → position < length (domains_from span_at cpu group (Some below) levels)
    → IsWithin below.span (domain_at (domains_from span_at cpu group (Some below) levels) position).shape.span
above_below span_at cpu group below [] grow inside position within = absurd (omega (arith, within))
above_below span_at cpu group below (level ∷ levels) grow inside position within =
    let span = span_at level cpu in
    let later : Grow span_at cpu levels = λ i j lt in_j. grow (suc i) (suc j) (omega (arith, lt)) (omega (arith, in_j)) in
    elim (cases_Bool (is_kept (Some below) span)) [
      | inl kept ↦
          rw kept (here kept (above_below span_at cpu (span_at level)
          (shape_above (Some below) level span) levels later
          (λ i lt. grow zero (suc i) (omega arith) (omega (arith, lt)))) position (rw kept at within))
      | inr dropped ↦
          rw dropped (above_below span_at cpu (span_at level) below levels later
          (λ i lt. inside (suc i) (omega (arith, lt))) position (rw dropped at within))
    ]
  where
    here : is_kept (Some below) (span_at level cpu) ≡ true
        → ((p : ℕ) → p < length (domains_from span_at cpu (span_at level)
        (Some (shape_above (Some below) level (span_at level cpu))) levels)
        → IsWithin (span_at level cpu) (domain_at
        (domains_from span_at cpu (span_at level) (Some (shape_above (Some below) level (span_at level cpu))) levels)
        p).shape.span)
        → (p : ℕ) → p < suc (length (domains_from span_at cpu (span_at level)
        (Some (shape_above (Some below) level (span_at level cpu))) levels))
        → IsWithin below.span (domain_at
        (record {
          shape = shape_above (Some below) level (span_at level cpu);
          groups = groups_of group (span_at level cpu) cpu;
        } ∷ domains_from span_at cpu (span_at level)
        (Some (shape_above (Some below) level (span_at level cpu))) levels) p).shape.span
    here kept rest zero within = record { all = inside zero (omega arith); others = kept_others below (span_at level cpu) kept }
    here kept rest (suc p) within = within_through below.span (span_at level cpu) _ (inside zero (omega arith))
        (rest p (omega (arith, within)))

all_grow : (span_at : LevelName → ℕ → Mask) (cpu : ℕ) (group : ℕ → Mask) (below : Option Shape)
    (levels : List LevelName) → Grow span_at cpu levels → (lower upper : ℕ) → lower < upper
    → upper < length (domains_from span_at cpu group below levels)
    → IsWithin (domain_at (domains_from span_at cpu group below levels) lower).shape.span
    (domain_at (domains_from span_at cpu group below levels) upper).shape.span
all_grow span_at cpu group below [] grow lower upper lt within = absurd (omega (arith, within))
all_grow span_at cpu group below (level ∷ levels) grow lower upper lt within =
    let span = span_at level cpu in
    let later : Grow span_at cpu levels = λ i j lt in_j. grow (suc i) (suc j) (omega (arith, lt)) (omega (arith, in_j)) in
    elim (cases_Bool (is_kept below span)) [
      | inl kept ↦
          rw kept (here
          (domains_from span_at cpu (span_at level) (Some (shape_above below level span)) levels)
          (above_below span_at cpu (span_at level) (shape_above below level span) levels later
          (λ i lt. grow zero (suc i) (omega arith) (omega (arith, lt))))
          (all_grow span_at cpu (span_at level) (Some (shape_above below level span)) levels later)
          lower upper lt (rw kept at within))
      | inr dropped ↦ rw dropped (all_grow span_at cpu (span_at level) below levels later lower upper lt (rw dropped at within))
    ]
  where
    here : (rest : List Domain) → ((p : ℕ) → p < length rest → IsWithin (span_at level cpu) (domain_at rest p).shape.span)
        → ((p q : ℕ) → p < q → q < length rest → IsWithin (domain_at rest p).shape.span (domain_at rest q).shape.span)
        → (p q : ℕ) → p < q → q < suc (length rest)
        → IsWithin (domain_at (record {
          shape = shape_above below level (span_at level cpu);
          groups = groups_of group (span_at level cpu) cpu;
        } ∷ rest) p).shape.span
        (domain_at (record {
          shape = shape_above below level (span_at level cpu);
          groups = groups_of group (span_at level cpu) cpu;
        } ∷ rest) q).shape.span
    here rest above inner p zero lt within = absurd (omega (arith, lt))
    here rest above inner zero (suc q) lt within = above q (omega (arith, within))
    here rest above inner (suc p) (suc q) lt within = inner p q (omega (arith, lt)) (omega (arith, within))

-- ---- the domains of a CPU

step_before : (cpus : List CpuRow) (table : List (List ℕ)) (part : Mask) (i : ℕ)
    → below_level (cut_span cpus table part) only (levels_of table) i ≡ step_span cpus table part i
unfolding below_level
step_before cpus table part zero = refl
step_before cpus table part (suc i) = refl

falls_apart : (cpus : List CpuRow) (table : List (List ℕ)) (part : Mask) → IsSound cpus table → (cpu : ℕ)
    → cpu < length cpus → has part cpu ≡ true → (i : ℕ) → i < length (levels_of table)
    → FallsApart (cut_span cpus table part) cpu only (levels_of table) i
falls_apart cpus table part s cpu in_cpus in_part i in_levels = record {
  there = cut_own cpus table part s i cpu in_levels in_cpus in_part;
  falls = subst (λ (g : ℕ → Mask). IsGrouping g (cut_span cpus table part (level_at table i) cpu))
      (sym (step_before cpus table part i)) (steps_group cpus table part s i cpu in_levels in_cpus);
}

parted_in : (cpus : List CpuRow) (table : List (List ℕ)) (part : Option Mask) → IsSound cpus table → (cpu : ℕ)
    → cpu < length cpus → ((own : Mask) → part ≡ Some own → has own cpu ≡ true) → (position : ℕ)
    → position < length (domains_in cpus table part cpu) → IsParted cpu (domain_at (domains_in cpus table part cpu) position)
parted_in cpus table None s cpu in_cpus in_part position within = absurd (omega (arith, within))
parted_in cpus table (Some part) s cpu in_cpus in_part position within =
    all_parted (cut_span cpus table part) cpu only None (levels_of table)
    (falls_apart cpus table part s cpu in_cpus (in_part part refl)) position within

grow_in : (cpus : List CpuRow) (table : List (List ℕ)) (part : Option Mask) → IsSound cpus table → (cpu : ℕ)
    → cpu < length cpus → (lower upper : ℕ) → lower < upper → upper < length (domains_in cpus table part cpu)
    → IsWithin (domain_at (domains_in cpus table part cpu) lower).shape.span
    (domain_at (domains_in cpus table part cpu) upper).shape.span
grow_in cpus table None s cpu in_cpus lower upper lt within = absurd (omega (arith, within))
grow_in cpus table (Some part) s cpu in_cpus lower upper lt within =
    all_grow (cut_span cpus table part) cpu only None (levels_of table)
    (λ i j lt in_levels. cut_grow cpus table part s i j cpu lt in_levels in_cpus) lower upper lt within

pub domains_parted : (cpus : List CpuRow) (table : List (List ℕ)) (parts : List Mask) → IsSound cpus table
    → (cpu position : ℕ) → cpu < length cpus → position < length (domains_of cpus table parts cpu)
    → IsParted cpu (domain_at (domains_of cpus table parts cpu) position)
unfolding domains_of
domains_parted cpus table parts s cpu position in_cpus within =
    parted_in cpus table (part_of parts cpu) s cpu in_cpus (λ own is. part_has parts cpu own is) position within

pub domains_grow : (cpus : List CpuRow) (table : List (List ℕ)) (parts : List Mask) → IsSound cpus table
    → (cpu lower upper : ℕ) → cpu < length cpus → lower < upper → upper < length (domains_of cpus table parts cpu)
    → IsWithin (domain_at (domains_of cpus table parts cpu) lower).shape.span
    (domain_at (domains_of cpus table parts cpu) upper).shape.span
unfolding domains_of
domains_grow cpus table parts s cpu lower upper in_cpus lt within =
    grow_in cpus table (part_of parts cpu) s cpu in_cpus lower upper lt within
