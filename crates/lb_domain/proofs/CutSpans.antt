-- The spans of a machine cut to a partition mask: at each level they fall into those of the level
-- below, and from level to level they grow.
-- For the lemmas of `Growing`, and so for the laws `groups_part_the_span` and `spans_grow`.
use Rattle.std.proofs.Common.{◌≡◌, ℕ, zero, suc, ◌<◌, ◌≤◌, eqb, true, List, length, refl, sym, ◌∙◌, ap, arith}
use Rattle.std.proofs.lemmas.Bool.{and_parts, and_from, eqb-true, eq-eqb}
use Rattle.std.proofs.lemmas.Nat.{one_shl}
use Rattle.lb_base.specs.declared.mask.Mask.{Mask}
use Rattle.lb_base.specs.declared.mask.TheConstants.{MAX_CPUS}
use Rattle.lb_base.specs.Mask.{has, only, both, IsSubset}
use Rattle.lb_base.proofs.Bits.{bit_set, bit_set_one}
use Rattle.lb_levels.specs.declared.cpu_row.CpuRow.{CpuRow}
use Rattle.lb_levels.specs.Spans.{levels_of, level_at, span_of, SpansPartAndGrow}
use Rattle.lb_domain.specs.Domains.{cut_span}
use Rattle.lb_domain.specs.Steps.{step_span}
use Rattle.lb_domain.proofs.Rings.{has_both, in_span}
use Rattle.lb_domain.proofs.Groupings.{IsGrouping}

-- a machine has no more CPUs than there can be, and its spans part and grow
pub record IsSound (cpus : List CpuRow) (table : List (List ℕ)) : Type 0 where
  pub few : length cpus ≤ MAX_CPUS
  pub spans : SpansPartAndGrow cpus table

has_only : (cpu k : ℕ) → cpu < 64 → has (only cpu) k ≡ eqb k cpu
unfolding has only
has_only cpu k small = ap (λ (n : ℕ). bit_set n k) (sym (one_shl cpu 64 small)) ∙ bit_set_one cpu small k

only_itself : (cpu k : ℕ) → cpu < 64 → has (only cpu) k ≡ true → k ≡ cpu
only_itself cpu k small there = eqb-true k cpu (sym (has_only cpu k small) ∙ there)

-- what has a CPU in a cut span
in_cut : (cpus : List CpuRow) (table : List (List ℕ)) (part : Mask) (level cpu k : ℕ)
    → has (cut_span cpus table part (level_at table level) cpu) k ≡ true
    → (has (span_of cpus table (level_at table level) cpu) k ≡ true) × (has part k ≡ true)
unfolding cut_span
in_cut cpus table part level cpu k there = and_parts _ _
    (sym (has_both (span_of cpus table (level_at table level) cpu) part k) ∙ there)

cut_from : (cpus : List CpuRow) (table : List (List ℕ)) (part : Mask) (level cpu k : ℕ)
    → has (span_of cpus table (level_at table level) cpu) k ≡ true → has part k ≡ true
    → has (cut_span cpus table part (level_at table level) cpu) k ≡ true
unfolding cut_span
cut_from cpus table part level cpu k in_whole in_part =
    has_both (span_of cpus table (level_at table level) cpu) part k ∙ and_from _ _ in_whole in_part

cut_same : (cpus : List CpuRow) (table : List (List ℕ)) (part : Mask) → IsSound cpus table → (level cpu k : ℕ)
    → level < length (levels_of table) → cpu < length cpus
    → has (cut_span cpus table part (level_at table level) cpu) k ≡ true
    → cut_span cpus table part (level_at table level) k ≡ cut_span cpus table part (level_at table level) cpu
unfolding cut_span
cut_same cpus table part s level cpu k in_levels in_cpus there =
    ap (λ (m : Mask). both m part) (s.spans.same level cpu k in_levels in_cpus (in_cut cpus table part level cpu k there).0)

pub cut_own : (cpus : List CpuRow) (table : List (List ℕ)) (part : Mask) → IsSound cpus table → (level cpu : ℕ)
    → level < length (levels_of table) → cpu < length cpus → has part cpu ≡ true
    → has (cut_span cpus table part (level_at table level) cpu) cpu ≡ true
cut_own cpus table part s level cpu in_levels in_cpus in_part =
    cut_from cpus table part level cpu cpu (s.spans.own level cpu in_levels in_cpus) in_part

pub cut_grow : (cpus : List CpuRow) (table : List (List ℕ)) (part : Mask) → IsSound cpus table → (lower upper cpu : ℕ)
    → lower < upper → upper < length (levels_of table) → cpu < length cpus
    → IsSubset (cut_span cpus table part (level_at table lower) cpu) (cut_span cpus table part (level_at table upper) cpu)
cut_grow cpus table part s lower upper cpu lt in_levels in_cpus k there =
    let at = in_cut cpus table part lower cpu k there in
    cut_from cpus table part upper cpu k (s.spans.grow lower upper cpu lt in_levels in_cpus k at.0) at.1

-- the CPU k is of a cut span, and of the machine
in_machine : (cpus : List CpuRow) (table : List (List ℕ)) (part : Mask) (level cpu k : ℕ)
    → has (cut_span cpus table part (level_at table level) cpu) k ≡ true → k < length cpus
in_machine cpus table part level cpu k there = (in_span cpus table part (level_at table level) cpu k there).in_range

-- at each level the span of a CPU falls into spans of the step below
pub steps_group : (cpus : List CpuRow) (table : List (List ℕ)) (part : Mask) → IsSound cpus table → (level cpu : ℕ)
    → level < length (levels_of table) → cpu < length cpus
    → IsGrouping (step_span cpus table part level) (cut_span cpus table part (level_at table level) cpu)
steps_group cpus table part s zero cpu in_levels in_cpus = record {
  small = λ k there. omega (arith, in_machine cpus table part zero cpu k there, s.few);
  own = λ k there. let small : k < 64 = omega (arith, in_machine cpus table part zero cpu k there, s.few) in
      has_only k k small ∙ eq-eqb k k refl;
  same = λ k j there of_k. let small : k < 64 = omega (arith, in_machine cpus table part zero cpu k there, s.few) in
      ap only (only_itself k j small of_k);
  inside = λ k j there of_k.
      let small : k < 64 = omega (arith, in_machine cpus table part zero cpu k there, s.few) in
      ap (has (cut_span cpus table part (level_at table zero) cpu)) (only_itself k j small of_k) ∙ there;
}
steps_group cpus table part s (suc l) cpu in_levels in_cpus =
    let below : l < length (levels_of table) = omega (arith, in_levels) in
    record {
      small = λ k there. omega (arith, in_machine cpus table part (suc l) cpu k there, s.few);
      own = λ k there. cut_own cpus table part s l k below (in_machine cpus table part (suc l) cpu k there)
          (in_cut cpus table part (suc l) cpu k there).1;
      same = λ k j there of_k. cut_same cpus table part s l k j below (in_machine cpus table part (suc l) cpu k there) of_k;
      inside = λ k j there of_k.
          let in_k = in_machine cpus table part (suc l) cpu k there in
          let up = cut_grow cpus table part s l (suc l) k (omega arith) in_levels in_k j of_k in
          ap (λ (m : Mask). has m j) (sym (cut_same cpus table part s (suc l) cpu k in_levels in_cpus there)) ∙ up;
    }
