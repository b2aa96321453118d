-- The CPUs that lead in a span, and the spans step by step.
-- For `ring`, `step_span`, `domain_at` and `push_spans`.
use Rattle.std.proofs.Common.{◌≡◌, ℕ, zero, suc, ◌+◌, ◌-◌, ◌<◌, leb, ltb, Bool, true, false, ◌&&◌, not, List, [], ◌∷◌, ◌++◌, length, map, Option, refl, sym, ◌∙◌, ap, arith, inl, inr, add-one}
use Rattle.std.specs.Prelude.{filter, unwrap_or}
use Rattle.std.specs.List.{slice_index_or}
use Rattle.std.proofs.lemmas.List.{append-nil, append_assoc, map_push, map-append}
use Rattle.std.proofs.lemmas.Bool.{cases_Bool, and_parts, ltb-true}
use Rattle.lb_base.specs.declared.mask.Mask.{Mask}
use Rattle.lb_base.specs.declared.shape.LevelName.{LevelName}
use Rattle.lb_base.specs.Mask.{has, members, members_below, no_cpus, both}
use Rattle.lb_base.specs.Sets.{least}
use Rattle.lb_base.proofs.Bits.{bit_set_and}
use Rattle.lb_base.proofs.Sets.{mask_where_has}
use Rattle.lb_base.proofs.Walks.{passed, IsAt, Finds, walk_starts, walk_steps}
use Rattle.lb_levels.specs.declared.cpu_row.CpuRow.{CpuRow}
use Rattle.lb_levels.specs.Rows.{row_at}
use Rattle.lb_levels.specs.Spans.{shares, span_of, level_at}
use Rattle.lb_domain.specs.Domains.{cut_span, is_first, firsts, ring_of}
use Rattle.lb_domain.specs.Steps.{step_span, LeadWithin}
use Rattle.lb_domain.proofs.Filters.{members_passing, not_before}

pub step_above : (cpus : List CpuRow) (table : List (List ℕ)) (part : Mask) (step cpu : ℕ) → 0 < step
    → step_span cpus table part step cpu ≡ cut_span cpus table part (level_at table (step - 1)) cpu
step_above cpus table part zero cpu above = absurd (omega (arith, above))
step_above cpus table part (suc level) cpu above = let e : level ≡ suc level - 1 = omega arith in
    ap (λ (l : ℕ). cut_span cpus table part (level_at table l) cpu) e

pub has_both : (a b : Mask) (k : ℕ) → has (both a b) k ≡ (has a k && has b k)
unfolding has both
has_both a b k = bit_set_and a.bits b.bits k

-- what it is to be in the span of a CPU within a part
pub record IsInSpan (cpus : List CpuRow) (table : List (List ℕ)) (part : Mask) (level : LevelName) (cpu k : ℕ) : Type 0 where
  pub in_part : has part k ≡ true
  pub in_range : k < length cpus
  pub together : shares table level (row_at cpus cpu) (row_at cpus k) ≡ true

pub in_span : (cpus : List CpuRow) (table : List (List ℕ)) (part : Mask) (level : LevelName) (cpu k : ℕ)
    → has (cut_span cpus table part level cpu) k ≡ true → IsInSpan cpus table part level cpu k
unfolding cut_span span_of
in_span cpus table part level cpu k there =
    let parts = and_parts _ _ (sym (has_both (span_of cpus table level cpu) part k) ∙ there) in
    let whole = and_parts _ _ (sym (mask_where_has
    (λ k. ltb k (length cpus) && shares table level (row_at cpus cpu) (row_at cpus k)) k) ∙ parts.0) in
    let inner = and_parts _ _ whole.1 in
    record { in_part = parts.1; in_range = ltb-true _ _ inner.0; together = inner.1 }

-- the leaders of a span are its first CPUs
pub leaders_first : (cpus : List CpuRow) (table : List (List ℕ)) (part : Mask) (leaders : List Mask) (step : ℕ)
    (level : LevelName) (cpu : ℕ) (m : Mask) → LeadWithin cpus table part leaders → step < length leaders
    → ((k : ℕ) → has m k ≡ (has (slice_index_or leaders step no_cpus) k && has
    (cut_span cpus table part level cpu) k)) → members m ≡ firsts (step_span cpus table part step)
    (cut_span cpus table part level cpu)
unfolding firsts
leaders_first cpus table part leaders step level cpu m lead within is =
    members_passing m (cut_span cpus table part level cpu) (λ k. is_first (least (step_span cpus table part step k)) k)
    (λ k lt. is k ∙ elim (cases_Bool (has (cut_span cpus table part level cpu) k)) [
      | inl there ↦ let at = in_span cpus table part level cpu k there in
          rw (there, lead.lead step within k at.in_range at.in_part) (and_true _)
      | inr absent ↦ rw absent (and_false _)
    ])
  where
    and_true : (b : Bool) → (b && true) ≡ b
    and_true true = refl
    and_true false = refl

    and_false : (b : Bool) → (b && false) ≡ false
    and_false true = refl
    and_false false = refl

-- ---- over the CPUs of a mask, one by one

-- what is pushed when the walk goes on from a CPU
pub walk_on : (f : ℕ → Mask) (m : Mask) (base groups : List Mask) (cpu : ℕ) (o : Option ℕ) → IsAt m cpu
    → groups ≡ base ++ map f (members_below m cpu) → Finds m (cpu + 1) o → groups ++ f cpu ∷ [] ≡ base ++ map f
    (members_below m (passed o))
walk_on f m base groups cpu o at pushed next =
    ap (λ (g : List Mask). g ++ f cpu ∷ []) pushed
    ∙ append_assoc base (map f (members_below m cpu)) (f cpu ∷ [])
    ∙ ap (λ (g : List Mask). base ++ g) (sym (map_push f (members_below m cpu) cpu) ∙ ap (map f)
    (sym (walk_steps m cpu o at next)))

pub walk_from : (f : ℕ → Mask) (m : Mask) (base : List Mask) (o : Option ℕ) → Finds m 0 o
    → base ≡ base ++ map f (members_below m (passed o))
walk_from f m base o next =
    sym (append-nil base) ∙ ap (λ (g : List Mask). base ++ g) (sym (ap (map f) (walk_starts m o next)))

-- the later groups and then the earlier ones are the ring
pub ring_is : (f : ℕ → Mask) (leaders before later earlier : Mask) (own cpu : ℕ) → own ≡ unwrap_or (least (f cpu)) 0
    → ((k : ℕ) → has before k ≡ ltb k own) → ((k : ℕ) → has later k ≡ (has leaders k && not (has before k)))
    → ((k : ℕ) → has earlier k ≡ (has leaders k && has before k))
    → map f (members later) ++ map f (members earlier) ≡ ring_of f (members leaders) cpu
ring_is f leaders before later earlier own cpu own_is before_is later_is earlier_is =
    let from_own = members_passing later leaders (leb own)
    (λ k lt. later_is k ∙ ap (λ (b : Bool). has leaders k && b) (ap not (before_is k) ∙ not_before k own)) in
    let below_own = members_passing earlier leaders (λ k. ltb k own)
    (λ k lt. earlier_is k ∙ ap (λ (b : Bool). has leaders k && b) (before_is k)) in
    ap (λ (ks : List ℕ). map f ks ++ map f (members earlier)) from_own
    ∙ ap (λ (ks : List ℕ). map f (filter (leb own) (members leaders)) ++ map f ks) below_own
    ∙ sym (map-append f (filter (leb own) (members leaders)) (filter (λ k. ltb k own) (members leaders)))
    ∙ ap (λ (n : ℕ). map f (filter (leb n) (members leaders) ++ filter (λ k. ltb k n) (members leaders))) own_is

pub step_up : (cpus : List CpuRow) (table : List (List ℕ)) (part : Mask) (level cpu : ℕ)
    → step_span cpus table part (level + 1) cpu ≡ cut_span cpus table part (level_at table level) cpu
step_up cpus table part level cpu = ap (λ (n : ℕ). step_span cpus table part n cpu) (add-one level)
