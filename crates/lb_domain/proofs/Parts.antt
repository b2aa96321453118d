-- The part of each CPU, where no two parts share one.
-- For `topology_of`.
use Rattle.std.proofs.Common.{◌≡◌, ℕ, zero, suc, ◌<◌, ◌≤◌, ◌+◌, ◌/◌, ◌%◌, ◌^◌, eqb, true, not, List, [], ◌∷◌, length, map, Option, Some, None, refl, sym, ◌∙◌, ap, arith, inl, inr}
use Rattle.std.specs.Prelude.{filter}
use Rattle.std.specs.List.{range_with_len, slice_index_or, list_all}
use Rattle.std.proofs.lemmas.Bool.{cases_Bool, both_ways, and_parts, eqb-true, lt-ltb}
use Rattle.std.proofs.lemmas.List.FromFn.{get_or-map-range_with_len, length-range_with_len}
use Rattle.std.proofs.lemmas.List.{length-map}
use Rattle.lb_base.specs.declared.mask.Mask.{Mask}
use Rattle.lb_base.specs.Mask.{has}
use Rattle.lb_base.specs.Sets.{are_apart, are_disjoint}
use Rattle.lb_base.proofs.Bits.{bit_set_zero}
use Rattle.lb_levels.specs.declared.cpu_row.CpuRow.{CpuRow}
use Rattle.lb_base.proofs.Sets.{apart_at}
use Rattle.lb_domain.specs.Domains.{part_of, domains_in, domains_of, topology_of}
use Rattle.lb_domain.specs.Steps.{own_parts, AreLeaders, LeadWithin}

-- a mask without a bit has no CPU
has_some_bit : (m : Mask) (cpu : ℕ) → has m cpu ≡ true → not (eqb m.bits 0) ≡ true
unfolding has
has_some_bit m cpu there =
    elim (cases_Bool (eqb m.bits 0)) [
      | inl empty ↦ absurd (both_ways _ (ap (λ (n : ℕ). eqb (n / 2 ^ cpu % 2) 1) (eqb-true _ _ empty) ∙ bit_set_zero cpu) there)
      | inr some ↦ ap not some
    ]

-- masks without CPUs are no CPU's part
pub live_part_of : (parts : List Mask) (cpu : ℕ) → part_of (filter (λ m. not (eqb m.bits 0)) parts) cpu ≡ part_of parts cpu
live_part_of [] cpu = refl
live_part_of (m ∷ ms) cpu =
    elim (cases_Bool (has m cpu)) [
      | inl there ↦ rw (has_some_bit m cpu there) (rw there refl)
      | inr absent ↦ elim (cases_Bool (not (eqb m.bits 0))) [
        | inl some ↦ rw some (rw absent (live_part_of ms cpu))
        | inr empty ↦ rw empty (rw absent (live_part_of ms cpu))
      ]
    ]

pub length-own_parts : (n : ℕ) (parts : List Mask) → length (own_parts n parts) ≡ n
unfolding own_parts
length-own_parts n parts = length-map (range_with_len 0 n) (part_of parts) ∙ length-range_with_len 0 n

pub own_part_at : (n : ℕ) (parts : List Mask) (cpu : ℕ) → cpu < n → slice_index_or (own_parts n parts) cpu
    None ≡ part_of parts cpu
unfolding own_parts
own_part_at n parts cpu lt =
    let none : Option Mask = None in
    get_or-map-range_with_len (part_of parts) 0 n cpu cpu none lt (omega arith)

pub part_has : (parts : List Mask) (cpu : ℕ) (part : Mask) → part_of parts cpu ≡ Some part → has part cpu ≡ true
part_has [] cpu part is = absurd (cc)
part_has (m ∷ ms) cpu part is =
    elim (cases_Bool (has m cpu)) [
      | inl there ↦ let same : Some m ≡ Some part = sym (rw there refl) ∙ is in let e : m ≡ part = cc in
          ap (λ (p : Mask). has p cpu) (sym e) ∙ there
      | inr absent ↦ part_has ms cpu part (sym (rw absent refl) ∙ is)
    ]

-- a part among masks that are apart from another is apart from it
part_apart : (m : Mask) (ms : List Mask) (cpu : ℕ) (part : Mask) → list_all (are_apart m) ms ≡ true
    → part_of ms cpu ≡ Some part → are_apart m part ≡ true
part_apart m [] cpu part apart is = absurd (cc)
part_apart m (n ∷ ns) cpu part apart is =
    elim (cases_Bool (has n cpu)) [
      | inl there ↦ let same : Some n ≡ Some part = sym (rw there refl) ∙ is in let e : n ≡ part = cc in
          ap (are_apart m) (sym e) ∙ (and_parts _ _ apart).0
      | inr absent ↦ part_apart m ns cpu part (and_parts _ _ apart).1 (sym (rw absent refl) ∙ is)
    ]

-- the CPUs of a part have that part
pub same_part : (parts : List Mask) (cpu k : ℕ) (part : Mask) → are_disjoint parts ≡ true
    → part_of parts cpu ≡ Some part → k < 64 → has part k ≡ true → part_of parts k ≡ Some part
same_part [] cpu k part apart is small there = absurd (cc)
same_part (m ∷ ms) cpu k part apart is small there =
    elim (cases_Bool (has m cpu)) [
      | inl first ↦
          let same : Some m ≡ Some part = sym (rw first refl) ∙ is in
          let e : m ≡ part = cc in
          rw (ap (λ (p : Mask). has p k) e ∙ there) same
      | inr later ↦
          let rest : part_of ms cpu ≡ Some part = sym (rw later refl) ∙ is in
          let parts = and_parts _ _ apart in
          elim (cases_Bool (has m k)) [
            | inl in_m ↦ absurd (both_ways (has part k)
                (apart_at m part (part_apart m ms cpu part parts.0 rest) k small in_m) there)
            | inr not_in ↦ rw not_in (same_part ms cpu k part parts.1 rest small there)
          ]
    ]

-- the leaders of all parts are those of each
pub lead_within : (cpus : List CpuRow) (table : List (List ℕ)) (parts : List Mask) (own : List (Option Mask))
    (leaders : List Mask) (cpu : ℕ) (part : Mask) → length cpus ≤ 64 → are_disjoint parts ≡ true
    → own ≡ own_parts (length cpus) parts → AreLeaders cpus table own leaders → part_of parts cpu ≡ Some part
    → LeadWithin cpus table part leaders
lead_within cpus table parts own leaders cpu part few apart all lead is = record {
  steps = lead.steps;
  lead = λ step within k in_range there.
      let k_part : slice_index_or own k None ≡ Some part =
      ap (λ (o : List (Option Mask)). slice_index_or o k None) all ∙ own_part_at (length cpus) parts k in_range
      ∙ same_part parts cpu k part apart is (omega (arith, in_range, few)) there in
      let in_own : k < length own = omega (arith, ap length all, length-own_parts (length cpus) parts, in_range) in
      lead.lead step within k ∙ rw (lt-ltb k (length own) in_own, k_part) refl;
}

pub own_parts_live : (n : ℕ) (parts : List Mask) → own_parts n (filter (λ m. not (eqb m.bits 0)) parts) ≡ own_parts n parts
unfolding own_parts
own_parts_live n parts = map_same (part_of (filter (λ m. not (eqb m.bits 0)) parts)) (part_of parts) (live_part_of parts) 0 n
  where
    map_same : {X : Type 0} (f g : ℕ → X) → ((k : ℕ) → f k ≡ g k) → (a n : ℕ) → map f (range_with_len a n) ≡ map g
        (range_with_len a n)
    map_same f g same a zero = refl
    map_same f g same a (suc n) = rw (same a, map_same f g same (a + 1) n) refl

-- the domains of each CPU within its own part are the topology
pub all_domains : (cpus : List CpuRow) (table : List (List ℕ)) (parts : List Mask) (own : List (Option Mask))
    → own ≡ own_parts (length cpus) parts → map (λ cpu. domains_in cpus table (slice_index_or own cpu None) cpu)
    (range_with_len 0 (length own)) ≡ topology_of cpus table parts
unfolding topology_of domains_of
all_domains cpus table parts own all =
    let size : length own ≡ length cpus = ap length all ∙ length-own_parts (length cpus) parts in
    ap (λ (n : ℕ). map (λ cpu. domains_in cpus table (slice_index_or own cpu None) cpu) (range_with_len 0 n)) size
    ∙ map_within (λ cpu. domains_in cpus table (slice_index_or own cpu None) cpu)
    (λ cpu. domains_in cpus table (part_of parts cpu) cpu) 0 (length cpus)
    (λ k lo hi. ap (λ (p : Option Mask). domains_in cpus table p k)
    (ap (λ (o : List (Option Mask)). slice_index_or o k None) all ∙ own_part_at (length cpus) parts k (omega (arith, hi))))
  where
    map_within : {X : Type 0} (f g : ℕ → X) (a n : ℕ) → ((k : ℕ) → a ≤ k → k < a + n → f k ≡ g k)
        → map f (range_with_len a n) ≡ map g (range_with_len a n)
    map_within f g a zero same = refl
    map_within f g a (suc n) same = rw (
      same a (omega arith) (omega arith),
      map_within f g (a + 1) n
          (λ k lo hi. same k (omega (arith, lo)) (omega (arith, hi))),
    ) refl
