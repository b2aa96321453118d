-- What it is to have no fault, for whoever reads or tests rows, tables and masks: rows and a table
-- without a fault are a machine, masks without a fault are a partition, and the other way round.
-- For the laws `a_machine_has_no_fault` and `a_partition_has_no_fault`; cited by `lb_read` and `lb_trace` too.
use Rattle.std.proofs.Common.{◌≡◌, ℕ, zero, suc, ◌<◌, max, Bool, true, false, not, List, [], ◌∷◌, length, take, Option, Some, None, refl, sym, ◌∙◌, ap, arith}
use Rattle.std.specs.Prelude.{is_some, is_none, option_and_then, find}
use Rattle.std.specs.List.{range_with_len, list_all}
use Rattle.std.specs.Option.{option_map}
use Rattle.std.proofs.lemmas.Bool.{and_from, and_parts, both_ways, not-false, or_from, eq-eqb, lt-leb}
use Rattle.lb_base.specs.declared.mask.Mask.{Mask}
use Rattle.lb_base.specs.Sets.{is_below, are_apart, are_disjoint}
use Rattle.lb_base.proofs.Ranges.{not_found, nothing_found, found_at}
use Rattle.lb_levels.specs.declared.cpu_row.CpuRow.{CpuRow}
use Rattle.lb_levels.specs.declared.faults.PartsFault.TheVariants.{NoSuchCpu, Overlap}
use Rattle.lb_levels.specs.Rows.{row_at, distances_at, cpu_clashes, is_bad_distance, IsSquare}
use Rattle.lb_levels.specs.Faults.{nodes_of, first_clash, is_misfit, first_misfit, first_bad_row, fault_of, IsMachine, part_at, first_past, first_sharing, first_overlap, parts_fault_of, ArePartition}
use Rattle.lb_levels.proofs.FaultOrder.{neither, unmapped, good, fits_length, fits_square, not_nested_first}
use Rattle.lb_levels.proofs.Nodes.{some_nodes}
use Rattle.lb_levels.proofs.Overlaps.{none_from_test, no_overlap, overlap_second}

-- ---- rows and a table

-- no fault is to be a machine
pub machine_from_no_fault : (cpus : List CpuRow) (table : List (List ℕ)) → 0 < length cpus
    → fault_of cpus table ≡ None → IsMachine cpus table
unfolding first_clash first_bad_row
machine_from_no_fault cpus table some fine =
    let none = good cpus table fine in
    let nodes = some_nodes cpus some in
    record {
      cpus_stand = nothing_found (λ k. cpu_clashes (take k cpus) (row_at cpus k)) (length cpus) none.no_clash;
      rows = fits_length (nodes_of cpus) table nodes none.fits;
      square = fits_square (nodes_of cpus) table nodes none.fits;
      rows_stand = nothing_found (λ a. is_bad_distance (take a table) (distances_at table a)) (length table) none.good_rows;
      nested = ap is_none none.nested;
    }

none_from_is_none : {X : Type 0} (o : Option X) → is_none o ≡ true → o ≡ None
none_from_is_none None e = refl
none_from_is_none (Some x) e = absurd (cc)

square_fits : (nodes : ℕ) (table : List (List ℕ)) → length table ≡ nodes → IsSquare table → first_misfit nodes table ≡ None
unfolding first_misfit
square_fits nodes table rows square =
    sym (not_found (is_misfit nodes table) (max nodes (length table)) (λ a lt.
    let within : a < length table = omega (arith, lt, rows) in
    or_from _ _ (lt-leb nodes a (omega (arith, within, rows))) (ap not (eq-eqb _ _ (square a within ∙ rows)))))

pub no_fault_from_machine : (cpus : List CpuRow) (table : List (List ℕ)) → 0 < length cpus → IsMachine cpus table
    → fault_of cpus table ≡ None
unfolding first_clash first_bad_row
no_fault_from_machine cpus table some m =
    sym (not_nested_first cpus table None
    (sym (not_found (λ k. cpu_clashes (take k cpus) (row_at cpus k)) (length cpus) m.cpus_stand))
    (square_fits (nodes_of cpus) table m.rows m.square)
    (sym (not_found (λ a. is_bad_distance (take a table) (distances_at table a)) (length table) m.rows_stand))
    (none_from_is_none _ m.nested))

-- ---- masks

none_overlap : (parts : List Mask) → first_overlap parts ≡ None → (second : ℕ) → second < length parts
    → is_some (first_sharing parts second) ≡ false
unfolding first_overlap
none_overlap parts fine second within =
    nothing_found (λ second. is_some (first_sharing parts second)) (length parts)
    (no_second parts (find (λ second. is_some (first_sharing parts second)) (range_with_len 0 (length parts)))
    (λ second e. (found_at (λ second. is_some (first_sharing parts second)) (length parts) second e).1) fine) second within
  where
    no_second : (parts : List Mask) (o : Option ℕ)
        → ((second : ℕ) → o ≡ Some second → is_some (first_sharing parts second) ≡ true)
        → option_and_then (λ second. option_map (λ first. Overlap first second) (first_sharing parts second)) o ≡ None → o ≡ None
    no_second parts None shares fine = refl
    no_second parts (Some second) shares fine =
        absurd (both_ways _ (ap is_some (unmapped (λ first. Overlap first second) (first_sharing parts second) fine))
        (shares second refl))

pairs_apart : (parts : List Mask) → first_overlap parts ≡ None → (i j : ℕ) → i < j → j < length parts
    → are_apart (part_at parts i) (part_at parts j) ≡ true
unfolding first_sharing
pairs_apart parts fine i j lt within =
    not-false _ (nothing_found (λ i. not (are_apart (part_at parts i) (part_at parts j))) j
    (none_from_test _ (none_overlap parts fine j within)) i lt)

all_from : (p : Mask → Bool) (ms : List Mask) → ((i : ℕ) → i < length ms → p (part_at ms i) ≡ true) → list_all p ms ≡ true
all_from p [] each = refl
all_from p (m ∷ ms) each = and_from _ _ (each 0 (omega arith)) (all_from p ms (λ i lt. each (suc i) (omega (arith, lt))))

all_to : (p : Mask → Bool) (ms : List Mask) → list_all p ms ≡ true → (i : ℕ) → i < length ms → p (part_at ms i) ≡ true
all_to p [] all i lt = absurd (omega (arith, lt))
all_to p (m ∷ ms) all zero lt = (and_parts _ _ all).0
all_to p (m ∷ ms) all (suc i) lt = all_to p ms (and_parts _ _ all).1 i (omega (arith, lt))

disjoint_from : (parts : List Mask) → ((i j : ℕ) → i < j → j < length parts
    → are_apart (part_at parts i) (part_at parts j) ≡ true) → are_disjoint parts ≡ true
disjoint_from [] apart = refl
disjoint_from (m ∷ ms) apart =
    and_from _ _ (all_from (are_apart m) ms (λ j lt. apart 0 (suc j) (omega arith) (omega (arith, lt))))
    (disjoint_from ms (λ i j before lt. apart (suc i) (suc j) (omega (arith, before)) (omega (arith, lt))))

disjoint_to : (parts : List Mask) → are_disjoint parts ≡ true → (i j : ℕ) → i < j → j < length parts
    → are_apart (part_at parts i) (part_at parts j) ≡ true
disjoint_to [] apart i j before lt = absurd (omega (arith, lt))
disjoint_to (m ∷ ms) apart zero zero before lt = absurd (omega (arith, before))
disjoint_to (m ∷ ms) apart zero (suc j) before lt = all_to (are_apart m) ms (and_parts _ _ apart).0 j (omega (arith, lt))
disjoint_to (m ∷ ms) apart (suc i) zero before lt = absurd (omega (arith, before))
disjoint_to (m ∷ ms) apart (suc i) (suc j) before lt =
    disjoint_to ms (and_parts _ _ apart).1 i j (omega (arith, before)) (omega (arith, lt))

pub partition_from_no_fault : (cpus : ℕ) (parts : List Mask) → parts_fault_of cpus parts ≡ None → ArePartition cpus parts
unfolding parts_fault_of first_past
partition_from_no_fault cpus parts fine =
    let none = neither _ _ fine in
    let past = unmapped (λ part. NoSuchCpu part) (first_past cpus parts) none.0 in
    record {
      below = all_from (λ part. is_below part cpus) parts
          (λ i lt. not-false _ (nothing_found (λ i. not (is_below (part_at parts i) cpus)) (length parts) past i lt));
      apart = disjoint_from parts (pairs_apart parts none.1);
    }

pub no_fault_from_partition : (cpus : ℕ) (parts : List Mask) → ArePartition cpus parts → parts_fault_of cpus parts ≡ None
unfolding first_past first_sharing
no_fault_from_partition cpus parts fine =
    let past = not_found (λ i. not (is_below (part_at parts i) cpus)) (length parts)
    (λ i lt. ap not (all_to (λ part. is_below part cpus) parts fine.below i lt)) in
    let shares : (second : ℕ) → second < length parts → is_some (first_sharing parts second) ≡ false =
    λ second lt. ap is_some (sym (not_found (λ i. not (are_apart (part_at parts i) (part_at parts second))) second
    (λ i before. ap not (disjoint_to parts fine.apart i second before lt)))) in
    sym (overlap_second cpus parts (sym past)) ∙ sym (no_overlap parts shares)
