-- The faults in their order, and what a machine without a fault has.
-- For `Machine::read`, `fault_of` and `Machine::of_good`.
use Rattle.std.proofs.Common.{◌≡◌, ℕ, ◌<◌, ◌≤◌, max, List, [], length, Option, Some, None, refl, sym, ◌∙◌, ap, arith, inl, inr}
use Rattle.std.specs.Option.{option_map}
use Rattle.std.proofs.lemmas.Bool.{cases_lt, or_parts, not-false, eqb-true, both_ways}
use Rattle.std.proofs.lemmas.List.{get_or_past}
use Rattle.lb_levels.specs.declared.cpu_row.CpuRow.{CpuRow}
use Rattle.lb_levels.specs.declared.faults.MachineError.TheVariants.{BadCpu, BadDistance, NotNested}
use Rattle.lb_levels.specs.Rows.{distances_at, first_not_nested, IsSquare, AllHaveNodes}
use Rattle.lb_levels.specs.Faults.{or_else, nodes_of, first_clash, is_misfit, first_misfit, first_bad_row, fault_of}
use Rattle.lb_base.proofs.Ranges.{nothing_found}
use Rattle.lb_levels.proofs.Nodes.{some_nodes, node_below}
use Rattle.lb_levels.proofs.Tables.{past_is_misfit}

pub clash_first : (cpus : List CpuRow) (table : List (List ℕ)) (cpu : ℕ) → first_clash cpus ≡ Some cpu
    → Some (BadCpu cpu) ≡ fault_of cpus table
unfolding fault_of
clash_first cpus table cpu e = rw e refl

pub misfit_first : (cpus : List CpuRow) (table : List (List ℕ)) (row : ℕ) → first_clash cpus ≡ None
    → first_misfit (nodes_of cpus) table ≡ Some row → Some (BadDistance row) ≡ fault_of cpus table
unfolding fault_of
misfit_first cpus table row none e = rw (none, e) refl

pub bad_row_first : (cpus : List CpuRow) (table : List (List ℕ)) (row : ℕ) → first_clash cpus ≡ None
    → first_misfit (nodes_of cpus) table ≡ None → first_bad_row table ≡ Some row → Some (BadDistance row) ≡ fault_of cpus table
unfolding fault_of
bad_row_first cpus table row none fits e = rw (none, fits, e) refl

pub not_nested_first : (cpus : List CpuRow) (table : List (List ℕ)) (o : Option ℕ) → first_clash cpus ≡ None
    → first_misfit (nodes_of cpus) table ≡ None → first_bad_row table ≡ None → first_not_nested table ≡ o
    → option_map (λ d. NotNested d) o ≡ fault_of cpus table
unfolding fault_of
not_nested_first cpus table o none fits good e = rw (none, fits, good, e) refl

-- where there is no fault, there is none of any kind
pub record IsGood (cpus : List CpuRow) (table : List (List ℕ)) : Type 0 where
  pub no_clash : first_clash cpus ≡ None
  pub fits : first_misfit (nodes_of cpus) table ≡ None
  pub good_rows : first_bad_row table ≡ None
  pub nested : first_not_nested table ≡ None

pub neither : {F : Type 0} (a b : Option F) → or_else a b ≡ None → (a ≡ None) × (b ≡ None)
neither None b e = (refl, e)
neither (Some x) b e = absurd (cc)

pub unmapped : {F : Type 0} (f : ℕ → F) (o : Option ℕ) → option_map f o ≡ None → o ≡ None
unmapped f None e = refl
unmapped f (Some x) e = absurd (cc)

pub good : (cpus : List CpuRow) (table : List (List ℕ)) → fault_of cpus table ≡ None → IsGood cpus table
unfolding fault_of
good cpus table e =
    let first = neither _ _ e in
    let second = neither _ _ first.1 in
    let third = neither _ _ second.1 in
    record {
      no_clash = unmapped (λ cpu. BadCpu cpu) _ first.0;
      fits = unmapped (λ row. BadDistance row) _ second.0;
      good_rows = unmapped (λ row. BadDistance row) _ third.0;
      nested = unmapped (λ d. NotNested d) _ third.1;
    }

-- a table that fits has a row for each node, and an entry for each in each
fits_row : (nodes : ℕ) (table : List (List ℕ)) → first_misfit nodes table ≡ None → (a : ℕ) → a < nodes
    → length (distances_at table a) ≡ nodes
unfolding first_misfit
fits_row nodes table fits a lt =
    let passes = nothing_found (is_misfit nodes table) (max nodes (length table)) fits a (omega (arith, lt)) in
    eqb-true _ _ (not-false _ (or_parts _ _ passes).1)

pub fits_length : (nodes : ℕ) (table : List (List ℕ)) → 0 < nodes → first_misfit nodes table ≡ None → length table ≡ nodes
unfolding first_misfit
fits_length nodes table some fits =
    let none : List ℕ = [] in
    let not_longer : length table ≤ nodes =
    elim (cases_lt nodes (length table)) [
      | inl longer ↦ absurd (both_ways (is_misfit nodes table nodes)
          (nothing_found (is_misfit nodes table) (max nodes (length table)) fits nodes (omega (arith, longer)))
          (past_is_misfit nodes table))
      | inr le ↦ le
    ] in
    elim (cases_lt (length table) nodes) [
      | inl shorter ↦ let empty : length (distances_at table (length table)) ≡ 0 =
          ap length (get_or_past table (length table) none (omega arith)) in
          absurd (omega (arith, empty, fits_row nodes table fits (length table) shorter, some))
      | inr ge ↦ omega (arith, ge, not_longer)
    ]

pub fits_square : (nodes : ℕ) (table : List (List ℕ)) → 0 < nodes → first_misfit nodes table ≡ None → IsSquare table
fits_square nodes table some fits a lt =
    let whole = fits_length nodes table some fits in
    fits_row nodes table fits a (omega (arith, lt, whole)) ∙ sym whole

pub fits_nodes : (cpus : List CpuRow) (table : List (List ℕ)) → 0 < length cpus
    → first_misfit (nodes_of cpus) table ≡ None → AllHaveNodes cpus table
fits_nodes cpus table some fits cpu lt =
    omega (arith, node_below cpus cpu lt, fits_length (nodes_of cpus) table (some_nodes cpus some) fits)
