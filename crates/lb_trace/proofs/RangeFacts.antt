-- The ranges of what was read are within those that a machine is read in and a task is declared with.
-- What runs an accepted trace cites `nice_range`.
-- For `is_nested` and `Header::machine`; cited by `lb_act` too.
use Rattle.std.proofs.Common.{◌≡◌, ℕ, ℤ, pos, negsuc, ◌≤◌, ◌≤ℤ◌, Bool, true, List, [], ◌∷◌, refl, arith}
use Rattle.std.specs.Prelude.{nat_lt, nat_le}
use Rattle.std.specs.List.{list_all}
use Rattle.std.proofs.lemmas.Bool.{and_parts, and_from, leb-true, lt-ltb}
use Rattle.std.proofs.lemmas.Int.{ints}
use Rattle.lb_trace.specs.declared.trace.TheConstants.{MAX_DISTANCE}
use Rattle.lb_levels.specs.declared.cpu_row.CpuRow.{CpuRow}
use Rattle.lb_levels.specs.Rows.{nodes_in_range, distances_in_range}
use Rattle.lb_trace.specs.Accepted.{is_cpu, is_distance, is_nice_value}

-- where all pass a test, all pass a weaker one
all_weaker : {X : Type 0} (p q : X → Bool) → ((x : X) → p x ≡ true → q x ≡ true) → (xs : List X)
    → list_all p xs ≡ true → list_all q xs ≡ true
all_weaker p q weaker [] all = refl
all_weaker p q weaker (x ∷ xs) all = let h = and_parts (p x) _ all in and_from (q x) _ (weaker x h.0)
    (all_weaker p q weaker xs h.1)

pub nodes_range : (cpus : List CpuRow) → list_all is_cpu cpus ≡ true → nodes_in_range cpus ≡ true
nodes_range cpus all = all_weaker is_cpu (λ row. nat_lt row.node 16) (λ row h. (and_parts _ _ h).1) cpus all

distance_range : (d : ℕ) → is_distance d ≡ true → nat_lt d 256 ≡ true
distance_range d h = let le = leb-true d MAX_DISTANCE (and_parts (nat_le 1 d) (nat_le d MAX_DISTANCE) h).1 in
    lt-ltb d 256 (omega (arith, le))

pub distances_range : (table : List (List ℕ)) → list_all (list_all is_distance) table ≡ true → distances_in_range table ≡ true
distances_range table all =
    all_weaker (list_all is_distance) (list_all (λ d. nat_lt d 256))
    (λ row h. all_weaker is_distance (λ d. nat_lt d 256) distance_range row h) table all

pub nice_range : (nice : ℤ) → is_nice_value nice ≡ true → (negsuc 19 ≤ℤ nice) × (nice ≤ℤ pos 19)
nice_range (pos n) h = let le : n ≤ 19 = leb-true n 19 h in (omega (arith, ints, le), omega (arith, ints, le))
nice_range (negsuc n) h = let le : n ≤ 19 = leb-true n 19 h in (omega (arith, ints, le), omega (arith, ints, le))
