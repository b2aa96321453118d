-- Tables of distances row by row: a row within the whole table.
-- For `first_misfit` and `is_bad_row`.
use Rattle.std.proofs.Common.{◌≡◌, ℕ, ◌+◌, ◌<◌, Bool, true, List, [], ◌∷◌, length, take, refl, sym, arith, inl, inr}
use Rattle.std.specs.List.{range_with_len, list_any}
use Rattle.std.proofs.lemmas.Bool.{cases_lt, le-ltb, le-leb}
use Rattle.std.proofs.lemmas.List.{get_or-take, take_more, length-take-le}
use Rattle.lb_levels.specs.Rows.{distances_at, is_bad_entry, is_bad_distance, IsSquare}
use Rattle.lb_levels.specs.Faults.{is_misfit}

pub same_any : (p q : ℕ → Bool) (xs : List ℕ) → ((k : ℕ) → p k ≡ q k) → list_any p xs ≡ list_any q xs
same_any p q [] same = refl
same_any p q (x ∷ xs) same = rw (same x, same_any p q xs same) refl

-- an entry, in the table as far as its row
bad_entry_is : (table : List (List ℕ)) (a b : ℕ) → is_bad_entry (take (a + 1) table) a b ≡ is_bad_entry table a b
bad_entry_is table a b =
    let none : List ℕ = [] in
    let own = get_or-take (a + 1) table 0 none (omega arith) in
    let here = get_or-take (a + 1) table a none (omega arith) in
    elim (cases_lt b a) [
      | inl before ↦ rw (own, here, get_or-take (a + 1) table b none (omega (arith, before))) refl
      | inr after ↦ rw (own, here, le-ltb b a after) refl
    ]

pub bad_row_is : (table : List (List ℕ)) (a : ℕ) → IsSquare table → a < length table
    → is_bad_distance (take a table) (distances_at table a) ≡ list_any (is_bad_entry table a) (range_with_len 0 (length table))
unfolding is_bad_distance
bad_row_is table a square within =
    let none : List ℕ = [] in
    rw (sym (take_more table a none within), length-take-le a table (omega (arith, within)), square a within)
    (same_any (is_bad_entry (take (a + 1) table) a) (is_bad_entry table a) (range_with_len 0 (length table))
    (bad_entry_is table a))

-- a row past the nodes
pub past_is_misfit : (nodes : ℕ) (table : List (List ℕ)) → is_misfit nodes table nodes ≡ true
past_is_misfit nodes table = rw (le-leb nodes nodes (omega arith)) refl
