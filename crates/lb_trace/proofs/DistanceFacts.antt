-- A table of distances with a row more: the ranges of its entries, and the tests of its last row.
-- For `Reading::dist_line` and `is_bad_distance`.
use Rattle.std.proofs.Common.{◌≡◌, ℕ, zero, suc, ◌-◌, ◌<◌, leb, Bool, true, ◌&&◌, List, [], ◌∷◌, ◌++◌, length, map, drop, length-append, inl, inr, refl, sym, ap, ◌∙◌, arith}
use Rattle.std.specs.List.{range_with_len, list_any, list_all}
use Rattle.std.specs.Str.Parse.{digits_value}
use Rattle.std.proofs.lemmas.Bool.{cases_Bool, eqb-true, and_parts, and_from}
use Rattle.std.proofs.Math.Seq.{get_or-append_seam}
use Rattle.lb_levels.specs.Rows.{distances_at, is_bad_entry, is_bad_distance}
use Rattle.lb_text.specs.Numbers.{is_numeral, is_number, number_within}
use Rattle.lb_trace.specs.declared.trace.TheConstants.{MAX_DISTANCE}
use Rattle.lb_trace.specs.Values.{number, distances_in}
use Rattle.lb_trace.specs.Accepted.{is_distance}
use Rattle.lb_trace.specs.Sound.{has_size}

-- each row has an entry for each node
pub sized_at : (nodes : ℕ) (table : List (List ℕ)) → list_all (has_size nodes) table ≡ true → (a : ℕ)
    → a < length table → length (distances_at table a) ≡ nodes
sized_at nodes [] sizes a lt = absurd (omega (arith, lt))
sized_at nodes (row ∷ table) sizes zero lt = eqb-true (length row) nodes (and_parts _ _ sizes).0
sized_at nodes (row ∷ table) sizes (suc a) lt = sized_at nodes table (and_parts _ _ sizes).1 a (omega (arith, lt))

last_tests : (table earlier : List (List ℕ)) (row : List ℕ) (a : ℕ) → table ≡ earlier ++ row ∷ [] → a ≡ length table - 1
    → list_any (is_bad_entry table a) (range_with_len 0 (length (distances_at table a))) ≡ is_bad_distance earlier row
unfolding is_bad_distance
last_tests table earlier row a e at =
    let none : List ℕ = [] in
    let place : a ≡ length earlier = at ∙
    (ap (λ (t : List (List ℕ)). length t - 1) e ∙ (ap (λ (n : ℕ). n - 1) (length-append earlier (row ∷ [])) ∙ omega arith)) in
    rw (place, e, get_or-append_seam earlier row [] none) refl

pub bad_last : (nodes : ℕ) (table earlier : List (List ℕ)) (row : List ℕ) → list_all (has_size nodes) table ≡ true
    → 0 < length table → table ≡ earlier ++ row ∷ []
    → list_any (is_bad_entry table (length table - 1)) (range_with_len 0 nodes) ≡ is_bad_distance earlier row
bad_last nodes table earlier row sizes some e =
    ap (λ (n : ℕ). list_any (is_bad_entry table (length table - 1)) (range_with_len 0 n))
    (sym (sized_at nodes table sizes (length table - 1) (omega (arith, some))))
    ∙ last_tests table earlier row (length table - 1) e refl

-- ---- a row that a line says
distance_read : (field : List ℕ) → is_number 1 MAX_DISTANCE field ≡ true
    → is_distance (number (number_within 1 MAX_DISTANCE field)) ≡ true
unfolding number_within
distance_read field e =
    elim (cases_Bool (is_numeral field && leb 1 (digits_value 10 field) && leb (digits_value 10 field) MAX_DISTANCE)) [
      | inl good ↦
          let value = digits_value 10 field in
          let parts = and_parts (is_numeral field && leb 1 value) (leb value MAX_DISTANCE) good in
          rw good (and_from (leb 1 value) (leb value MAX_DISTANCE) (and_parts (is_numeral field) (leb 1 value) parts.0).1 parts.1)
      | inr bad ↦ absurd (cc (rw bad at e))
    ]

distances_read : (fields : List (List ℕ)) → list_all (is_number 1 MAX_DISTANCE) fields ≡ true
    → list_all is_distance (map (λ field. number (number_within 1 MAX_DISTANCE field)) fields) ≡ true
distances_read [] e = refl
distances_read (field ∷ fields) e =
    let parts = and_parts _ _ e in and_from _ _ (distance_read field parts.0) (distances_read fields parts.1)

-- with that row more the table keeps to what it kept to
all_with : {X : Type 0} (p : X → Bool) (xs : List X) (x : X) → list_all p xs ≡ true → p x ≡ true
    → list_all p (xs ++ x ∷ []) ≡ true
all_with p [] x all one = and_from _ _ one refl
all_with p (y ∷ xs) x all one = let parts = and_parts _ _ all in and_from _ _ parts.0 (all_with p xs x parts.1 one)

pub in_range_with : (table : List (List ℕ)) (fields : List (List ℕ)) → list_all (list_all is_distance) table ≡ true
    → list_all (is_number 1 MAX_DISTANCE) (drop 1 fields) ≡ true
    → list_all (list_all is_distance) (table ++ distances_in fields ∷ []) ≡ true
in_range_with table fields all good = all_with (list_all is_distance) table (distances_in fields) all
    (distances_read (drop 1 fields) good)
