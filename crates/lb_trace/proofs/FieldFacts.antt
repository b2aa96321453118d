-- Fields that are read one after the other: the values so far, and those of the fields that are left.
-- For `masks_from` and `distances_in`.
use Rattle.std.proofs.Common.{◌≡◌, ℕ, zero, suc, ◌+◌, ◌<◌, Bool, false, ◌&&◌, List, [], ◌∷◌, ◌++◌, length, map, drop, Option, Some, None, refl, sym, ap, ◌∙◌, append_assoc, arith}
use Rattle.std.specs.Prelude.{is_some, unwrap_or, option_and_then}
use Rattle.std.specs.List.{list_all}
use native.Mathlib.Numerals.{unary_clauses}
use Rattle.csv.specs.Records.{field_at}

-- the field at a place is the first of those from there on
pub drop_field : (i : ℕ) (fs : List (List ℕ)) (f : List ℕ) → field_at fs i ≡ Some f → drop i fs ≡ f ∷ drop (i + 1) fs
unfolding field_at
drop_field i [] f e = cc e
drop_field zero (g ∷ fs) f e = cc e
drop_field (suc i) (g ∷ fs) f e = simp unary_clauses (simp unary_clauses at (drop_field i fs f e))

-- there is a field at each place below their number
some_field : (i : ℕ) (fs : List (List ℕ)) → i < length fs → (f : List ℕ) × (field_at fs i ≡ Some f)
unfolding field_at
some_field i [] lt = absurd (omega (arith, lt))
some_field zero (g ∷ fs) lt = (g, refl)
some_field (suc i) (g ∷ fs) lt = some_field i fs (omega (arith, lt))

-- what a field says by `read`, or else `default`
abbrev pub values : {X : Type 0} → (List ℕ → Option X) → X → List (List ℕ) → List X
values read default fs = map (λ f. unwrap_or (read f) default) fs

abbrev pub all_read : {X : Type 0} → (List ℕ → Option X) → List (List ℕ) → Bool
all_read read fs = list_all (λ f. is_some (read f)) fs

-- the fields from a place on, of which those before place i were read
pub record AreRead {X : Type 0} (read : List ℕ → Option X) (default : X) (fs : List (List ℕ)) (from : ℕ) (i : ℕ)
    (xs : List X) : Type 0 where
  pub so_far : xs ++ values read default (drop i fs) ≡ values read default (drop from fs)
  pub good : all_read read (drop i fs) ≡ all_read read (drop from fs)

pub one_read : {X : Type 0} (read : List ℕ → Option X) (default : X) (fs : List (List ℕ)) (from i : ℕ) (xs : List X) (x : X)
    → AreRead read default fs from i xs → option_and_then read (field_at fs i) ≡ Some x
    → AreRead read default fs from (i + 1) (xs ++ x ∷ [])
one_read {X} read default fs from i xs x r e = at (field_at fs i) refl e
  where
    at : (o : Option (List ℕ)) → field_at fs i ≡ o → option_and_then read o ≡ Some x → AreRead read default fs from
        (i + 1) (xs ++ x ∷ [])
    at None there got = cc got
    at (Some f) there got =
        let rest = drop_field i fs f there in
        record {
          so_far = append_assoc xs (x ∷ []) (values read default (drop (i + 1) fs))
              ∙ (ap (λ (v : X). xs ++ v ∷ values read default (drop (i + 1) fs))
              (sym (ap (λ (o : Option X). unwrap_or o default) got))
              ∙ (sym (ap (λ (gs : List (List ℕ)). xs ++ values read default gs) rest) ∙ r.so_far));
          good = sym (ap (λ (o : Option X). is_some o && all_read read (drop (i + 1) fs)) got) ∙
              (sym (ap (all_read read) rest) ∙ r.good);
        }

-- a field that cannot be read
pub misread : {X : Type 0} (read : List ℕ → Option X) (default : X) (fs : List (List ℕ)) (from i : ℕ) (xs : List X)
    → AreRead read default fs from i xs → i < length fs → option_and_then read (field_at fs i) ≡ None
    → all_read read (drop from fs) ≡ false
misread {X} read default fs from i xs r lt e =
    let there = some_field i fs lt in
    let none : read there.0 ≡ None = sym (ap (option_and_then read) there.1) ∙ e in
    sym r.good ∙ (ap (all_read read) (drop_field i fs there.0 there.1)
    ∙ ap (λ (o : Option X). is_some o && all_read read (drop (i + 1) fs)) none)
