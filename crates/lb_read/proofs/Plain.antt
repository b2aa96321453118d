-- The lines of a header have only bytes that may stand in a trace.
-- For the lemmas of `Declared`, and so for the law `headers_read_back`.
use Rattle.std.proofs.Common.{◌≡◌, ℕ, zero, suc, ◌+◌, ◌<◌, ◌%◌, ◌/◌, ℤ, pos, negsuc, true, false, eqb, List, [], ◌∷◌, ◌++◌, map, refl, arith, inl, inr}
use Rattle.std.specs.Prelude.{decimal}
use Rattle.std.specs.Fmt.{digit_glyph, digits_onto, digits, signed_decimal}
use Rattle.std.specs.List.{join_with_byte}
use Rattle.std.proofs.lemmas.Bool.{and_from, cases_Bool, lt-ltb, le-leb}
use Rattle.std.proofs.lemmas.List.Folds.{list_all-append}
use Rattle.lb_base.specs.declared.mask.Mask.{Mask}
use Rattle.lb_base.specs.Mask.{members}
use Rattle.lb_fields.specs.Pieces.{is_plain_byte, is_plain}
use Rattle.lb_text.specs.Lists.{Run}
use Rattle.lb_text.specs.Runs.{runs_of, run_text, runs_text}
use Rattle.lb_text.specs.Lines.{joined, marked}

-- each text is plain
abbrev pub AllPlain : List (List ℕ) → Type 0
AllPlain [] = Unit {0}
AllPlain (text ∷ texts) = (is_plain text ≡ true) × AllPlain texts

both_plain : (a b : List ℕ) → is_plain a ≡ true → is_plain b ≡ true → is_plain (a ++ b) ≡ true
both_plain a b p q = rw (list_all-append is_plain_byte a b, p, q) refl

digit_plain : (d : ℕ) → d < 10 → is_plain_byte (digit_glyph false d) ≡ true
digit_plain d lt = rw (lt-ltb d 10 lt, le-leb 48 (48 + d) (omega arith), le-leb (48 + d) 57 (omega (arith, lt))) refl

onto_plain : (i n : ℕ) (acc : List ℕ) → is_plain acc ≡ true → is_plain (digits_onto i 10 false n acc) ≡ true
onto_plain zero n acc p = p
onto_plain (suc i) n acc p =
    let more : is_plain (digit_glyph false (n % 10) ∷ acc) ≡ true = and_from _ _ (digit_plain (n % 10) (omega arith)) p in
    elim (cases_Bool (eqb (n / 10) 0)) [
      | inl e ↦ rw e more
      | inr e ↦ rw e (onto_plain i (n / 10) (digit_glyph false (n % 10) ∷ acc) more)
    ]

pub decimal_plain : (n : ℕ) → is_plain (decimal n) ≡ true
unfolding digits
decimal_plain n = onto_plain 64 n [] refl

pub signed_plain : (n : ℤ) → is_plain (signed_decimal n) ≡ true
signed_plain (pos n) = decimal_plain n
signed_plain (negsuc n) = decimal_plain (suc n)

run_plain : (run : Run) → is_plain (run_text run) ≡ true
run_plain run = elim (cases_Bool (eqb run.0 run.1)) [
  | inl e ↦ rw e (decimal_plain run.0)
  | inr e ↦ rw e (both_plain (decimal run.0) (45 ∷ decimal run.1) (decimal_plain run.0) (decimal_plain run.1))
]

runs_plain_of : (runs : List Run) → is_plain (join_with_byte 59 (map run_text runs)) ≡ true
runs_plain_of [] = refl
runs_plain_of (run ∷ []) = run_plain run
runs_plain_of (run ∷ next ∷ runs) =
    both_plain (run_text run) (59 ∷ join_with_byte 59 (map run_text (next ∷ runs))) (run_plain run) (runs_plain_of (next ∷ runs))

pub runs_plain : (mask : Mask) → is_plain (runs_text mask) ≡ true
unfolding runs_text
runs_plain mask = runs_plain_of (runs_of (members mask))

pub map_plain : {A : Type 0} (f : A → List ℕ) (xs : List A) → ((x : A) → is_plain (f x) ≡ true) → AllPlain (map f xs)
map_plain f [] each = tt
map_plain f (x ∷ xs) each = (each x, map_plain f xs each)

marked_plain : (fields : List (List ℕ)) → AllPlain fields → is_plain (marked 44 fields) ≡ true
marked_plain [] p = refl
marked_plain (field ∷ fields) p = both_plain (44 ∷ field) (marked 44 fields) p.0 (marked_plain fields p.1)

pub joined_plain : (word : List ℕ) (fields : List (List ℕ)) → is_plain word ≡ true → AllPlain fields
    → is_plain (joined 44 (word ∷ fields)) ≡ true
joined_plain word fields w p = both_plain word (marked 44 fields) w (marked_plain fields p)
