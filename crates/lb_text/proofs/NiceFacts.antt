-- Which texts begin a nice value.
-- For `nice_of`; cited by `lb_generator` and `lb_read` too.
use Rattle.std.proofs.Common.{◌≡◌, ℕ, zero, suc, ◌+◌, true, false, eqb, List, [], ◌∷◌, ◌++◌, take, Option, Some, None, refl, sym, ap, subst, ◌∙◌, arith, ℤ, pos, neg_ℤ}
use Rattle.std.specs.Prelude.{is_some, decimal}
use Rattle.std.specs.Option.{option_map}
use Rattle.std.specs.List.{All}
use Rattle.std.specs.Str.Parse.{starts_with_minus}
use Rattle.std.proofs.lemmas.List.{append-nil}
use Rattle.std.proofs.lemmas.List.Elements.{All-head}
use Rattle.lb_text.specs.Numbers.{number_within, is_number, nice_of, is_nice}
use Rattle.lb_text.specs.Prefixes.{CanGoOn, IsFirstBad}
use Rattle.lb_text.proofs.Digits.{number_decimal}
use Rattle.lb_text.proofs.Items.{number_free, false_from}
use Rattle.lb_text.proofs.Places.{IsPlaced, first_bad_placed}

some_map : (f : ℕ → ℤ) (o : Option ℕ) → is_some (option_map f o) ≡ is_some o
some_map f None = refl
some_map f (Some n) = refl

pub nice_minus : (digits : List ℕ) → nice_of (45 ∷ digits) ≡ option_map (λ n. neg_ℤ (pos n)) (number_within 1 20 digits)
unfolding nice_of
nice_minus digits = refl

pub nice_plain : (text : List ℕ) → starts_with_minus text ≡ false → nice_of text ≡ option_map (λ n. pos n)
    (number_within 0 19 text)
unfolding nice_of
nice_plain text e = rw e refl

is_minus : (digits : List ℕ) → is_nice (45 ∷ digits) ≡ is_number 1 20 digits
is_minus digits = ap is_some (nice_minus digits) ∙ some_map (λ n. neg_ℤ (pos n)) (number_within 1 20 digits)

is_plain : (text : List ℕ) → starts_with_minus text ≡ false → is_nice text ≡ is_number 0 19 text
is_plain text e = ap is_some (nice_plain text e) ∙ some_map (λ n. pos n) (number_within 0 19 text)

no_minus : (text : List ℕ) → All (λ b. eqb b 45 ≡ false) text → starts_with_minus text ≡ false
no_minus [] free = refl
no_minus (b ∷ text) free = All-head (λ c. eqb c 45 ≡ false) b text free

number_nice : (text : List ℕ) → is_number 0 19 text ≡ true → is_nice text ≡ true
number_nice text e = is_plain text (no_minus text (number_free 45 0 19 text refl (omega arith) e)) ∙ e

minus_placed : (digits : List ℕ) → IsPlaced (is_number 1 20) is_nice (45 ∷ []) digits []
minus_placed digits = record {
  begins = (decimal 1, is_minus (decimal 1) ∙ ap is_some (number_decimal 1 20 1 (omega arith) (omega arith) (omega arith)));
  inward = λ k go. (go.0, sym (is_minus (take k digits ++ go.0)) ∙ go.1);
  outward = λ k go. (go.0, is_minus (take k digits ++ go.0) ∙ go.1);
  ends = λ c more e go. cc e;
}

plain_inward : (text : List ℕ) → starts_with_minus text ≡ false → CanGoOn is_nice text → CanGoOn (is_number 0 19) text
plain_inward [] e go = (decimal 0, ap is_some (number_decimal 0 19 0 (omega arith) (omega arith) (omega arith)))
plain_inward (b ∷ text) e go = (go.0, sym (is_plain ((b ∷ text) ++ go.0) e) ∙ go.1)

front_minus : (text : List ℕ) (k : ℕ) → starts_with_minus text ≡ false → starts_with_minus (take k text) ≡ false
front_minus text zero e = refl
front_minus [] (suc k) e = refl
front_minus (b ∷ text) (suc k) e = e

plain_placed : (text : List ℕ) → starts_with_minus text ≡ false → IsPlaced (is_number 0 19) is_nice [] text []
plain_placed text e = record {
  begins = (decimal 0, number_nice (decimal 0) (ap is_some (number_decimal 0 19 0 (omega arith) (omega arith) (omega arith))));
  inward = λ k go. plain_inward (take k text) (front_minus text k e) go;
  outward = λ k go. (go.0, number_nice (take k text ++ go.0) go.1);
  ends = λ c more e go. cc e;
}

pub minus_bad : (digits : List ℕ) (at : ℕ) → number_within 1 20 digits ≡ None → IsFirstBad (is_number 1 20) digits at
    → (nice_of (45 ∷ digits) ≡ None) × IsFirstBad is_nice (45 ∷ digits) (1 + at)
minus_bad digits at bad b = (
  nice_minus digits ∙ ap (option_map (λ n. neg_ℤ (pos n))) bad,
  subst (λ (t : List ℕ). IsFirstBad is_nice (45 ∷ t) (1 + at)) (append-nil digits)
      (first_bad_placed (is_number 1 20) is_nice (45 ∷ []) digits [] at (minus_placed digits)
      (false_from (number_within 1 20 digits) bad) b),
)

pub plain_bad : (text : List ℕ) (at : ℕ) → starts_with_minus text ≡ false → number_within 0 19 text ≡ None
    → IsFirstBad (is_number 0 19) text at → (nice_of text ≡ None) × IsFirstBad is_nice text at
plain_bad text at e bad b =
    let placed = first_bad_placed (is_number 0 19) is_nice [] text [] at (plain_placed text e)
    (false_from (number_within 0 19 text) bad) b in
    let at_is : 0 + at ≡ at = omega arith in (
      nice_plain text e ∙ ap (option_map (λ n. pos n)) bad,
      subst (λ (t : List ℕ). IsFirstBad is_nice t at) (append-nil text)
          (subst (λ (n : ℕ). IsFirstBad is_nice (text ++ []) n) at_is placed),
    )
