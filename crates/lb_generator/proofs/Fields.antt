-- Fields of a line: each byte may stand in a trace and is no comma. A line of such fields is cut at its
-- commas into them, has bytes that may stand in a trace alone, and no line feed.
-- For the lemmas of `Accepted`, `Good` and other files, and so for the laws `are_accepted` and `moments_are_small`.
use Rattle.std.proofs.Common.{◌≡◌, ℕ, suc, ◌*◌, ◌^◌, ◌<◌, ◌≤◌, ℤ, pos, negsuc, Bool, true, false, not, ◌&&◌, eqb, leb, length, length-append, List, [], ◌∷◌, ◌++◌, refl, sym, ap, ◌∙◌, arith, append_assoc, inl, inr}
use Rattle.std.specs.Prelude.{decimal}
use Rattle.std.specs.Char.{is_ascii_digit}
use Rattle.std.specs.Fmt.{signed_decimal}
use Rattle.std.specs.List.{list_all, slice_split, All}
use Rattle.std.specs.Str.{all_ascii_digits}
use Rattle.std.proofs.lemmas.Bool.{and_from, and_parts, not-true, eqb-true, le-leb, leb-true, cases_Bool}
use Rattle.std.proofs.lemmas.List.{append-nil}
use Rattle.std.proofs.lemmas.List.Folds.{list_all-append}
use Rattle.std.proofs.lemmas.List.Sums.{AllPass-from_list_all}
use Rattle.std.proofs.lemmas.List.Elements.{All-weaker}
use Rattle.std.proofs.lemmas.List.Splits.{slice_split_none, slice_split_at}
use Rattle.std.proofs.lemmas.Fmt.{length-decimal-le}
use Rattle.std.specs.Str.Parse.{starts_with_minus}
use Rattle.lb_trace.specs.Accepted.{is_nice_value}
use Rattle.lb_fields.specs.Pieces.{is_plain_byte, is_plain}
use Rattle.lb_text.proofs.Digits.{decimal_digits}
use Rattle.lb_text.specs.Lines.{lines_text, marked}
use Rattle.lb_text.specs.declared.marks.TheConstants.{COMMA}
use Rattle.lb_generator.specs.Text.{line_of}

abbrev pub is_field_byte : ℕ → Bool
is_field_byte b = is_plain_byte b && not (eqb b 44)

-- such bytes, and few of them
abbrev pub is_field : List ℕ → Bool
is_field text = list_all is_field_byte text && leb (length text) 21

-- ---- which texts are fields
digit_byte : (b : ℕ) → is_ascii_digit b ≡ true → is_field_byte b ≡ true
digit_byte b e = elim (cases_Bool (eqb b 44)) [
  | inl comma ↦ absurd (let z : is_ascii_digit 44 ≡ true = ap is_ascii_digit (sym (eqb-true b 44 comma)) ∙ e in cc z)
  | inr other ↦ rw (e, other) refl
]

digit_bytes : (text : List ℕ) → all_ascii_digits text ≡ true → list_all is_field_byte text ≡ true
digit_bytes [] e = refl
digit_bytes (b ∷ text) e =
    let p = and_parts (is_ascii_digit b) _ e in and_from (is_field_byte b) _ (digit_byte b p.0) (digit_bytes text p.1)

few_digits : (n : ℕ) → n < 2 ^ 64 → length (decimal n) ≤ 20
few_digits n lt = length-decimal-le 20 n (omega arith) (omega (arith, lt)) lt

pub number_field : (n : ℕ) → n < 2 ^ 64 → is_field (decimal n) ≡ true
number_field n lt =
    let few = few_digits n lt in
    and_from (list_all is_field_byte (decimal n)) _ (digit_bytes (decimal n) (decimal_digits n lt))
    (le-leb (length (decimal n)) 21 (omega (arith, few)))

pub nice_field : (z : ℤ) → is_nice_value z ≡ true → is_field (signed_decimal z) ≡ true
nice_field (pos n) e = let le = leb-true n 19 e in number_field n (omega (arith, le))
nice_field (negsuc n) e =
    let le = leb-true n 19 e in
    let lt : suc n < 2 ^ 64 = omega (arith, le) in
    let few = few_digits (suc n) lt in
    and_from (list_all is_field_byte (45 ∷ decimal (suc n))) _ (digit_bytes (decimal (suc n)) (decimal_digits (suc n) lt))
    (le-leb (length (45 ∷ decimal (suc n))) 21 (omega (arith, few)))

-- a digit is no `-`
pub no_minus : (text : List ℕ) → all_ascii_digits text ≡ true → starts_with_minus text ≡ false
no_minus [] e = refl
no_minus (b ∷ text) e = elim (cases_Bool (eqb b 45)) [
  | inl minus ↦
      let digit = (and_parts (is_ascii_digit b) _ e).0 in
      absurd (let z : is_ascii_digit 45 ≡ true = ap is_ascii_digit (sym (eqb-true b 45 minus)) ∙ digit in cc z)
  | inr other ↦ other
]

-- ---- cut at commas
no_comma : (text : List ℕ) → is_field text ≡ true → All (λ b. eqb b 44 ≡ false) text
no_comma text e =
    All-weaker (λ b. is_field_byte b ≡ true) (λ b. eqb b 44 ≡ false)
    (λ b f. not-true (eqb b 44) (and_parts (is_plain_byte b) _ f).1) text
    (AllPass-from_list_all is_field_byte text (and_parts (list_all is_field_byte text) _ e).0)

pub cut : (word : List ℕ) (fields : List (List ℕ)) → list_all is_field (word ∷ fields) ≡ true
    → slice_split (λ b. eqb b 44) (line_of word fields) ≡ word ∷ fields
cut word [] e =
    let p = and_parts (is_field word) _ e in
    ap (slice_split (λ b. eqb b 44)) (append-nil word) ∙ slice_split_none (λ b. eqb b 44) word (no_comma word p.0)
cut word (next ∷ fields) e =
    let p = and_parts (is_field word) _ e in
    slice_split_at (λ b. eqb b 44) word 44 (line_of next fields) (no_comma word p.0) refl
    ∙ ap (λ (rest : List (List ℕ)). word ∷ rest) (cut next fields p.1)

-- ---- bytes of a line
plain_bytes : (text : List ℕ) → list_all is_field_byte text ≡ true → is_plain text ≡ true
plain_bytes [] e = refl
plain_bytes (b ∷ text) e =
    let p = and_parts (is_field_byte b) _ e in
    and_from (is_plain_byte b) _ (and_parts (is_plain_byte b) _ p.0).0 (plain_bytes text p.1)

plain_field : (text : List ℕ) → is_field text ≡ true → is_plain text ≡ true
plain_field text e = plain_bytes text (and_parts (list_all is_field_byte text) _ e).0

both_plain : (a b : List ℕ) → is_plain a ≡ true → is_plain b ≡ true → is_plain (a ++ b) ≡ true
both_plain a b p q = rw (list_all-append is_plain_byte a b, p, q) refl

commas_plain : (fields : List (List ℕ)) → list_all is_field fields ≡ true → is_plain (marked COMMA fields) ≡ true
commas_plain [] e = refl
commas_plain (field ∷ fields) e =
    let p = and_parts (is_field field) _ e in
    both_plain (44 ∷ field) (marked COMMA fields) (plain_field field p.0) (commas_plain fields p.1)

pub line_plain : (word : List ℕ) (fields : List (List ℕ)) → list_all is_field (word ∷ fields) ≡ true
    → is_plain (line_of word fields) ≡ true
line_plain word fields e =
    let p = and_parts (is_field word) _ e in
    both_plain word (marked COMMA fields) (plain_field word p.0) (commas_plain fields p.1)

-- ---- the length of a line
commas_length : (fields : List (List ℕ)) → list_all is_field fields ≡ true → length (marked COMMA fields) ≤ 22 * length fields
commas_length [] e = omega arith
commas_length (field ∷ fields) e =
    let p = and_parts (is_field field) _ e in
    let one = leb-true (length field) 21 (and_parts (list_all is_field_byte field) _ p.0).1 in
    let more = commas_length fields p.1 in
    let l = length-append (44 ∷ field) (marked COMMA fields) in
    omega (arith, one, more, l)

-- a line that may stand in a trace, and is short
abbrev pub is_short_line : List ℕ → Bool
is_short_line line = is_plain line && leb (length line) 120

pub short_line : (word : List ℕ) (fields : List (List ℕ)) → list_all is_field (word ∷ fields) ≡ true → length fields ≤ 4
    → is_short_line (line_of word fields) ≡ true
short_line word fields e few =
    let p = and_parts (is_field word) _ e in
    let one = leb-true (length word) 21 (and_parts (list_all is_field_byte word) _ p.0).1 in
    let more = commas_length fields p.1 in
    let l = length-append word (marked COMMA fields) in
    and_from (is_plain (line_of word fields)) _ (line_plain word fields e)
    (le-leb (length (line_of word fields)) 120 (omega (arith, one, more, l, few)))

-- ---- lines
feed_free : (b : ℕ) → is_plain_byte b ≡ true → eqb b 10 ≡ false
feed_free b e = elim (cases_Bool (eqb b 10)) [
  | inl same ↦ absurd (let z : is_plain_byte 10 ≡ true = ap is_plain_byte (sym (eqb-true b 10 same)) ∙ e in cc z)
  | inr other ↦ other
]

no_feed : (line : List ℕ) → is_plain line ≡ true → All (λ b. eqb b 10 ≡ false) line
no_feed line e =
    All-weaker (λ b. is_plain_byte b ≡ true) (λ b. eqb b 10 ≡ false) feed_free line (AllPass-from_list_all is_plain_byte line e)

pub cut_lines : (lines : List (List ℕ)) → list_all is_short_line lines ≡ true
    → slice_split (λ b. eqb b 10) (lines_text lines) ≡ lines ++ [] ∷ []
cut_lines [] e = refl
cut_lines (line ∷ lines) e =
    let p = and_parts (is_short_line line) _ e in
    ap (slice_split (λ b. eqb b 10)) (append_assoc line (10 ∷ []) (lines_text lines))
    ∙ slice_split_at (λ b. eqb b 10) line 10 (lines_text lines) (no_feed line (and_parts (is_plain line) _ p.0).0) refl
    ∙ ap (λ (rest : List (List ℕ)). line ∷ rest) (cut_lines lines p.1)

pub lines_length : (lines : List (List ℕ)) → list_all is_short_line lines ≡ true → length (lines_text lines) ≤ 121 * length lines
lines_length [] e = omega arith
lines_length (line ∷ lines) e =
    let p = and_parts (is_short_line line) _ e in
    let one = leb-true (length line) 120 (and_parts (is_plain line) _ p.0).1 in
    let more = lines_length lines p.1 in
    let l = length-append (line ++ 10 ∷ []) (lines_text lines) in
    let k = length-append line (10 ∷ []) in
    omega (arith, one, more, l, k)
