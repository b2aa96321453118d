-- What decimal spellings have in common with one another: a spelling cut at the end spells the number
-- cut at the end, and a number spells its own front.
-- For `number_within`; cited by `lb_generator` and `lb_read` too.
use Rattle.std.proofs.Common.{◌≡◌, ℕ, zero, suc, ◌+◌, ◌*◌, ◌/◌, ◌%◌, ◌^◌, ◌<◌, ◌≤◌, Bool, true, false, not, ◌&&◌, ◌||◌, cond, List, [], ◌∷◌, ◌++◌, length, get_or, Some, None, refl, sym, ap, ◌∙◌, inl, inr, arith, append_assoc, length-append}
use Rattle.std.specs.Prelude.{decimal, nat_le, slice_index, ◌==◌}
use Rattle.std.specs.Str.{all_ascii_digits}
use Rattle.std.specs.Str.Parse.{digits_value}
use Rattle.std.proofs.Math.Nat.{div-div-eq-div-mul, div-one, pow-suc}
use Rattle.std.proofs.lemmas.Bool.{cases_lt, cases_eq, cases_Bool, and_parts, or_cases, le-leb, leb-true, eqb-true, eqb-false, ne_eqb, not-true}
use Rattle.std.proofs.lemmas.List.{append-nil, same_from_push}
use Rattle.std.proofs.lemmas.Str.Parse.{IsNumeralModel, numerals_by_value, tells_all_ascii_digits}
use Rattle.std.proofs.lemmas.Fmt.{decimal_digit, decimal_step, decimal_nonempty, first_decimal, digits_decimal, digits_value-decimal, decimal-digits_value}
use Rattle.lb_text.specs.Numbers.{is_numeral, number_within}

own : IsNumeralModel (λ ds. all_ascii_digits ds ≡ true) (digits_value 10)
own = numerals_by_value (λ ds. all_ascii_digits ds ≡ true) tells_all_ascii_digits

-- a value that is there under a condition
there : (b : Bool) (x y : ℕ) → cond b (Some x) None ≡ Some y → (b ≡ true) × (x ≡ y)
there true x y e = (refl, cc e)
there false x y e = cc e

lone_zero : (text : List ℕ) → (length text == 1 || not (slice_index text 0 == 48)) ≡ true → get_or text 0 0 ≡ 48 → length text ≡ 1
lone_zero text h e = elim (or_cases (length text == 1) (not (slice_index text 0 == 48)) h) [
  | inl one ↦ eqb-true (length text) 1 one
  | inr other ↦ absurd (eqb-false (get_or text 0 0) 48 (not-true (get_or text 0 0 == 48) other) e)
]

-- a numeral is the decimal of its value
pub numeral_decimal : (text : List ℕ) → is_numeral text ≡ true → digits_value 10 text < 2 ^ 64
    → decimal (digits_value 10 text) ≡ text
numeral_decimal text h small =
    let a = and_parts (not (length text == 0) && all_ascii_digits text) (length text == 1 || not (slice_index text 0 == 48)) h in
    let b = and_parts (not (length text == 0)) (all_ascii_digits text) a.0 in
    let some : length text ≡ 0 → ⊥ = eqb-false (length text) 0 (not-true (length text == 0) b.0) in
    decimal-digits_value own text b.1 (omega (arith, some)) (lone_zero text a.1) small

one_digit : (n : ℕ) → n < 2 ^ 64 → (length (decimal n) == 1 || not (slice_index (decimal n) 0 == 48)) ≡ true
one_digit n small = elim (cases_eq n 0) [
  | inl e ↦ rw (e, decimal_digit 0 (omega arith)) refl
  | inr other ↦
      let above : 48 < get_or (decimal n) 0 0 = first_decimal n (omega arith) small in
      let apart : (get_or (decimal n) 0 0 == 48) ≡ false = ne_eqb (get_or (decimal n) 0 0) 48 (λ e. omega (arith, e, above)) in
      elim (cases_Bool (length (decimal n) == 1)) [ inl one ↦ rw one refl | inr more ↦ rw (more, apart) refl ]
]

-- a decimal is a numeral
pub decimal_numeral : (n : ℕ) → n < 2 ^ 64 → is_numeral (decimal n) ≡ true
decimal_numeral n small =
    let some : 0 < length (decimal n) = decimal_nonempty n small in
    rw (ne_eqb (length (decimal n)) 0 (λ e. omega (arith, e, some)), digits_decimal own n small, one_digit n small) refl

-- a text that spells a number is that number in decimal
pub number_spelled : (least most n : ℕ) (text : List ℕ) → most < 2 ^ 64 → number_within least most text ≡ Some n
    → (text ≡ decimal n) × (least ≤ n) × (n ≤ most)
unfolding number_within
number_spelled least most n text small h =
    let v = digits_value 10 text in
    let t = there (is_numeral text && nat_le least v && nat_le v most) v n h in
    let a = and_parts (is_numeral text && nat_le least v) (nat_le v most) t.0 in
    let b = and_parts (is_numeral text) (nat_le least v) a.0 in
    let lo : least ≤ v = leb-true least v b.1 in
    let hi : v ≤ most = leb-true v most a.1 in
    let same : v ≡ n = t.1 in
    (sym (numeral_decimal text b.0 (omega arith)) ∙ ap decimal same, omega arith, omega arith)

-- and each number within the bounds is spelled by its decimal
pub number_decimal : (least most n : ℕ) → n < 2 ^ 64 → least ≤ n → n ≤ most → number_within least most (decimal n) ≡ Some n
unfolding number_within
number_decimal least most n small lo hi =
    rw (digits_value-decimal own n small, decimal_numeral n small, le-leb least n lo, le-leb n most hi) refl

ten_more : (n j v : ℕ) → n / 10 ^ suc j ≡ v → (n / 10) / 10 ^ j ≡ v
ten_more n j v e = div-div-eq-div-mul n 10 (10 ^ j)
    ∙ ap (λ m. n / m) (let p : 10 * 10 ^ j ≡ 10 ^ suc j = omega (arith, pow-suc 10 j) in p) ∙ e

ten_less : (n j : ℕ) → (n / 10 ^ j) / 10 ≡ n / 10 ^ suc j
ten_less n j = div-div-eq-div-mul n (10 ^ j) 10 ∙ ap (λ m. n / m)
    (let p : 10 ^ j * 10 ≡ 10 ^ suc j = omega (arith, pow-suc 10 j) in p)

short : (f : ℕ) (fs : List ℕ) (r : ℕ) (n : ℕ) → n < 2 ^ 64 → (f ∷ fs) ++ r ∷ [] ≡ decimal n → 10 ≤ n
short f fs r n small e = elim (cases_lt n 10) [
  | inl lt ↦
      let len : length ((f ∷ fs) ++ r ∷ []) ≡ 1 = ap length e ∙ ap length (decimal_digit n lt) in
      absurd (omega (arith, len, length-append (f ∷ fs) (r ∷ [])))
  | inr ge ↦ ge
]

-- the front of a decimal is the decimal of the number without as many digits
pub cut_decimal : (rest : List ℕ) (f : ℕ) (fs : List ℕ) (n : ℕ) → n < 2 ^ 64 → (f ∷ fs) ++ rest ≡ decimal n
    → f ∷ fs ≡ decimal (n / 10 ^ length rest)
cut_decimal [] f fs n small e = sym (append-nil (f ∷ fs)) ∙ e ∙ ap decimal (sym (div-one n))
cut_decimal (r ∷ rest) f fs n small e =
    let m = n / 10 ^ length rest in
    let m_small : m < 2 ^ 64 = omega arith in
    let whole : f ∷ (fs ++ r ∷ []) ≡ decimal m =
    cut_decimal rest f (fs ++ r ∷ []) n small (ap (λ t. f ∷ t) (append_assoc fs (r ∷ []) rest) ∙ e) in
    let ten : 10 ≤ m = short f fs r m m_small whole in
    (same_from_push (f ∷ fs) (decimal (m / 10)) r (48 + m % 10) (whole ∙ decimal_step m ten m_small)).0
    ∙ ap decimal (ten_less n (length rest))

big : (n j : ℕ) → 0 < n / 10 ^ suc j → 10 ≤ n
big n j h = elim (cases_lt n 10) [
  | inl lt ↦
      let none : n / 10 ≡ 0 = omega arith in
      let zero_at : (n / 10) / 10 ^ j ≡ 0 = rw none (zero_cut j) in
      absurd (omega (arith, sym (ten_more n j (n / 10 ^ suc j) refl) ∙ zero_at, h))
  | inr ge ↦ ge
]
  where
    zero_cut : (j : ℕ) → 0 / 10 ^ j ≡ 0
    zero_cut j = omega arith

-- a number without some of its last digits begins it
pub front_decimal : (j n v : ℕ) → n < 2 ^ 64 → 0 < v → n / 10 ^ j ≡ v → (rest : List ℕ) × (decimal v ++ rest ≡ decimal n)
front_decimal zero n v small some e = ([], append-nil (decimal v) ∙ ap decimal (sym e ∙ div-one n))
front_decimal (suc j) n v small some e =
    let ten : 10 ≤ n = big n j (omega (arith, some, e)) in
    let f = front_decimal j (n / 10) v (omega arith) some (ten_more n j v e) in
    let c = 48 + n % 10 in
    (f.0 ++ c ∷ [], sym (append_assoc (decimal v) f.0 (c ∷ [])) ∙ ap (λ t. t ++ c ∷ []) f.1 ∙ sym (decimal_step n ten small))

pub decimal_digits : (n : ℕ) → n < 2 ^ 64 → all_ascii_digits (decimal n) ≡ true
decimal_digits n small = digits_decimal own n small
