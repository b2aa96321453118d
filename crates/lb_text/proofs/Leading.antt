-- Which numbers begin with the digits of another: those that are that number once some of their last
-- digits are cut off.
-- For `with_leading_digit` and `leads`.
use Rattle.std.proofs.Common.{◌&&◌, not, leb, eqb, cond, false, MatchOption, ◌%◌, length-append, ◌≡◌, ℕ, ◌+◌, ◌-◌, ◌*◌, ◌/◌, ◌^◌, ◌<◌, ◌≤◌, Bool, true, max, List, [], ◌∷◌, ◌++◌, length, get_or, Option, Some, None, refl, sym, ap, ◌∙◌, inl, inr, arith, below_more, subst}
use Rattle.std.specs.Prelude.{decimal, is_some}
use Rattle.std.proofs.Math.Nat.{div-div-eq-div-mul, div-mul-le_self, div-eq_of_lt-le, div-lt_iff_lt-mul, one-le-pow, div-one}
use Rattle.std.proofs.lemmas.Nat.{le-div, pow-add, mul-le}
use Rattle.std.proofs.lemmas.Bool.{cases_lt, and_from, and_parts, both_ways, leb-true, le-leb, eqb-false, not-true, ne_eqb}
use Rattle.std.proofs.lemmas.List.{append-nil, same_from_push}
use Rattle.std.proofs.lemmas.Fmt.{decimal_nonempty, decimal_injective, decimal_digit, decimal_step, first_decimal}
use Rattle.lb_text.specs.Numbers.{number_within, is_number}
use Rattle.lb_text.specs.Prefixes.{CanGoOn}
use Rattle.lb_text.specs.Scan.{Spelled, number_with}
use Rattle.std.specs.Char.{is_ascii_digit}
use Rattle.lb_text.proofs.Digits.{number_spelled, number_decimal, cut_decimal, front_decimal}

ten_pos : (j : ℕ) → 0 < 10 ^ j
ten_pos j = let h : 1 ≤ 10 ^ j = one-le-pow j 10 (omega arith) in omega arith

-- dividing keeps the order
cut_le : (a b k : ℕ) → 0 < k → a ≤ b → a / k ≤ b / k
cut_le a b k some le = le-div (a / k) b k some (omega (arith, div-mul-le_self a k))

-- more digits cut off leave less
cut_more : (n j d : ℕ) → n / 10 ^ (j + d) ≤ n / 10 ^ j
cut_more n j d =
    let e : (n / 10 ^ j) / 10 ^ d ≡ n / 10 ^ (j + d) = div-div-eq-div-mul n (10 ^ j) (10 ^ d) ∙ ap (λ m. n / m)
    (sym (pow-add 10 j d)) in
    omega arith

pub some_there : (o : Option ℕ) → is_some o ≡ true → (n : ℕ) × (o ≡ Some n)
some_there None e = cc e
some_there (Some n) e = (n, refl)

-- a number within bounds that begins with the digits of another
pub record Begins (least most value : ℕ) : Type 0 where
  pub number : ℕ
  pub rest : List ℕ
  pub low : least ≤ number
  pub high : number ≤ most
  pub cut : value ≡ number / 10 ^ length rest
  pub spelled : decimal value ++ rest ≡ decimal number

cut_some : (text rest : List ℕ) (n : ℕ) → n < 2 ^ 64 → 0 < length text → text ++ rest ≡ decimal n
    → text ≡ decimal (n / 10 ^ length rest)
cut_some [] rest n small some whole = absurd (omega (arith, some))
cut_some (f ∷ fs) rest n small some whole = cut_decimal rest f fs n small whole

pub begins_from : (least most value : ℕ) → most < 2 ^ 64 → value < 2 ^ 64
    → CanGoOn (is_number least most) (decimal value) → Begins least most value
begins_from least most value small fits go =
    let some = some_there (number_within least most (decimal value ++ go.0)) go.1 in
    let s = number_spelled least most some.0 (decimal value ++ go.0) small some.1 in
    let n_small : some.0 < 2 ^ 64 = omega (arith, s.2) in
    let cut = cut_some (decimal value) go.0 some.0 n_small (decimal_nonempty value fits) s.0 in
    record {
      number = some.0;
      rest = go.0;
      low = s.1;
      high = s.2;
      cut = decimal_injective value (some.0 / 10 ^ length go.0) fits (omega arith) cut;
      spelled = s.0;
    }

-- such a number is there, since the bounds cut by some number of digits are around the value
pub leads_there : (least most value j : ℕ) → most < 2 ^ 64 → least ≤ most → 0 < value → least / 10 ^ j ≤ value
    → value ≤ most / 10 ^ j → CanGoOn (is_number least most) (decimal value)
leads_there least most value j small le some lo hi =
    let k = 10 ^ j in
    let k_pos : 0 < k = ten_pos j in
    let n = max least (value * k) in
    let under : value * k ≤ most = omega (arith, mul-le value k (most / k) k hi (omega arith), div-mul-le_self most k) in
    let above : least < (value + 1) * k = (div-lt_iff_lt-mul k_pos).0 (omega arith) in
    let n_low : least ≤ n = omega arith in
    let n_high : n ≤ most = omega arith in
    let cut : n / k ≡ value = div-eq_of_lt-le k (omega arith) (omega arith) in
    let n_small : n < 2 ^ 64 = omega (arith, n_high, small) in
    let f = front_decimal j n value n_small some cut in
    (f.0, ap (λ t. is_some (number_within least most t)) f.1 ∙ ap is_some (number_decimal least most n n_small n_low n_high))

-- where the bounds were cut as little as they need to be, there is no other way
pub leads_only : (least most value j : ℕ) → Begins least most value → ((i : ℕ) → i < j → value < least / 10 ^ i)
    → value ≤ most / 10 ^ j
leads_only least most value j b below =
    let i = length b.rest in
    let n = b.number in
    elim (cases_lt i j) [
      | inl lt ↦
          let less : value < least / 10 ^ i = below i lt in
          let no_more : least / 10 ^ i ≤ n / 10 ^ i = cut_le least n (10 ^ i) (ten_pos i) b.low in
          let same : value ≡ n / 10 ^ i = b.cut in
          absurd (omega arith)
      | inr ge ↦
          let at : j + (i - j) ≡ i = omega arith in
          let less : n / 10 ^ i ≤ n / 10 ^ j = rw at at (cut_more n j (i - j)) in
          let no_more : n / 10 ^ j ≤ most / 10 ^ j = cut_le n most (10 ^ j) (ten_pos j) b.high in
          let same : value ≡ n / 10 ^ i = b.cut in
          omega arith
    ]

-- 0 begins itself alone
pub zero_leads : (least most : ℕ) → least ≤ most → least ≡ 0 → CanGoOn (is_number least most) (decimal 0)
zero_leads least most le none = (
  [],
  ap (λ t. is_some (number_within least most t)) (append-nil (decimal 0))
      ∙ ap is_some (number_decimal least most 0 (omega arith) (omega arith) (omega arith)),
)

pub zero_leads_only : (least most : ℕ) → Begins least most 0 → most < 2 ^ 64 → least ≡ 0
zero_leads_only least most b small = elim (cases_lt 0 b.number) [
  | inl some ↦
      let first : get_or (decimal b.number) 0 0 ≡ 48 =
      ap (λ t. get_or t 0 0) (sym b.spelled ∙ ap (λ t. t ++ b.rest) (decimal_digit 0 (omega arith))) in
      absurd (omega (arith, first, first_decimal b.number some (omega (arith, b.high))))
  | inr none ↦ omega (arith, b.low)
]

-- both bounds without some of their last digits; with one digit less cut off, the lower one is above
-- the value
pub record IsCut (least most value low high : ℕ) : Type 0 where
  pub some : 0 < value
  pub digits : ℕ
  pub low_cut : low ≡ least / 10 ^ digits
  pub high_cut : high ≡ most / 10 ^ digits
  pub above : (i : ℕ) → i < digits → value < least / 10 ^ i

pub cut_none : (least most value : ℕ) → 0 < value → IsCut least most value least most
cut_none least most value some = record {
  some = some;
  digits = 0;
  low_cut = sym (div-one least);
  high_cut = sym (div-one most);
  above = λ i lt. absurd (omega (arith, lt));
}

cut_one_more : (n j : ℕ) → n / 10 ^ j / 10 ≡ n / 10 ^ (j + 1)
cut_one_more n j = div-div-eq-div-mul n (10 ^ j) 10 ∙ ap (λ m. n / m) (sym (pow-add 10 j 1))

pub cut_more_of : (least most value low high : ℕ) → IsCut least most value low high → value < low
    → IsCut least most value (low / 10) (high / 10)
cut_more_of least most value low high c lt = record {
  some = c.some;
  digits = c.digits + 1;
  low_cut = ap (λ n. n / 10) c.low_cut ∙ cut_one_more least c.digits;
  high_cut = ap (λ n. n / 10) c.high_cut ∙ cut_one_more most c.digits;
  above = below_more _ _ c.above (rw c.low_cut at lt);
}

pub cut_leads : (least most value low high : ℕ) → most < 2 ^ 64 → value < 2 ^ 64 → least ≤ most
    → IsCut least most value low high → low ≤ value
    → (value ≤ high → CanGoOn (is_number least most) (decimal value)) ×
    (CanGoOn (is_number least most) (decimal value) → value ≤ high)
cut_leads least most value low high small fits le c under = (
  λ yes. leads_there least most value c.digits small le c.some (rw c.low_cut at under) (rw c.high_cut at yes),
  λ go. rw c.high_cut (leads_only least most value c.digits (begins_from least most value small fits go) c.above),
)

-- a digit that a number has after others
pub digit_after : (least most v b : ℕ) → most < 2 ^ 64 → v < 2 ^ 64
    → CanGoOn (is_number least most) (decimal v ++ b ∷ []) → (0 < v) × (48 ≤ b) × (b ≤ 57) × (v * 10 + (b - 48) ≤ most)
digit_after least most v b small fits go =
    let some = some_there (number_within least most ((decimal v ++ b ∷ []) ++ go.0)) go.1 in
    let n = some.0 in
    let s = number_spelled least most n ((decimal v ++ b ∷ []) ++ go.0) small some.1 in
    let n_small : n < 2 ^ 64 = omega (arith, s.2) in
    let m = n / 10 ^ length go.0 in
    let m_small : m < 2 ^ 64 = omega (arith, n_small) in
    let m_most : m ≤ most = omega (arith, s.2) in
    let m_is : decimal v ++ b ∷ [] ≡ decimal m =
    cut_some (decimal v ++ b ∷ []) go.0 n n_small (omega (arith, length-append (decimal v) (b ∷ []))) s.0 in
    let ten : 10 ≤ m = elim (cases_lt m 10) [
      | inl lt ↦ absurd (omega (
        arith,
        ap length m_is
            ∙ ap length (decimal_digit m lt),
        length-append (decimal v) (b ∷ []),
        decimal_nonempty v fits,
      ))
      | inr ge ↦ ge
    ] in
    let pieces = same_from_push (decimal v) (decimal (m / 10)) b (48 + m % 10) (m_is ∙ decimal_step m ten m_small) in
    let same : v ≡ m / 10 = decimal_injective v (m / 10) fits (omega (arith, m_small)) pieces.0 in
    let last : b ≡ 48 + m % 10 = pieces.1 in
    (omega (arith, same, ten), omega (arith, last), omega (arith, last), omega (arith, same, last, m_most))

-- and its first digit
pub digit_first : (least most b : ℕ) → most < 2 ^ 64 → CanGoOn (is_number least most) (b ∷ [])
    → (48 ≤ b) × (b ≤ 57) × (b - 48 ≤ most)
digit_first least most b small go =
    let some = some_there (number_within least most ((b ∷ []) ++ go.0)) go.1 in
    let n = some.0 in
    let s = number_spelled least most n ((b ∷ []) ++ go.0) small some.1 in
    let n_small : n < 2 ^ 64 = omega (arith, s.2) in
    let m = n / 10 ^ length go.0 in
    let m_small : m < 2 ^ 64 = omega (arith, n_small) in
    let m_most : m ≤ most = omega (arith, s.2) in
    let m_is : b ∷ [] ≡ decimal m = cut_some (b ∷ []) go.0 n n_small (omega arith) s.0 in
    let one : m < 10 = elim (cases_lt m 10) [
      | inl lt ↦ lt
      | inr ge ↦ absurd (omega (
        arith,
        ap length m_is
            ∙ ap length (decimal_step m ge m_small),
        length-append (decimal (m / 10))
            ((48 + m % 10) ∷ []),
        decimal_nonempty (m / 10) (omega (arith, m_small)),
      ))
    ] in
    let first : b ≡ 48 + m = ap (λ t. get_or t 0 0) (m_is ∙ decimal_digit m one) in
    (omega (arith, first), omega (arith, first, one), omega (arith, first, m_most))

-- a digit more
pub digit_more : (v b : ℕ) → 0 < v → 48 ≤ b → b ≤ 57 → v * 10 + (b - 48) < 2 ^ 64 → decimal v ++ b ∷ [] ≡ decimal
    (v * 10 + (b - 48))
digit_more v b some lo hi small =
    let n = v * 10 + (b - 48) in
    let front : n / 10 ≡ v = omega arith in
    let last : 48 + n % 10 ≡ b = omega arith in
    sym (decimal_step n (omega arith) small ∙ ap (λ t. decimal t ++ (48 + n % 10) ∷ []) front ∙ ap
    (λ d. decimal v ++ d ∷ []) last)

pub one_digit_is : (b : ℕ) → 48 ≤ b → b ≤ 57 → b ∷ [] ≡ decimal (b - 48)
one_digit_is b lo hi = ap (λ d. d ∷ []) (let e : b ≡ 48 + (b - 48) = omega arith in e) ∙ sym
    (decimal_digit (b - 48) (omega arith))

is_digit : (b : ℕ) → 48 ≤ b → b ≤ 57 → is_ascii_digit b ≡ true
is_digit b lo hi = and_from (leb 48 b) (leb b 57) (le-leb 48 b lo) (le-leb b 57 hi)

digit_is : (b : ℕ) → is_ascii_digit b ≡ true → (48 ≤ b) × (b ≤ 57)
digit_is b h = let p = and_parts (leb 48 b) (leb b 57) h in (leb-true 48 b p.0, leb-true b 57 p.1)

-- what the number with a byte more says of the text with that byte more
abbrev pub GoesOn : ℕ → List ℕ → Option ℕ → Type 0
GoesOn most text o = MatchOption o ((least : ℕ) → CanGoOn (is_number least most) text → ⊥) (λ n. Spelled (Some n) text)

first_goes_on : (most b : ℕ) (t : Bool) → most < 2 ^ 64 → (is_ascii_digit b && leb (b - 48) most) ≡ t
    → GoesOn most (b ∷ []) (cond t (Some (b - 48)) None)
first_goes_on most b true small e =
    let p = and_parts (is_ascii_digit b) (leb (b - 48) most) e in
    let d = digit_is b p.0 in
    let within : b - 48 ≤ most = leb-true (b - 48) most p.1 in
    (one_digit_is b d.0 d.1, omega (arith, within, small))
first_goes_on most b false small e = λ least go.
    let d = digit_first least most b small go in
    both_ways (is_ascii_digit b && leb (b - 48) most) e
    (and_from (is_ascii_digit b) (leb (b - 48) most) (is_digit b d.0 d.1) (le-leb (b - 48) most d.2))

more_goes_on : (most v b : ℕ) (t : Bool) → most < 2 ^ 64 → v < 2 ^ 64
    → (is_ascii_digit b && not (eqb v 0) && leb (v * 10 + (b - 48)) most) ≡ t
    → GoesOn most (decimal v ++ b ∷ []) (cond t (Some (v * 10 + (b - 48))) None)
more_goes_on most v b true small fits e =
    let next = v * 10 + (b - 48) in
    let p = and_parts (is_ascii_digit b && not (eqb v 0)) (leb next most) e in
    let q = and_parts (is_ascii_digit b) (not (eqb v 0)) p.0 in
    let d = digit_is b q.0 in
    let within : next ≤ most = leb-true next most p.1 in
    let some : v ≡ 0 → ⊥ = eqb-false v 0 (not-true (eqb v 0) q.1) in
    (digit_more v b (omega (arith, some)) d.0 d.1 (omega (arith, within, small)), omega (arith, within, small))
more_goes_on most v b false small fits e = λ least go.
    let next = v * 10 + (b - 48) in
    let d = digit_after least most v b small fits go in
    let some : not (eqb v 0) ≡ true = ap not (ne_eqb v 0 (λ z. omega (arith, z, d.0))) in
    both_ways (is_ascii_digit b && not (eqb v 0) && leb next most) e
    (and_from (is_ascii_digit b && not (eqb v 0)) (leb next most)
    (and_from (is_ascii_digit b) (not (eqb v 0)) (is_digit b d.1 d.2) some) (le-leb next most d.3))

pub goes_on_with : (most : ℕ) (so_far : Option ℕ) (text : List ℕ) (b : ℕ) → most < 2 ^ 64 → Spelled so_far text
    → GoesOn most (text ++ b ∷ []) (number_with most so_far b)
goes_on_with most None text b small s =
    subst (λ (t : List ℕ). GoesOn most (t ++ b ∷ []) (number_with most None b)) (sym s)
    (first_goes_on most b (is_ascii_digit b && leb (b - 48) most) small refl)
goes_on_with most (Some v) text b small s =
    subst (λ (t : List ℕ). GoesOn most (t ++ b ∷ []) (number_with most (Some v) b)) (sym s.0)
    (more_goes_on most v b (is_ascii_digit b && not (eqb v 0) && leb (v * 10 + (b - 48)) most) small s.1 refl)
