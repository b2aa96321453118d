-- Texts that begin accepted ones, and what is known of a number of which a front was read.
-- For `number_within`.
use Rattle.std.proofs.Common.{◌≡◌, ℕ, ◌+◌, ◌-◌, ◌<◌, ◌≤◌, ◌^◌, Bool, true, List, [], ◌∷◌, ◌++◌, length, get_or, take, drop, Option, Some, None, refl, sym, ap, subst, ◌∙◌, arith, below_more}
use Rattle.std.specs.Prelude.{decimal, is_some}
use Rattle.std.proofs.lemmas.List.{append_assoc, take-append-drop, take_more, take_all}
use Rattle.lb_text.specs.Numbers.{number_within, is_number}
use Rattle.lb_text.specs.Prefixes.{CanGoOn, IsFirstBad}
use Rattle.lb_text.specs.Scan.{Spelled}
use Rattle.lb_text.proofs.Digits.{number_spelled, number_decimal}
use Rattle.lb_text.proofs.Leading.{begins_from}
use Rattle.std.proofs.lemmas.Fmt.{decimal_injective, decimal_nonempty}

-- a front of a text that begins an accepted one does so too
pub front_goes_on : (accepts : List ℕ → Bool) (front rest : List ℕ) → CanGoOn accepts (front ++ rest) → CanGoOn accepts front
front_goes_on accepts front rest go = (rest ++ go.0, ap accepts (sym (append_assoc front rest go.0)) ∙ go.1)

-- an accepted text goes on from each of its fronts
pub accepted_goes_on : (accepts : List ℕ → Bool) (text : List ℕ) (n : ℕ) → accepts text ≡ true → CanGoOn accepts (take n text)
accepted_goes_on accepts text n e = (drop n text, ap accepts (take-append-drop n text) ∙ e)

none_there : (o : Option ℕ) → ((n : ℕ) → o ≡ Some n → ⊥) → o ≡ None
none_there None h = refl
none_there (Some n) h = absurd (h n refl)

-- the front of a text up to a place was read, and begins numbers within bounds
pub record IsRead (least most : ℕ) (text : List ℕ) (at : ℕ) (value : Option ℕ) : Type 0 where
  pub spelled : Spelled value (take at text)
  pub before : (k : ℕ) → k < at → CanGoOn (is_number least most) (take (k + 1) text)

pub read_none : (least most : ℕ) (text : List ℕ) → IsRead least most text 0 None
read_none least most text = record { spelled = refl; before = λ k lt. absurd (omega (arith, lt)) }

pub read_more : (least most : ℕ) (text : List ℕ) (at n : ℕ) (value : Option ℕ) → at < length text
    → IsRead least most text at value
    → Spelled (Some n) (take at text ++ get_or text at 0 ∷ [])
    → CanGoOn (is_number least most) (take at text ++ get_or text at 0 ∷ []) → IsRead least most text (at + 1) (Some n)
read_more least most text at n value lt r s go =
    let whole : take at text ++ get_or text at 0 ∷ [] ≡ take (at + 1) text = sym (take_more text at 0 lt) in record {
      spelled = subst (λ (t : List ℕ). Spelled (Some n) t) whole s;
      before = below_more _ _ r.before (subst (λ (t : List ℕ). CanGoOn (is_number least most) t) whole go);
    }

-- a byte that no number has there
pub read_bad : (least most : ℕ) (text : List ℕ) (at : ℕ) (value : Option ℕ) → at < length text → IsRead least most text at value
    → (CanGoOn (is_number least most) (take at text ++ get_or text at 0 ∷ []) → ⊥)
    → (number_within least most text ≡ None) × IsFirstBad (is_number least most) text at
read_bad least most text at value lt r bad =
    let whole : take at text ++ get_or text at 0 ∷ [] ≡ take (at + 1) text = sym (take_more text at 0 lt) in
    let here : CanGoOn (is_number least most) (take (at + 1) text) → ⊥ =
    λ go. bad (subst (λ (t : List ℕ). CanGoOn (is_number least most) t) (sym whole) go) in (
      none_there (number_within least most text)
          (λ n some. here (accepted_goes_on (is_number least most) text (at + 1) (ap is_some some))),
      record { within = omega arith; before = r.before; here = λ _. here },
    )

-- the whole text was read
pub read_ends : (least most : ℕ) (text : List ℕ) (at : ℕ) (value : Option ℕ) → length text ≤ at → at ≤ length text
    → IsRead least most text at value → IsFirstBad (is_number least most) text (length text)
read_ends least most text at value ge le r = record {
  within = omega arith;
  before = λ k lt. r.before k (omega arith);
  here = λ lt. absurd (omega (arith, lt));
}

all_spelled : (least most : ℕ) (text : List ℕ) (at : ℕ) (value o : Option ℕ) → length text ≤ at → value ≡ o
    → IsRead least most text at value → Spelled o text
all_spelled least most text at value o ge e r =
    subst (λ (t : List ℕ). Spelled o t) (take_all at text ge) (subst (λ (v : Option ℕ). Spelled v (take at text)) e r.spelled)

nothing : (least most : ℕ) → number_within least most [] ≡ None
unfolding number_within
nothing least most = refl

pub read_empty : (least most : ℕ) (text : List ℕ) (at : ℕ) (value : Option ℕ) → length text ≤ at → value ≡ None
    → IsRead least most text at value → number_within least most text ≡ None
read_empty least most text at value ge e r =
    ap (number_within least most) (all_spelled least most text at value None ge e r) ∙ nothing least most

pub read_small : (least most : ℕ) (text : List ℕ) (at n : ℕ) (value : Option ℕ) → most < 2 ^ 64 → length text ≤ at
    → value ≡ Some n → IsRead least most text at value → n < least → number_within least most text ≡ None
read_small least most text at n value small ge e r less =
    let is = all_spelled least most text at value (Some n) ge e r in
    none_there (number_within least most text) (λ m some.
    let s = number_spelled least most m text small some in
    let same : n ≡ m = decimal_injective n m is.1 (omega (arith, s.2, small)) (sym is.0 ∙ s.0) in
    omega (arith, same, s.1, less))

pub read_whole : (least most : ℕ) (text : List ℕ) (at n : ℕ) (value : Option ℕ) → most < 2 ^ 64 → length text ≤ at
    → at ≤ length text → value ≡ Some n → IsRead least most text at value → least ≤ n → number_within least most text ≡ Some n
read_whole least most text at n value small ge le e r low =
    let is = all_spelled least most text at value (Some n) ge e r in
    let some : 0 < length text = rw is.0 (decimal_nonempty n is.1) in
    let all : take (length text - 1 + 1) text ≡ text = take_all (length text - 1 + 1) text (omega (arith, some)) in
    let go : CanGoOn (is_number least most) (decimal n) =
    subst (λ (t : List ℕ). CanGoOn (is_number least most) t) (all ∙ is.0) (r.before (length text - 1) (omega (arith, some))) in
    let b = begins_from least most n small is.1 go in
    let high : n ≤ most = omega (arith, b.cut, b.high) in
    ap (number_within least most) is.0 ∙ number_decimal least most n is.1 low high
