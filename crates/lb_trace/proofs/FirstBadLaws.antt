-- A refusal names the first bad line and its first code, and an accepted text has no bad line.
-- For the law `first_bad`.
use Rattle.std.proofs.Common.{◌≡◌, ℕ, ◌<◌, true, false, List, length, Ok, Err, refl, sym, ap, subst, ◌∙◌, arith, inl, inr}
use Rattle.std.specs.Prelude.{Result, is_ok}
use Rattle.std.proofs.lemmas.Bool.{cases_lt, cases_order, both_ways}
use Rattle.lb_trace.specs.declared.trace.TheConstants.{MAX_BYTES}
use Rattle.lb_trace.specs.declared.trace.Code.{Code}
use Rattle.lb_trace.specs.declared.trace.Trace.{Trace}
use Rattle.lb_trace.specs.declared.reading.Reading.{Reading}
use Rattle.lb_trace.specs.Grammar.{◌>>=◌, lines_from, nothing_read, trace_of, reading_of}
use Rattle.lb_trace.specs.FirstBad.{lines_of, read_before, tests_at, is_bad, IsFirstCode, IsFirstBad, IsRefusal, HasNoneBad, RefusesFirstBad, AcceptsNoneBad}
use Rattle.lb_trace.proofs.FirstCode.{first_is_bad, one_first}
use Rattle.lb_trace.proofs.TextLength.{refused, read_within, read_past}
use Rattle.lb_trace.proofs.FirstBadLines.{tests_from, IsBadAt, refused_as, refused_at, accepted_at}

tests_same : (lines : List (List ℕ)) (k : ℕ) → tests_at lines k ≡ tests_from nothing_read lines k
unfolding tests_at read_before
tests_same lines k = refl

first_bad : (lines : List (List ℕ)) (n : ℕ) (code : Code) → IsBadAt nothing_read lines n code → IsFirstBad lines n code
unfolding tests_at read_before
first_bad lines n code h =
    let number = h.number in
    record {
      k = h.k;
      number = omega (arith, number);
      within = h.within;
      here = h.here;
      before = h.before;
    }

lines_refused : (lines : List (List ℕ)) (n : ℕ) (code : Code) (o : Result Reading (ℕ × Code))
    → lines_from nothing_read lines ≡ o → (o >>= λ r. Ok (trace_of r)) ≡ Err (n, code) → IsFirstBad lines n code
lines_refused lines n code (Ok s) at e = absurd (cc)
lines_refused lines n code (Err p) at e =
    first_bad lines n code (refused_at nothing_read lines n code (at ∙ ap (refused {A = Reading}) (ap (refused_as p) e)))

lines_accepted : (lines : List (List ℕ)) (t : Trace) (o : Result Reading (ℕ × Code))
    → lines_from nothing_read lines ≡ o → (o >>= λ r. Ok (trace_of r)) ≡ Ok t → (k : ℕ) → k < length lines
    → is_bad (tests_at lines k) ≡ false
lines_accepted lines t (Err p) at e k lt = absurd (cc)
lines_accepted lines t (Ok s) at e k lt = ap is_bad (tests_same lines k) ∙ accepted_at nothing_read s lines at k lt

refusal : (text : List ℕ) (n : ℕ) (code : Code) → reading_of text ≡ Err (n, code) → IsRefusal text n code
refusal text n code e = elim (cases_lt MAX_BYTES (length text)) [
  | inl lt ↦ let same = ap (refused_as (n, code)) (sym e ∙ read_past text lt) in inl (lt, ap (λ p. p.0) same, ap (λ p. p.1) same)
  | inr le ↦ inr (
    le,
    lines_refused (lines_of text) n code (lines_from nothing_read (lines_of text)) refl
        (sym (read_within text le) ∙ e),
  )
]

none_bad : (text : List ℕ) (t : Trace) → reading_of text ≡ Ok t → HasNoneBad text
none_bad text t e = elim (cases_lt MAX_BYTES (length text)) [
  | inl lt ↦ let same = sym e ∙ read_past text lt in absurd (cc)
  | inr le ↦ (le, lines_accepted (lines_of text) t (lines_from nothing_read (lines_of text)) refl (sym (read_within text le) ∙ e))
]

-- ---- there is one refusal, and none of a text without a bad line
bad_line : (lines : List (List ℕ)) (n : ℕ) (code : Code) (h : IsFirstBad lines n code) → is_bad (tests_at lines h.k) ≡ true
bad_line lines n code h = first_is_bad (tests_at lines h.k) code h.here

one_line : (lines : List (List ℕ)) (n m : ℕ) (a b : Code) → IsFirstBad lines n a → IsFirstBad lines m b → (n ≡ m) × (a ≡ b)
one_line lines n m a b first second = elim (cases_order first.k second.k) [
  | inl same ↦ let one = first.number in let two = second.number in (
    omega (arith, same, one, two),
    one_first (tests_at lines second.k) a b
        (subst (λ k. IsFirstCode (tests_at lines k) a) same first.here) second.here,
  )
  | inr other ↦ elim other [
    | inl before ↦ absurd (both_ways _ (second.before first.k before) (bad_line lines n a first))
    | inr after ↦ absurd (both_ways _ (first.before second.k after) (bad_line lines m b second))
  ]
]

one_refusal : (text : List ℕ) (n m : ℕ) (a b : Code) → IsRefusal text n a → IsRefusal text m b → (n ≡ m) × (a ≡ b)
one_refusal text n m a b (inl first) (inl second) = (first.1 ∙ sym second.1, first.2 ∙ sym second.2)
one_refusal text n m a b (inl first) (inr second) = absurd (omega (arith, first.0, second.0))
one_refusal text n m a b (inr first) (inl second) = absurd (omega (arith, first.0, second.0))
one_refusal text n m a b (inr first) (inr second) = one_line (lines_of text) n m a b first.1 second.1

no_refusal : (text : List ℕ) (n : ℕ) (code : Code) → IsRefusal text n code → HasNoneBad text → ⊥
no_refusal text n code (inl long) none = omega (arith, long.0, none.0)
no_refusal text n code (inr h) none = both_ways _ (none.1 h.1.k h.1.within) (bad_line (lines_of text) n code h.1)

-- ---- the laws
is_that : (text : List ℕ) (n : ℕ) (code : Code) (o : Result Trace (ℕ × Code)) → reading_of text ≡ o
    → IsRefusal text n code → o ≡ Err (n, code)
is_that text n code (Ok t) at h = absurd (no_refusal text n code h (none_bad text t at))
is_that text n code (Err p) at h =
    let same = one_refusal text p.0 n p.1 code (refusal text p.0 p.1 at) h in
    ap (λ m. refused (m, p.1)) same.0 ∙ ap (λ c. refused (n, c)) same.1

pub refuses_first_bad : RefusesFirstBad
refuses_first_bad text n code = (refusal text n code, is_that text n code (reading_of text) refl)

is_none_bad : (text : List ℕ) (o : Result Trace (ℕ × Code)) → reading_of text ≡ o → is_ok o ≡ true → HasNoneBad text
is_none_bad text (Ok t) at e = none_bad text t at
is_none_bad text (Err p) at e = absurd (cc)

is_accepted : (text : List ℕ) (o : Result Trace (ℕ × Code)) → reading_of text ≡ o → HasNoneBad text → is_ok o ≡ true
is_accepted text (Ok t) at h = refl
is_accepted text (Err p) at h = absurd (no_refusal text p.0 p.1 (refusal text p.0 p.1 at) h)

pub accepts_none_bad : AcceptsNoneBad
accepts_none_bad text = (is_none_bad text (reading_of text) refl, is_accepted text (reading_of text) refl)
