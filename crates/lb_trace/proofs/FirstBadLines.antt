-- Reading line after line stops at the first bad one.
-- For `lines_from`; cited by `lb_read` too.
use Rattle.std.proofs.Common.{◌≡◌, ℕ, zero, suc, ◌+◌, ◌<◌, Bool, true, false, List, [], ◌∷◌, ◌++◌, ◌==◌, cond, length, take, drop, Option, Some, None, Ok, Err, refl, sym, ap, subst, ◌∙◌, arith}
use Rattle.std.specs.Prelude.{Result, fold}
use Rattle.lb_fields.specs.Pieces.{pieces}
use Rattle.lb_trace.specs.declared.trace.Code.{Code}
use Rattle.lb_trace.specs.declared.kind.LineKind.{LineKind}
use Rattle.lb_trace.specs.declared.reading.Reading.{Reading}
use Rattle.lb_trace.specs.Kinds.{line_kind}
use Rattle.lb_trace.specs.Tests.{Tests, byte_tests, kind_tests, line_tests, end_tests}
use Rattle.lb_trace.specs.Grammar.{◌>>=◌, line_at, ended, on_line, lines_from, after_line}
use Rattle.lb_trace.specs.FirstBad.{or_as_before, next_tests, is_bad, IsFirstCode}
use Rattle.lb_trace.proofs.FirstCode.{passes, first_code}

-- what was read before line k, and that line's tests, from what was read before the first
abbrev pub read_from : Reading → List (List ℕ) → ℕ → Reading
read_from r lines k = fold (λ s line. or_as_before s (line_at s false line)) r (take k lines)

abbrev pub tests_from : Reading → List (List ℕ) → ℕ → Tests
tests_from r lines k = next_tests (read_from r lines k) (drop k lines)

-- line k after what was read is the first bad one
pub record IsBadAt (r : Reading) (lines : List (List ℕ)) (n : ℕ) (code : Code) : Type 0 where
  pub k : ℕ
  pub number : n ≡ r.line + k
  pub within : k < length lines
  pub here : IsFirstCode (tests_from r lines k) code
  pub before : (j : ℕ) → j < k → is_bad (tests_from r lines j) ≡ false

-- a line of no kind is bad
some_test : (before after : Tests) → is_bad after ≡ true → is_bad (before ++ after) ≡ true
some_test [] after bad = bad
some_test ((true, code) ∷ before) after bad = refl
some_test ((false, code) ∷ before) after bad = some_test before after bad

next_line : (r : Reading) (tests : Tests) (kind : Option LineKind) (fields : List (List ℕ))
    → is_bad (tests ++ kind_tests r kind fields) ≡ false → (after_line r kind fields).line ≡ r.line + 1
unfolding kind_tests
next_line r tests None fields good = absurd (cc (some_test tests (kind_tests r None fields) refl))
next_line r tests (Some kind) fields good = refl

-- a good line is one more
pub line_good : (r s : Reading) (cut : Bool) (line : List ℕ) → line_at r cut line ≡ Ok s → is_bad (line_tests r cut line) ≡ false
unfolding line_at
line_good r s cut line e = (passes (line_tests r cut line) _ s e).good

pub line_next : (r s : Reading) (line : List ℕ) → line_at r false line ≡ Ok s → s.line ≡ r.line + 1
unfolding line_at line_tests
line_next r s line e =
    let fields = pieces 44 line in
    let h = passes (line_tests r false line) (after_line r (line_kind fields) fields) s e in
    ap (λ (t : Reading). t.line) h.same ∙ next_line r (byte_tests r false line) (line_kind fields) fields h.good

pub line_bad : (r : Reading) (cut : Bool) (line : List ℕ) (code : Code) → line_at r cut line ≡ Err code
    → IsFirstCode (line_tests r cut line) code
unfolding line_at
line_bad r cut line code e = first_code (line_tests r cut line) _ code e

-- the end of a text, or a line that is cut off there
abbrev last_line : Reading → List ℕ → Result Reading Code
last_line r last = cond (length last == 0) (ended r) (line_at r true last)

last_good : (r s : Reading) (last : List ℕ) → last_line r last ≡ Ok s → is_bad (next_tests r (last ∷ [])) ≡ false
unfolding ended
last_good r s last =
    elim (length last == 0) as (λ b. cond b (ended r) (line_at r true last) ≡ Ok s
    → is_bad (cond b (end_tests r) (line_tests r true last)) ≡ false) [
      | true ↦ λ e. (passes (end_tests r) r s e).good
      | false ↦ λ e. line_good r s true last e
    ]

last_bad : (r : Reading) (last : List ℕ) (code : Code) → last_line r last ≡ Err code → IsFirstCode (next_tests r (last ∷ [])) code
unfolding ended
last_bad r last code =
    elim (length last == 0) as (λ b. cond b (ended r) (line_at r true last) ≡ Err code
    → IsFirstCode (cond b (end_tests r) (line_tests r true last)) code) [
      | true ↦ λ e. first_code (end_tests r) r code e
      | false ↦ λ e. line_bad r true last code e
    ]

-- a line later, where the first one is good
later : (r s : Reading) (line next : List ℕ) (more : List (List ℕ)) (k : ℕ) → line_at r false line ≡ Ok s
    → tests_from r (line ∷ next ∷ more) (suc k) ≡ tests_from s (next ∷ more) k
later r s line next more k e = ap (λ o. tests_from (or_as_before r o) (next ∷ more) k) e

-- ---- a whole text
-- the line and the code of a refusal
abbrev pub refused_as : {A : Type 0} → ℕ × Code → Result A (ℕ × Code) → ℕ × Code
refused_as other (Ok a) = other
refused_as other (Err p) = p

bad_here : (r : Reading) (lines : List (List ℕ)) (n m : ℕ) (code other : Code) → 0 < length lines
    → IsFirstCode (tests_from r lines 0) other → m ≡ r.line → on_line {A = Reading} m (Err other) ≡ Err (n, code)
    → IsBadAt r lines n code
bad_here r lines n m code other some first at e =
    let same = ap (refused_as (n, code)) e in
    let number = ap (λ p. p.0) same in
    record {
      k = 0;
      number = omega (arith, number, at);
      within = some;
      here = subst (IsFirstCode (tests_from r lines 0)) (ap (λ p. p.1) same) first;
      before = λ j lt. absurd (omega (arith, lt));
    }

on_last : (r : Reading) (last : List ℕ) (n : ℕ) (code : Code) (o : Result Reading Code) → last_line r last ≡ o
    → on_line r.line o ≡ Err (n, code) → IsBadAt r (last ∷ []) n code
on_last r last n code (Ok s) at e = absurd (cc)
on_last r last n code (Err other) at e = bad_here r (last ∷ []) n r.line code other (omega arith)
    (last_bad r last other at) refl e

on_more : (r : Reading) (line next : List ℕ) (more : List (List ℕ)) (n : ℕ) (code : Code) (o : Result Reading Code)
    → line_at r false line ≡ o
    → ((s : Reading) → lines_from s (next ∷ more) ≡ Err (n, code) → IsBadAt s (next ∷ more) n code)
    → (on_line r.line o >>= λ s. lines_from s (next ∷ more)) ≡ Err (n, code) → IsBadAt r (line ∷ next ∷ more) n code
on_more r line next more n code (Err other) at rest e =
    bad_here r (line ∷ next ∷ more) n r.line code other (omega arith) (line_bad r false line other at) refl e
on_more r line next more n code (Ok s) at rest e =
    let found = rest s e in
    let up = line_next r s line at in
    let number = found.number in
    let within = found.within in
    record {
      k = suc found.k;
      number = omega (arith, up, number);
      within = omega (arith, within);
      here = subst (λ tests. IsFirstCode tests code) (sym (later r s line next more found.k at)) found.here;
      before = before r s line next more found.k at found.before;
    }
  where
    before : (r s : Reading) (line next : List ℕ) (more : List (List ℕ)) (k : ℕ) → line_at r false line ≡ Ok s
        → ((j : ℕ) → j < k → is_bad (tests_from s (next ∷ more) j) ≡ false) → (j : ℕ) → j < suc k
        → is_bad (tests_from r (line ∷ next ∷ more) j) ≡ false
    before r s line next more k at rest zero lt = line_good r s false line at
    before r s line next more k at rest (suc j) lt = ap is_bad (later r s line next more j at) ∙ rest j (omega (arith, lt))

pub refused_at : (r : Reading) (lines : List (List ℕ)) (n : ℕ) (code : Code) → lines_from r lines ≡ Err (n, code)
    → IsBadAt r lines n code
unfolding lines_from
refused_at r [] n code e = absurd (cc)
refused_at r (last ∷ []) n code e = on_last r last n code (last_line r last) refl e
refused_at r (line ∷ next ∷ more) n code e =
    on_more r line next more n code (line_at r false line) refl (λ s. refused_at s (next ∷ more) n code) e

good_last : (r s : Reading) (last : List ℕ) (o : Result Reading Code) → last_line r last ≡ o → on_line r.line o ≡ Ok s
    → (k : ℕ) → k < 1 → is_bad (tests_from r (last ∷ []) k) ≡ false
good_last r s last (Err code) at e k lt = absurd (cc)
good_last r s last (Ok t) at e zero lt = last_good r t last at
good_last r s last (Ok t) at e (suc k) lt = absurd (omega (arith, lt))

good_more : (r s : Reading) (line next : List ℕ) (more : List (List ℕ)) (o : Result Reading Code) → line_at r false line ≡ o
    → ((t : Reading) → lines_from t (next ∷ more) ≡ Ok s → (k : ℕ) → k < length (next ∷ more)
    → is_bad (tests_from t (next ∷ more) k) ≡ false)
    → (on_line r.line o >>= λ t. lines_from t (next ∷ more)) ≡ Ok s → (k : ℕ) → k < length (line ∷ next ∷ more)
    → is_bad (tests_from r (line ∷ next ∷ more) k) ≡ false
good_more r s line next more (Err code) at rest e k lt = absurd (cc)
good_more r s line next more (Ok t) at rest e zero lt = line_good r t false line at
good_more r s line next more (Ok t) at rest e (suc k) lt = ap is_bad (later r t line next more k at) ∙ rest t e k
    (omega (arith, lt))

pub accepted_at : (r s : Reading) (lines : List (List ℕ)) → lines_from r lines ≡ Ok s → (k : ℕ) → k < length lines
    → is_bad (tests_from r lines k) ≡ false
unfolding lines_from
accepted_at r s [] e k lt = absurd (omega (arith, lt))
accepted_at r s (last ∷ []) e k lt = good_last r s last (last_line r last) refl e k lt
accepted_at r s (line ∷ next ∷ more) e k lt =
    good_more r s line next more (line_at r false line) refl (λ t. accepted_at t s (next ∷ more)) e k lt
