-- The lists of worked histories are those of a closed book: each ticket stands once, each item fits those before it
-- on its list, and quotes what an earlier one left.
-- For the lemmas of `ClosedLook` and `ClosedStop`, and so for the laws `unpublished_figure` and
-- `closing_before_all_rest`.
use Rattle.std.proofs.Common.{◌≡◌, ℕ, zero, suc, ◌+◌, ◌<◌, ◌≤◌, Bool, true, false, not, ◌&&◌, ◌||◌, eqb, List, [], ◌∷◌, ◌++◌, length, get_or, replicate, refl, sym, ◌∙◌, subst, arith, inl, inr, eq-eqb, ne_eqb, All, true≢false}
use Rattle.std.specs.List.{list_all}
use Rattle.std.proofs.lemmas.Bool.{and_parts, cases_eq, not-true}
use Rattle.lb_core.specs.declared.entry.Entry.{Entry}
use Rattle.lb_core.specs.declared.rule.Rule.{Rule}
use Rattle.lb_core.specs.declared.rule.Rule.TheVariants.{Stage, Row as RowRule, Reply as ReplyRule, Version, Figure, Decision, Pick, Flight, Counters, Owed}
use Rattle.lb_core.specs.Sight.{Sight}
use Rattle.lb_core.specs.Rules.{breaks_here}
use Rattle.lb_core.specs.CourseAfter.{course_after}
use Rattle.lb_ticket.specs.declared.item.Drawn.{Drawn}
use Rattle.lb_ticket.specs.Tickets.{ListsFit, total, same}
use Rattle.lb_journal.specs.Journal.{Journal, Fits, Begins, is_declared, sight_in, CarriesMasks, CarriesFigs, AnswersUse, meaning_of_journal}

-- ---- the rules that an owner's list shows
all_at : {X : Type 0} (p : X → Bool) (xs : List X) (i : ℕ) (d : X) → list_all p xs ≡ true → i < length xs →
    p (get_or xs i d) ≡ true
all_at p [] i d e lt = absurd (omega arith)
all_at p (x ∷ xs) zero d e lt = (and_parts (p x) _ e).0
all_at p (x ∷ xs) (suc i) d e lt = all_at p xs i d (and_parts (p x) _ e).1 (omega arith)

abbrev rules_here : List Rule
rules_here = Stage ∷ RowRule ∷ ReplyRule ∷ Version ∷ Figure ∷ Decision ∷ Pick ∷ Flight ∷ Counters ∷ Owed ∷ []

abbrev pub breaks_none : Sight → Entry → Bool
breaks_none s e = list_all (λ r. not (breaks_here r s e)) rules_here

allowed_at : (s : Sight) (e : Entry) → breaks_none s e ≡ true → (i : ℕ) → i < 10 →
    breaks_here (get_or rules_here i Stage) s e ≡ false
allowed_at s e t i lt = not-true _ (all_at (λ r. not (breaks_here r s e)) rules_here i Stage t lt)

allowed_by : (s : Sight) (e : Entry) → breaks_none s e ≡ true → (rule : Rule) → breaks_here rule s e ≡ false
allowed_by s e t Stage = allowed_at s e t 0 (omega arith)
allowed_by s e t RowRule = allowed_at s e t 1 (omega arith)
allowed_by s e t ReplyRule = allowed_at s e t 2 (omega arith)
allowed_by s e t Version = allowed_at s e t 3 (omega arith)
allowed_by s e t Figure = allowed_at s e t 4 (omega arith)
allowed_by s e t Decision = allowed_at s e t 5 (omega arith)
allowed_by s e t Pick = allowed_at s e t 6 (omega arith)
allowed_by s e t Flight = allowed_at s e t 7 (omega arith)
allowed_by s e t Counters = allowed_at s e t 8 (omega arith)
allowed_by s e t Owed = allowed_at s e t 9 (omega arith)
allowed_by s e t rule = refl

pub fit : (ds : List (ℕ × Journal)) (j : Journal) → All (λ d. d.1.header ≡ j.header) ds →
    is_declared j.header j.entry ≡ true → breaks_none (sight_in ds j) j.entry ≡ true →
    j.after ≡ course_after (sight_in ds j) j.entry → (j.entry.prev ≡ 0 → Begins ds j) →
    CarriesMasks j.entry.what j.masks → CarriesFigs j.entry.what j.figs → AnswersUse j.entry.what ds j → Fits ds j
fit ds j headers declared rules left first masks figs turn = record {
  header = headers;
  declared = declared;
  allowed = allowed_by (sight_in ds j) j.entry rules;
  after = left;
  first = first;
  masks = masks;
  figs = figs;
  turn = turn;
}

pub not_first : (n : ℕ) {A : Type 0} → suc n ≡ 0 → A
not_first n e = absurd (omega arith)

-- ---- owners without entries
pub empties : (log : List Journal) (n k : ℕ) (rest : List (List (Drawn Journal))) →
    ListsFit meaning_of_journal log (k + n) rest → ListsFit meaning_of_journal log k (replicate n [] ++ rest)
empties log zero k rest f = subst (λ (x : ℕ). ListsFit meaning_of_journal log x rest) (omega arith) f
empties log (suc n) k rest f = (
  record { rises = tt; fits = tt; owned = tt },
  tt,
  empties log n (k + 1) rest (subst (λ (x : ℕ). ListsFit meaning_of_journal log x rest) (omega arith) f),
)

-- ---- numbers that differ where they are not 0 stand once
abbrev none_is : ℕ → List ℕ → Bool
none_is q qs = list_all (λ r. not (eqb q r)) qs

abbrev pub are_apart_but_zero : List ℕ → Bool
are_apart_but_zero [] = true
are_apart_but_zero (q ∷ qs) = (eqb q 0 || none_is q qs) && are_apart_but_zero qs

none_hit : (x : ℕ) (qs : List ℕ) → none_is x qs ≡ true → total (λ q. same x q) qs ≡ 0
none_hit x [] e = refl
none_hit x (q ∷ qs) e =
    let s = and_parts (not (eqb x q)) _ e in
    let c : eqb x q ≡ false = not-true (eqb x q) s.0 in
    let rest = none_hit x qs s.1 in rw c (omega arith)

or_second : (a b : Bool) → a || b ≡ true → a ≡ false → b ≡ true
or_second true b e x = absurd (true≢false x)
or_second false b e x = e

pub quoted_once : (x : ℕ) → 0 < x → (qs : List ℕ) → are_apart_but_zero qs ≡ true → total (λ q. same x q) qs ≤ 1
quoted_once x some [] e = omega arith
quoted_once x some (q ∷ qs) e =
    let s = and_parts (eqb q 0 || none_is q qs) _ e in
    elim (cases_eq x q) [
      | inl is ↦
          let c : eqb x q ≡ true = eq-eqb x q is in
          let z : eqb q 0 ≡ false = ne_eqb q 0 (λ o. (let h : x ≡ 0 = is ∙ o in omega arith)) in
          let n : none_is x qs ≡ true = subst (λ (y : ℕ). none_is y qs ≡ true) (sym is) (or_second (eqb q 0) _ s.0 z) in
          let none = none_hit x qs n in
          rw c (omega arith)
      | inr ne ↦ let c : eqb x q ≡ false = ne_eqb x q ne in
          let rest = quoted_once x some qs s.1 in rw c (omega arith)
    ]
