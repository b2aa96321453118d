-- The runs of a mask, from a CPU on, and the text that they make.
-- For `put_list` and `put_runs`.
use Rattle.std.proofs.Common.{◌≡◌, ℕ, zero, suc, ◌+◌, ◌-◌, ◌<◌, ◌≤◌, true, false, eqb, List, [], ◌∷◌, ◌++◌, length, take, map, Option, Some, None, MatchOption, refl, sym, ap, subst, ◌∙◌, inl, inr, arith}
use Rattle.std.specs.Prelude.{filter, is_some}
use Rattle.std.specs.List.{range_with_len, join_with_byte}
use Rattle.std.proofs.lemmas.Bool.{cases_Bool, cases_lt, ne_eqb, eq-eqb, false_from_ne_true}
use Rattle.std.proofs.lemmas.List.{append-nil, append_assoc, take_all, take-append-le, length-take}
use Rattle.lb_base.specs.declared.mask.Mask.{Mask}
use Rattle.lb_base.specs.declared.mask.TheConstants.{MAX_CPUS}
use Rattle.lb_base.specs.Mask.{has, members, members_below, HasNoneFrom, IsFirstFrom}
use Rattle.lb_text.specs.Lists.{Run}
use Rattle.lb_text.specs.Runs.{onto_run, runs_of, run_text, runs_text, list_text}
use Rattle.lb_base.specs.Sets.{least}

-- the CPUs of the mask among w from c on
abbrev pub among : Mask → ℕ → ℕ → List ℕ
among m c w = filter (has m) (range_with_len c w)

pub among_yes : (m : Mask) (c w : ℕ) → has m c ≡ true → among m c (suc w) ≡ c ∷ among m (c + 1) w
among_yes m c w e = rw e refl

pub among_no : (m : Mask) (c w : ℕ) → has m c ≡ false → among m c (suc w) ≡ among m (c + 1) w
among_no m c w e = rw e refl

among_gap : (m : Mask) (d c n w v : ℕ) → n ≡ c + d → w ≡ d + v → ((k : ℕ) → c ≤ k → k < n → has m k ≡ false)
    → among m c w ≡ among m n v
among_gap m zero c n w v e f none = let p : c ≡ n = omega arith in let q : w ≡ v = omega arith in rw (p, q) refl
among_gap m (suc d) c n w v e f none =
    let q : w ≡ suc (d + v) = omega arith in
    ap (among m c) q ∙ among_no m c (d + v) (none c (omega arith) (omega arith))
    ∙ among_gap m d (c + 1) n (d + v) v (omega arith) refl (λ k lo hi. none k (omega arith) hi)

-- the first run begins at n or after it
abbrev pub StartsFrom : ℕ → List Run → Type 0
StartsFrom n [] = Unit {0}
StartsFrom n (run ∷ runs) = n ≤ run.0

onto_starts : (c : ℕ) (runs : List Run) → StartsFrom c (onto_run c runs)
onto_starts c [] = omega arith
onto_starts c (run ∷ runs) = elim (cases_Bool (eqb (c + 1) run.0)) [ inl e ↦ rw e (omega arith) | inr e ↦ rw e (omega arith) ]

later : (c : ℕ) (runs : List Run) → StartsFrom (c + 1) runs → StartsFrom c runs
later c [] h = tt
later c (run ∷ runs) h = omega (arith, h)

pub starts : (m : Mask) (c w : ℕ) → StartsFrom c (runs_of (among m c w))
starts m c zero = tt
starts m c (suc w) = elim (cases_Bool (has m c)) [
  | inl e ↦ rw (among_yes m c w e) (onto_starts c (runs_of (among m (c + 1) w)))
  | inr e ↦ rw (among_no m c w e) (later c (runs_of (among m (c + 1) w)) (starts m (c + 1) w))
]

-- what begins further up does not join
apart : (c : ℕ) (runs : List Run) → StartsFrom (c + 2) runs → onto_run c runs ≡ (c, c) ∷ runs
apart c [] h = refl
apart c (run ∷ runs) h = rw (ne_eqb (c + 1) run.0 (λ e. omega (arith, e, h))) refl

-- a run ends where the mask lacks the next CPU, or there is none
run_ends : (m : Mask) (c w : ℕ) → (0 < w → has m (c + 1) ≡ false)
    → onto_run c (runs_of (among m (c + 1) w)) ≡ (c, c) ∷ runs_of (among m (c + 1) w)
run_ends m c zero none = refl
run_ends m c (suc w) none =
    let e = none (omega arith) in
    let s : StartsFrom (c + 2) (runs_of (among m (c + 1) (suc w))) =
    rw (among_no m (c + 1) w e) (subst (λ (n : ℕ). StartsFrom n (runs_of (among m (c + 1 + 1) w)))
    (let p : c + 1 + 1 ≡ c + 2 = omega arith in p) (starts m (c + 1 + 1) w)) in
    apart c (runs_of (among m (c + 1) (suc w))) s

-- the run from c to the CPU d further up
pub run_is : (m : Mask) (d c w v last : ℕ) → last ≡ c + d → w ≡ suc d + v
    → ((k : ℕ) → c ≤ k → k ≤ last → has m k ≡ true) → (0 < v → has m (last + 1) ≡ false)
    → runs_of (among m c w) ≡ (c, last) ∷ runs_of (among m (last + 1) v)
run_is m zero c w v last at e there none =
    let here : last ≡ c = omega arith in
    let width : w ≡ suc v = omega arith in
    let ends : (n : ℕ) → n ≡ c → (0 < v → has m (n + 1) ≡ false)
    → onto_run c (runs_of (among m (c + 1) v)) ≡ (c, n) ∷ runs_of (among m (n + 1) v) =
    λ n same free. subst (λ (x : ℕ). (0 < v → has m (x + 1) ≡ false)
    → onto_run c (runs_of (among m (c + 1) v)) ≡ (c, x) ∷ runs_of (among m (x + 1) v)) (sym same) (run_ends m c v) free in
    ap (λ n. runs_of (among m c n)) width ∙ ap runs_of (among_yes m c v (there c (omega arith) (omega arith))) ∙ ends
    last here none
run_is m (suc d) c w v last at e there none =
    let width : w ≡ suc (suc d + v) = omega arith in
    let more = run_is m d (c + 1) (suc d + v) v last (omega arith) refl (λ k lo hi. there k (omega arith) hi) none in
    ap (λ n. runs_of (among m c n)) width
    ∙ ap runs_of (among_yes m c (suc d + v) (there c (omega arith) (omega arith))) ∙ ap (onto_run c) more
    ∙ rw (eq-eqb (c + 1) (c + 1) refl) refl

-- the text of the runs from a CPU on
abbrev pub text_from : Mask → Option ℕ → List ℕ
text_from m None = []
text_from m (Some c) = join_with_byte 59 (map run_text (runs_of (among m c (MAX_CPUS - c))))

abbrev pub mark_before : Option ℕ → List ℕ
mark_before None = []
mark_before (Some c) = 59 ∷ []

whole_from : (m : Mask) → runs_text m ≡ join_with_byte 59 (map run_text (runs_of (among m 0 MAX_CPUS)))
unfolding runs_text members members_below
whole_from m = refl

-- the whole text is that from the first CPU on
pub text_first : (m : Mask) (o : Option ℕ) → MatchOption o (HasNoneFrom m 0) (λ c. IsFirstFrom m 0 c)
    → text_from m o ≡ runs_text m
text_first m None none = sym (whole_from m
    ∙ ap (λ cs. join_with_byte 59 (map run_text (runs_of cs)))
    (among_gap m MAX_CPUS 0 MAX_CPUS MAX_CPUS 0 refl refl (λ k lo hi. none k lo)))
text_first m (Some c) is =
    sym (whole_from m ∙ ap (λ cs. join_with_byte 59 (map run_text (runs_of cs)))
    (among_gap m c 0 c MAX_CPUS (MAX_CPUS - c) (omega arith) (omega (arith, is.in_range)) (λ k lo hi. is.least k lo hi)))

join_more : (x : List ℕ) (xs : List Run) → (xs ≡ [] → ⊥)
    → join_with_byte 59 (x ∷ map run_text xs) ≡ x ++ 59 ∷ join_with_byte 59 (map run_text xs)
join_more x [] some = absurd (some refl)
join_more x (y ∷ xs) some = refl

onto_some : (c : ℕ) (runs : List Run) → onto_run c runs ≡ [] → ⊥
onto_some c [] e = cc e
onto_some c (run ∷ runs) e = elim (cases_Bool (eqb (c + 1) run.0)) [ inl h ↦ cc (rw h at e) | inr h ↦ cc (rw h at e) ]

some_from : (m : Mask) (c w : ℕ) → has m c ≡ true → runs_of (among m c (suc w)) ≡ [] → ⊥
some_from m c w e none = onto_some c (runs_of (among m (c + 1) w)) (sym (ap runs_of (among_yes m c w e)) ∙ none)

rest_from : (m : Mask) (first last w : ℕ) (o : Option ℕ) → w ≡ MAX_CPUS - (last + 1) → last < MAX_CPUS
    → MatchOption o (HasNoneFrom m (last + 1)) (λ c. IsFirstFrom m (last + 1) c)
    → join_with_byte 59 (run_text (first, last) ∷ map run_text (runs_of (among m (last + 1) w))) ≡ run_text
    (first, last) ++ (mark_before o ++ text_from m o)
rest_from m first last w None e lt none =
    ap (λ cs. join_with_byte 59 (run_text (first, last) ∷ map run_text (runs_of cs)))
    (among_gap m w (last + 1) (last + 1 + w) w 0 refl (omega arith) (λ k lo hi. none k lo)) ∙ sym
    (append-nil (run_text (first, last)))
rest_from m first last w (Some c) e lt is =
    let v = MAX_CPUS - (c + 1) in
    let width : MAX_CPUS - c ≡ suc v = omega (arith, is.in_range) in
    let gap = among_gap m (c - (last + 1)) (last + 1) c w (MAX_CPUS - c) (omega (arith, is.from))
    (omega (arith, is.from, is.in_range)) (λ k lo hi. is.least k lo hi) in
    let some : runs_of (among m c (MAX_CPUS - c)) ≡ [] → ⊥ =
    λ none. some_from m c v is.there (sym (ap (λ n. runs_of (among m c n)) width) ∙ none) in
    ap (λ cs. join_with_byte 59 (run_text (first, last) ∷ map run_text (runs_of cs))) gap
    ∙ join_more (run_text (first, last)) (runs_of (among m c (MAX_CPUS - c))) some

-- one run, and what comes after it
pub text_run : (m : Mask) (first last : ℕ) (o : Option ℕ) → has m first ≡ true → first ≤ last → last < MAX_CPUS
    → ((k : ℕ) → first < k → k ≤ last → has m k ≡ true) → (last + 1 < MAX_CPUS → has m (last + 1) ≡ true → ⊥)
    → MatchOption o (HasNoneFrom m (last + 1)) (λ c. IsFirstFrom m (last + 1) c)
    → text_from m (Some first) ≡ run_text (first, last) ++ (mark_before o ++ text_from m o)
text_run m first last o here le lt there ends next =
    let w = MAX_CPUS - (last + 1) in
    let all : (k : ℕ) → first ≤ k → k ≤ last → has m k ≡ true =
    λ k lo hi. elim (cases_lt first k) [
      | inl over ↦ there k over hi
      | inr same ↦ subst (λ (n : ℕ). has m n ≡ true)
          (let p : first ≡ k = omega arith in p) here
    ] in
    let stop : 0 < w → has m (last + 1) ≡ false = λ some. false_from_ne_true (has m (last + 1)) (ends (omega arith)) in
    let run = run_is m (last - first) first (MAX_CPUS - first) w last (omega arith) (omega arith) all stop in
    ap (λ rs. join_with_byte 59 (map run_text rs)) run ∙ rest_from m first last w o refl lt next

-- the CPU at which the next run begins
abbrev pub IsNext : Mask → Option ℕ → Type 0
IsNext m None = Unit {0}
IsNext m (Some c) = (has m c ≡ true) × (c < MAX_CPUS)

abbrev pub turns_left : Option ℕ → ℕ
turns_left None = 0
turns_left (Some c) = MAX_CPUS + 1 - c

-- the runs before the next one are written behind a text
pub record IsPut (before : List ℕ) (m : Mask) (text : List ℕ) (next : Option ℕ) : Type 0 where
  pub front : take (length before) text ≡ before
  pub whole : text ++ text_from m next ≡ before ++ runs_text m
  pub next_there : IsNext m next

next_is : (m : Mask) (n : ℕ) (o : Option ℕ) → MatchOption o (HasNoneFrom m n) (λ c. IsFirstFrom m n c) → IsNext m o
next_is m n None h = tt
next_is m n (Some c) h = (h.there, h.in_range)

pub put_none : (before : List ℕ) (m : Mask) (o : Option ℕ) → MatchOption o (HasNoneFrom m 0) (λ c. IsFirstFrom m 0 c)
    → IsPut before m before o
put_none before m o first = record {
  front = take_all (length before) before (omega arith);
  whole = ap (λ t. before ++ t) (text_first m o first);
  next_there = next_is m 0 o first;
}

pub put_more : (before : List ℕ) (m : Mask) (text after : List ℕ) (next o : Option ℕ) (first last : ℕ)
    → IsPut before m text next → next ≡ Some first → first ≤ last → last < MAX_CPUS
    → ((k : ℕ) → first < k → k ≤ last → has m k ≡ true) → (last + 1 < MAX_CPUS → has m (last + 1) ≡ true → ⊥)
    → MatchOption o (HasNoneFrom m (last + 1)) (λ c. IsFirstFrom m (last + 1) c)
    → after ≡ (text ++ run_text (first, last)) ++ mark_before o → IsPut before m after o
put_more before m text after next o first last p e le lt there ends follows is =
    let here = subst (λ (n : Option ℕ). IsNext m n) e p.next_there in
    let run = text_run m first last o here.0 le lt there ends follows in
    let long : length before ≤ length text = omega (arith, ap length p.front, length-take (length before) text) in
    record {
      front =
          ap (take (length before)) (is ∙ append_assoc text (run_text (first, last)) (mark_before o))
          ∙ take-append-le (length before) text (run_text (first, last) ++ mark_before o) long ∙ p.front;
      whole =
          ap (λ t. t ++ text_from m o) is
          ∙ append_assoc (text ++ run_text (first, last)) (mark_before o) (text_from m o)
          ∙ append_assoc text (run_text (first, last)) (mark_before o ++ text_from m o)
          ∙ ap (λ t. text ++ t) (sym run) ∙ ap (λ n. text ++ text_from m n) (sym e) ∙ p.whole;
      next_there = next_is m (last + 1) o follows;
    }

pub mark_some : (o : Option ℕ) → is_some o ≡ true → mark_before o ≡ 59 ∷ []
mark_some None e = cc e
mark_some (Some c) e = refl

pub mark_none : (o : Option ℕ) → is_some o ≡ false → mark_before o ≡ []
mark_none None e = refl
mark_none (Some c) e = cc e

pub list_text_none : (m : Mask) (o : Option ℕ) → o ≡ least m → is_some o ≡ false → list_text m ≡ 45 ∷ []
unfolding list_text
list_text_none m None e none = rw (← e) refl
list_text_none m (Some c) e none = cc none

pub list_text_some : (m : Mask) (o : Option ℕ) → o ≡ least m → is_some o ≡ true → list_text m ≡ runs_text m
unfolding list_text
list_text_some m None e some = cc some
list_text_some m (Some c) e some = rw (← e) refl
