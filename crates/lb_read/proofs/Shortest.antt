-- The one spelling of a list of CPUs is no longer than any other: each end of a run that is written is
-- an end of some item of the other.
-- For the lemmas of `Room`, and so for the law `headers_read_back`.
use Rattle.std.proofs.Common.{◌≡◌, ℕ, zero, suc, ◌+◌, ◌<◌, ◌≤◌, Bool, true, false, ◌&&◌, ◌||◌, eqb, ltb, leb, cond, List, [], ◌∷◌, ◌++◌, map, length, Option, Some, None, refl, sym, ap, subst, ◌∙◌, inl, inr, arith}
use Rattle.std.specs.Prelude.{◌⊎◌, decimal, option_and_then}
use Rattle.std.specs.Option.{option_map}
use Rattle.std.specs.List.{list_all, list_any, slice_split, join_with_byte}
use Rattle.std.proofs.Common.{length-append}
use Rattle.std.proofs.lemmas.Bool.{and_parts, or_parts, cases_Bool, cases_eq, cases_lt, eq-eqb, ne_eqb, eqb-true, eqb-false, ltb-true, lt-ltb, lt-leb, le-leb, le-ltb, leb-true}
use Rattle.std.proofs.lemmas.List.Splits.{join_with_byte-slice_split}
use Rattle.lb_base.specs.declared.mask.Mask.{Mask}
use Rattle.lb_base.specs.Mask.{has, members, no_cpus}
use Rattle.lb_base.proofs.Sets.{mask_where_has}
use Rattle.lb_text.specs.Numbers.{number_of, number_within}
use Rattle.lb_text.specs.Lists.{Run, run_has, run_from, run_of_ends, item_of, items_of, mask_of_runs, list_of}
use Rattle.lb_text.specs.Runs.{runs_of, run_text, runs_text, AreMaximal}
use Rattle.lb_text.proofs.Digits.{number_spelled}
use Rattle.lb_text.proofs.Items.{one_piece}
use Rattle.lb_text.proofs.RoundTrip.{writes_runs, lists_fit}
use Rattle.lb_read.proofs.FieldsExact.{no_runs}
use Rattle.lb_trace.proofs.SoundLists.{all_also}
use Rattle.lb_read.proofs.Sizes.{is_low, low_members}
use Rattle.lb_read.proofs.Common.{or_true}

-- ---- what a run takes up, with the mark behind it
abbrev pub width : ℕ → ℕ
width k = length (decimal k) + 1

abbrev cost : Run → ℕ
cost run = cond (eqb run.0 run.1) (width run.0) (width run.0 + width run.1)

abbrev costs : List Run → ℕ
costs [] = 0
costs (run ∷ runs) = cost run + costs runs

run_cost : (run : Run) → length (run_text run) + 1 ≡ cost run
run_cost run = by_test (eqb run.0 run.1)
  where
    by_test : (b : Bool)
        → length (cond b (decimal run.0) (decimal run.0 ++ 45 ∷ decimal run.1)) + 1 ≡ cond b (width run.0)
        (width run.0 + width run.1)
    by_test true = refl
    by_test false = let l = length-append (decimal run.0) (45 ∷ decimal run.1) in omega (arith, l)

runs_cost : (run : Run) (runs : List Run) → length (join_with_byte 59 (map run_text (run ∷ runs))) + 1 ≡ costs (run ∷ runs)
runs_cost run [] = let c = run_cost run in omega (arith, c)
runs_cost run (next ∷ runs) =
    let c = run_cost run in
    let more = runs_cost next runs in
    let l = length-append (run_text run) (59 ∷ join_with_byte 59 (map run_text (next ∷ runs))) in
    omega (arith, c, more, l)

-- ---- items of another spelling
-- the run ends among the CPUs, and the item is as long as its ends
record IsItem (text : List ℕ) (run : Run) : Type 0 where
  enough : cost run ≤ length text + 1
  low : run.1 < 64

most_cost : (a b : ℕ) → cost (a, b) ≤ width a + width b
most_cost a b = by_test (eqb a b)
  where
    by_test : (t : Bool) → cond t (width a) (width a + width b) ≤ width a + width b
    by_test true = omega arith
    by_test false = omega arith

one_item : (text cpu : List ℕ) (o : Option ℕ) (run : Run) → text ≡ cpu → number_of 63 cpu ≡ o
    → option_map (λ (n : ℕ). let r : Run = (n, n) in r) o ≡ Some run → IsItem text run
one_item text cpu None run whole e f = absurd (let z : ⊥ = cc in z)
one_item text cpu (Some n) run whole e f =
    let is : (let r : Run = (n, n) in r) ≡ run = cc in
    let spelled = number_spelled 0 63 n cpu (omega arith) e in
    let same : length text ≡ length (decimal n) = ap length (whole ∙ spelled.0) in
    let most = spelled.2 in
    subst (IsItem text) is (record { enough = rw (eq-eqb n n refl) (omega (arith, same)); low = omega (arith, most) })

two_items : (text first last : List ℕ) (a : ℕ) (o : Option ℕ) (run : Run) → text ≡ first ++ 45 ∷ last
    → first ≡ decimal a → number_within a 63 last ≡ o → option_map (λ (n : ℕ). let r : Run = (a, n) in r) o ≡ Some run
    → IsItem text run
two_items text first last a None run whole is e f = absurd (let z : ⊥ = cc in z)
two_items text first last a (Some b) run whole is e f =
    let same : (let r : Run = (a, b) in r) ≡ run = cc in
    let spelled = number_spelled a 63 b last (omega arith) e in
    let l = ap length whole ∙ length-append first (45 ∷ last) in
    let x = ap length is in
    let y = ap length spelled.0 in
    let c = most_cost a b in
    let most = spelled.2 in
    subst (IsItem text) same (record { enough = omega (arith, l, x, y, c); low = omega (arith, most) })

ends_item : (text : List ℕ) (parts : List (List ℕ)) (run : Run) → slice_split (λ b. eqb b 45) text ≡ parts
    → run_of_ends parts ≡ Some run → IsItem text run
ends_item text [] run cut e = absurd (let z : ⊥ = cc in z)
ends_item text (cpu ∷ []) run cut e = one_item text cpu (number_of 63 cpu) run (one_piece 45 text cpu cut) refl e
ends_item text (first ∷ last ∷ []) run cut e = by_first (number_of 63 first) refl e
  where
    by_first : (o : Option ℕ) → number_of 63 first ≡ o → option_and_then (run_from last) o ≡ Some run → IsItem text run
    by_first None f e = absurd (let z : ⊥ = cc in z)
    by_first (Some a) f e =
        two_items text first last a (number_within a 63 last) run
        (sym (join_with_byte-slice_split 45 text) ∙ ap (join_with_byte 45) cut)
        (number_spelled 0 63 a first (omega arith) f).0 refl e
ends_item text (first ∷ last ∷ more ∷ others) run cut e = absurd (let z : ⊥ = cc in z)

item_is : (text : List ℕ) (run : Run) → item_of text ≡ Some run → IsItem text run
unfolding item_of
item_is text run e = ends_item text (slice_split (λ b. eqb b 45) text) run refl e

-- all runs end among the CPUs
abbrev AllLow : List Run → Type 0
AllLow [] = Unit {0}
AllLow (run ∷ runs) = (run.1 < 64) × AllLow runs

record IsCut (item : List ℕ) (items : List (List ℕ)) (runs : List Run) : Type 0 where
  run : Run
  rest : List Run
  first : item_of item ≡ Some run
  others : items_of items ≡ Some rest
  whole : run ∷ rest ≡ runs

cut_items : (item : List ℕ) (items : List (List ℕ)) (runs : List Run) → items_of (item ∷ items) ≡ Some runs
    → IsCut item items runs
cut_items item items runs e = by_first (item_of item) refl e
  where
    by_rest : (run : Run) (o : Option (List Run)) → item_of item ≡ Some run → items_of items ≡ o
        → option_map (λ (rs : List Run). run ∷ rs) o ≡ Some runs → IsCut item items runs
    by_rest run None h f e = absurd (let z : ⊥ = cc in z)
    by_rest run (Some rs) h f e = record { run = run; rest = rs; first = h; others = f; whole = cc }

    by_first : (o : Option Run) → item_of item ≡ o
        → option_and_then (λ run. option_map (λ (rs : List Run). run ∷ rs) (items_of items)) o ≡ Some runs → IsCut item items runs
    by_first None h e = absurd (let z : ⊥ = cc in z)
    by_first (Some run) h e = by_rest run (items_of items) h refl e

abbrev AreItems : List ℕ → List Run → Type 0
AreItems text runs = (costs runs ≤ length text + 1) × AllLow runs

items_are : (item : List ℕ) (items : List (List ℕ)) (runs : List Run) → items_of (item ∷ items) ≡ Some runs
    → AreItems (join_with_byte 59 (item ∷ items)) runs
items_are item [] runs e =
    let c = cut_items item [] runs e in
    let i = item_is item c.run c.first in
    let none : [] ≡ c.rest = let f = c.others in cc in
    let enough = i.enough in
    subst (AreItems item) c.whole
    (subst (λ (rs : List Run). AreItems item (c.run ∷ rs)) none (omega (arith, enough), (i.low, tt)))
items_are item (next ∷ more) runs e =
    let c = cut_items item (next ∷ more) runs e in
    let i = item_is item c.run c.first in
    let rest = items_are next more c.rest c.others in
    let enough = i.enough in
    let r = rest.0 in
    let l = length-append item (59 ∷ join_with_byte 59 (next ∷ more)) in
    subst (AreItems (join_with_byte 59 (item ∷ next ∷ more))) c.whole (omega (arith, enough, r, l), (i.low, rest.1))

-- ---- the widths of the numbers below n that pass
abbrev pub total : (ℕ → Bool) → ℕ → ℕ
total p zero = 0
total p (suc n) = total p n + cond (p n) (width n) 0

pub total_le : (p q : ℕ → Bool) (n : ℕ) → ((k : ℕ) → k < n → p k ≡ true → q k ≡ true) → total p n ≤ total q n
total_le p q zero each = omega arith
total_le p q (suc n) each =
    let more = total_le p q n (λ k lt. each k (omega (arith, lt))) in by_test (p n) (q n) (each n (omega arith)) more
  where
    by_test : (b c : Bool) → (b ≡ true → c ≡ true) → total p n ≤ total q n
        → total p n + cond b (width n) 0 ≤ total q n + cond c (width n) 0
    by_test true true f m = omega (arith, m)
    by_test true false f m = absurd (let z = f refl in let y : ⊥ = cc in y)
    by_test false true f m = omega (arith, m)
    by_test false false f m = omega (arith, m)

total_or : (p q : ℕ → Bool) (n : ℕ) → total (λ k. p k || q k) n ≤ total p n + total q n
total_or p q zero = omega arith
total_or p q (suc n) = by_test (p n) (q n) (total_or p q n)
  where
    by_test : (b c : Bool) → total (λ k. p k || q k) n ≤ total p n + total q n
        → total (λ k. p k || q k) n + cond (b || c) (width n)
        0 ≤ (total p n + cond b (width n) 0) + (total q n + cond c (width n) 0)
    by_test true true m = omega (arith, m)
    by_test true false m = omega (arith, m)
    by_test false true m = omega (arith, m)
    by_test false false m = omega (arith, m)

total_apart : (p q : ℕ → Bool) (n : ℕ) → ((k : ℕ) → p k ≡ true → q k ≡ false) → total p n + total q n ≤ total (λ k. p k || q k) n
total_apart p q zero each = omega arith
total_apart p q (suc n) each = by_test (p n) (q n) (each n) (total_apart p q n each)
  where
    by_test : (b c : Bool) → (b ≡ true → c ≡ false) → total p n + total q n ≤ total (λ k. p k || q k) n
        → (total p n + cond b (width n) 0) + (total q n + cond c (width n) 0) ≤ total (λ k. p k || q k) n + cond
        (b || c) (width n) 0
    by_test true true f m = absurd (let z = f refl in let y : ⊥ = cc in y)
    by_test true false f m = omega (arith, m)
    by_test false true f m = omega (arith, m)
    by_test false false f m = omega (arith, m)

-- one number
total_none : (a n : ℕ) → n ≤ a → total (λ k. eqb k a) n ≡ 0
total_none a zero le = refl
total_none a (suc n) le =
    let m = total_none a n (omega (arith, le)) in rw (ne_eqb n a (λ e. omega (arith, e, le))) (omega (arith, m))

total_one : (a n : ℕ) → a < n → total (λ k. eqb k a) n ≡ width a
total_one a zero lt = absurd (omega (arith, lt))
total_one a (suc n) lt = elim (cases_eq n a) [
  | inl same ↦ let m = total_none a n (omega (arith, same)) in let w : width n ≡ width a = ap width same in
      rw (eq-eqb n a same) (omega (arith, m, w))
  | inr other ↦ let m = total_one a n (omega (arith, lt, other)) in rw (ne_eqb n a other) (omega (arith, m))
]

-- ---- ends
abbrev ends : Run → ℕ → Bool
ends run k = eqb k run.0 || eqb k run.1

abbrev any_ends : List Run → ℕ → Bool
any_ends [] k = false
any_ends (run ∷ runs) k = ends run k || any_ends runs k

nothing_passes : (n : ℕ) → total (λ k. false) n ≡ 0
nothing_passes zero = refl
nothing_passes (suc n) = let m = nothing_passes n in omega (arith, m)

-- one number's width at most
one_most : (a n : ℕ) → total (λ k. eqb k a) n ≤ width a
one_most a n = elim (cases_lt a n) [
  | inl lt ↦ let e = total_one a n lt in omega (arith, e)
  | inr ge ↦ let e = total_none a n ge in omega (arith, e)
]

ends_most : (run : Run) (n : ℕ) → total (ends run) n ≤ cost run
ends_most run n = elim (cases_Bool (eqb run.0 run.1)) [
  | inl same ↦
      let e = eqb-true run.0 run.1 same in
      let only = total_le (ends run) (λ k. eqb k run.0) n (λ k lt h. only_one k e h) in
      let most = one_most run.0 n in
      rw same (omega (arith, only, most))
  | inr other ↦
      let both = total_or (λ k. eqb k run.0) (λ k. eqb k run.1) n in
      let a = one_most run.0 n in
      let b = one_most run.1 n in
      rw other (omega (arith, both, a, b))
]
  where
    only_one : (k : ℕ) → run.0 ≡ run.1 → (eqb k run.0 || eqb k run.1) ≡ true → eqb k run.0 ≡ true
    only_one k e h = by_test (eqb k run.0) refl (let z : eqb k run.1 ≡ eqb k run.0 = ap (eqb k) (sym e) in z) h
      where
        by_test : (b : Bool) → eqb k run.0 ≡ b → eqb k run.1 ≡ eqb k run.0 → (eqb k run.0 || eqb k run.1) ≡ true → b ≡ true
        by_test true x y h = refl
        by_test false x y h = absurd (let z : (eqb k run.0 || eqb k run.1) ≡ false = rw (y, x) refl in let w : ⊥ = cc in w)

ends_least : (run : Run) (n : ℕ) → run.0 ≤ run.1 → run.1 < n → cost run ≤ total (ends run) n
ends_least run n le lt = elim (cases_Bool (eqb run.0 run.1)) [
  | inl same ↦
      let only = total_le (λ k. eqb k run.0) (ends run) n (λ k l h. ap (λ b. b || eqb k run.1) h) in
      let one = total_one run.0 n (omega (arith, le, lt)) in
      rw same (omega (arith, only, one))
  | inr other ↦
      let ne = eqb-false run.0 run.1 other in
      let both =
      total_apart (λ k. eqb k run.0) (λ k. eqb k run.1) n
      (λ k h. let e = eqb-true k run.0 h in ne_eqb k run.1 (λ f. ne (sym e ∙ f))) in
      let a = total_one run.0 n (omega (arith, le, lt)) in
      let b = total_one run.1 n lt in
      rw other (omega (arith, both, a, b))
]

any_most : (runs : List Run) (n : ℕ) → total (any_ends runs) n ≤ costs runs
any_most [] n = let e = nothing_passes n in omega (arith, e)
any_most (run ∷ runs) n =
    let both = total_or (ends run) (any_ends runs) n in
    let one = ends_most run n in
    let more = any_most runs n in
    omega (arith, both, one, more)

-- ---- runs that are as long as they can be
abbrev covers : List Run → ℕ → Bool
covers runs k = list_any (run_has k) runs

ordered : (run : Run) (runs : List Run) → AreMaximal (run ∷ runs) → run.0 ≤ run.1
ordered run [] h = h
ordered run (next ∷ runs) h = h.0

maximal_rest : (run : Run) (runs : List Run) → AreMaximal (run ∷ runs) → AreMaximal runs
maximal_rest run [] h = tt
maximal_rest run (next ∷ runs) h = h.2

not_has : (k : ℕ) (run : Run) → (k < run.0) ⊎ (run.1 < k) → run_has k run ≡ false
not_has k run (inl lt) = rw (lt-leb run.0 k lt) refl
not_has k run (inr lt) = rw (lt-leb k run.1 lt) (and_false (leb run.0 k))
  where
    and_false : (b : Bool) → (b && false) ≡ false
    and_false true = refl
    and_false false = refl

-- the runs behind lie more than one number above
behind : (run : Run) (runs : List Run) (k : ℕ) → AreMaximal (run ∷ runs) → k ≤ run.1 + 1
    → (covers runs k ≡ false) × (any_ends runs k ≡ false)
behind run [] k h le = (refl, refl)
behind run (next ∷ runs) k h le =
    let o = ordered next runs h.2 in
    let gap = h.1 in
    let more = behind next runs k h.2 (omega (arith, le, gap, o)) in
    let first = not_has k next (inl (omega (arith, le, gap))) in
    let a = ne_eqb k next.0 (λ e. omega (arith, e, le, gap)) in
    let b = ne_eqb k next.1 (λ e. omega (arith, e, le, gap, o)) in
    (rw (first, more.0) refl, rw (a, b, more.1) refl)

costs_least : (runs : List Run) (n : ℕ) → AreMaximal runs → list_all (λ (run : Run). ltb run.1 n) runs ≡ true
    → costs runs ≤ total (any_ends runs) n
costs_least [] n h low = omega arith
costs_least (run ∷ runs) n h low =
    let p = and_parts (ltb run.1 n) _ low in
    let o = ordered run runs h in
    let one = ends_least run n o (ltb-true run.1 n p.0) in
    let more = costs_least runs n (maximal_rest run runs h) p.1 in
    let both = total_apart (ends run) (any_ends runs) n (λ k e. (behind run runs k h (end_within run k o e)).1) in
    omega (arith, one, more, both)
  where
    end_within : (run : Run) (k : ℕ) → run.0 ≤ run.1 → ends run k ≡ true → k ≤ run.1 + 1
    end_within run k o e = by_test (eqb k run.0) refl
      where
        by_test : (b : Bool) → eqb k run.0 ≡ b → k ≤ run.1 + 1
        by_test true f = let z = eqb-true k run.0 f in omega (arith, z, o)
        by_test false f = let z = eqb-true k run.1 (rw f at e) in omega (arith, z)

-- ---- where a set of CPUs begins or ends
record IsEdge (c : ℕ → Bool) (k : ℕ) : Type 0 where
  there : c k ≡ true
  edge : ((j : ℕ) → j + 1 ≡ k → c j ≡ false) ⊎ (c (k + 1) ≡ false)

it_has : (k : ℕ) (run : Run) → run.0 ≤ k → k ≤ run.1 → run_has k run ≡ true
it_has k run low high = rw (le-leb run.0 k low, le-leb k run.1 high) refl

written_edge : (runs : List Run) (k : ℕ) → AreMaximal runs → any_ends runs k ≡ true → IsEdge (covers runs) k
written_edge [] k h e = absurd (let z : ⊥ = cc in z)
written_edge (run ∷ runs) k h e = by_first (eqb k run.0) refl (eqb k run.1) refl (written_edge runs k (maximal_rest run runs h))
  where
    by_first : (a : Bool) → eqb k run.0 ≡ a → (b : Bool) → eqb k run.1 ≡ b → (any_ends runs k ≡ true → IsEdge (covers runs) k)
        → IsEdge (covers (run ∷ runs)) k
    by_first true x b y more =
        let s = eqb-true k run.0 x in
        let o = ordered run runs h in
        record {
          there = rw (it_has k run (omega (arith, s)) (omega (arith, s, o))) refl;
          edge =
              inl (λ j z. rw (not_has j run (inl (omega (arith, z, s))), (behind run runs j h (omega (arith, z, s, o))).0) refl);
        }
    by_first false x true y more =
        let s = eqb-true k run.1 y in
        let o = ordered run runs h in
        record {
          there = rw (it_has k run (omega (arith, s, o)) (omega (arith, s))) refl;
          edge = inr (rw (not_has (k + 1) run (inr (omega (arith, s))), (behind run runs (k + 1) h (omega (arith, s))).0) refl);
        }
    by_first false x false y more =
        let b = more (rw (x, y) at e) in
        elim (cases_lt (run.1 + 1) k) [
          | inl above ↦ record {
            there = rw b.there (or_true (run_has k run));
            edge = elim b.edge [
              | inl f ↦ inl (λ j z. rw (not_has j run (inr (omega (arith, z, above))), f j z) refl)
              | inr g ↦ inr (rw (not_has (k + 1) run (inr (omega (arith, above))), g) refl)
            ];
          }
          | inr below ↦ absurd (let n = (behind run runs k h below).0 in let t = b.there in let z : ⊥ = cc in z)
        ]

-- an item that has a CPU where the set begins or ends, begins or ends there
item_edge : (run : Run) (k : ℕ) (c : ℕ → Bool) → run_has k run ≡ true → ((j : ℕ) → run_has j run ≡ true → c j ≡ true)
    → ((j : ℕ) → j + 1 ≡ k → c j ≡ false) ⊎ (c (k + 1) ≡ false) → ends run k ≡ true
item_edge run k c t all (inl f) = elim (cases_eq k run.0) [
  | inl same ↦ rw (eq-eqb k run.0 same) refl
  | inr other ↦
      let p = and_parts (leb run.0 k) (leb k run.1) t in
      let low = leb-true run.0 k p.0 in
      let high = leb-true k run.1 p.1 in
      absurd (before k low high other f)
]
  where
    before : (k : ℕ) → run.0 ≤ k → k ≤ run.1 → (k ≡ run.0 → ⊥) → ((j : ℕ) → j + 1 ≡ k → c j ≡ false) → ⊥
    before zero low high other f = other (omega (arith, low))
    before (suc j) low high other f =
        let y = all j (it_has j run (omega (arith, low, other)) (omega (arith, high))) in let n = f j (omega arith) in
        let z : ⊥ = cc in z
item_edge run k c t all (inr g) = elim (cases_eq k run.1) [
  | inl same ↦ rw (eq-eqb k run.1 same) (or_true (eqb k run.0))
  | inr other ↦
      let p = and_parts (leb run.0 k) (leb k run.1) t in
      let low = leb-true run.0 k p.0 in
      let high = leb-true k run.1 p.1 in
      let y = all (k + 1) (it_has (k + 1) run (omega (arith, low)) (omega (arith, high, other))) in
      absurd (let z : ⊥ = cc in z)
]

items_edge : (runs : List Run) (k : ℕ) → IsEdge (covers runs) k → any_ends runs k ≡ true
items_edge [] k b = absurd (let t = b.there in let z : ⊥ = cc in z)
items_edge (run ∷ runs) k b = by_first (run_has k run) refl (items_edge runs k)
  where
    by_first : (t : Bool) → run_has k run ≡ t → (IsEdge (covers runs) k → any_ends runs k ≡ true) → any_ends (run ∷ runs) k ≡ true
    by_first true e go =
        let own = item_edge run k (covers (run ∷ runs)) e (λ j y. ap (λ x. x || covers runs j) y) b.edge in
        ap (λ x. x || any_ends runs k) own
    by_first false e go =
        let rest = go (record {
          there = let t = b.there in sym (ap (λ x. x || covers runs k) e) ∙ t;
          edge =
              elim b.edge [
                | inl f ↦ inl (λ j z. (or_parts (run_has j run) (covers runs j) (f j z)).1)
                | inr g ↦ inr
                    (or_parts (run_has (k + 1) run) (covers runs (k + 1)) g).1
              ];
        }) in
        rw rest (or_true (ends run k))

low_cover : (runs : List Run) (k : ℕ) → AllLow runs → (ltb k 64 && covers runs k) ≡ covers runs k
low_cover runs k low = elim (cases_lt k 64) [
  | inl lt ↦ rw (lt-ltb k 64 lt) refl
  | inr ge ↦ let none = past runs low ge in rw (none, le-ltb k 64 ge) refl
]
  where
    past : (runs : List Run) → AllLow runs → 64 ≤ k → covers runs k ≡ false
    past [] low ge = refl
    past (run ∷ runs) low ge = let lt = low.0 in rw (not_has k run (inr (omega (arith, lt, ge))), past runs low.1 ge) refl

-- ---- lists
-- the runs that are written, beside the items of another spelling
shorter : (mask : Mask) (items written : List Run) (n : ℕ) → mask ≡ mask_of_runs items → AllLow items → costs items ≤ n + 1
    → AreMaximal written → ((k : ℕ) → covers written k ≡ has mask k) → list_all is_low written ≡ true →
    length (join_with_byte 59 (map run_text written)) ≤ n
shorter mask items [] n same low enough maximal cover ends_low = omega arith
shorter mask items (run ∷ runs) n same low enough maximal cover ends_low =
    let written = run ∷ runs in
    let all =
    λ (k : ℕ). cover k
    ∙ (ap (λ (m : Mask). has m k) same ∙ mask_where_has (λ cpu. list_any (run_has cpu) items) k ∙ low_cover items k low) in
    let text = runs_cost run runs in
    let least_ =
    costs_least written 64 maximal
    (all_also is_low (λ (r : Run). ltb r.1 64) written (λ r h. (and_parts (ltb r.0 64) (ltb r.1 64) h).1) ends_low) in
    let among = total_le (any_ends written) (any_ends items) 64 (λ k lt h.
    let b = written_edge written k maximal h in
    items_edge items k
    (record {
      there = sym (all k) ∙ b.there;
      edge = elim b.edge [ inl f ↦ inl (λ j z. sym (all j) ∙ f j z) | inr g ↦ inr (sym (all (k + 1)) ∙ g) ];
    })) in
    let most = any_most items 64 in
    omega (arith, text, least_, among, most, enough)

empty_length : length (join_with_byte 59 (map run_text (runs_of (members no_cpus)))) ≡ 0
unfolding runs_text
empty_length = ap length no_runs

pub lists_are_short : (text : List ℕ) (mask : Mask) → list_of text ≡ Some mask → length (runs_text mask) ≤ length text
unfolding runs_text list_of
lists_are_short [] mask e =
    let none : no_cpus ≡ mask = cc in subst
    (λ (m : Mask). length (join_with_byte 59 (map run_text (runs_of (members m)))) ≤ 0) none
    (let z = empty_length in omega (arith, z))
lists_are_short (b ∷ text) mask e =
    let fits = lists_fit (b ∷ text) mask e in
    let w = writes_runs mask fits in
    by_items (slice_split (λ c. eqb c 59) (b ∷ text)) (join_with_byte-slice_split 59 (b ∷ text)) e w.0 w.1
  where
    by_runs : (parts : List (List ℕ)) (o : Option (List Run)) → join_with_byte 59 parts ≡ b ∷ text → items_of parts ≡ o
        → option_map mask_of_runs o ≡ Some mask → AreMaximal (runs_of (members mask))
        → ((k : ℕ) → covers (runs_of (members mask)) k ≡ has mask k) →
        length (join_with_byte 59 (map run_text (runs_of (members mask)))) ≤ length (b ∷ text)
    by_runs [] o joins f e maximal cover = absurd (let z : ⊥ = cc in z)
    by_runs (item ∷ items) None joins f e maximal cover = absurd (let z : ⊥ = cc in z)
    by_runs (item ∷ items) (Some runs) joins f e maximal cover =
        let same : mask ≡ mask_of_runs runs = cc in
        let are = items_are item items runs f in
        let long : length (join_with_byte 59 (item ∷ items)) ≡ length (b ∷ text) = ap length joins in
        let c = are.0 in
        shorter mask runs (runs_of (members mask)) (length (b ∷ text)) same are.1 (omega (arith, c, long)) maximal cover
        (low_members mask)

    by_items : (parts : List (List ℕ)) → join_with_byte 59 parts ≡ b ∷ text → option_map mask_of_runs (items_of parts) ≡ Some mask
        → AreMaximal (runs_of (members mask)) → ((k : ℕ) → covers (runs_of (members mask)) k ≡ has mask k) →
        length (join_with_byte 59 (map run_text (runs_of (members mask)))) ≤ length (b ∷ text)
    by_items parts joins e maximal cover = by_runs parts (items_of parts) joins refl e maximal cover
