-- Why what is written is read back. What reads lists of CPUs cites `lists_fit`.
-- For the laws `spells_decimal`, `writes_runs`, `lists_fit` and `reads_back`; cited by `lb_generator`, `lb_read` and
-- `lb_trace` too.
use Rattle.std.proofs.Common.{◌≡◌, ℕ, zero, suc, ◌+◌, ◌-◌, ◌<◌, ◌≤◌, ◌^◌, Bool, true, false, ◌&&◌, ◌||◌, eqb, leb, cond, Option, None, add-one, List, [], ◌∷◌, length, map, Some, refl, sym, ap, subst, ◌∙◌, inl, inr, ◌⊎◌, arith, length-append}
use Rattle.std.specs.Prelude.{decimal, is_some}
use Rattle.std.specs.Option.{option_map}
use Rattle.std.specs.List.{range_with_len, join_with_byte, list_any, slice_split, All}
use Rattle.std.proofs.lemmas.Bool.{cases_Bool, cases_lt, eqb-true, eqb-false, eq-eqb, ne_eqb, cases_eq}
use Rattle.std.proofs.lemmas.Bool.Decides.{nat_tests}
use Rattle.std.proofs.lemmas.List.Splits.{slice_split_none, slice_split_at}
use Rattle.std.proofs.lemmas.List.Elements.{All-head, All-tail, All-nil, All-cons}
use Rattle.std.proofs.lemmas.Nat.Bits.{bit_at-zero}
use Rattle.lb_base.specs.declared.mask.Mask.{Mask}
use Rattle.lb_base.specs.declared.mask.TheConstants.{MAX_CPUS}
use Rattle.lb_base.specs.Mask.{has, members, members_below, no_cpus}
use Rattle.lb_base.proofs.Members.{same_mask, has_above}
use Rattle.lb_text.specs.Lists.{Run, run_has, item_of, items_of, list_of, mask_of_runs}
use Rattle.lb_base.proofs.Sets.{mask_where_has}
use Rattle.lb_base.proofs.Ranges.{range_more}
use Rattle.lb_base.specs.Sets.{mask_where}
use Rattle.std.proofs.lemmas.List.Sums.{sum_by_push}
use Rattle.std.proofs.Math.Nat.{pow-suc}
use Rattle.std.specs.Prelude.{sum_by}
use Rattle.lb_text.proofs.Taken.{IsPiece, list_from_items, in_range, item_some}
use Rattle.lb_text.specs.Numbers.{number_within}
use Rattle.lb_text.specs.Runs.{onto_run, runs_of, run_text, runs_text, AreMaximal}
use Rattle.lb_text.specs.Laws.{SpellsDecimal, ReadsBack, WritesRuns, ListsFit}
use Rattle.lb_text.proofs.Digits.{number_spelled, number_decimal}
use Rattle.lb_text.proofs.Items.{dash_item, lone_item, item_free, number_free}
use Rattle.lb_text.proofs.RunFacts.{among, among_yes, among_no, StartsFrom, starts}

pub spells_decimal : SpellsDecimal
spells_decimal least most n text small = (
  number_spelled least most n text small,
  λ s. ap (number_within least most) s.0
      ∙ number_decimal least most n (omega (arith, s.2, small)) s.1 s.2,
)

lone : (k c : ℕ) → (leb c k && leb k c) ≡ eqb k c
lone k c = grind (arith, nat_tests)

joined : (k c lo hi : ℕ) → c + 1 ≡ lo → lo ≤ hi → (leb c k && leb k hi) ≡ (eqb k c || (leb lo k && leb k hi))
joined k c lo hi e le = grind (arith, nat_tests)

or_assoc : (a b c : Bool) → ((a || b) || c) ≡ (a || (b || c))
or_assoc true b c = refl
or_assoc false b c = refl

first_ordered : (run : Run) (runs : List Run) → AreMaximal (run ∷ runs) → run.0 ≤ run.1
first_ordered run [] h = h
first_ordered run (next ∷ runs) h = h.0

-- a CPU is in the runs exactly where it is one of the CPUs
covers_onto : (k c : ℕ) (runs : List Run) → AreMaximal runs
    → list_any (run_has k) (onto_run c runs) ≡ (eqb k c || list_any (run_has k) runs)
covers_onto k c [] h = ap (λ b. b || false) (lone k c)
covers_onto k c (run ∷ runs) h = elim (cases_Bool (eqb (c + 1) run.0)) [
  | inl e ↦ rw e (ap (λ b. b || list_any (run_has k) runs)
      (joined k c run.0 run.1 (eqb-true (c + 1) run.0 e) (first_ordered run runs h))
      ∙ or_assoc (eqb k c) (run_has k run) (list_any (run_has k) runs))
  | inr e ↦ rw e (ap (λ b. b || (run_has k run || list_any (run_has k) runs)) (lone k c))
]

maximal_from : (c : ℕ) (run : Run) (runs : List Run) → c ≤ run.1 → AreMaximal (run ∷ runs) → AreMaximal ((c, run.1) ∷ runs)
maximal_from c run [] le h = le
maximal_from c run (next ∷ runs) le h = (le, h.1, h.2)

maximal_onto : (c : ℕ) (runs : List Run) → AreMaximal runs → StartsFrom (c + 1) runs → AreMaximal (onto_run c runs)
maximal_onto c [] h s = omega arith
maximal_onto c (run ∷ runs) h s = elim (cases_Bool (eqb (c + 1) run.0)) [
  | inl e ↦ rw e (maximal_from c run runs (omega (arith, first_ordered run runs h, s)) h)
  | inr e ↦ rw e (omega arith, omega (arith, eqb-false (c + 1) run.0 e, s), h)
]

-- each run is ordered and ends below n
abbrev EndBelow : ℕ → List Run → Type 0
EndBelow n [] = Unit {0}
EndBelow n (run ∷ runs) = (run.0 ≤ run.1) × (run.1 < n) × EndBelow n runs

below_onto : (n c : ℕ) (runs : List Run) → c < n → EndBelow n runs → EndBelow n (onto_run c runs)
below_onto n c [] lt h = (omega arith, lt, tt)
below_onto n c (run ∷ runs) lt h = elim (cases_Bool (eqb (c + 1) run.0)) [
  | inl e ↦ rw e (omega (arith, eqb-true (c + 1) run.0 e, h.0), h.1, h.2)
  | inr e ↦ rw e (omega arith, lt, h)
]

record IsRuns (m : Mask) (c w : ℕ) : Type 0 where
  maximal : AreMaximal (runs_of (among m c w))
  ends : EndBelow (c + w) (runs_of (among m c w))
  covers : (k : ℕ) → list_any (run_has k) (runs_of (among m c w)) ≡ list_any (eqb k) (among m c w)

below_same : (n k : ℕ) (runs : List Run) → n ≡ k → EndBelow n runs → EndBelow k runs
below_same n k runs e h = subst (λ (x : ℕ). EndBelow x runs) e h

runs_among : (m : Mask) (c w : ℕ) → IsRuns m c w
runs_among m c zero = record { maximal = tt; ends = tt; covers = λ k. refl }
runs_among m c (suc w) =
    let more = runs_among m (c + 1) w in
    let top : (c + 1) + w ≡ c + suc w = omega arith in
    elim (cases_Bool (has m c)) [
      | inl e ↦ record {
        maximal = rw (among_yes m c w e) (maximal_onto c (runs_of (among m (c + 1) w)) more.maximal (starts m (c + 1) w));
        ends = rw (among_yes m c w e) (below_onto (c + suc w) c (runs_of (among m (c + 1) w)) (omega arith)
            (below_same ((c + 1) + w) (c + suc w) (runs_of (among m (c + 1) w)) top more.ends));
        covers = λ k. rw (among_yes m c w e)
            (covers_onto k c (runs_of (among m (c + 1) w)) more.maximal ∙ ap (λ b. eqb k c || b) (more.covers k));
      }
      | inr e ↦ record {
        maximal = rw (among_no m c w e) more.maximal;
        ends = rw (among_no m c w e) (below_same ((c + 1) + w) (c + suc w) (runs_of (among m (c + 1) w)) top more.ends);
        covers = λ k. rw (among_no m c w e) (more.covers k);
      }
    ]

outside : (m : Mask) (c w k : ℕ) → (k < c) ⊎ (c + w ≤ k) → list_any (eqb k) (among m c w) ≡ false
outside m c zero k out = refl
outside m c (suc w) k out =
    let further : (k < c + 1) ⊎ ((c + 1) + w ≤ k) = elim out [ inl lt ↦ inl (omega arith) | inr ge ↦ inr (omega arith) ] in
    let other : k ≡ c → ⊥ = λ same. elim out [ inl lt ↦ omega arith | inr ge ↦ omega arith ] in
    elim (cases_Bool (has m c)) [
      | inl e ↦ rw (among_yes m c w e, ne_eqb k c other) (outside m (c + 1) w k further)
      | inr e ↦ rw (among_no m c w e) (outside m (c + 1) w k further)
    ]

inside : (m : Mask) (c w k : ℕ) → c ≤ k → k < c + w → list_any (eqb k) (among m c w) ≡ has m k
inside m c zero k lo hi = absurd (omega arith)
inside m c (suc w) k lo hi = elim (cases_eq k c) [
  | inl same ↦ elim (cases_Bool (has m c)) [
    | inl e ↦ rw (among_yes m c w e, eq-eqb k c same) (sym (ap (has m) same ∙ e))
    | inr e ↦ rw (among_no m c w e) (outside m (c + 1) w k (inl (omega arith)) ∙ sym (ap (has m) same ∙ e))
  ]
  | inr other ↦ elim (cases_Bool (has m c)) [
    | inl e ↦ rw (among_yes m c w e, ne_eqb k c other) (inside m (c + 1) w k (omega arith) (omega arith))
    | inr e ↦ rw (among_no m c w e) (inside m (c + 1) w k (omega arith) (omega arith))
  ]
]

members_among : (m : Mask) → members m ≡ among m 0 MAX_CPUS
unfolding members members_below
members_among m = refl

members_any : (m : Mask) (k : ℕ) → m.bits < 2 ^ 64 → list_any (eqb k) (among m 0 MAX_CPUS) ≡ has m k
members_any m k fits = elim (cases_lt k MAX_CPUS) [
  | inl lt ↦ inside m 0 MAX_CPUS k (omega arith) (omega arith)
  | inr ge ↦ outside m 0 MAX_CPUS k (inr (omega arith)) ∙ sym (has_above m k fits ge)
]

pub writes_runs : WritesRuns
writes_runs m fits =
    let r = runs_among m 0 MAX_CPUS in
    rw (members_among m) (r.maximal, λ k. r.covers k ∙ members_any m k fits)

-- the pieces of a text that was joined of them
split_joined : (piece : List ℕ) (pieces : List (List ℕ)) → All IsPiece (piece ∷ pieces)
    → slice_split (λ b. eqb b 59) (join_with_byte 59 (piece ∷ pieces)) ≡ piece ∷ pieces
split_joined piece [] free = slice_split_none (λ b. eqb b 59) piece (All-head IsPiece piece [] free)
split_joined piece (next ∷ pieces) free =
    slice_split_at (λ b. eqb b 59) piece 59 (join_with_byte 59 (next ∷ pieces)) (All-head IsPiece piece (next ∷ pieces) free) refl
    ∙ ap (λ ps. piece ∷ ps) (split_joined next pieces (All-tail IsPiece piece (next ∷ pieces) free))

run_item : (run : Run) → run.0 ≤ run.1 → run.1 < MAX_CPUS → item_of (run_text run) ≡ Some run
run_item run le lt =
    let first : number_within 0 (MAX_CPUS - 1) (decimal run.0) ≡ Some run.0 =
    number_decimal 0 (MAX_CPUS - 1) run.0 (omega arith) (omega arith) (omega arith) in
    elim (cases_Bool (eqb run.0 run.1)) [
      | inl e ↦ rw e (lone_item (decimal run.0) run.0 first ∙ ap (λ b. Some (run.0, b)) (eqb-true run.0 run.1 e))
      | inr e ↦ rw e (
          dash_item (decimal run.0) run.0 run.1 (decimal run.1)
          (number_free 45 0 (MAX_CPUS - 1) (decimal run.0) refl (omega arith) (ap is_some first)) first
          (number_decimal run.0 (MAX_CPUS - 1) run.1 (omega arith) le (omega arith))
          )
    ]

runs_items : (runs : List Run) → EndBelow MAX_CPUS runs → (items_of (map run_text runs) ≡ Some runs) × All IsPiece
    (map run_text runs)
runs_items [] h = (refl, All-nil IsPiece)
runs_items (run ∷ runs) h =
    let more = runs_items runs h.2 in
    let item = run_item run h.0 h.1 in (
      rw (item, more.0) refl,
      All-cons IsPiece (run_text run) (map run_text runs)
          (item_free (run_text run) (ap is_some item)) more.1,
    )

text_some : (run : Run) (runs : List Run) → EndBelow MAX_CPUS (run ∷ runs)
    → 0 < length (join_with_byte 59 (map run_text (run ∷ runs)))
text_some run [] h = item_some (run_text run) (ap is_some (run_item run h.0 h.1))
text_some run (next ∷ runs) h = omega (
  arith,
  item_some (run_text run)
      (ap is_some (run_item run h.0 h.1)),
  length-append (run_text run) (59 ∷ join_with_byte 59 (map run_text (next ∷ runs))),
)

list_none : list_of [] ≡ Some no_cpus
unfolding list_of
list_none = refl

has_none : (k : ℕ) → has no_cpus k ≡ false
unfolding has
has_none k = ap (λ (n : ℕ). eqb n 1) (bit_at-zero k)

back : (m : Mask) (runs : List Run) → m.bits < 2 ^ 64 → EndBelow MAX_CPUS runs
    → ((k : ℕ) → list_any (run_has k) runs ≡ has m k) → list_of (join_with_byte 59 (map run_text runs)) ≡ Some m
back m [] fits h covers = list_none ∙ ap Some (same_mask no_cpus m (λ k. has_none k ∙ covers k))
back m (run ∷ runs) fits h covers =
    let items = runs_items (run ∷ runs) h in
    let split = split_joined (run_text run) (map run_text runs) items.1 in
    list_from_items (join_with_byte 59 (map run_text (run ∷ runs))) (run ∷ runs) (text_some run runs h)
    (ap items_of split ∙ items.0)
    ∙ ap Some (same_mask (mask_of_runs (run ∷ runs)) m
    (λ k. mask_where_has (λ cpu. list_any (run_has cpu) (run ∷ runs)) k ∙ in_range m (run ∷ runs) k fits (λ c. sym (covers c))))

text_among : (m : Mask) → runs_text m ≡ join_with_byte 59 (map run_text (runs_of (among m 0 MAX_CPUS)))
unfolding runs_text members members_below
text_among m = refl

pub reads_back : ReadsBack
reads_back m fits =
    let r = runs_among m 0 MAX_CPUS in
    ap list_of (text_among m) ∙ back m (runs_of (among m 0 MAX_CPUS)) fits r.ends (λ k. r.covers k ∙ members_any m k fits)

bits_small : (p : ℕ → Bool) (n : ℕ) → sum_by (λ k. cond (p k) (2 ^ k) 0) (range_with_len 0 n) < 2 ^ n
bits_small p zero = omega arith
bits_small p (suc n) =
    let bit : ℕ → ℕ = λ k. cond (p k) (2 ^ k) 0 in
    let z : 0 + n ≡ n = omega arith in
    let more : sum_by bit (range_with_len 0 (n + 1)) ≡ sum_by bit (range_with_len 0 n) + bit n =
    ap (sum_by bit) (range_more 0 n) ∙ sum_by_push bit (range_with_len 0 n) (0 + n) ∙ ap
    (λ k. sum_by bit (range_with_len 0 n) + bit k) z in
    let one : bit n ≤ 2 ^ n = elim (cases_Bool (p n)) [ inl e ↦ rw e (omega arith) | inr e ↦ rw e (omega arith) ] in
    let doubled : 2 ^ (n + 1) ≡ 2 ^ n + 2 ^ n = omega (arith, pow-suc 2 n, ap (λ m. 2 ^ m) (add-one n)) in
    subst (λ (m : ℕ). sum_by bit (range_with_len 0 m) < 2 ^ m) (add-one n) (omega (arith, more, one, doubled, bits_small p n))

where_fits : (p : ℕ → Bool) → (mask_where p).bits < 2 ^ MAX_CPUS
unfolding mask_where
where_fits p = bits_small p MAX_CPUS

fits_of : (text : List ℕ) (mask : Mask) (o : Option (List Run)) → option_map mask_of_runs o ≡ Some mask → mask.bits < 2 ^ 64
fits_of text mask None e = cc e
fits_of text mask (Some runs) e = let same : mask_of_runs runs ≡ mask = cc in
    subst (λ (m : Mask). m.bits < 2 ^ 64) same (where_fits (λ cpu. list_any (run_has cpu) runs))

pub lists_fit : ListsFit
unfolding list_of
lists_fit [] mask e = let same : no_cpus ≡ mask = cc in subst (λ (m : Mask). m.bits < 2 ^ 64) same (omega arith)
lists_fit (b ∷ text) mask e = fits_of (b ∷ text) mask (items_of (slice_split (λ c. eqb c 59) (b ∷ text))) e
