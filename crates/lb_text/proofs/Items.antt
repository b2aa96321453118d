-- The items of lists: which texts begin one.
-- For `item_of`; cited by `lb_read` too.
use Rattle.std.proofs.Common.{◌≡◌, ℕ, ◌+◌, ◌-◌, ◌<◌, ◌≤◌, ◌^◌, Bool, true, false, eqb, List, [], ◌∷◌, ◌++◌, length, take, Option, Some, None, refl, sym, ap, subst, ◌∙◌, inl, inr, arith, length-append}
use Rattle.std.specs.Prelude.{decimal, is_some, option_and_then}
use Rattle.std.specs.Option.{option_map}
use Rattle.std.specs.List.{slice_split, onto_first, join_with_byte, All}
use Rattle.std.specs.Str.{all_ascii_digits}
use Rattle.std.specs.Char.{is_ascii_digit}
use Rattle.std.proofs.lemmas.Bool.{cases_Bool, and_parts, ne_eqb, both_ways}
use Rattle.std.proofs.lemmas.List.{append_assoc, append-nil}
use Rattle.std.proofs.lemmas.List.Splits.{slice_split_none, slice_split_at, slice_split-cons_yes, slice_split-cons_no, join_with_byte-slice_split}
use Rattle.std.proofs.lemmas.List.Elements.{All-head, All-tail, All-nil, All-cons, All-take, All-append}
use Rattle.lb_base.specs.declared.mask.TheConstants.{MAX_CPUS}
use Rattle.lb_text.specs.Numbers.{number_within, is_number}
use Rattle.lb_text.specs.Prefixes.{CanGoOn, IsFirstBad}
use Rattle.lb_text.specs.Lists.{item_of, is_item, run_of_ends, run_from, Run}
use Rattle.lb_text.proofs.Digits.{number_spelled, number_decimal, decimal_digits}
use Rattle.lb_text.proofs.Leading.{some_there}
use Rattle.lb_text.proofs.Places.{IsPlaced, first_bad_placed}

-- the text that the first piece begins with
pub split_front : (p : ℕ → Bool) (front rest : List ℕ) → All (λ x. p x ≡ false) front
    → (more : List ℕ) × (others : List (List ℕ)) × (slice_split p (front ++ rest) ≡ (front ++ more) ∷ others)
split_front p [] rest free = split_some p rest
  where
    first_some : (x : ℕ) (pieces : List (List ℕ))
        → (more : List ℕ) × (others : List (List ℕ)) × (onto_first x pieces ≡ more ∷ others)
    first_some x [] = (x ∷ [], [], refl)
    first_some x (piece ∷ pieces) = (x ∷ piece, pieces, refl)

    split_some : (p : ℕ → Bool) (text : List ℕ)
        → (more : List ℕ) × (others : List (List ℕ)) × (slice_split p text ≡ more ∷ others)
    split_some p [] = ([], [], refl)
    split_some p (x ∷ text) = elim (cases_Bool (p x)) [
      | inl e ↦ ([], slice_split p text, slice_split-cons_yes p x text e)
      | inr e ↦ (let f = first_some x (slice_split p text) in (f.0, f.1, slice_split-cons_no p x text e ∙ f.2))
    ]
split_front p (x ∷ front) rest free =
    let f = split_front p front rest (All-tail (λ x. p x ≡ false) x front free) in
    (f.0, f.1, slice_split-cons_no p x (front ++ rest) (All-head (λ x. p x ≡ false) x front free) ∙ ap (onto_first x) f.2)

-- a text of one piece is that piece
pub one_piece : (c : ℕ) (text piece : List ℕ) → slice_split (λ b. eqb b c) text ≡ piece ∷ [] → text ≡ piece
one_piece c text piece e = sym (join_with_byte-slice_split c text) ∙ ap (join_with_byte c) e

digits_free : (c : ℕ) (text : List ℕ) → is_ascii_digit c ≡ false → all_ascii_digits text ≡ true → All (λ b. eqb b c ≡ false) text
digits_free c [] other e = All-nil (λ b. eqb b c ≡ false)
digits_free c (b ∷ text) other e =
    let p = and_parts (is_ascii_digit b) (all_ascii_digits text) e in
    All-cons (λ b. eqb b c ≡ false) b text
    (ne_eqb b c (λ same. both_ways (is_ascii_digit c) other
    (subst (λ (x : ℕ). is_ascii_digit x ≡ true) same p.0))) (digits_free c text other p.1)

abbrev most_cpu : ℕ
most_cpu = MAX_CPUS - 1

-- a piece without `-`
abbrev NoDash : List ℕ → Type 0
NoDash text = All (λ b. eqb b 45 ≡ false) text

number_digits : (least most : ℕ) (text : List ℕ) → most < 2 ^ 64 → is_number least most text ≡ true → all_ascii_digits text ≡ true
number_digits least most text small e =
    let some = some_there (number_within least most text) e in
    let s = number_spelled least most some.0 text small some.1 in
    subst (λ (t : List ℕ). all_ascii_digits t ≡ true) (sym s.0) (decimal_digits some.0 (omega (arith, s.2, small)))

pub number_free : (c least most : ℕ) (text : List ℕ) → is_ascii_digit c ≡ false → most < 2 ^ 64
    → is_number least most text ≡ true → All (λ b. eqb b c ≡ false) text
number_free c least most text other small e = digits_free c text other (number_digits least most text small e)

some_map : {A : Type 0} (f : ℕ → A) (o : Option ℕ) → is_some (option_map f o) ≡ is_some o
some_map f None = refl
some_map f (Some n) = refl

some_then : (f : ℕ → Option Run) (o : Option ℕ) → is_some (option_and_then f o) ≡ true → is_some o ≡ true
some_then f None e = cc e
some_then f (Some n) e = refl

-- the first piece of an item is a number
first_number : (first : List ℕ) (others : List (List ℕ)) → is_some (run_of_ends (first ∷ others)) ≡ true
    → is_number 0 most_cpu first ≡ true
first_number first [] e = sym (some_map (λ (n : ℕ). (n, n)) (number_within 0 most_cpu first)) ∙ e
first_number first (last ∷ []) e = some_then (run_from last) (number_within 0 most_cpu first) e
first_number first (last ∷ more ∷ others) e = cc e

pub number_item : (text : List ℕ) → is_number 0 most_cpu text ≡ true → is_item text ≡ true
unfolding item_of
number_item text e =
    ap (λ ps. is_some (run_of_ends ps)) (slice_split_none (λ b. eqb b 45) text
    (number_free 45 0 most_cpu text refl (omega arith) e))
    ∙ some_map (λ (n : ℕ). (n, n)) (number_within 0 most_cpu text) ∙ e

item_first : (text more : List ℕ) → NoDash text → is_item (text ++ more) ≡ true → CanGoOn (is_number 0 most_cpu) text
unfolding item_of
item_first text more free e =
    let s = split_front (λ b. eqb b 45) text more free in
    (s.0, first_number (text ++ s.0) s.1 (ap (λ ps. is_some (run_of_ends ps)) (sym s.2) ∙ e))

dash_first : (text more : List ℕ) → NoDash text → is_item (text ++ 45 ∷ more) ≡ true → is_number 0 most_cpu text ≡ true
unfolding item_of
dash_first text more free e =
    first_number text (slice_split (λ b. eqb b 45) more)
    (ap (λ ps. is_some (run_of_ends ps)) (sym (slice_split_at (λ b. eqb b 45) text 45 more free refl)) ∙ e)

-- the piece after the first `-`
last_number : (first : List ℕ) (a : ℕ) (text : List ℕ) (pieces : List (List ℕ))
    → number_within 0 most_cpu first ≡ Some a → slice_split (λ b. eqb b 45) text ≡ pieces
    → is_some (run_of_ends (first ∷ pieces)) ≡ true → is_number a most_cpu text ≡ true
last_number first a text [] is e h = let some = split_front (λ b. eqb b 45) [] text (All-nil (λ b. eqb b 45 ≡ false)) in
    cc (sym e ∙ some.2)
last_number first a text (last ∷ []) is e h =
    ap (is_number a most_cpu) (one_piece 45 text last e) ∙ sym
    (some_map (λ (n : ℕ). (a, n)) (number_within a most_cpu last)) ∙ (rw is at h)
last_number first a text (last ∷ more ∷ others) is e h = cc h

pub dash_last : (first : List ℕ) (a : ℕ) (text : List ℕ) → NoDash first → number_within 0 most_cpu first ≡ Some a
    → is_item (first ++ 45 ∷ text) ≡ true → is_number a most_cpu text ≡ true
unfolding item_of
dash_last first a text free is e =
    last_number first a text (slice_split (λ b. eqb b 45) text) is refl
    (ap (λ ps. is_some (run_of_ends ps)) (sym (slice_split_at (λ b. eqb b 45) first 45 text free refl)) ∙ e)

-- two numbers with `-` between them
pub dash_item : (first : List ℕ) (a b : ℕ) (text : List ℕ) → NoDash first → number_within 0 most_cpu first ≡ Some a
    → number_within a most_cpu text ≡ Some b → item_of (first ++ 45 ∷ text) ≡ Some (a, b)
unfolding item_of
dash_item first a b text free is e =
    let pieces : slice_split (λ c. eqb c 45) (first ++ 45 ∷ text) ≡ first ∷ text ∷ [] =
    slice_split_at (λ c. eqb c 45) first 45 text free refl
    ∙ ap (λ ps. first ∷ ps) (slice_split_none (λ c. eqb c 45) text
    (number_free 45 a most_cpu text refl (omega arith) (ap is_some e))) in
    ap run_of_ends pieces ∙ ap (option_and_then (run_from text)) is ∙ ap (option_map (λ (n : ℕ). (a, n))) e

-- a number alone
pub lone_item : (text : List ℕ) (a : ℕ) → number_within 0 most_cpu text ≡ Some a → item_of text ≡ Some (a, a)
unfolding item_of
lone_item text a e =
    ap run_of_ends (slice_split_none (λ c. eqb c 45) text
    (number_free 45 0 most_cpu text refl (omega arith) (ap is_some e))) ∙ ap (option_map (λ (n : ℕ). (n, n))) e

go_number : (least : ℕ) → least ≤ most_cpu → CanGoOn (is_number least most_cpu) []
go_number least le = (decimal most_cpu, ap is_some (number_decimal least most_cpu most_cpu (omega arith) le (omega arith)))

-- the piece before `-`, or the whole item where it has none
pub first_placed : (piece tail : List ℕ) → NoDash piece → ((c : ℕ) (more : List ℕ) → tail ≡ c ∷ more → c ≡ 45)
    → IsPlaced (is_number 0 most_cpu) is_item [] piece tail
first_placed piece tail free dash = record {
  begins = (let go = go_number 0 (omega arith) in (go.0, number_item go.0 go.1));
  inward = λ k go. item_first (take k piece) go.0 (All-take (λ b. eqb b 45 ≡ false) k piece free) go.1;
  outward = λ k go. (go.0, number_item (take k piece ++ go.0) go.1);
  ends = λ c more e go. dash_first piece go.0 free
      (ap is_item (sym (append_assoc piece (45 ∷ []) go.0)) ∙ rw (dash c more e) at go.1);
}

after_dash : (first text more : List ℕ) → ((first ++ 45 ∷ []) ++ text) ++ more ≡ first ++ 45 ∷ (text ++ more)
after_dash first text more = append_assoc (first ++ 45 ∷ []) text more ∙ append_assoc first (45 ∷ []) (text ++ more)

-- the piece after `-`
pub last_placed : (first : List ℕ) (a : ℕ) (piece : List ℕ) → NoDash first → number_within 0 most_cpu first ≡ Some a
    → a ≤ most_cpu → IsPlaced (is_number a most_cpu) is_item (first ++ 45 ∷ []) piece []
last_placed first a piece free is le =
    let out : (text : List ℕ) → CanGoOn (is_number a most_cpu) text → CanGoOn is_item ((first ++ 45 ∷ []) ++ text) =
    λ text go. let some = some_there (number_within a most_cpu (text ++ go.0)) go.1 in
    (go.0, ap is_item (after_dash first text go.0) ∙ ap is_some (dash_item first a some.0 (text ++ go.0) free is some.1)) in
    record {
      begins = subst (λ (t : List ℕ). CanGoOn is_item t) (append-nil (first ++ 45 ∷ [])) (out [] (go_number a le));
      inward = λ k go. (
        go.0,
        dash_last first a (take k piece ++ go.0) free is
            (ap is_item (sym (after_dash first (take k piece) go.0)) ∙ go.1),
      );
      outward = λ k go. out (take k piece) go;
      ends = λ c more e go. cc e;
    }

pub go_item : CanGoOn is_item []
go_item = let go = go_number 0 (omega arith) in (go.0, number_item go.0 go.1)

ends_free : (pieces : List (List ℕ)) → is_some (run_of_ends pieces) ≡ true → All (λ b. eqb b 59 ≡ false)
    (join_with_byte 45 pieces)
ends_free [] e = cc e
ends_free (cpu ∷ []) e = number_free 59 0 most_cpu cpu refl (omega arith) (first_number cpu [] e)
ends_free (first ∷ last ∷ []) e =
    let a = some_there (number_within 0 most_cpu first) (first_number first (last ∷ []) e) in
    let some : is_some (run_from last a.0) ≡ true = rw a.1 at e in
    All-append (λ b. eqb b 59 ≡ false) first (45 ∷ last)
    (number_free 59 0 most_cpu first refl (omega arith) (first_number first (last ∷ []) e))
    (All-cons (λ b. eqb b 59 ≡ false) 45 last refl
    (number_free 59 a.0 most_cpu last refl (omega arith)
    (sym (some_map (λ (n : ℕ). (a.0, n)) (number_within a.0 most_cpu last)) ∙ some)))
ends_free (first ∷ last ∷ more ∷ others) e = cc e

-- no item has `;`
pub item_free : (text : List ℕ) → is_item text ≡ true → All (λ b. eqb b 59 ≡ false) text
unfolding item_of
item_free text e = subst (λ (t : List ℕ). All (λ b. eqb b 59 ≡ false) t) (join_with_byte-slice_split 45 text)
    (ends_free (slice_split (λ b. eqb b 45) text) e)

pub none_from : {A : Type 0} (o : Option A) → (is_some o ≡ true → ⊥) → o ≡ None
none_from None h = refl
none_from (Some a) h = absurd (h refl)

pub false_from : {A : Type 0} (o : Option A) → o ≡ None → is_some o ≡ false
false_from o e = ap is_some e

not_there : {A : Type 0} (o : Option A) → o ≡ None → is_some o ≡ true → ⊥
not_there o e h = both_ways (is_some o) (false_from o e) h

-- a bad item, and its first bad byte
abbrev pub IsBadItem : List ℕ → ℕ → Type 0
IsBadItem item at = (item_of item ≡ None) × IsFirstBad is_item item at

none_alone : (item : List ℕ) → NoDash item → number_within 0 most_cpu item ≡ None → item_of item ≡ None
unfolding item_of
none_alone item free bad = ap run_of_ends (slice_split_none (λ b. eqb b 45) item free) ∙ ap (option_map (λ (n : ℕ). (n, n))) bad

pub bad_alone : (item : List ℕ) (at : ℕ) → NoDash item → number_within 0 most_cpu item ≡ None
    → IsFirstBad (is_number 0 most_cpu) item at → IsBadItem item at
bad_alone item at free bad b =
    let placed = first_bad_placed (is_number 0 most_cpu) is_item [] item [] at
    (first_placed item [] free (λ c more e. cc e)) (false_from (number_within 0 most_cpu item) bad) b in
    let at_is : 0 + at ≡ at = omega arith in (
      none_alone item free bad,
      subst (λ (t : List ℕ). IsFirstBad is_item t at) (append-nil item)
          (subst (λ (n : ℕ). IsFirstBad is_item (item ++ []) n) at_is placed),
    )

pub bad_first : (first last : List ℕ) (at : ℕ) → NoDash first → number_within 0 most_cpu first ≡ None
    → IsFirstBad (is_number 0 most_cpu) first at → IsBadItem (first ++ 45 ∷ last) at
bad_first first last at free bad b =
    let dash : (c : ℕ) (more : List ℕ) → (45 ∷ last) ≡ c ∷ more → c ≡ 45 = λ c more e. cc in
    let placed = first_bad_placed (is_number 0 most_cpu) is_item [] first (45 ∷ last) at
    (first_placed first (45 ∷ last) free dash) (false_from (number_within 0 most_cpu first) bad) b in
    let at_is : 0 + at ≡ at = omega arith in (
      none_from (item_of (first ++ 45 ∷ last))
          (λ some. not_there (number_within 0 most_cpu first) bad (dash_first first last free some)),
      subst (λ (n : ℕ). IsFirstBad is_item (first ++ 45 ∷ last) n) at_is placed,
    )

pub bad_last : (first last : List ℕ) (a at : ℕ) → NoDash first → number_within 0 most_cpu first ≡ Some a
    → a ≤ most_cpu → number_within a most_cpu last ≡ None → IsFirstBad (is_number a most_cpu) last at
    → IsBadItem (first ++ 45 ∷ last) (length first + 1 + at)
bad_last first last a at free is le bad b =
    let placed = first_bad_placed (is_number a most_cpu) is_item (first ++ 45 ∷ []) last [] at
    (last_placed first a last free is le) (false_from (number_within a most_cpu last) bad) b in
    let text_is : (first ++ 45 ∷ []) ++ (last ++ []) ≡ first ++ 45 ∷ last =
    ap (λ t. (first ++ 45 ∷ []) ++ t) (append-nil last) ∙ append_assoc first (45 ∷ []) last in
    let at_is : length (first ++ 45 ∷ []) + at ≡ length first + 1 + at = omega (arith, length-append first (45 ∷ [])) in (
      none_from (item_of (first ++ 45 ∷ last))
          (λ some. not_there (number_within a most_cpu last) bad (dash_last first a last free is some)),
      subst (λ (t : List ℕ). IsFirstBad is_item t (length first + 1 + at)) text_is
          (subst (λ (n : ℕ). IsFirstBad is_item ((first ++ 45 ∷ []) ++ (last ++ [])) n) at_is placed),
    )
