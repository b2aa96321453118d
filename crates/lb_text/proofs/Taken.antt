-- A list's items: the pieces of its text between the marks, and the text that they make.
-- For `list_of`.
use Rattle.std.proofs.Common.{◌≡◌, ℕ, ◌+◌, ◌<◌, ◌≤◌, Bool, true, false, ◌&&◌, ◌||◌, eqb, ltb, List, [], ◌∷◌, ◌++◌, length, take, Option, Some, None, refl, sym, ap, subst, ◌∙◌, inl, inr, arith, length-append}
use Rattle.std.specs.Prelude.{is_some, option_and_then, ◌^◌}
use Rattle.std.specs.Option.{option_map}
use Rattle.std.specs.List.{slice_split, onto_first, join_with_byte, list_any, All}
use Rattle.std.proofs.lemmas.Bool.{cases_Bool, cases_lt, both_ways, lt-ltb, le-ltb}
use Rattle.std.proofs.lemmas.List.{append_assoc, append-nil, nil_from_length}
use Rattle.std.proofs.lemmas.List.Splits.{slice_split_none, slice_split_at, slice_split-cons_yes, slice_split-cons_no, join_with_byte-slice_split}
use Rattle.std.proofs.lemmas.List.Elements.{All-head, All-tail, All-nil, All-cons, All-take}
use Rattle.lb_text.specs.Prefixes.{CanGoOn, IsFirstBad}
use Rattle.lb_text.specs.Lists.{item_of, is_item, items_of, list_of, is_list, mask_of_runs, run_has, Run}
use Rattle.lb_base.specs.declared.mask.Mask.{Mask}
use Rattle.lb_base.specs.Mask.{has, no_cpus}
use Rattle.lb_base.proofs.Members.{same_mask, has_above}
use Rattle.lb_base.proofs.Sets.{mask_where_has}
use Rattle.lb_text.specs.Numbers.{number_within}
use Rattle.lb_text.proofs.Items.{split_front, go_item, item_free, none_from, IsBadItem}
use Rattle.lb_text.proofs.Places.{IsPlaced, first_bad_placed}

-- a piece without `;`
abbrev pub IsPiece : List ℕ → Type 0
IsPiece text = All (λ b. eqb b 59 ≡ false) text

-- the text of pieces that were passed, with the mark after each
abbrev pub passed : List (List ℕ) → List ℕ
passed [] = []
passed (piece ∷ pieces) = piece ++ 59 ∷ passed pieces

-- the text of pieces that follow another
abbrev pub rest_text : List (List ℕ) → List ℕ
rest_text [] = []
rest_text (piece ∷ pieces) = 59 ∷ join_with_byte 59 (piece ∷ pieces)

joined_first : (piece : List ℕ) (pieces : List (List ℕ)) → join_with_byte 59 (piece ∷ pieces) ≡ piece ++ rest_text pieces
joined_first piece [] = sym (append-nil piece)
joined_first piece (next ∷ pieces) = refl

-- a text around one of its pieces
joined_at : (taken : List (List ℕ)) (piece : List ℕ) (left : List (List ℕ))
    → join_with_byte 59 (taken ++ piece ∷ left) ≡ passed taken ++ (piece ++ rest_text left)
joined_at [] piece left = joined_first piece left
joined_at (first ∷ []) piece left = ap (λ t. first ++ 59 ∷ t) (joined_first piece left)
    ∙ sym (append_assoc first (59 ∷ []) (piece ++ rest_text left))
joined_at (first ∷ next ∷ taken) piece left =
    ap (λ t. first ++ 59 ∷ t) (joined_at (next ∷ taken) piece left)
    ∙ sym (append_assoc first (59 ∷ passed (next ∷ taken)) (piece ++ rest_text left))

pub split_passed : (pieces : List (List ℕ)) (text : List ℕ) → All IsPiece pieces
    → slice_split (λ b. eqb b 59) (passed pieces ++ text) ≡ pieces ++ slice_split (λ b. eqb b 59) text
split_passed [] text free = refl
split_passed (piece ∷ pieces) text free =
    ap (slice_split (λ b. eqb b 59)) (append_assoc piece (59 ∷ passed pieces) text)
    ∙ slice_split_at (λ b. eqb b 59) piece 59 (passed pieces ++ text) (All-head IsPiece piece pieces free) refl
    ∙ ap (λ ps. piece ∷ ps) (split_passed pieces text (All-tail IsPiece piece pieces free))

onto_pieces : (b : ℕ) (pieces : List (List ℕ)) → eqb b 59 ≡ false → All IsPiece pieces → All IsPiece (onto_first b pieces)
onto_pieces b [] other free = All-cons IsPiece (b ∷ []) []
    (All-cons (λ c. eqb c 59 ≡ false) b [] other (All-nil (λ c. eqb c 59 ≡ false))) (All-nil IsPiece)
onto_pieces b (piece ∷ pieces) other free =
    All-cons IsPiece (b ∷ piece) pieces (All-cons (λ c. eqb c 59 ≡ false) b piece other (All-head IsPiece piece pieces free))
    (All-tail IsPiece piece pieces free)

-- no piece has the mark
pub pieces_free : (text : List ℕ) → All IsPiece (slice_split (λ b. eqb b 59) text)
pieces_free [] = All-cons IsPiece [] [] (All-nil (λ c. eqb c 59 ≡ false)) (All-nil IsPiece)
pieces_free (b ∷ text) = elim (cases_Bool (eqb b 59)) [
  | inl e ↦ subst (λ (ps : List (List ℕ)). All IsPiece ps) (sym (slice_split-cons_yes (λ c. eqb c 59) b text e))
      (All-cons IsPiece [] (slice_split (λ c. eqb c 59) text) (All-nil (λ c. eqb c 59 ≡ false)) (pieces_free text))
  | inr e ↦ subst (λ (ps : List (List ℕ)). All IsPiece ps) (sym (slice_split-cons_no (λ c. eqb c 59) b text e))
      (onto_pieces b (slice_split (λ c. eqb c 59) text) e (pieces_free text))
]

some_map : {A B : Type 0} (f : A → B) (o : Option A) → is_some (option_map f o) ≡ is_some o
some_map f None = refl
some_map f (Some n) = refl

-- items that are followed by others
items_last : (xs ys : List (List ℕ)) → is_some (items_of (xs ++ ys)) ≡ true → is_some (items_of ys) ≡ true
items_last [] ys e = e
items_last (x ∷ xs) ys e = items_last xs ys (rest_some (item_of x) (items_of (xs ++ ys)) e)
  where
    rest_some : (o : Option Run) (rest : Option (List Run))
        → is_some (option_and_then (λ run. option_map (λ runs. run ∷ runs) rest) o) ≡ true → is_some rest ≡ true
    rest_some None rest h = cc h
    rest_some (Some run) rest h = sym (some_map (λ runs. run ∷ runs) rest) ∙ h

items_head : (x : List ℕ) (xs : List (List ℕ)) → is_some (items_of (x ∷ xs)) ≡ true → is_item x ≡ true
items_head x xs e = head_some (item_of x) (items_of xs) e
  where
    head_some : (o : Option Run) (rest : Option (List Run))
        → is_some (option_and_then (λ run. option_map (λ runs. run ∷ runs) rest) o) ≡ true → is_some o ≡ true
    head_some None rest h = cc h
    head_some (Some run) rest h = refl

pub items_more : (xs : List (List ℕ)) (x : List ℕ) (runs : List Run) (run : Run) → items_of xs ≡ Some runs
    → item_of x ≡ Some run → items_of (xs ++ x ∷ []) ≡ Some (runs ++ run ∷ [])
items_more [] x runs run e h = let none : runs ≡ [] = cc in rw (h, none) refl
items_more (y ∷ xs) x runs run e h = more_some (item_of y) (items_of xs) (items_of (xs ++ x ∷ [])) runs run
    (λ rs is. items_more xs x rs run is h) e
  where
    more_of : (r : Run) (rest rest' : Option (List Run)) (runs : List Run) (run : Run)
        → ((rs : List Run) → rest ≡ Some rs → rest' ≡ Some (rs ++ run ∷ [])) → option_map (λ rs. r ∷ rs) rest ≡ Some runs
        → option_map (λ rs. r ∷ rs) rest' ≡ Some (runs ++ run ∷ [])
    more_of r None rest' runs run more h = cc h
    more_of r (Some rs) rest' runs run more h = let is : r ∷ rs ≡ runs = cc in rw (more rs refl, ← is) refl

    more_some : (o : Option Run) (rest rest' : Option (List Run)) (runs : List Run) (run : Run)
        → ((rs : List Run) → rest ≡ Some rs → rest' ≡ Some (rs ++ run ∷ []))
        → option_and_then (λ r. option_map (λ rs. r ∷ rs) rest) o ≡ Some runs
        → option_and_then (λ r. option_map (λ rs. r ∷ rs) rest') o ≡ Some (runs ++ run ∷ [])
    more_some None rest rest' runs run more h = cc h
    more_some (Some r) rest rest' runs run more h = more_of r rest rest' runs run more h

list_from : (text : List ℕ) → 0 < length text → list_of text ≡ option_map mask_of_runs
    (items_of (slice_split (λ b. eqb b 59) text))
unfolding list_of
list_from [] some = absurd (omega (arith, some))
list_from (b ∷ text) some = refl

-- the items of a text are a list's
pub list_from_items : (text : List ℕ) (runs : List Run) → 0 < length text
    → items_of (slice_split (λ b. eqb b 59) text) ≡ Some runs → list_of text ≡ Some (mask_of_runs runs)
list_from_items text runs some e = list_from text some ∙ ap (option_map mask_of_runs) e

is_list_from : (text : List ℕ) → 0 < length text → is_list text ≡ is_some (items_of (slice_split (λ b. eqb b 59) text))
is_list_from text some = ap is_some (list_from text some) ∙ some_map mask_of_runs (items_of (slice_split (λ b. eqb b 59) text))

some_of : {A : Type 0} (o : Option A) → is_some o ≡ true → (a : A) × (o ≡ Some a)
some_of None e = cc e
some_of (Some a) e = (a, refl)

no_empty_item : is_item [] ≡ true → ⊥
unfolding item_of number_within
no_empty_item e = cc e

pub item_some : (text : List ℕ) → is_item text ≡ true → 0 < length text
item_some [] e = absurd (no_empty_item e)
item_some (b ∷ text) e = omega arith

-- the items of a text behind pieces that were passed
items_behind : (pieces : List (List ℕ)) (text : List ℕ) → All IsPiece pieces → 0 < length (passed pieces ++ text)
    → is_list (passed pieces ++ text) ≡ is_some (items_of (pieces ++ slice_split (λ b. eqb b 59) text))
items_behind pieces text free some = is_list_from (passed pieces ++ text) some
    ∙ ap (λ ps. is_some (items_of ps)) (split_passed pieces text free)

-- a text whose last piece goes on to an item goes on to a list
piece_outward : (pieces : List (List ℕ)) (text : List ℕ) → All IsPiece pieces → is_some (items_of pieces) ≡ true
    → CanGoOn is_item text → CanGoOn is_list (passed pieces ++ text)
piece_outward pieces text free some go =
    let item = text ++ go.0 in
    let runs = some_of (items_of pieces) some in
    let run = some_of (item_of item) go.1 in
    let long : 0 < length (passed pieces ++ item) = omega (arith, length-append (passed pieces) item, item_some item go.1) in (
      go.0,
      ap is_list (append_assoc (passed pieces) text go.0) ∙ items_behind pieces item free long
          ∙ ap (λ ps. is_some (items_of (pieces ++ ps))) (slice_split_none (λ b. eqb b 59) item (item_free item go.1))
          ∙ ap is_some (items_more pieces item runs.0 run.0 runs.1 run.1),
    )

-- and the other way round
piece_inward : (pieces : List (List ℕ)) (text : List ℕ) → All IsPiece pieces → IsPiece text
    → CanGoOn is_list (passed pieces ++ text) → CanGoOn is_item text
piece_inward pieces text free piece go =
    let whole = text ++ go.0 in
    let is : is_list (passed pieces ++ whole) ≡ true = ap is_list (sym (append_assoc (passed pieces) text go.0)) ∙ go.1 in
    elim (cases_lt 0 (length (passed pieces ++ whole))) [
      | inl some ↦
          let last = items_last pieces (slice_split (λ b. eqb b 59) whole) (sym (items_behind pieces whole free some) ∙ is) in
          let s = split_front (λ b. eqb b 59) text go.0 piece in
          (s.0, items_head (text ++ s.0) s.1 (ap (λ ps. is_some (items_of ps)) (sym s.2) ∙ last))
      | inr none ↦
          let nil : text ≡ [] = nil_from_length text
          (omega (arith, none, length-append (passed pieces) whole, length-append text go.0)) in
          subst (λ (t : List ℕ). CanGoOn is_item t) (sym nil) go_item
    ]

piece_ends : (pieces : List (List ℕ)) (piece : List ℕ) → All IsPiece pieces → IsPiece piece
    → CanGoOn is_list (passed pieces ++ (piece ++ 59 ∷ [])) → is_item piece ≡ true
piece_ends pieces piece free clean go =
    let whole = piece ++ 59 ∷ go.0 in
    let same : (passed pieces ++ (piece ++ 59 ∷ [])) ++ go.0 ≡ passed pieces ++ whole =
    append_assoc (passed pieces) (piece ++ 59 ∷ []) go.0 ∙ ap (λ t. passed pieces ++ t) (append_assoc piece (59 ∷ []) go.0) in
    let long : 0 < length (passed pieces ++ whole) = omega
    (arith, length-append (passed pieces) whole, length-append piece (59 ∷ go.0)) in
    let last = items_last pieces (slice_split (λ b. eqb b 59) whole)
    (sym (items_behind pieces whole free long) ∙ ap is_list (sym same) ∙ go.1) in
    items_head piece (slice_split (λ b. eqb b 59) go.0)
    (ap (λ ps. is_some (items_of ps)) (sym (slice_split_at (λ b. eqb b 59) piece 59 go.0 clean refl)) ∙ last)

pub piece_placed : (pieces : List (List ℕ)) (piece : List ℕ) (others : List (List ℕ)) → All IsPiece pieces → IsPiece piece
    → is_some (items_of pieces) ≡ true → IsPlaced is_item is_list (passed pieces) piece (rest_text others)
piece_placed pieces piece others free clean some = record {
  begins = subst (λ (t : List ℕ). CanGoOn is_list t) (append-nil (passed pieces)) (piece_outward pieces [] free some go_item);
  inward = λ k go. piece_inward pieces (take k piece) free (All-take (λ b. eqb b 59 ≡ false) k piece clean) go;
  outward = λ k go. piece_outward pieces (take k piece) free some go;
  ends = λ c more e go. piece_ends pieces piece free clean (rw (mark_of others c more e) at go);
}
  where
    mark_of : (others : List (List ℕ)) (c : ℕ) (more : List ℕ) → rest_text others ≡ c ∷ more → c ≡ 59
    mark_of [] c more e = cc e
    mark_of (x ∷ xs) c more e = cc

abbrev pub pieces_of : List ℕ → List (List ℕ)
pieces_of text = slice_split (λ b. eqb b 59) text

passed_push : (xs : List (List ℕ)) (x : List ℕ) → passed (xs ++ x ∷ []) ≡ passed xs ++ (x ++ 59 ∷ [])
passed_push [] x = refl
passed_push (y ∷ xs) x = ap (λ t. y ++ 59 ∷ t) (passed_push xs x) ∙ sym (append_assoc y (59 ∷ passed xs) (x ++ 59 ∷ []))

any_push : {A : Type 0} (p : A → Bool) (xs : List A) (x : A) → list_any p (xs ++ x ∷ []) ≡ (list_any p xs || p x)
any_push p [] x = or_false (p x)
  where
    or_false : (b : Bool) → (b || false) ≡ b
    or_false true = refl
    or_false false = refl
any_push p (y ∷ xs) x = elim (cases_Bool (p y)) [ inl e ↦ rw e refl | inr e ↦ rw e (any_push p xs x) ]

-- the pieces that were read of a list, and those that are left
pub record IsReading (text : List ℕ) (left : List (List ℕ)) (start : ℕ) (mask : Mask) : Type 0 where
  pub some : 0 < length text
  pub taken : List (List ℕ)
  pub pieces : pieces_of text ≡ taken ++ left
  pub at : start ≡ length (passed taken)
  pub runs : List Run
  pub items : items_of taken ≡ Some runs
  pub fits : mask.bits < 2 ^ 64
  pub cpus : (k : ℕ) → has mask k ≡ list_any (run_has k) runs

pub reading_none : (text : List ℕ) (mask : Mask) → 0 < length text → mask.bits < 2 ^ 64
    → ((k : ℕ) → has mask k ≡ false) → IsReading text (pieces_of text) 0 mask
reading_none text mask some fits none = record {
  some = some;
  taken = [];
  pieces = refl;
  at = refl;
  runs = [];
  items = refl;
  fits = fits;
  cpus = none;
}

-- the text around the next piece
around : (text item : List ℕ) (taken left : List (List ℕ)) → pieces_of text ≡ taken ++ item ∷ left
    → text ≡ passed taken ++ (item ++ rest_text left)
around text item taken left e = sym (join_with_byte-slice_split 59 text) ∙ ap (join_with_byte 59) e ∙ joined_at taken item left

first_pieces : {A : Type 0} (P : A → Type 0) (xs ys : List A) → All P (xs ++ ys) → All P xs
first_pieces P [] ys h = All-nil P
first_pieces P (x ∷ xs) ys h = All-cons P x xs (All-head P x (xs ++ ys) h) (first_pieces P xs ys (All-tail P x (xs ++ ys) h))

next_piece : {A : Type 0} (P : A → Type 0) (xs : List A) (x : A) (ys : List A) → All P (xs ++ x ∷ ys) → P x
next_piece P [] x ys h = All-head P x ys h
next_piece P (y ∷ xs) x ys h = next_piece P xs x ys (All-tail P y (xs ++ x ∷ ys) h)

-- a bad item makes the list bad
pub bad_list : (text : List ℕ) (left : List (List ℕ)) (start : ℕ) (mask : Mask) (item : List ℕ) (at : ℕ)
    → IsReading text (item ∷ left) start mask → IsBadItem item at
    → (list_of text ≡ None) × IsFirstBad is_list text (start + at)
bad_list text left start mask item at r bad =
    let free : All IsPiece (r.taken ++ item ∷ left) = subst (λ (ps : List (List ℕ)). All IsPiece ps) r.pieces
    (pieces_free text) in
    let placed = piece_placed r.taken item left (first_pieces IsPiece r.taken (item ∷ left) free)
    (next_piece IsPiece r.taken item left free) (ap is_some r.items) in
    let b = first_bad_placed is_item is_list (passed r.taken) item (rest_text left) at placed (ap is_some bad.0) bad.1 in (
      none_from (list_of text) (λ good.
          let items : is_some (items_of (r.taken ++ item ∷ left)) ≡ true =
          ap (λ ps. is_some (items_of ps)) (sym r.pieces) ∙ sym (is_list_from text r.some) ∙ good in
          both_ways (is_item item) (ap is_some bad.0) (items_head item left (items_last r.taken (item ∷ left) items))),
      subst (λ (t : List ℕ). IsFirstBad is_list t (start + at)) (sym (around text item r.taken left r.pieces))
          (subst (λ (k : ℕ). IsFirstBad is_list (passed r.taken ++ (item ++ rest_text left)) (k + at)) (sym r.at) b),
    )

pub list_fits : (text : List ℕ) (left : List (List ℕ)) (start : ℕ) (mask : Mask) (item : List ℕ)
    → IsReading text (item ∷ left) start mask → start + length item ≤ length text
list_fits text left start mask item r =
    omega (
      arith,
      r.at,
      ap length (around text item r.taken left r.pieces),
      length-append (passed r.taken)
          (item ++ rest_text left),
      length-append item (rest_text left),
    )

pub reading_more : (text : List ℕ) (left : List (List ℕ)) (start a b : ℕ) (mask run after : Mask) (item : List ℕ)
    → IsReading text (item ∷ left) start mask → item_of item ≡ Some (a, b)
    → ((k : ℕ) → has run k ≡ run_has k (a, b)) → after.bits < 2 ^ 64
    → ((k : ℕ) → has after k ≡ (has mask k || has run k)) → IsReading text left (start + (length item + 1)) after
reading_more text left start a b mask run after item r is run_is fits after_is = record {
  some = r.some;
  taken = r.taken ++ item ∷ [];
  pieces = r.pieces ∙ sym (append_assoc r.taken (item ∷ []) left);
  at = (let e = ap length (passed_push r.taken item) in
      omega (arith, e, r.at, length-append (passed r.taken) (item ++ 59 ∷ []), length-append item (59 ∷ [])));
  runs = r.runs ++ (a, b) ∷ [];
  items = items_more r.taken item r.runs (a, b) r.items is;
  fits = fits;
  cpus = λ k. after_is k ∙ ap (λ x. x || has run k) (r.cpus k) ∙ ap (λ x. list_any (run_has k) r.runs || x) (run_is k)
      ∙ sym (any_push (run_has k) r.runs (a, b));
}

pub in_range : (mask : Mask) (runs : List Run) (k : ℕ) → mask.bits < 2 ^ 64
    → ((c : ℕ) → has mask c ≡ list_any (run_has c) runs) → (ltb k 64 && list_any (run_has k) runs) ≡ has mask k
in_range mask runs k fits cpus = elim (cases_lt k 64) [
  | inl lt ↦ rw (lt-ltb k 64 lt) (sym (cpus k))
  | inr ge ↦ rw (le-ltb k 64 ge) (sym (has_above mask k fits ge))
]

pub reading_ends : (text : List ℕ) (start : ℕ) (mask : Mask) → IsReading text [] start mask → list_of text ≡ Some mask
reading_ends text start mask r =
    let items : items_of (pieces_of text) ≡ Some r.runs = ap items_of (r.pieces ∙ append-nil r.taken) ∙ r.items in
    list_from_items text r.runs r.some items
    ∙ ap Some (same_mask (mask_of_runs r.runs) mask
    (λ k. mask_where_has (λ cpu. list_any (run_has cpu) r.runs) k ∙ in_range mask r.runs k r.fits r.cpus))

list_none : list_of [] ≡ Some no_cpus
unfolding list_of
list_none = refl

pub list_of_none : (text : List ℕ) (mask : Mask) → length text ≡ 0 → mask ≡ no_cpus → list_of text ≡ Some mask
list_of_none text mask none is = ap list_of (nil_from_length text none) ∙ list_none ∙ ap Some (sym is)
