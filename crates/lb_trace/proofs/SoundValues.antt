-- The ranges of what the fields of a good line say.
-- For the lemmas of `SoundFacts`, `SoundHeader` and other files, and so for the law `accepted`.
use Rattle.std.proofs.Common.{◌≡◌, ℕ, zero, suc, ℤ, pos, neg_ℤ, ◌+◌, ◌-◌, ◌≤◌, Bool, true, false, ◌&&◌, nat_le, ◌==◌, cond, List, [], ◌∷◌, length, drop, map, Option, Some, None, IfSome, refl, ◌∙◌, arith, length-drop}
use Rattle.std.specs.Prelude.{is_none, option_and_then}
use Rattle.std.specs.List.{list_all}
use Rattle.std.specs.Option.{option_map}
use Rattle.std.specs.Str.Parse.{digits_value, starts_with_minus}
use Rattle.std.proofs.lemmas.Bool.{and_from, lt-ltb, le-leb, leb-true}
use Rattle.std.proofs.lemmas.List.{length-map}
use Rattle.std.proofs.lemmas.List.Splits.{length-slice_split}
use Rattle.std.proofs.lemmas.List.Sums.{count_by-le-length}
use Rattle.csv.specs.Records.{field_at}
use Rattle.lb_base.specs.declared.mask.Mask.{Mask}
use Rattle.lb_fields.specs.Pieces.{pieces}
use Rattle.lb_text.specs.Numbers.{is_numeral, number_within, nice_of}
use Rattle.lb_text.specs.Lists.{list_of}
use Rattle.lb_text.proofs.RoundTrip.{lists_fit}
use Rattle.lb_trace.specs.declared.trace.TheConstants.{MAX_DISTANCE}
use Rattle.lb_trace.specs.Values.{number_at, nice_at, list_at, number, nice, list, distances_in, masks_from}
use Rattle.lb_trace.specs.Accepted.{is_mask, is_nice_value}

-- ---- numbers
abbrev pub IsWithin : ℕ → ℕ → ℕ → Type 0
IsWithin least most n = (least ≤ n) × (n ≤ most)

within_is : (least most : ℕ) (text : List ℕ) → IfSome (number_within least most text) (IsWithin least most)
unfolding number_within
within_is least most text = both (is_numeral text) (nat_le least (digits_value 10 text))
    (nat_le (digits_value 10 text) most) (λ low high. (leb-true _ _ low, leb-true _ _ high))
  where
    both : (a b c : Bool) → (b ≡ true → c ≡ true → IsWithin least most (digits_value 10 text))
        → IfSome (cond (a && b && c) (Some (digits_value 10 text)) None) (IsWithin least most)
    both true true true h = h refl refl
    both true true false h = tt
    both true false c h = tt
    both false b c h = tt

then_is : {A B : Type 0} (P : B → Type 0) (o : Option A) (f : A → Option B) → ((a : A) → IfSome (f a) P)
    → IfSome (option_and_then f o) P
then_is P None f each = tt
then_is P (Some a) f each = each a

mapped_is : {A B : Type 0} (P : B → Type 0) (Q : A → Type 0) (o : Option A) (f : A → B) → IfSome o Q
    → ((a : A) → Q a → P (f a)) → IfSome (option_map f o) P
mapped_is P Q None f holds each = tt
mapped_is P Q (Some a) f holds each = each a holds

number_is : (least most : ℕ) (o : Option ℕ) → is_none o ≡ false → IfSome o (IsWithin least most) → IsWithin least most (number o)
number_is least most None there holds = absurd (cc)
number_is least most (Some n) there holds = holds

-- a number that is there is in its range
pub number_in : (i least most : ℕ) (fields : List (List ℕ)) → is_none (number_at i least most fields) ≡ false
    → IsWithin least most (number (number_at i least most fields))
unfolding number_at
number_in i least most fields there = number_is least most _ there
    (then_is (IsWithin least most) (field_at fields i) (number_within least most) (within_is least most))

-- ---- nice values
nice_is : (text : List ℕ) → IfSome (nice_of text) (λ n. is_nice_value n ≡ true)
unfolding nice_of
nice_is text =
    elim (starts_with_minus text) as (λ b. IfSome
    (cond b (option_map (λ n. neg_ℤ (pos n)) (number_within 1 20 (drop 1 text)))
    (option_map (λ n. pos n) (number_within 0 19 text))) (λ n. is_nice_value n ≡ true)) [
      | true ↦ mapped_is (λ n. is_nice_value n ≡ true) (IsWithin 1 20) (number_within 1 20 (drop 1 text))
          (λ n. neg_ℤ (pos n)) (within_is 1 20 (drop 1 text)) below
      | false ↦ mapped_is (λ n. is_nice_value n ≡ true) (IsWithin 0 19) (number_within 0 19 text) (λ n. pos n)
          (within_is 0 19 text) (λ n h. le-leb n 19 h.1)
    ]
  where
    below : (n : ℕ) → IsWithin 1 20 n → is_nice_value (neg_ℤ (pos n)) ≡ true
    below zero h = absurd (omega (arith, h.0))
    below (suc n) h = le-leb n 19 (omega (arith, h.1))

pub nice_in : (i : ℕ) (fields : List (List ℕ)) → is_nice_value (nice (nice_at i fields)) ≡ true
unfolding nice_at
nice_in i fields = or_zero (option_and_then nice_of (field_at fields i))
    (then_is (λ n. is_nice_value n ≡ true) (field_at fields i) nice_of nice_is)
  where
    or_zero : (o : Option ℤ) → IfSome o (λ n. is_nice_value n ≡ true) → is_nice_value (nice o) ≡ true
    or_zero None holds = refl
    or_zero (Some n) holds = holds

-- ---- lists of CPUs
mask_is : (text : List ℕ) → IfSome (list_of text) (λ mask. is_mask mask ≡ true)
mask_is text = fits (list_of text) (λ mask e. lt-ltb _ _ (lists_fit text mask e))
  where
    fits : (o : Option Mask) → ((mask : Mask) → o ≡ Some mask → is_mask mask ≡ true) → IfSome o (λ mask. is_mask mask ≡ true)
    fits None each = tt
    fits (Some mask) each = each mask refl

or_none : (o : Option Mask) → IfSome o (λ mask. is_mask mask ≡ true) → is_mask (list o) ≡ true
or_none None holds = refl
or_none (Some mask) holds = holds

pub list_in : (i : ℕ) (fields : List (List ℕ)) → is_mask (list (list_at i fields)) ≡ true
unfolding list_at
list_in i fields = or_none (option_and_then list_of (field_at fields i))
    (then_is (λ mask. is_mask mask ≡ true) (field_at fields i) list_of mask_is)

pub masks_in : (i : ℕ) (fields : List (List ℕ)) → list_all is_mask (masks_from i fields) ≡ true
masks_in i fields = all (drop i fields)
  where
    all : (fs : List (List ℕ)) → list_all is_mask (map (λ field. list (list_of field)) fs) ≡ true
    all [] = refl
    all (f ∷ fs) = and_from _ _ (or_none (list_of f) (mask_is f)) (all fs)

pub length-masks_from : (i : ℕ) (fields : List (List ℕ)) → length (masks_from i fields) ≡ length fields - i
length-masks_from i fields = length-map (drop i fields) (λ field. list (list_of field)) ∙ length-drop i fields

-- ---- distances
pub length-distances_in : (fields : List (List ℕ)) → length (distances_in fields) ≡ length fields - 1
length-distances_in fields = length-map (drop 1 fields) (λ field. number (number_within 1 MAX_DISTANCE field)) ∙
    length-drop 1 fields

-- ---- how many
pub few_fields : (mark : ℕ) (line : List ℕ) → length (pieces mark line) ≤ length line + 1
few_fields mark line = omega (
  arith,
  length-slice_split (λ byte. byte == mark) line,
  count_by-le-length
      (λ byte. byte == mark) line,
)
