-- The fields of a good line of a trace, with its lists in their one spelling, are those that a header
-- writes for what was read of it.
-- For the lemmas of `HeaderSound` and `Room`, and so for the laws `headers_read_back`, `texts_read_once` and
-- `histories_read_back`.
use Rattle.std.proofs.Common.{◌≡◌, ℕ, ◌<◌, ◌^◌, ℤ, Bool, true, false, ◌||◌, eqb, List, [], ◌∷◌, map, length, Option, Some, None, refl, sym, ap, ◌∙◌, inl, inr, arith}
use Rattle.std.specs.Prelude.{decimal, is_none, is_some}
use Rattle.std.specs.Fmt.{signed_decimal}
use Rattle.std.specs.List.{list_all}
use Rattle.std.proofs.lemmas.Bool.{cases_Bool, false≢true, ne_eqb}
use Rattle.std.proofs.lemmas.Slice.Eq.{bytes_eq-Decides}
use Rattle.lb_base.specs.declared.mask.Mask.{Mask}
use Rattle.lb_base.specs.Sets.{is_empty}
use Rattle.lb_text.specs.Numbers.{number_within, is_number, nice_of}
use Rattle.lb_text.specs.Lists.{list_of}
use Rattle.lb_text.specs.Runs.{runs_text, list_text}
use Rattle.lb_text.proofs.Digits.{number_spelled}
use Rattle.lb_trace.specs.Values.{number, nice, list}
use Rattle.lb_record.proofs.Empty.{list_some}
use Rattle.lb_read.specs.Repeats.{spells, is_spelled}
use Rattle.lb_read.proofs.ExactFacts.{both_true}
use Rattle.lb_read.proofs.FieldsExact.{nice_exact, no_runs, dash_list_of}

-- ---- one field
number_text : (least most : ℕ) (text : List ℕ) (o : Option ℕ) → most < 2 ^ 64 → number_within least most text ≡ o
    → is_none o ≡ false → text ≡ decimal (number o)
number_text least most text None small is some = absurd (false≢true (sym some))
number_text least most text (Some n) small is some = (number_spelled least most n text small is).0

pub number_field : (least most : ℕ) (text : List ℕ) → most < 2 ^ 64 → is_none (number_within least most text) ≡ false
    → text ≡ decimal (number (number_within least most text))
number_field least most text small some = number_text least most text (number_within least most text) small refl some

nice_text : (text : List ℕ) (o : Option ℤ) → nice_of text ≡ o → is_none o ≡ false → text ≡ signed_decimal (nice o)
nice_text text None is some = absurd (false≢true (sym some))
nice_text text (Some z) is some = (nice_exact.sound text z is).0

pub nice_field : (text : List ℕ) → is_none (nice_of text) ≡ false → text ≡ signed_decimal (nice (nice_of text))
nice_field text some = nice_text text (nice_of text) refl some

-- a list in its one spelling
spelled_list : (b : ℕ) (text : List ℕ) (o : Option Mask) → list_of (b ∷ text) ≡ o → spells (b ∷ text) o ≡ true
    → b ∷ text ≡ runs_text (list o)
spelled_list b text None is some = absurd (false≢true some)
spelled_list b text (Some mask) is some =
    let same : list_text mask ≡ b ∷ text = (bytes_eq-Decides (list_text mask) (b ∷ text)).0 some in
    elim (cases_Bool (is_empty mask)) [
      | inl none ↦ absurd (dash_list_of mask (b ∷ text) none same is)
      | inr full ↦ sym same ∙ list_some mask full
    ]

pub list_field : (text : List ℕ) → is_spelled text ≡ true → text ≡ runs_text (list (list_of text))
unfolding is_spelled list_of
list_field [] some = sym no_runs
list_field (b ∷ text) some =
    spelled_list b text (list_of (b ∷ text)) refl (not_empty (spells (b ∷ text) (list_of (b ∷ text))) some)
  where
    not_empty : (s : Bool) → (eqb (length (b ∷ text)) 0 || s) ≡ true → s ≡ true
    not_empty s e = rw (ne_eqb (length (b ∷ text)) 0 (λ z. omega (arith, z))) at e

-- ---- all fields
pub numbers_field : (least most : ℕ) (fields : List (List ℕ)) → most < 2 ^ 64 → list_all (is_number least most) fields ≡ true
    → fields ≡ map decimal (map (λ field. number (number_within least most field)) fields)
numbers_field least most [] small all = refl
numbers_field least most (field ∷ fields) small all =
    let h = both_true (is_number least most field) (list_all (is_number least most) fields) all in
    ap (λ f. f ∷ fields) (number_field least most field small (some_none (number_within least most field) h.0))
    ∙ ap (λ fs. decimal (number (number_within least most field)) ∷ fs) (numbers_field least most fields small h.1)
  where
    some_none : (o : Option ℕ) → is_some o ≡ true → is_none o ≡ false
    some_none None e = absurd (false≢true e)
    some_none (Some n) e = refl

pub lists_field : (fields : List (List ℕ)) → list_all is_spelled fields ≡ true
    → fields ≡ map runs_text (map (λ field. list (list_of field)) fields)
lists_field [] all = refl
lists_field (field ∷ fields) all =
    let h = both_true (is_spelled field) (list_all is_spelled fields) all in
    ap (λ f. f ∷ fields) (list_field field h.0) ∙ ap (λ fs. runs_text (list (list_of field)) ∷ fs) (lists_field fields h.1)
