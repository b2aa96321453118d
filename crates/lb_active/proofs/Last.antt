-- For `active_pick`: the last that passes a test is the first that passes from the back.
use Rattle.std.proofs.Common.{◌≡◌, Bool, cond, Option, Some, None, List, [], ◌∷◌, reverse, filter, find, refl, sym, ◌∙◌, ap, inl, inr}
use Rattle.std.specs.List.{last_or}
use Rattle.std.specs.Option.{option_or}
use Rattle.std.proofs.lemmas.Bool.{cases_Bool}
use Rattle.std.proofs.lemmas.List.{reverse-append}
use Rattle.std.proofs.lemmas.List.Folds.{find-append}

or_else : {X : Type 0} (a b o : Option X) → option_or (option_or a b) o ≡ option_or a (option_or b o)
or_else None b o = refl
or_else (Some x) b o = refl

or_none : {X : Type 0} (a : Option X) → option_or a None ≡ a
or_none None = refl
or_none (Some x) = refl

one_more : {X : Type 0} (p : X → Bool) (o : Option X) (x : X) (xs : List X)
    → option_or (find p (reverse (x ∷ xs))) o ≡ option_or (find p (reverse xs)) (option_or (cond (p x) (Some x) None) o)
one_more p o x xs = ap (λ a. option_or a o)
    (ap (find p) (reverse-append (x ∷ []) xs) ∙ find-append p (reverse xs) (x ∷ []))
    ∙ or_else (find p (reverse xs)) (cond (p x) (Some x) None) o

last_from_back : {X : Type 0} (p : X → Bool) (o : Option X) (xs : List X) → last_or o (filter p xs) ≡ option_or
    (find p (reverse xs)) o
last_from_back p o [] = refl
last_from_back p o (x ∷ xs) =
    elim (cases_Bool (p x)) [
      | inl passes ↦ rw passes (last_from_back p (Some x) xs)
          ∙ sym (one_more p o x xs ∙ ap (λ t. option_or (find p (reverse xs)) (option_or (cond t (Some x) None) o)) passes)
      | inr fails ↦ rw fails (last_from_back p o xs)
          ∙ sym (one_more p o x xs ∙ ap (λ t. option_or (find p (reverse xs)) (option_or (cond t (Some x) None) o)) fails)
    ]

pub last_passing : {X : Type 0} (p : X → Bool) (xs : List X) → last_or None (filter p xs) ≡ find p (reverse xs)
last_passing p xs = last_from_back p None xs ∙ or_none (find p (reverse xs))
