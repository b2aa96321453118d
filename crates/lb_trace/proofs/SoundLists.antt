-- Lists that are empty, and lists that grow at their end: what each of their items keeps to, and how
-- each stands behind those before it.
-- For the lemmas of `AcceptedFacts`, `SoundFacts` and other files, and so for the laws `accepted` and `first_bad`;
-- cited by `lb_read` too.
use Rattle.std.proofs.Common.{◌≡◌, ℕ, ◌<◌, Bool, true, false, List, [], ◌∷◌, ◌++◌, length, take, get_or, Option, Some, None, IfSome, refl, sym, ap, subst, ◌∙◌, arith, inl, inr}
use Rattle.std.specs.Prelude.{is_some}
use Rattle.std.specs.List.{list_all}
use Rattle.std.proofs.lemmas.Bool.{and_from, and_parts, cases_eq}
use Rattle.std.proofs.lemmas.List.{length_push, take-append-le, take_at, get_or_append_left, get_or_push}
use Rattle.std.proofs.lemmas.List.Folds.{list_all-append}
use Rattle.lb_trace.specs.declared.trace.TaskRow.{TaskRow}
use Rattle.lb_trace.specs.declared.trace.Row.{Row}
use Rattle.lb_trace.specs.declared.trace.Header.{Header}
use Rattle.lb_trace.specs.Sound.{AreTasks, AreRows}

pub all_push : {X : Type 0} (p : X → Bool) (xs : List X) (x : X) → list_all p xs ≡ true → p x ≡ true
    → list_all p (xs ++ x ∷ []) ≡ true
all_push p xs x all one = list_all-append p xs (x ∷ []) ∙ and_from _ _ all (and_from _ _ one refl)

pub all_none : {X : Type 0} (p : X → Bool) (xs : List X) → xs ≡ [] → list_all p xs ≡ true
all_none p xs none = ap (list_all p) none

pub all_also : {X : Type 0} (p q : X → Bool) (xs : List X) → ((x : X) → p x ≡ true → q x ≡ true)
    → list_all p xs ≡ true → list_all q xs ≡ true
all_also p q [] also all = refl
all_also p q (x ∷ xs) also all = let parts = and_parts _ _ all in and_from _ _ (also x parts.0) (all_also p q xs also parts.1)

-- each item stands behind those before it, and so does one more
pub stand_push : {X : Type 0} (clashes : List X → X → Bool) (d : X) (xs : List X) (x : X)
    → ((k : ℕ) → k < length xs → clashes (take k xs) (get_or xs k d) ≡ false) → clashes xs x ≡ false
    → (k : ℕ) → k < length (xs ++ x ∷ []) → clashes (take k (xs ++ x ∷ [])) (get_or (xs ++ x ∷ []) k d) ≡ false
stand_push clashes d xs x each one k lt =
    let longer = length_push xs x in
    elim (cases_eq k (length xs)) [
      | inl last ↦ ap (λ front. clashes front (get_or (xs ++ x ∷ []) k d)) (take_at xs (x ∷ []) k (sym last))
          ∙ ap (clashes xs) (get_or_push xs x d k (sym last)) ∙ one
      | inr before ↦
          let within : k < length xs = omega (arith, longer, lt, before) in
          ap (λ front. clashes front (get_or (xs ++ x ∷ []) k d))
          (take-append-le k xs (x ∷ []) (omega (arith, within)))
          ∙ ap (clashes (take k xs)) (get_or_append_left xs (x ∷ []) d k within) ∙ each k within
    ]

-- ---- what may be there
pub if_some : {X : Type 0} (P Q : X → Type 0) (o : Option X) → IfSome o P → ((x : X) → P x → Q x) → IfSome o Q
if_some P Q None holds more = tt
if_some P Q (Some x) holds more = more x holds

pub is_none_if : {X : Type 0} (P : X → Type 0) (o : Option X) → IfSome o P → ((x : X) → P x → ⊥) → is_some o ≡ false
is_none_if P None holds never = refl
is_none_if P (Some x) holds never = absurd (never x holds)

-- ---- no tasks and no rows
pub no_tasks : (cpus : ℕ) (after_lanes : Bool) (tasks : List TaskRow) → tasks ≡ [] → AreTasks cpus after_lanes tasks
no_tasks cpus after_lanes tasks none = subst (AreTasks cpus after_lanes) (sym none)
    (record { none = λ _. refl; most = omega arith; all = refl })

pub no_rows : (h : Header) (after_lanes : Bool) (rows : List Row) → rows ≡ [] → AreRows h after_lanes rows
no_rows h after_lanes rows none = subst (AreRows h after_lanes) (sym none)
    (record { none = λ _. refl; most = omega arith; all = refl; ticks = refl })
