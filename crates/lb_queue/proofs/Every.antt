-- Tests that every element of a list passes. For callers too.
-- For the lemmas of `Allowed`, `Leasts` and other files, and so for the laws `next_stops`, `pulls_follow_picks` and
-- others; cited by `lb_ready` and `lb_state` too.
use Rattle.std.proofs.Common.{◌≡◌, Bool, true, false, cond, List, [], ◌∷◌, ◌++◌, map, reverse, filter, find, Option, Some, refl, ◌∙◌, ap, subst}
use Rattle.std.specs.List.{list_all}
use Rattle.std.proofs.lemmas.Bool.{and_parts, and_from}
use Rattle.std.proofs.lemmas.List.{reverse-append}

-- ---- what holds of each
pub all_filter : {X : Type 0} (p f : X → Bool) (xs : List X) → list_all p xs ≡ true → list_all p (filter f xs) ≡ true
all_filter p f [] h = refl
all_filter p f (x ∷ xs) h = let k = and_parts (p x) (list_all p xs) h in kept p x (filter f xs) (f x) k.0 (all_filter p f xs k.1)
  where
    kept : {X : Type 0} (p : X → Bool) (x : X) (ys : List X) (b : Bool) → p x ≡ true → list_all p ys ≡ true
        → list_all p (cond b (x ∷ ys) ys) ≡ true
    kept p x ys true h k = and_from (p x) (list_all p ys) h k
    kept p x ys false h k = k

pub all_map : {X Y : Type 0} (p : X → Bool) (q : Y → Bool) (g : X → Y) → ((x : X) → p x ≡ true → q (g x) ≡ true)
    → (xs : List X) → list_all p xs ≡ true → list_all q (map g xs) ≡ true
all_map p q g f [] h = refl
all_map p q g f (x ∷ xs) h = let k = and_parts (p x) (list_all p xs) h in
    and_from (q (g x)) (list_all q (map g xs)) (f x k.0) (all_map p q g f xs k.1)

pub all_append : {X : Type 0} (p : X → Bool) (xs ys : List X) → list_all p xs ≡ true → list_all p ys ≡ true
    → list_all p (xs ++ ys) ≡ true
all_append p [] ys h k = k
all_append p (x ∷ xs) ys h k = let l = and_parts (p x) (list_all p xs) h in
    and_from (p x) (list_all p (xs ++ ys)) l.0 (all_append p xs ys l.1 k)

pub all_one : {X : Type 0} (p : X → Bool) (x : X) → p x ≡ true → list_all p (x ∷ []) ≡ true
all_one p x h = and_from (p x) true h refl

pub all_reverse : {X : Type 0} (p : X → Bool) (xs : List X) → list_all p xs ≡ true → list_all p (reverse xs) ≡ true
all_reverse p [] h = refl
all_reverse p (x ∷ xs) h =
    let k = and_parts (p x) (list_all p xs) h in
    ap (list_all p) (reverse-append (x ∷ []) xs) ∙ all_append p (reverse xs) (x ∷ []) (all_reverse p xs k.1) (all_one p x k.0)

find_step : {X : Type 0} (p : X → Bool) (x a : X) (o : Option X) (b : Bool) → p x ≡ true → (o ≡ Some a → p a ≡ true)
    → cond b (Some x) o ≡ Some a → p a ≡ true
find_step p x a o true h k e = let z : x ≡ a = cc in subst (λ y. p y ≡ true) z h
find_step p x a o false h k e = k e

pub all_find : {X : Type 0} (p f : X → Bool) (xs : List X) (a : X) → list_all p xs ≡ true → find f xs ≡ Some a → p a ≡ true
all_find p f [] a h e = absurd (let k : ⊥ = cc in k)
all_find p f (x ∷ xs) a h e = let k = and_parts (p x) (list_all p xs) h in find_step p x a (find f xs) (f x) k.0
    (all_find p f xs a k.1) e

pub all_weaker : {X : Type 0} (p q : X → Bool) → ((x : X) → p x ≡ true → q x ≡ true) → (xs : List X)
    → list_all p xs ≡ true → list_all q xs ≡ true
all_weaker p q f [] h = refl
all_weaker p q f (x ∷ xs) h = let k = and_parts (p x) (list_all p xs) h in
    and_from (q x) (list_all q xs) (f x k.0) (all_weaker p q f xs k.1)

pub all_parts : {X : Type 0} (p : X → Bool) (xs ys : List X) → list_all p (xs ++ ys) ≡ true
    → (list_all p xs ≡ true) × (list_all p ys ≡ true)
all_parts p [] ys h = (refl, h)
all_parts p (x ∷ xs) ys h = let k = and_parts (p x) (list_all p (xs ++ ys)) h in let l = all_parts p xs ys k.1 in
    (and_from (p x) (list_all p xs) k.0 l.0, l.1)
