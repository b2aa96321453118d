-- Lists that are kept from the back to the front. For callers too: a search from either end.
-- For `has_awake`, `TaskLists::renice_awake`, `TaskLists::mask_awake` and others; cited by `lb_ready` too.
use Rattle.std.proofs.Common.{◌≡◌, ℕ, ◌≤◌, Bool, true, false, cond, ◌==◌, eqb, ◌||◌, List, [], ◌∷◌, ◌++◌, length, map, reverse, filter, find, Option, Some, None, is_some, refl, sym, ◌∙◌, ap, arith, inl, inr, ◌<◌, get_or, remove, position}
use Rattle.std.specs.List.{list_any}
use Rattle.std.proofs.lemmas.Bool.{cases_Bool, cond-true}
use Rattle.std.proofs.lemmas.List.{reverse-append, reverse-reverse, map-append}
use Rattle.std.proofs.lemmas.List.Elements.{filter-append}
use Rattle.lb_queue.specs.declared.record.TaskRecord.{TaskRecord}
use Rattle.lb_queue.specs.declared.awake.Awake.{Awake}
use Rattle.lb_queue.specs.Tasks.{occurs, joined, somebody_runs, waiting, picked, picked_first, pick_back}
use Rattle.lb_queue.specs.Queue.{nobody}
use Rattle.lb_queue.proofs.Search.{some_position}
use Rattle.lb_queue.proofs.Counts.{occurs-reverse}

or_swap : (a b : Bool) → (a || (b || false)) ≡ (b || a)
or_swap true true = refl
or_swap true false = refl
or_swap false true = refl
or_swap false false = refl

or_assoc : (a b c : Bool) → (a || (b || c)) ≡ ((a || b) || c)
or_assoc true b c = refl
or_assoc false b c = refl

any_append : {X : Type 0} (p : X → Bool) (xs ys : List X) → list_any p (xs ++ ys) ≡ (list_any p xs || list_any p ys)
any_append p [] ys = refl
any_append p (x ∷ xs) ys = ap (λ (b : Bool). p x || b) (any_append p xs ys) ∙ or_assoc (p x) (list_any p xs) (list_any p ys)

pub any_reverse : {X : Type 0} (p : X → Bool) (xs : List X) → list_any p (reverse xs) ≡ list_any p xs
any_reverse p [] = refl
any_reverse p (x ∷ xs) =
    ap (list_any p) (reverse-append (x ∷ []) xs) ∙ any_append p (reverse xs) (x ∷ []) ∙ or_swap (list_any p (reverse xs)) (p x)
    ∙ ap (λ (b : Bool). p x || b) (any_reverse p xs)

last_of : {X : Type 0} (x : X) (ys : List X) (b : Bool) → reverse ys ++ cond b (x ∷ []) [] ≡ reverse (cond b (x ∷ ys) ys)
last_of x ys true = sym (reverse-append (x ∷ []) ys)
last_of x ys false = sym (reverse-append [] ys)

pub filter_reverse : {X : Type 0} (p : X → Bool) (xs : List X) → filter p (reverse xs) ≡ reverse (filter p xs)
filter_reverse p [] = refl
filter_reverse p (x ∷ xs) =
    ap (filter p) (reverse-append (x ∷ []) xs) ∙ filter-append p (reverse xs) (x ∷ [])
    ∙ ap (λ zs. zs ++ cond (p x) (x ∷ []) []) (filter_reverse p xs)
    ∙ last_of x (filter p xs) (p x)

pub map_reverse : {X Y : Type 0} (f : X → Y) (xs : List X) → map f (reverse xs) ≡ reverse (map f xs)
map_reverse f [] = refl
map_reverse f (x ∷ xs) = ap (map f) (reverse-append (x ∷ []) xs) ∙ map-append f (reverse xs) (x ∷ [])
    ∙ ap (λ zs. zs ++ f x ∷ []) (map_reverse f xs) ∙ sym (reverse-append (f x ∷ []) (map f xs))

-- ---- what is found from either end
passed : {X : Type 0} (y : X) (b : Bool) (o q r : Option X) → cond b (Some y) o ≡ None → (o ≡ None → q ≡ r)
    → cond b (Some y) q ≡ r
passed y true o q r h e = absurd (let z : ⊥ = cc in z)
passed y false o q r h e = e h

find_push : {X : Type 0} (p : X → Bool) (ys : List X) (x : X) → find p ys ≡ None → find p (ys ++ x ∷ []) ≡ cond (p x)
    (Some x) None
find_push p [] x h = refl
find_push p (y ∷ ys) x h = passed y (p y) _ _ _ h (find_push p ys x)

find_keep : {X : Type 0} (p : X → Bool) (ys : List X) (x : X) → p x ≡ false → find p (ys ++ x ∷ []) ≡ find p ys
find_keep p [] x h = rw h refl
find_keep p (y ∷ ys) x h = ap (cond (p y) (Some y)) (find_keep p ys x h)

none_of : {X : Type 0} (f : X → ℕ) (id : ℕ) (xs : List X) → occurs id (map f xs) ≤ 0 → find (λ x. f x == id) xs ≡ None
none_of f id [] h = refl
none_of f id (x ∷ xs) h = elim (cases_Bool (f x == id)) [
  | inl e ↦ absurd (let k : cond {A = ℕ} (eqb (f x) id) 1 0 ≡ 1 = cond-true {A = ℕ} (eqb (f x) id) 1 0 e in omega arith)
  | inr e ↦ rw e (none_of f id xs (omega arith))
]

pub find_turned : {X : Type 0} (f : X → ℕ) (id : ℕ) (xs : List X) → occurs id (map f xs) ≤ 1
    → find (λ x. f x == id) (reverse xs) ≡ find (λ x. f x == id) xs
find_turned f id [] h = refl
find_turned f id (x ∷ xs) h = ap (find (λ x. f x == id)) (reverse-append (x ∷ []) xs) ∙ elim (cases_Bool (f x == id)) [
  | inl e ↦ (let k : cond {A = ℕ} (eqb (f x) id) 1 0 ≡ 1 = cond-true {A = ℕ} (eqb (f x) id) 1 0 e in
      let r = occurs-reverse f id xs in
      find_push (λ x. f x == id) (reverse xs) x (none_of f id (reverse xs) (omega arith)) ∙ rw e refl)
  | inr e ↦ find_keep (λ x. f x == id) (reverse xs) x e ∙ find_turned f id xs (omega arith) ∙ rw e refl
]

found_step : {X : Type 0} (x : X) (o : Option X) (b r : Bool) → is_some o ≡ r → is_some (cond b (Some x) o) ≡ (b || r)
found_step x o true r h = refl
found_step x o false r h = h

pub found_any : {X : Type 0} (p : X → Bool) (xs : List X) → is_some (find p xs) ≡ list_any p xs
found_any p [] = refl
found_any p (x ∷ xs) = found_step x (find p xs) (p x) (list_any p xs) (found_any p xs)

pub found_turned : {X : Type 0} (p : X → Bool) (xs : List X) → is_some (find p (reverse xs)) ≡ list_any p xs
found_turned p xs = found_any p (reverse xs) ∙ any_reverse p xs

pub some_turned : {X : Type 0} (p : X → Bool) (xs : List X) → is_some (position p xs) ≡ is_some (find p (reverse xs))
some_turned p xs = some_position p xs ∙ found_any p xs ∙ sym (found_turned p xs)

-- ---- a push at the end is a joining at the front
pub joined_waiting : (clock : ℕ) (t : TaskRecord) (a : Awake) (xs : List Awake) → list_any (λ x. x.running) xs ≡ true
    → a ≡ waiting t → reverse (xs ++ a ∷ []) ≡ joined clock t (reverse xs)
unfolding joined somebody_runs
joined_waiting clock t a xs h e = reverse-append xs (a ∷ []) ∙ rw (any_reverse (λ (x : Awake). x.running) xs, h, e) refl

pub joined_picked : (clock : ℕ) (t : TaskRecord) (a : Awake) (xs : List Awake) → list_any (λ x. x.running) xs ≡ false
    → a ≡ picked clock (waiting t) → reverse (xs ++ a ∷ []) ≡ joined clock t (reverse xs)
unfolding joined somebody_runs
joined_picked clock t a xs h e = reverse-append xs (a ∷ []) ∙ rw (any_reverse (λ (x : Awake). x.running) xs, h, e) refl

pub nobody_picked : (clock : ℕ) (xs : List Awake) → length xs ≡ 0 → reverse xs ≡ pick_back clock (reverse xs)
unfolding pick_back
nobody_picked clock [] h = refl
nobody_picked clock (x ∷ xs) h = absurd (omega arith)

pub back_picked : (clock : ℕ) (xs rest : List Awake) (x y : Awake) → 0 < length xs → x ≡ get_or xs 0 x
    → rest ≡ remove xs 0 → y ≡ picked clock x → reverse (rest ++ y ∷ []) ≡ pick_back clock (reverse xs)
unfolding pick_back
back_picked clock [] rest x y h e r p = absurd (omega arith)
back_picked clock (z ∷ zs) rest x y h e r p =
    rw (r, p, e) (reverse-append zs (picked clock z ∷ [])) ∙ ap (picked_first clock) (sym (reverse-reverse (z ∷ zs)))

nobody_after : (xs : List Awake) (x : Awake) → nobody (xs ++ x ∷ []) ≡ false
nobody_after [] x = refl
nobody_after (y ∷ ys) x = refl

pub nobody_reverse : (xs : List Awake) → nobody (reverse xs) ≡ nobody xs
nobody_reverse [] = refl
nobody_reverse (x ∷ xs) = ap nobody (reverse-append (x ∷ []) xs) ∙ nobody_after (reverse xs) x
