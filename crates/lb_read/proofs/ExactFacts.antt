-- Readers that are put together of exact ones are exact.
-- For the lemmas of `EntriesExact`, `FieldsExact` and other files, and so for the laws `texts_read_once`,
-- `headers_read_back` and others.
use Rattle.std.proofs.Common.{◌≡◌, ℕ, Bool, true, false, ◌&&◌, eqb, inl, inr, List, [], ◌∷◌, ◌++◌, map, Option, Some, None, refl, sym, ap, ◌∙◌, append_assoc}
use Rattle.std.specs.Prelude.{option_and_then}
use Rattle.std.specs.Option.{option_map}
use Rattle.std.specs.List.{slice_split, join_with_byte, list_all, All}
use Rattle.std.specs.Str.{bytes_eq}
use Rattle.std.proofs.lemmas.Bool.{cases_Bool, eq-eqb}
use Rattle.std.proofs.lemmas.List.{append-nil}
use Rattle.std.proofs.lemmas.List.Splits.{slice_split_none, slice_split_at, join_with_byte-slice_split}
use Rattle.std.proofs.lemmas.Slice.Eq.{bytes_eq-Decides}
use Rattle.std.proofs.lemmas.Option.{same_Some}
use Rattle.lb_read.specs.Exact.{take_field, next_to, ending, if_none_left, whole, each, split_at, named, IsExact, TakesExactly}

-- ---- options
pub map_pieces : {A B : Type 0} (f : A → B) (o : Option A) (b : B) → option_map f o ≡ Some b → (a : A) × (o ≡ Some a) × (f a ≡ b)
map_pieces f None b e = absurd (cc)
map_pieces f (Some a) b e = (a, refl, same_Some (f a) b e)

pub bind_pieces : {A B : Type 0} (f : A → Option B) (o : Option A) (b : B) → option_and_then f o ≡ Some b
    → (a : A) × (o ≡ Some a) × (f a ≡ Some b)
bind_pieces f None b e = absurd (cc)
bind_pieces f (Some a) b e = (a, refl, e)

pub both_true : (a b : Bool) → (a && b) ≡ true → (a ≡ true) × (b ≡ true)
both_true true b e = (refl, e)
both_true false b e = absurd (cc)

-- ---- heads
one_sound : {A : Type 0} (read : List ℕ → Option A) (write : A → List ℕ) (fits : A → Bool) → IsExact read write fits
    → (fields : List (List ℕ)) (a : A) (rest : List (List ℕ)) → take_field read fields ≡ Some (a, rest)
    → (fields ≡ (write a ∷ []) ++ rest) × (fits a ≡ true)
unfolding take_field
one_sound read write fits x [] a rest e = absurd (cc)
one_sound read write fits x (field ∷ fields) a rest e =
    let m = map_pieces (λ v. (v, fields)) (read field) (a, rest) e in
    let is : m.0 ≡ a = ap (λ p. p.0) m.2 in
    let left : fields ≡ rest = ap (λ p. p.1) m.2 in
    let s = x.sound field a (m.1 ∙ ap Some is) in
    (ap (λ f. f ∷ fields) s.0 ∙ ap (λ fs. write a ∷ fs) left, s.1)

pub one_exact : {A : Type 0} (read : List ℕ → Option A) (write : A → List ℕ) (fits : A → Bool) → IsExact read write fits
    → TakesExactly (take_field read) (λ a. write a ∷ []) fits
unfolding take_field
one_exact read write fits x = record {
  sound = one_sound read write fits x;
  complete = λ a rest f. ap (option_map (λ v. (v, rest))) (x.complete a f);
}

next_to_sound : {A B : Type 0} (s : List (List ℕ) → Option (A × List (List ℕ))) (t : List (List ℕ) → Option (B × List (List ℕ)))
    (v : A → List (List ℕ)) (w : B → List (List ℕ)) (f : A → Bool) (g : B → Bool) → TakesExactly s v f → TakesExactly t w g
    → (fields : List (List ℕ)) (p : A × B) (rest : List (List ℕ)) → next_to s t fields ≡ Some (p, rest)
    → (fields ≡ (v p.0 ++ w p.1) ++ rest) × ((f p.0 && g p.1) ≡ true)
next_to_sound s t v w f g x y fields p rest e =
    let a = bind_pieces (λ a. option_map (λ b. ((a.0, b.0), b.1)) (t a.1)) (s fields) (p, rest) e in
    let b = map_pieces (λ b. ((a.0.0, b.0), b.1)) (t a.0.1) (p, rest) a.2 in
    let first_is : a.0.0 ≡ p.0 = ap (λ q. q.0.0) b.2 in
    let second_is : b.0.0 ≡ p.1 = ap (λ q. q.0.1) b.2 in
    let left_is : b.0.1 ≡ rest = ap (λ q. q.1) b.2 in
    let one = x.sound fields p.0 a.0.1 (a.1 ∙ ap (λ q. Some (q, a.0.1)) first_is) in
    let read_is : t a.0.1 ≡ Some (p.1, rest) = b.1 ∙ ap (λ q. Some (q, b.0.1)) second_is ∙ ap (λ q. Some (p.1, q)) left_is in
    let two = y.sound a.0.1 p.1 rest read_is in
    (one.0 ∙ ap (λ more. v p.0 ++ more) two.0 ∙ sym (append_assoc (v p.0) (w p.1) rest), rw (one.1, two.1) refl)

next_to_complete : {A B : Type 0} (s : List (List ℕ) → Option (A × List (List ℕ)))
    (t : List (List ℕ) → Option (B × List (List ℕ)))
    (v : A → List (List ℕ)) (w : B → List (List ℕ)) (f : A → Bool) (g : B → Bool) → TakesExactly s v f → TakesExactly t w g
    → (p : A × B) (rest : List (List ℕ)) → (f p.0 && g p.1) ≡ true → next_to s t ((v p.0 ++ w p.1) ++ rest) ≡ Some (p, rest)
next_to_complete s t v w f g x y p rest e =
    let h = both_true (f p.0) (g p.1) e in
    ap (next_to s t) (append_assoc (v p.0) (w p.1) rest)
    ∙ ap (option_and_then (λ a. option_map (λ b. ((a.0, b.0), b.1)) (t a.1))) (x.complete p.0 (w p.1 ++ rest) h.0)
    ∙ ap (option_map (λ b. ((p.0, b.0), b.1))) (y.complete p.1 rest h.1)

pub next_to_exact : {A B : Type 0} (s : List (List ℕ) → Option (A × List (List ℕ)))
    (t : List (List ℕ) → Option (B × List (List ℕ)))
    (v : A → List (List ℕ)) (w : B → List (List ℕ)) (f : A → Bool) (g : B → Bool) → TakesExactly s v f → TakesExactly t w g
    → TakesExactly (next_to s t) (λ p. v p.0 ++ w p.1) (λ p. f p.0 && g p.1)
next_to_exact s t v w f g x y = record { sound = next_to_sound s t v w f g x y; complete = next_to_complete s t v w f g x y }

-- ---- all fields
whole_sound : {A : Type 0} (s : List (List ℕ) → Option (A × List (List ℕ))) (v : A → List (List ℕ)) (f : A → Bool)
    → TakesExactly s v f
    → (fields : List (List ℕ)) (a : A) (head : A × List (List ℕ)) → s fields ≡ Some head → if_none_left head.0 head.1 ≡ Some a
    → (fields ≡ v a) × (f a ≡ true)
whole_sound s v f x fields a (b, []) e h =
    let r = x.sound fields a [] (e ∙ ap (λ q. Some (q, [])) (same_Some b a h)) in
    (r.0 ∙ append-nil (v a), r.1)
whole_sound s v f x fields a (b, field ∷ rest) e h = absurd (cc)

pub whole_exact : {A : Type 0} (s : List (List ℕ) → Option (A × List (List ℕ))) (v : A → List (List ℕ)) (f : A → Bool)
    → TakesExactly s v f
    → IsExact (whole s) v f
whole_exact s v f x = record {
  sound = λ fields a e. let p = bind_pieces (λ q. if_none_left q.0 q.1) (s fields) a e in whole_sound s v f x fields a
      p.0 p.1 p.2;
  complete = λ a h. ap (whole s) (sym (append-nil (v a))) ∙ ap (option_and_then (λ q. if_none_left q.0 q.1)) (x.complete a [] h);
}

ending_sound : {A B : Type 0} (s : List (List ℕ) → Option (A × List (List ℕ))) (t : List (List ℕ) → Option B)
    (v : A → List (List ℕ)) (w : B → List (List ℕ)) (f : A → Bool) (g : B → Bool) → TakesExactly s v f → IsExact t w g
    → (fields : List (List ℕ)) (p : A × B) → ending s t fields ≡ Some p → (fields ≡ v p.0 ++ w p.1) × ((f p.0 && g p.1) ≡ true)
ending_sound s t v w f g x y fields p e =
    let a = bind_pieces (λ a. option_map (λ b. (a.0, b)) (t a.1)) (s fields) p e in
    let b = map_pieces (λ b. (a.0.0, b)) (t a.0.1) p a.2 in
    let first_is : a.0.0 ≡ p.0 = ap (λ q. q.0) b.2 in
    let second_is : b.0 ≡ p.1 = ap (λ q. q.1) b.2 in
    let one = x.sound fields p.0 a.0.1 (a.1 ∙ ap (λ q. Some (q, a.0.1)) first_is) in
    let two = y.sound a.0.1 p.1 (b.1 ∙ ap Some second_is) in
    (one.0 ∙ ap (λ more. v p.0 ++ more) two.0, rw (one.1, two.1) refl)

pub ending_exact : {A B : Type 0} (s : List (List ℕ) → Option (A × List (List ℕ))) (t : List (List ℕ) → Option B)
    (v : A → List (List ℕ)) (w : B → List (List ℕ)) (f : A → Bool) (g : B → Bool) → TakesExactly s v f → IsExact t w g
    → IsExact (ending s t) (λ p. v p.0 ++ w p.1) (λ p. f p.0 && g p.1)
ending_exact s t v w f g x y = record {
  sound = ending_sound s t v w f g x y;
  complete = λ p e. let h = both_true (f p.0) (g p.1) e in
      ap (option_and_then (λ a. option_map (λ b. (a.0, b)) (t a.1))) (x.complete p.0 (w p.1) h.0)
      ∙ ap (option_map (λ b. (p.0, b))) (y.complete p.1 h.1);
}

-- ---- another value for what was read
pub mapped_sound : {X A B : Type 0} (read : X → Option A) (write : A → X) (fits : A → Bool) (make : A → B) (out : B → X)
    (ok : B → Bool)
    → IsExact read write fits → ((a : A) → out (make a) ≡ write a) → ((a : A) → ok (make a) ≡ fits a)
    → (x : X) (b : B) → option_map make (read x) ≡ Some b → (x ≡ out b) × (ok b ≡ true)
mapped_sound read write fits make out ok e same good x b h =
    let m = map_pieces make (read x) b h in
    let s = e.sound x m.0 m.1 in
    (s.0 ∙ sym (same m.0) ∙ ap out m.2, sym (ap ok m.2) ∙ good m.0 ∙ s.1)

-- ---- each piece
each_sound : {A : Type 0} (read : List ℕ → Option A) (write : A → List ℕ) (fits : A → Bool) → IsExact read write fits
    → (pieces : List (List ℕ)) (vs : List A) → each read pieces ≡ Some vs → (pieces ≡ map write vs) × (list_all fits vs ≡ true)
each_sound read write fits x [] vs e = (ap (map write) (same_Some [] vs e), ap (list_all fits) (sym (same_Some [] vs e)))
each_sound read write fits x (piece ∷ pieces) vs e =
    let a = bind_pieces (λ a. option_map (λ more. a ∷ more) (each read pieces)) (read piece) vs e in
    let m = map_pieces (λ more. a.0 ∷ more) (each read pieces) vs a.2 in
    let one = x.sound piece a.0 a.1 in
    let rest = each_sound read write fits x pieces m.0 m.1 in (
      ap (λ f. f ∷ pieces) one.0 ∙ ap (λ fs. write a.0 ∷ fs) rest.0 ∙ ap (map write) m.2,
      sym (ap (list_all fits) m.2)
          ∙ rw (one.1, rest.1) refl,
    )

each_complete : {A : Type 0} (read : List ℕ → Option A) (write : A → List ℕ) (fits : A → Bool) → IsExact read write fits
    → (vs : List A) → list_all fits vs ≡ true → each read (map write vs) ≡ Some vs
each_complete read write fits x [] e = refl
each_complete read write fits x (a ∷ more) e =
    let h = both_true (fits a) (list_all fits more) e in
    rw (x.complete a h.0, each_complete read write fits x more h.1) refl

pub each_exact : {A : Type 0} (read : List ℕ → Option A) (write : A → List ℕ) (fits : A → Bool) → IsExact read write fits
    → IsExact (each read) (map write) (list_all fits)
each_exact read write fits x = record { sound = each_sound read write fits x; complete = each_complete read write fits x }

-- ---- between marks
-- pieces that have no mark
abbrev pub EachFree : ℕ → List (List ℕ) → Type 0
EachFree mark [] = Unit {0}
EachFree mark (piece ∷ pieces) = All (λ b. eqb b mark ≡ false) piece × EachFree mark pieces

pub split_joined : (mark : ℕ) (piece : List ℕ) (pieces : List (List ℕ)) → EachFree mark (piece ∷ pieces)
    → slice_split (λ b. eqb b mark) (join_with_byte mark (piece ∷ pieces)) ≡ piece ∷ pieces
split_joined mark piece [] e = slice_split_none (λ b. eqb b mark) piece e.0
split_joined mark piece (next ∷ pieces) e =
    slice_split_at (λ b. eqb b mark) piece mark (join_with_byte mark (next ∷ pieces)) e.0 (eq-eqb mark mark refl)
    ∙ ap (λ (rest : List (List ℕ)). piece ∷ rest) (split_joined mark next pieces e.1)

-- the pieces are some, and none has the mark
abbrev pub CanJoin : ℕ → List (List ℕ) → Type 0
CanJoin mark [] = ⊥
CanJoin mark (piece ∷ pieces) = EachFree mark (piece ∷ pieces)

split_back : (mark : ℕ) (pieces : List (List ℕ)) → CanJoin mark pieces
    → slice_split (λ b. eqb b mark) (join_with_byte mark pieces) ≡ pieces
split_back mark [] c = absurd c
split_back mark (piece ∷ pieces) c = split_joined mark piece pieces c

pub split_exact : {A : Type 0} (mark : ℕ) (read : List (List ℕ) → Option A) (write : A → List (List ℕ)) (fits : A → Bool)
    → IsExact read write fits
    → ((a : A) → fits a ≡ true → CanJoin mark (write a))
    → IsExact (split_at mark read) (λ a. join_with_byte mark (write a)) fits
split_exact mark read write fits x free = record {
  sound =
      λ text a e. let s = x.sound (slice_split (λ b. eqb b mark) text) a e in
      (sym (join_with_byte-slice_split mark text) ∙ ap (join_with_byte mark) s.0, s.1);
  complete = λ a e. ap read (split_back mark (write a) (free a e)) ∙ x.complete a e;
}

-- ---- words
-- a table has each word beside what it spells
abbrev pub AreWords : {A : Type 0} → (A → List ℕ) → (A → Bool) → List (List ℕ × A) → Type 0
AreWords write fits [] = Unit {0}
AreWords write fits (w ∷ ws) = (w.0 ≡ write w.1) × (fits w.1 ≡ true) × AreWords write fits ws

pub named_sound : {A : Type 0} (write : A → List ℕ) (fits : A → Bool) (table : List (List ℕ × A)) → AreWords write fits table
    → (word : List ℕ) (a : A) → named table word ≡ Some a → (word ≡ write a) × (fits a ≡ true)
named_sound write fits [] t word a e = absurd (cc)
named_sound write fits (w ∷ ws) t word a e = elim (cases_Bool (bytes_eq word w.0)) [
  | inl yes_it ↦
      let is : w.1 ≡ a = same_Some w.1 a (rw yes_it at e) in
      ((bytes_eq-Decides word w.0).0 yes_it ∙ t.0 ∙ ap write is, sym (ap fits is) ∙ t.1)
  | inr not_it ↦ named_sound write fits ws t.2 word a (rw not_it at e)
]
