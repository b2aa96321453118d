-- A list of values with ids, cut at one of them, and what each edit makes of it there.
use Rattle.std.proofs.Common.{◌≡◌, ◌==◌, ℕ, eqb, List, [], ◌∷◌, ◌++◌, filter, Option, Some, None, IsSome, refl, sym, ap, ◌∙◌, inl, inr}
use Rattle.std.proofs.lemmas.Bool.{false≢true, cases_eq, cond-true, cond-false, eq-eqb, ne_eqb}
use Rattle.lb_links.specs.Lists.{value_of, Lacks, AreDistinct, without, fronted, with_value, last_from, before_from}

pub some_is : {X : Type 0} (o : Option X) → IsSome o → (x : X) × (o ≡ Some x)
some_is None h = absurd (false≢true h)
some_is (Some x) h = (x, refl)

pub there_is : {X : Type 0} (o : Option X) (x : X) → o ≡ Some x → IsSome o
there_is o x e = rw e refl

pub not_none : {X : Type 0} (o : Option X) → IsSome o → o ≡ None → ⊥
not_none None h e = false≢true h
not_none (Some x) h e = let z : ⊥ = cc in z

-- an id that is cut out, with its value, and what stands before and after it
pub record Cut {X : Type 0} (id : ℕ) (x : X) (nodes : List (ℕ × X)) : Type 0 where
  pub left : List (ℕ × X)
  pub right : List (ℕ × X)
  pub is : nodes ≡ left ++ (id, x) ∷ right
  pub lacks : Lacks id left

module _ {X : Type 0} where
  pub lacks_left : (id : ℕ) (xs ys : List (ℕ × X)) → Lacks id (xs ++ ys) → Lacks id xs
  lacks_left id [] ys h = tt
  lacks_left id (n ∷ xs) ys h = (h.0, lacks_left id xs ys h.1)

  pub lacks_right : (id : ℕ) (xs ys : List (ℕ × X)) → Lacks id (xs ++ ys) → Lacks id ys
  lacks_right id [] ys h = h
  lacks_right id (n ∷ xs) ys h = lacks_right id xs ys h.1

  pub lacks_both : (id : ℕ) (xs ys : List (ℕ × X)) → Lacks id xs → Lacks id ys → Lacks id (xs ++ ys)
  lacks_both id [] ys h k = k
  lacks_both id (n ∷ xs) ys h k = (h.0, lacks_both id xs ys h.1 k)

  pub distinct_left : (xs ys : List (ℕ × X)) → AreDistinct (xs ++ ys) → AreDistinct xs
  distinct_left [] ys h = tt
  distinct_left (n ∷ xs) ys h = (lacks_left n.0 xs ys h.0, distinct_left xs ys h.1)

  pub distinct_right : (xs ys : List (ℕ × X)) → AreDistinct (xs ++ ys) → AreDistinct ys
  distinct_right [] ys h = h
  distinct_right (n ∷ xs) ys h = distinct_right xs ys h.1

  -- the rest is distinct where one is taken out
  pub distinct_closed : (xs ys : List (ℕ × X)) (n : ℕ × X) → AreDistinct (xs ++ n ∷ ys) → AreDistinct (xs ++ ys)
  distinct_closed [] ys n h = h.1
  distinct_closed (m ∷ xs) ys n h = (
    lacks_both m.0 xs ys (lacks_left m.0 xs (n ∷ ys) h.0) (lacks_right m.0 xs (n ∷ ys) h.0).1,
    distinct_closed xs ys n h.1,
  )

  pub middle_lacks_left : (xs ys : List (ℕ × X)) (n : ℕ × X) → AreDistinct (xs ++ n ∷ ys) → Lacks n.0 xs
  middle_lacks_left [] ys n h = tt
  middle_lacks_left (m ∷ xs) ys n h =
      (λ e. (lacks_right m.0 xs (n ∷ ys) h.0).0 (sym e), middle_lacks_left xs ys n h.1)

  pub middle_lacks_right : (xs ys : List (ℕ × X)) (n : ℕ × X) → AreDistinct (xs ++ n ∷ ys) → Lacks n.0 ys
  middle_lacks_right [] ys n h = h.0
  middle_lacks_right (m ∷ xs) ys n h = middle_lacks_right xs ys n h.1

  pub distinct_fronted : (xs ys : List (ℕ × X)) (n : ℕ × X) → AreDistinct (xs ++ n ∷ ys) → AreDistinct (n ∷ (xs ++ ys))
  distinct_fronted xs ys n h = (
    lacks_both n.0 xs ys (middle_lacks_left xs ys n h) (middle_lacks_right xs ys n h),
    distinct_closed xs ys n h,
  )

  -- another value at one place keeps the ids
  pub lacks_replaced : (id : ℕ) (xs ys : List (ℕ × X)) (k : ℕ) (x w : X) → Lacks id (xs ++ (k, x) ∷ ys)
      → Lacks id (xs ++ (k, w) ∷ ys)
  lacks_replaced id [] ys k x w h = h
  lacks_replaced id (m ∷ xs) ys k x w h = (h.0, lacks_replaced id xs ys k x w h.1)

  pub distinct_replaced : (xs ys : List (ℕ × X)) (k : ℕ) (x w : X) → AreDistinct (xs ++ (k, x) ∷ ys)
      → AreDistinct (xs ++ (k, w) ∷ ys)
  distinct_replaced [] ys k x w h = h
  distinct_replaced (m ∷ xs) ys k x w h = (lacks_replaced m.0 xs ys k x w h.0, distinct_replaced xs ys k x w h.1)

  pub none_where_lacking : (id : ℕ) (xs : List (ℕ × X)) → Lacks id xs → value_of id xs ≡ None
  none_where_lacking id [] h = refl
  none_where_lacking id (n ∷ xs) h =
      cond-false (eqb n.0 id) (Some n.1) (value_of id xs) (ne_eqb n.0 id h.0) ∙ none_where_lacking id xs h.1

  pub lacking_where_none : (id : ℕ) (xs : List (ℕ × X)) → value_of id xs ≡ None → Lacks id xs
  lacking_where_none id [] h = tt
  lacking_where_none id (n ∷ xs) h = elim (cases_eq n.0 id) [
    | inl e ↦ absurd (let k = cond-true (eqb n.0 id) (Some n.1) (value_of id xs) (eq-eqb n.0 id e) in let z : ⊥ = cc in z)
    | inr d ↦ (d, lacking_where_none id xs (sym (cond-false (eqb n.0 id) (Some n.1) (value_of id xs) (ne_eqb n.0 id d)) ∙ h))
  ]

  pub value_right : (id : ℕ) (xs ys : List (ℕ × X)) → Lacks id xs → value_of id (xs ++ ys) ≡ value_of id ys
  value_right id [] ys h = refl
  value_right id (n ∷ xs) ys h =
      cond-false (eqb n.0 id) (Some n.1) (value_of id (xs ++ ys)) (ne_eqb n.0 id h.0) ∙ value_right id xs ys h.1

  pub value_here : (id : ℕ) (x : X) (ys : List (ℕ × X)) → value_of id ((id, x) ∷ ys) ≡ Some x
  value_here id x ys = cond-true (eqb id id) (Some x) (value_of id ys) (eq-eqb id id refl)

  pub value_at : (id : ℕ) (x : X) (xs ys : List (ℕ × X)) → Lacks id xs → value_of id (xs ++ (id, x) ∷ ys) ≡ Some x
  value_at id x xs ys h = value_right id xs ((id, x) ∷ ys) h ∙ value_here id x ys

  -- where an id is found, the list is cut
  pub cut_at : (id : ℕ) (nodes : List (ℕ × X)) (x : X) → value_of id nodes ≡ Some x → Cut id x nodes
  cut_at id [] x h = absurd (let z : ⊥ = cc in z)
  cut_at id (n ∷ rest) x h = elim (cases_eq n.0 id) [
    | inl e ↦
        let k = cond-true (eqb n.0 id) (Some n.1) (value_of id rest) (eq-eqb n.0 id e) in
        let q : n.1 ≡ x = cc in
        record { left = []; right = rest; is = λ i. (e i, q i) ∷ rest; lacks = tt }
    | inr d ↦
        let later = cut_at id rest x (sym (cond-false (eqb n.0 id) (Some n.1) (value_of id rest) (ne_eqb n.0 id d)) ∙ h) in
        record { left = n ∷ later.left; right = later.right; is = ap (λ l. n ∷ l) later.is; lacks = (d, later.lacks) }
  ]

  -- ---- what the edits do where an id is not
  pub without_lacking : (id : ℕ) (xs : List (ℕ × X)) → Lacks id xs → without id xs ≡ xs
  without_lacking id [] h = refl
  without_lacking id (n ∷ xs) h = rw (ne_eqb n.0 id h.0) (ap (λ l. n ∷ l) (without_lacking id xs h.1))

  pub only_lacking : (id : ℕ) (xs : List (ℕ × X)) → Lacks id xs → filter (λ n. n.0 == id) xs ≡ []
  only_lacking id [] h = refl
  only_lacking id (n ∷ xs) h = rw (ne_eqb n.0 id h.0) (only_lacking id xs h.1)

  pub with_value_lacking : (id : ℕ) (w : X) (xs : List (ℕ × X)) → Lacks id xs → with_value id w xs ≡ xs
  with_value_lacking id w [] h = refl
  with_value_lacking id w (n ∷ xs) h = rw (ne_eqb n.0 id h.0) (ap (λ l. n ∷ l) (with_value_lacking id w xs h.1))

  pub before_lacking : (before : Option ℕ) (id : ℕ) (xs : List (ℕ × X)) → Lacks id xs → before_from before id xs ≡ None
  before_lacking before id [] h = refl
  before_lacking before id (n ∷ xs) h = rw (ne_eqb n.0 id h.0) (before_lacking (Some n.0) id xs h.1)

  -- ---- and at the cut
  pub without_at : (id : ℕ) (x : X) (xs ys : List (ℕ × X)) → Lacks id xs → Lacks id ys
      → without id (xs ++ (id, x) ∷ ys) ≡ xs ++ ys
  without_at id x [] ys h k = rw (eq-eqb id id refl) (without_lacking id ys k)
  without_at id x (n ∷ xs) ys h k = rw (ne_eqb n.0 id h.0) (ap (λ l. n ∷ l) (without_at id x xs ys h.1 k))

  only_at : (id : ℕ) (x : X) (xs ys : List (ℕ × X)) → Lacks id xs → Lacks id ys
      → filter (λ n. n.0 == id) (xs ++ (id, x) ∷ ys) ≡ (id, x) ∷ []
  only_at id x [] ys h k = rw (eq-eqb id id refl) (ap (λ l. (id, x) ∷ l) (only_lacking id ys k))
  only_at id x (n ∷ xs) ys h k = rw (ne_eqb n.0 id h.0) (only_at id x xs ys h.1 k)

  pub fronted_at : (id : ℕ) (x : X) (xs ys : List (ℕ × X)) → Lacks id xs → Lacks id ys
      → fronted id (xs ++ (id, x) ∷ ys) ≡ (id, x) ∷ (xs ++ ys)
  fronted_at id x xs ys h k = let a = only_at id x xs ys h k in let b = without_at id x xs ys h k in λ i. a i ++ b i

  pub with_value_at : (id : ℕ) (x w : X) (xs ys : List (ℕ × X)) → Lacks id xs → Lacks id ys
      → with_value id w (xs ++ (id, x) ∷ ys) ≡ xs ++ (id, w) ∷ ys
  with_value_at id x w [] ys h k = rw (eq-eqb id id refl) (ap (λ l. (id, w) ∷ l) (with_value_lacking id w ys k))
  with_value_at id x w (n ∷ xs) ys h k = rw (ne_eqb n.0 id h.0) (ap (λ l. n ∷ l) (with_value_at id x w xs ys h.1 k))

  pub before_at : (before : Option ℕ) (id : ℕ) (x : X) (xs ys : List (ℕ × X)) → Lacks id xs
      → before_from before id (xs ++ (id, x) ∷ ys) ≡ last_from before xs
  before_at before id x [] ys h = rw (eq-eqb id id refl) refl
  before_at before id x (n ∷ xs) ys h = rw (ne_eqb n.0 id h.0) (before_at (Some n.0) id x xs ys h.1)
