-- The list by ids, over the list by the keys of its nodes: both are cut at the same place.
use Rattle.std.proofs.Common.{◌≡◌, ℕ, eqb, List, [], ◌∷◌, ◌++◌, Some, None, IsSome, if◌then◌else◌, refl, sym, ap, ◌∙◌, subst, inl, inr, arith}
use Rattle.std.proofs.lemmas.Bool.{cases_eq, cond-true, cond-false, eq-eqb, ne_eqb}
use Rattle.std.proofs.lemmas.Bool.Decides.{nat_tests}
use Rattle.std.proofs.lemmas.List.{map-append}
use Rattle.lb_links.specs.Lists.{value_of, Lacks, AreDistinct, without, fronted, with_value, last_from, id_before}
use Rattle.lb_links.specs.Inside.{named, keyed}
use Rattle.lb_links.proofs.Splits.{distinct_left, distinct_closed, distinct_fronted, distinct_replaced, middle_lacks_left, middle_lacks_right, none_where_lacking, value_at, without_at, fronted_at, with_value_at, before_at}
use Rattle.lb_links.proofs.Chained.{some_last, last_differs}

module _ {X : Type 0} where
  -- what is found after one id left
  pub value_without : (id : ℕ) (x : X) (xs ys : List (ℕ × X)) → Lacks id xs → Lacks id ys → (other : ℕ)
      → value_of other (xs ++ ys) ≡ (if eqb id other then None else value_of other (xs ++ (id, x) ∷ ys))
  value_without id x [] ys h k other = elim (cases_eq id other) [
    | inl same ↦
        let none : value_of other ys ≡ None = subst (λ (n : ℕ). value_of n ys ≡ None) same (none_where_lacking id ys k) in
        rw (eq-eqb id other same) none
    | inr differs ↦ rw (ne_eqb id other differs) refl
  ]
  value_without id x (n ∷ xs) ys h k other = grind (arith, nat_tests, h.0, value_without id x xs ys h.1 k other)

  -- and after one came first
  pub value_fronted : (id : ℕ) (x : X) (xs ys : List (ℕ × X)) → Lacks id xs → (other : ℕ)
      → value_of other ((id, x) ∷ (xs ++ ys)) ≡ value_of other (xs ++ (id, x) ∷ ys)
  value_fronted id x [] ys h other = refl
  value_fronted id x (n ∷ xs) ys h other = grind (arith, nat_tests, h.0, value_fronted id x xs ys h.1 other)

  pub value_left : (id : ℕ) (x : X) (xs ys : List (ℕ × X)) → value_of id xs ≡ Some x → value_of id (xs ++ ys) ≡ Some x
  value_left id x [] ys e = absurd (let z : ⊥ = cc in z)
  value_left id x (n ∷ xs) ys e = elim (cases_eq n.0 id) [
    | inl same ↦ rw (eq-eqb n.0 id same) (sym (cond-true (eqb n.0 id) (Some n.1) (value_of id xs) (eq-eqb n.0 id same)) ∙ e)
    | inr differs ↦ rw (ne_eqb n.0 id differs)
        (value_left id x xs ys (sym (cond-false (eqb n.0 id) (Some n.1) (value_of id xs) (ne_eqb n.0 id differs)) ∙ e))
  ]

module _ {T : Type 0} where
  named_cut : (key id : ℕ) (v : T) (xs ys : List (ℕ × (ℕ × T)))
      → named (xs ++ (key, (id, v)) ∷ ys) ≡ named xs ++ (id, v) ∷ named ys
  named_cut key id v xs ys = map-append (λ c. c.1) xs ((key, (id, v)) ∷ ys)

  named_append : (xs ys : List (ℕ × (ℕ × T))) → named (xs ++ ys) ≡ named xs ++ named ys
  named_append xs ys = map-append (λ c. c.1) xs ys

  keyed_cut : (key id : ℕ) (v : T) (xs ys : List (ℕ × (ℕ × T)))
      → keyed (xs ++ (key, (id, v)) ∷ ys) ≡ keyed xs ++ (id, key) ∷ keyed ys
  keyed_cut key id v xs ys = map-append (λ c. (c.1.0, c.0)) xs ((key, (id, v)) ∷ ys)

  keyed_append : (xs ys : List (ℕ × (ℕ × T))) → keyed (xs ++ ys) ≡ keyed xs ++ keyed ys
  keyed_append xs ys = map-append (λ c. (c.1.0, c.0)) xs ys

  lacks_keyed : (id : ℕ) (cells : List (ℕ × (ℕ × T))) → Lacks id (named cells) → Lacks id (keyed cells)
  lacks_keyed id [] h = tt
  lacks_keyed id (c ∷ cells) h = (h.0, lacks_keyed id cells h.1)

  -- an id has a value exactly where it has a key
  pub no_value : (id : ℕ) (cells : List (ℕ × (ℕ × T))) → value_of id (keyed cells) ≡ None → value_of id (named cells) ≡ None
  no_value id [] h = refl
  no_value id (c ∷ cells) h = elim (cases_eq c.1.0 id) [
    | inl e ↦ absurd (let k = cond-true (eqb c.1.0 id) (Some c.0) (value_of id (keyed cells)) (eq-eqb c.1.0 id e) in
        let z : ⊥ = cc in z)
    | inr d ↦ rw (ne_eqb c.1.0 id d) (no_value id cells
        (sym (cond-false (eqb c.1.0 id) (Some c.0) (value_of id (keyed cells)) (ne_eqb c.1.0 id d)) ∙ h))
  ]

  pub no_key : (id : ℕ) (cells : List (ℕ × (ℕ × T))) → value_of id (named cells) ≡ None → value_of id (keyed cells) ≡ None
  no_key id [] h = refl
  no_key id (c ∷ cells) h = elim (cases_eq c.1.0 id) [
    | inl e ↦ absurd (let k = cond-true (eqb c.1.0 id) (Some c.1.1) (value_of id (named cells)) (eq-eqb c.1.0 id e) in
        let z : ⊥ = cc in z)
    | inr d ↦ rw (ne_eqb c.1.0 id d) (no_key id cells
        (sym (cond-false (eqb c.1.0 id) (Some c.1.1) (value_of id (named cells)) (ne_eqb c.1.0 id d)) ∙ h))
  ]

  record Parts (id key : ℕ) (cells : List (ℕ × (ℕ × T))) : Type 0 where
    value : T
    left : List (ℕ × (ℕ × T))
    right : List (ℕ × (ℕ × T))
    is : cells ≡ left ++ (key, (id, value)) ∷ right

  parts : (id key : ℕ) (cells : List (ℕ × (ℕ × T))) → value_of id (keyed cells) ≡ Some key → Parts id key cells
  parts id key [] h = absurd (let z : ⊥ = cc in z)
  parts id key (c ∷ cells) h = elim (cases_eq c.1.0 id) [
    | inl e ↦
        let k = cond-true (eqb c.1.0 id) (Some c.0) (value_of id (keyed cells)) (eq-eqb c.1.0 id e) in
        let q : c.0 ≡ key = cc in
        record { value = c.1.1; left = []; right = cells; is = λ i. (q i, (e i, c.1.1)) ∷ cells }
    | inr d ↦
        let later = parts id key cells (sym
        (cond-false (eqb c.1.0 id) (Some c.0) (value_of id (keyed cells)) (ne_eqb c.1.0 id d)) ∙ h) in
        record { value = later.value; left = c ∷ later.left; right = later.right; is = ap (λ l. c ∷ l) later.is }
  ]

  -- where an id and its key stand, in both lists
  pub record Placed (id key : ℕ) (cells : List (ℕ × (ℕ × T))) : Type 0 where
    pub value : T
    pub left : List (ℕ × (ℕ × T))
    pub right : List (ℕ × (ℕ × T))
    pub is : cells ≡ left ++ (key, (id, value)) ∷ right
    pub names : named cells ≡ named left ++ (id, value) ∷ named right
    pub keys : keyed cells ≡ keyed left ++ (id, key) ∷ keyed right
    pub distinct : AreDistinct (left ++ (key, (id, value)) ∷ right)
    pub names_distinct : AreDistinct (named left ++ (id, value) ∷ named right)
    pub key_left : Lacks key left
    pub key_right : Lacks key right
    pub id_left : Lacks id (named left)
    pub id_right : Lacks id (named right)

  pub placed : (id key : ℕ) (cells : List (ℕ × (ℕ × T))) → AreDistinct cells → AreDistinct (named cells)
      → value_of id (keyed cells) ≡ Some key → Placed id key cells
  placed id key cells distinct names found =
      let p = parts id key cells found in
      let cut = named_cut key id p.value p.left p.right in
      let one = subst AreDistinct p.is distinct in
      let two = subst AreDistinct (ap named p.is ∙ cut) names in
      record {
        value = p.value;
        left = p.left;
        right = p.right;
        is = p.is;
        names = ap named p.is ∙ cut;
        keys = ap keyed p.is ∙ keyed_cut key id p.value p.left p.right;
        distinct = one;
        names_distinct = two;
        key_left = middle_lacks_left p.left p.right (key, (id, p.value)) one;
        key_right = middle_lacks_right p.left p.right (key, (id, p.value)) one;
        id_left = middle_lacks_left (named p.left) (named p.right) (id, p.value) two;
        id_right = middle_lacks_right (named p.left) (named p.right) (id, p.value) two;
      }

  module _ (id key : ℕ) (cells : List (ℕ × (ℕ × T))) (p : Placed id key cells) where
    pub by_key : value_of key cells ≡ Some (id, p.value)
    by_key = ap (value_of key) p.is ∙ value_at key (id, p.value) p.left p.right p.key_left

    pub by_id : value_of id (named cells) ≡ Some p.value
    by_id = ap (value_of id) p.names ∙ value_at id p.value (named p.left) (named p.right) p.id_left

    pub is_there : IsSome (value_of key cells)
    is_there = rw by_key refl

    -- what is left of the cells
    pub cells_without : without key cells ≡ p.left ++ p.right
    cells_without = ap (without key) p.is ∙ without_at key (id, p.value) p.left p.right p.key_left p.key_right

    pub cells_fronted : fronted key cells ≡ (key, (id, p.value)) ∷ (p.left ++ p.right)
    cells_fronted = ap (fronted key) p.is ∙ fronted_at key (id, p.value) p.left p.right p.key_left p.key_right

    pub cells_with : (w : T) → with_value key (id, w) cells ≡ p.left ++ (key, (id, w)) ∷ p.right
    cells_with w = ap (with_value key (id, w)) p.is
        ∙ with_value_at key (id, p.value) (id, w) p.left p.right p.key_left p.key_right

    -- and the same of the ids with their values
    pub names_without : named (without key cells) ≡ without id (named cells)
    names_without = ap named cells_without ∙ named_append p.left p.right
        ∙ sym (ap (without id) p.names ∙ without_at id p.value (named p.left) (named p.right) p.id_left p.id_right)

    pub names_fronted : named (fronted key cells) ≡ fronted id (named cells)
    names_fronted = ap named cells_fronted ∙ ap (λ l. (id, p.value) ∷ l) (named_append p.left p.right)
        ∙ sym (ap (fronted id) p.names ∙ fronted_at id p.value (named p.left) (named p.right) p.id_left p.id_right)

    pub names_with : (w : T) → named (with_value key (id, w) cells) ≡ with_value id w (named cells)
    names_with w = ap named (cells_with w) ∙ named_cut key id w p.left p.right
        ∙ sym (ap (with_value id w) p.names ∙ with_value_at id p.value w (named p.left) (named p.right) p.id_left p.id_right)

    -- and of the ids with their keys
    pub keys_without : (other : ℕ) → value_of other (keyed (without key cells))
        ≡ (if eqb id other then None else value_of other (keyed cells))
    keys_without other = ap (λ l. value_of other (keyed l)) cells_without ∙ ap (value_of other) (keyed_append p.left p.right)
        ∙ value_without id key (keyed p.left) (keyed p.right) (lacks_keyed id p.left p.id_left)
        (lacks_keyed id p.right p.id_right) other
        ∙ ap (λ l. if eqb id other then None else value_of other l) (sym p.keys)

    pub keys_fronted : (other : ℕ) → value_of other (keyed (fronted key cells)) ≡ value_of other (keyed cells)
    keys_fronted other = ap (λ l. value_of other (keyed l)) cells_fronted
        ∙ ap (λ l. value_of other ((id, key) ∷ l)) (keyed_append p.left p.right)
        ∙ value_fronted id key (keyed p.left) (keyed p.right) (lacks_keyed id p.left p.id_left) other
        ∙ ap (value_of other) (sym p.keys)

    pub keys_with : (w : T) (other : ℕ) → value_of other (keyed (with_value key (id, w) cells)) ≡ value_of other (keyed cells)
    keys_with w other = ap (λ l. value_of other (keyed l)) (cells_with w)
        ∙ ap (value_of other) (keyed_cut key id w p.left p.right ∙ sym p.keys)

    pub key_before : id_before key cells ≡ last_from None p.left
    key_before = ap (id_before key) p.is ∙ before_at None key (id, p.value) p.left p.right p.key_left

    pub name_before : id_before id (named cells) ≡ last_from None (named p.left)
    name_before = ap (id_before id) p.names ∙ before_at None id p.value (named p.left) (named p.right) p.id_left

  -- ---- the last one
  pub last_none : (cells : List (ℕ × (ℕ × T))) → last_from None cells ≡ None → last_from None (named cells) ≡ None
  last_none [] e = refl
  last_none (c ∷ cells) e = absurd (some_last c.0 cells (sym e))

  pub record Last (key : ℕ) (cells : List (ℕ × (ℕ × T))) : Type 0 where
    pub entry : ℕ × T
    pub found : value_of key cells ≡ Some entry
    pub name : last_from None (named cells) ≡ Some entry.0

  last_later : (key : ℕ) (c : ℕ × (ℕ × T)) (cells : List (ℕ × (ℕ × T))) → AreDistinct (c ∷ cells)
      → last_from (Some c.0) cells ≡ Some key → Last key (c ∷ cells)
  last_later key c [] distinct e =
      let k : c.0 ≡ key = cc in
      record { entry = c.1; found = cond-true (eqb c.0 key) (Some c.1) None (eq-eqb c.0 key k); name = refl }
  last_later key c (d ∷ cells) distinct e =
      let later = last_later key d cells distinct.1 e in
      record {
        entry = later.entry;
        found = cond-false (eqb c.0 key) (Some c.1) (value_of key (d ∷ cells))
            (ne_eqb c.0 key (last_differs c.0 key d cells e distinct.0)) ∙ later.found;
        name = later.name;
      }

  pub last_found : (key : ℕ) (cells : List (ℕ × (ℕ × T))) → AreDistinct cells → last_from None cells ≡ Some key → Last key cells
  last_found key [] distinct e = absurd (let z : ⊥ = cc in z)
  last_found key (c ∷ cells) distinct e = last_later key c cells distinct e

  -- a key that is found by its id stands there
  pub key_there : (id key : ℕ) (cells : List (ℕ × (ℕ × T))) → value_of id (keyed cells) ≡ Some key → IsSome (value_of key cells)
  key_there id key [] h = absurd (let z : ⊥ = cc in z)
  key_there id key (c ∷ cells) h = elim (cases_eq c.0 key) [
    | inl same ↦ rw (eq-eqb c.0 key same) refl
    | inr differs ↦ elim (cases_eq c.1.0 id) [
      | inl e ↦ absurd (differs (let k = cond-true (eqb c.1.0 id) (Some c.0) (value_of id (keyed cells))
          (eq-eqb c.1.0 id e) in let q : c.0 ≡ key = cc in q))
      | inr d ↦ rw (ne_eqb c.0 key differs)
          (key_there id key cells (sym (cond-false (eqb c.1.0 id) (Some c.0) (value_of id (keyed cells))
          (ne_eqb c.1.0 id d)) ∙ h))
    ]
  ]

  module _ (id key : ℕ) (cells : List (ℕ × (ℕ × T))) (p : Placed id key cells) where
    pub distinct_without : AreDistinct (named (without key cells))
    distinct_without = subst AreDistinct (sym (ap named (cells_without id key cells p) ∙ named_append p.left p.right))
        (distinct_closed (named p.left) (named p.right) (id, p.value) p.names_distinct)

    pub distinct_first : AreDistinct (named (fronted key cells))
    distinct_first = subst AreDistinct (sym (ap named (cells_fronted id key cells p)
        ∙ ap (λ l. (id, p.value) ∷ l) (named_append p.left p.right)))
        (distinct_fronted (named p.left) (named p.right) (id, p.value) p.names_distinct)

    pub distinct_with : (w : T) → AreDistinct (named (with_value key (id, w) cells))
    distinct_with w = subst AreDistinct (sym (ap named (cells_with id key cells p w) ∙ named_cut key id w p.left p.right))
        (distinct_replaced (named p.left) (named p.right) id p.value w p.names_distinct)

    -- the key before a key, and the id beside it
    pub last_before : (other : ℕ) → id_before key cells ≡ Some other → Last other p.left
    last_before other e = last_found other p.left (distinct_left p.left ((key, (id, p.value)) ∷ p.right) p.distinct)
        (sym (key_before id key cells p) ∙ e)

    pub found_before : (other : ℕ) (l : Last other p.left) → value_of other cells ≡ Some l.entry
    found_before other l = ap (value_of other) p.is ∙ value_left other l.entry p.left ((key, (id, p.value)) ∷ p.right) l.found

    pub none_before : id_before key cells ≡ None → id_before id (named cells) ≡ None
    none_before e = name_before id key cells p ∙ last_none p.left (sym (key_before id key cells p) ∙ e)
