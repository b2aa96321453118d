-- The items of lists at their places: of joined, longer and mapped lists.
-- For `end_cells` and `end_lanes`.
use Rattle.std.proofs.Common.{ℕ, ◌≡◌, ◌⊎◌, inl, inr, ◌+◌, ◌<◌, zero, suc, Some, List, [], ◌∷◌, ◌++◌, map, length, slice_get, get_or, All, refl, sym, ap, subst, ◌∙◌, arith}
use Rattle.std.proofs.lemmas.Option.{none-some, same_Some, slice_get-get_or, slice_get_within}
use Rattle.lb_cpu.specs.Numbering.{EachOfTwo, EachOfThree}

module _ {A : Type 0} where
  -- there is one at each place
  pub item_at : (xs : List A) (i : ℕ) → i < length xs → (x : A) × (slice_get xs i ≡ Some x)
  item_at [] i lt = absurd (omega arith)
  item_at (x ∷ xs) zero lt = (x, refl)
  item_at (x ∷ xs) (suc i) lt = item_at xs i (omega arith)

  pub in_front : (xs ys : List A) (i : ℕ) (x : A) → slice_get xs i ≡ Some x → slice_get (xs ++ ys) i ≡ Some x
  in_front [] ys i x e = absurd (none-some x e)
  in_front (y ∷ xs) ys zero x e = e
  in_front (y ∷ xs) ys (suc i) x e = in_front xs ys i x e

  pub behind : (xs ys : List A) (n i : ℕ) (x : A) → n ≡ length xs + i → slice_get ys i ≡ Some x → slice_get (xs ++ ys) n ≡ Some x
  behind [] ys n i x e at_i = ap (λ (k : ℕ). slice_get ys k) (omega arith) ∙ at_i
  behind (y ∷ xs) ys zero i x e at_i = absurd (omega arith)
  behind (y ∷ xs) ys (suc n) i x e at_i = behind xs ys n i x (omega arith) at_i

  -- of a list that is one longer, it is one of those before, or the last
  pub of_longer : (xs : List A) (x : A) (i : ℕ) (y : A) → slice_get (xs ++ x ∷ []) i ≡ Some y
      → (slice_get xs i ≡ Some y) ⊎ ((i ≡ length xs) × (x ≡ y))
  of_longer [] x zero y e = inr (refl, same_Some x y e)
  of_longer [] x (suc i) y e = absurd (none-some y e)
  of_longer (z ∷ xs) x zero y e = inl e
  of_longer (z ∷ xs) x (suc i) y e = elim (of_longer xs x i y e) [
    | inl there ↦ inl there
    | inr last ↦ inr (ap suc last.0, last.1)
  ]

  pub one_item : (xs : List A) (i : ℕ) (x y : A) → slice_get xs i ≡ Some x → slice_get xs i ≡ Some y → x ≡ y
  one_item xs i x y e f = same_Some x y (sym e ∙ f)

  -- what holds at each place holds of all
  pub all_at : (P : A → Type 0) (xs : List A) → ((i : ℕ) (x : A) → slice_get xs i ≡ Some x → P x) → All P xs
  all_at P xs h k d lt = h k (get_or xs k d) (slice_get-get_or xs k d lt)

module _ {A B : Type 0} (f : A → B) where
  pub of_mapped : (xs : List A) (i : ℕ) (y : B) → slice_get (map f xs) i ≡ Some y
      → (x : A) × (slice_get xs i ≡ Some x) × (f x ≡ y)
  of_mapped [] i y e = absurd (none-some y e)
  of_mapped (x ∷ xs) zero y e = (x, refl, same_Some (f x) y e)
  of_mapped (x ∷ xs) (suc i) y e = of_mapped xs i y e

  pub mapped_at : (xs : List A) (i : ℕ) (x : A) (d : B) → slice_get xs i ≡ Some x → get_or (map f xs) i d ≡ f x
  mapped_at [] i x d e = absurd (none-some x e)
  mapped_at (y ∷ xs) zero x d e = ap f (same_Some y x e)
  mapped_at (y ∷ xs) (suc i) x d e = mapped_at xs i x d e

-- ---- two and three lists that are one longer
long_push : {A : Type 0} (xs : List A) (x : A) → length (xs ++ x ∷ []) ≡ suc (length xs)
long_push [] x = refl
long_push (y ∷ xs) x = ap suc (long_push xs x)

module _ {A B : Type 0} where
  pub no_pairs : (P : ℕ → A → B → Type 0) (xs : List A) (ys : List B) → xs ≡ [] → ys ≡ [] → EachOfTwo P xs ys
  no_pairs P xs ys ex ey = record {
    count = ap (λ (l : List B). length l) ey ∙ sym (ap (λ (l : List A). length l) ex);
    at = λ i x y at_x at_y. absurd (none-some x (sym (ap (λ (l : List A). slice_get l i) ex) ∙ at_x));
  }

  pub two_push : (P : ℕ → A → B → Type 0) (xs xs' : List A) (ys ys' : List B) (x : A) (y : B) → xs' ≡ xs ++ x ∷ []
      → ys' ≡ ys ++ y ∷ [] → EachOfTwo P xs ys → P (length xs) x y → EachOfTwo P xs' ys'
  two_push P xs xs' ys ys' x y ex ey h p = record {
    count =
        ap (λ (l : List B). length l) ey ∙ long_push ys y ∙ ap suc h.count ∙ sym (long_push xs x)
        ∙ sym (ap (λ (l : List A). length l) ex);
    at = λ i a b at_a at_b.
        elim (of_longer xs x i a (sym (ap (λ (l : List A). slice_get l i) ex) ∙ at_a)) [
          | inl a_in ↦ elim (of_longer ys y i b (sym (ap (λ (l : List B). slice_get l i) ey) ∙ at_b)) [
            | inl b_in ↦ h.at i a b a_in b_in
            | inr b_last ↦ let lt = slice_get_within xs i a a_in in let n = h.count in let e = b_last.0 in absurd (omega arith)
          ]
          | inr a_last ↦ elim (of_longer ys y i b (sym (ap (λ (l : List B). slice_get l i) ey) ∙ at_b)) [
            | inl b_in ↦ let lt = slice_get_within ys i b b_in in let n = h.count in let e = a_last.0 in absurd (omega arith)
            | inr b_last ↦ subst (λ (k : ℕ). P k a b) (sym a_last.0)
                (subst (λ (u : A). P (length xs) u b) a_last.1 (subst (λ (v : B). P (length xs) x v) b_last.1 p))
          ]
        ];
  }

module _ {A B C : Type 0} where
  pub no_triples : (P : ℕ → A → B → C → Type 0) (xs : List A) (ys : List B) (zs : List C) → xs ≡ [] → ys ≡ [] → zs ≡ []
      → EachOfThree P xs ys zs
  no_triples P xs ys zs ex ey ez = record {
    second = ap (λ (l : List B). length l) ey ∙ sym (ap (λ (l : List A). length l) ex);
    third = ap (λ (l : List C). length l) ez ∙ sym (ap (λ (l : List A). length l) ex);
    at = λ i x y z at_x at_y at_z. absurd (none-some x (sym (ap (λ (l : List A). slice_get l i) ex) ∙ at_x));
  }

  pub three_push : (P : ℕ → A → B → C → Type 0) (xs xs' : List A) (ys ys' : List B) (zs zs' : List C) (x : A) (y : B) (z : C)
      → xs' ≡ xs ++ x ∷ [] → ys' ≡ ys ++ y ∷ [] → zs' ≡ zs ++ z ∷ [] → EachOfThree P xs ys zs → P (length xs) x y z
      → EachOfThree P xs' ys' zs'
  three_push P xs xs' ys ys' zs zs' x y z ex ey ez h p =
      record {
        second =
            ap (λ (l : List B). length l) ey ∙ long_push ys y ∙ ap suc h.second ∙ sym (long_push xs x)
            ∙ sym (ap (λ (l : List A). length l) ex);
        third =
            ap (λ (l : List C). length l) ez ∙ long_push zs z ∙ ap suc h.third ∙ sym (long_push xs x)
            ∙ sym (ap (λ (l : List A). length l) ex);
        at = λ i a b c at_a at_b at_c.
            let of_a = of_longer xs x i a (sym (ap (λ (l : List A). slice_get l i) ex) ∙ at_a) in
            let of_b = of_longer ys y i b (sym (ap (λ (l : List B). slice_get l i) ey) ∙ at_b) in
            let of_c = of_longer zs z i c (sym (ap (λ (l : List C). slice_get l i) ez) ∙ at_c) in
            let n = h.second in
            let m = h.third in
            elim of_a [
              | inl a_in ↦ let lt = slice_get_within xs i a a_in in elim of_b [
                | inl b_in ↦ elim of_c [
                  | inl c_in ↦ h.at i a b c a_in b_in c_in
                  | inr c_last ↦ let e = c_last.0 in absurd (omega arith)
                ]
                | inr b_last ↦ let e = b_last.0 in absurd (omega arith)
              ]
              | inr a_last ↦ let e = a_last.0 in elim of_b [
                | inl b_in ↦ let lt = slice_get_within ys i b b_in in absurd (omega arith)
                | inr b_last ↦ elim of_c [
                  | inl c_in ↦ let lt = slice_get_within zs i c c_in in absurd (omega arith)
                  | inr c_last ↦ subst (λ (k : ℕ). P k a b c) (sym a_last.0)
                      (subst (λ (u : A). P (length xs) u b c) a_last.1
                      (subst (λ (v : B). P (length xs) x v c) b_last.1
                      (subst (λ (w : C). P (length xs) x y w) c_last.1 p)))
                ]
              ]
            ];
      }
