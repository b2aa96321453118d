-- What stands in a list, and in the lists of seats: lemmas for the crates above, too.
-- For `Book::close`; cited by `lb_cell`, `lb_cpu` and other crates too.
use Rattle.std.proofs.Common.{◌≡◌, ◌⊎◌, inl, inr, ℕ, zero, suc, ◌<◌, List, [], ◌∷◌, ◌++◌, length, map, get_or, refl, ap, arith}
use Rattle.lb_ticket.specs.Seats.{SeatIs, gathered}
use Rattle.lb_ticket.specs.Tickets.{Among}

module _ {A : Type 0} where
  pub has_split : (xs ys : List A) (x : A) → Among x (xs ++ ys) → Among x xs ⊎ Among x ys
  has_split [] ys x h = inr h
  has_split (y ∷ xs) ys x (inl p) = inl (inl p)
  has_split (y ∷ xs) ys x (inr q) = elim (has_split xs ys x q) [
    | inl p ↦ inl (inr p)
    | inr p ↦ inr p
  ]

  pub has_either : (xs ys : List A) (x : A) → Among x xs ⊎ Among x ys → Among x (xs ++ ys)
  has_either [] ys x (inl p) = absurd p
  has_either [] ys x (inr p) = p
  has_either (y ∷ xs) ys x (inl (inl p)) = inl p
  has_either (y ∷ xs) ys x (inl (inr p)) = inr (has_either xs ys x (inl p))
  has_either (y ∷ xs) ys x (inr p) = inr (has_either xs ys x (inr p))

  -- two pairs of lists, joined part by part
  pub has_joined : (a b c d : List A) (x : A) → Among x (a ++ b) ⊎ Among x (c ++ d) → Among x ((a ++ c) ++ (b ++ d))
  has_joined a b c d x h =
      has_either (a ++ c) (b ++ d) x
      (elim h [
        | inl p ↦ elim (has_split a b x p) [
          | inl q ↦ inl (has_either a c x (inl q))
          | inr q ↦ inr (has_either b d x (inl q))
        ]
        | inr p ↦ elim (has_split c d x p) [
          | inl q ↦ inl (has_either a c x (inr q))
          | inr q ↦ inr (has_either b d x (inr q))
        ]
      ])

  pub has_at : (xs : List A) (k : ℕ) (d : A) → k < length xs → Among (get_or xs k d) xs
  has_at [] k d lt = absurd (omega arith)
  has_at (x ∷ xs) zero d lt = inl refl
  has_at (x ∷ xs) (suc k) d lt = inr (has_at xs k d (omega arith))

  pub place_in : (x : A) (xs : List A) → Among x xs → (k : ℕ) × (k < length xs) × (get_or xs k x ≡ x)
  place_in x [] h = absurd h
  place_in x (y ∷ xs) (inl p) = (zero, omega arith, p)
  place_in x (y ∷ xs) (inr h) = let s = place_in x xs h in (suc s.0, omega (arith, s.1), s.2)

module _ {A B : Type 0} (f : A → B) where
  pub has_map : (y : B) (xs : List A) → Among y (map f xs) → (x : A) × Among x xs × (f x ≡ y)
  has_map y [] h = absurd h
  has_map y (x ∷ xs) (inl p) = (x, inl refl, p)
  has_map y (x ∷ xs) (inr q) = let t = has_map y xs q in (t.0, inr t.1, t.2)

  pub has_mapped : (xs : List A) (x : A) → Among x xs → Among (f x) (map f xs)
  has_mapped [] x h = absurd h
  has_mapped (y ∷ xs) x (inl p) = inl (ap f p)
  has_mapped (y ∷ xs) x (inr h) = inr (has_mapped xs x h)

-- what one of the seats has is there
pub gathered_at : {I A : Type 0} (g : SeatIs I → List A) (d : SeatIs I) (ss : List (SeatIs I)) (k : ℕ) (x : A) →
    k < length ss → Among x (g (get_or ss k d)) → Among x (gathered g ss)
gathered_at g d [] k x lt h = absurd (omega arith)
gathered_at g d (s ∷ ss) zero x lt h = has_either (g s) (gathered g ss) x (inl h)
gathered_at g d (s ∷ ss) (suc k) x lt h =
    has_either (g s) (gathered g ss) x (inr (gathered_at g d ss k x (omega arith) h))
