-- Sums over lists, how often a ticket stands in one, and which entries stand in a log.
-- For the lemmas of `Closed`, `Closing` and other files, and so for `Book::close`, `Book::new` and others.
use Rattle.std.proofs.Common.{eqb, eq-eqb, ne_eqb, ◌≡◌, ◌≢◌, ◌⊎◌, ℕ, zero, suc, ◌+◌, ◌*◌, ◌<◌, ◌≤◌, ◌^◌, List, [], ◌∷◌, ◌++◌, length, set, map, Bool, true, false, refl, sym, ap, ◌∙◌, subst, ⊎_elim, inl, inr, arith, length-append, append_assoc}
use Rattle.std.proofs.lemmas.Bool.{cases_eq}
use Rattle.std.specs.Prelude.{◌==◌, if◌then◌else◌}
use mathlib.Core.Option.{some, some-ne-none, some-injective}
use lib.ListN.{get_elem?}
use Rattle.std.proofs.lemmas.Bool.Decides.{nat_tests, eqb_tells}
use Rattle.std.proofs.lemmas.List.Elements.{All-nil, All-cons}
use Rattle.atomic_table.proofs.Lists.{at_longer, at_last}
use Rattle.lb_ticket.specs.declared.item.Drawn.{Drawn}
use Rattle.lb_ticket.specs.Tickets.{total, same, once, hit, times, Stands, AllStand, Rises, Has, AllBelow}
use Rattle.lb_ticket.proofs.Views.{only, without}

-- ---- a number among those from 1 on
pub once_next : (x n k : ℕ) → n ≡ k + 1 → once x n ≡ same x n + once x k
once_next x zero k e = absurd (omega arith)
once_next x (suc n) k e = let eq : n ≡ k = omega arith in ap (λ (z : ℕ). same x (suc n) + once x z) eq

pub same_ne : (x y : ℕ) → x ≢ y → same x y ≡ 0
same_ne x y n = ap (λ (b : Bool). let r : ℕ = if b then 1 else 0 in r) (ne_eqb x y n)

pub same_eq : (x y : ℕ) → x ≡ y → same x y ≡ 1
same_eq x y e = ap (λ (b : Bool). let r : ℕ = if b then 1 else 0 in r) (eq-eqb x y e)

pub once_at : (k n : ℕ) → k < n → 1 ≤ once (suc k) n
once_at k zero lt = absurd (omega arith)
once_at k (suc n) lt = elim (cases_eq k n) [
  | inl e ↦ let o = same_eq (suc k) (suc n) (ap suc e) in omega arith
  | inr ne ↦ omega (arith, once_at k n (omega arith))
]

pub once_above : (x n : ℕ) → n < x → once x n ≡ 0
once_above x zero lt = refl
once_above x (suc n) lt = let h = same_ne x (suc n) (λ e. omega arith) in omega (arith, once_above x n (omega arith))

pub same_le : (x y : ℕ) → same x y ≤ 1
same_le x y = go (x == y)
  where
    go : (b : Bool) → (let r : ℕ = if b then 1 else 0 in r) ≤ 1
    go true = omega arith
    go false = omega arith

pub once_le : (x n : ℕ) → once x n ≤ 1
once_le x zero = omega arith
once_le x (suc n) =
    ⊎_elim
    (λ (t : (eqb x (suc n) ≡ true) × (x ≡ suc n)).
    let a = once_above x n (let e = t.1 in omega arith) in let b = same_le x (suc n) in omega arith)
    (λ (t : (eqb x (suc n) ≡ false) × (x ≢ suc n)). let a = once_le x n in let b = same_ne x (suc n) t.1 in omega arith)
    (eqb_tells x (suc n))

-- ---- sums over lists
module _ {A : Type 0} (f : A → ℕ) where
  pub total_member : (xs : List A) (j : ℕ) (v : A) → get_elem? xs j ≡ some v → f v ≤ total f xs
  total_member [] j v e = absurd (some-ne-none v (sym e))
  total_member (x ∷ xs) zero v e = let h : f x ≡ f v = ap f (some-injective x v e) in omega arith
  total_member (x ∷ xs) (suc j) v e = omega (arith, total_member xs j v e)

  pub total-append : (xs ys : List A) → total f (xs ++ ys) ≡ total f xs + total f ys
  total-append [] ys = omega arith
  total-append (x ∷ xs) ys = omega (arith, total-append xs ys)

  pub total_set : (xs : List A) (j : ℕ) (v w : A) → get_elem? xs j ≡ some v →
      total f (set xs j w) + f v ≡ total f xs + f w
  total_set [] j v w e = absurd (some-ne-none v (sym e))
  total_set (x ∷ xs) zero v w e = let h : f x ≡ f v = ap f (some-injective x v e) in omega arith
  total_set (x ∷ xs) (suc j) v w e = omega (arith, total_set xs j v w e)

-- ---- entries
module _ {I : Type 0} where
  pub stands_longer : (log more : List I) (d : Drawn I) → Stands log d → Stands (log ++ more) d
  stands_longer log more d s = (s.0, s.1, at_longer log more s.0 d.item s.2)

  pub all_stand_longer : (log more : List I) (ds : List (Drawn I)) → AllStand log ds → AllStand (log ++ more) ds
  all_stand_longer log more [] s = tt
  all_stand_longer log more (d ∷ ds) s = (stands_longer log more d s.0, all_stand_longer log more ds s.1)

  pub all_stand-append : (log : List I) (ds es : List (Drawn I)) → AllStand log ds → AllStand log es →
      AllStand log (ds ++ es)
  all_stand-append log [] es s t = t
  all_stand-append log (d ∷ ds) es s t = (s.0, all_stand-append log ds es s.1 t)

  pub stands_below : (log : List I) (d : Drawn I) → Stands log d → (0 < d.ticket) × (d.ticket ≤ length log)
  stands_below log d s = let h = below log s.0 d.item s.2 in let e = s.1 in (omega arith, omega arith)
    where
      below : (l : List I) (k : ℕ) (i : I) → get_elem? l k ≡ some i → k < length l
      below [] k i e = absurd (some-ne-none i (sym e))
      below (x ∷ l) zero i e = omega arith
      below (x ∷ l) (suc k) i e = omega (arith, below l k i e)

  -- the new entry stands
  pub stands_last : (log : List I) (n : ℕ) (i : I) → n ≡ length log + 1 →
      Stands (log ++ i ∷ []) (record { ticket = n; item = i })
  stands_last log n i e = (length log, omega arith, at_last log i (length log) refl)

  pub rises_snoc : (log : List I) (b n : ℕ) (i : I) (ds : List (Drawn I)) → AllStand log ds → n ≡ length log + 1 →
      b < n →
      Rises b ds → Rises b (ds ++ record { ticket = n; item = i } ∷ [])
  rises_snoc log b n i [] s e lt r = (lt, tt)
  rises_snoc log b n i (d ∷ ds) s e lt r =
      let h = (stands_below log d s.0).1 in (r.0, rises_snoc log d.ticket n i ds s.1 e (omega arith) r.1)

  pub all_stand_without : (log : List I) (k : ℕ) (ds : List (Drawn I)) → AllStand log ds → AllStand log (without k ds)
  all_stand_without log k [] s = tt
  all_stand_without log k (d ∷ ds) s = go (k == d.ticket) (all_stand_without log k ds s.1)
    where
      go : (b : Bool) → AllStand log (without k ds) → AllStand log (if b then without k ds else d ∷ without k ds)
      go true r = r
      go false r = (s.0, r)

  pub all_stand_only : (log : List I) (k : ℕ) (ds : List (Drawn I)) → AllStand log ds → AllStand log (only k ds)
  all_stand_only log k [] s = tt
  all_stand_only log k (d ∷ ds) s = go (k == d.ticket) (all_stand_only log k ds s.1)
    where
      go : (b : Bool) → AllStand log (only k ds) → AllStand log (if b then d ∷ only k ds else only k ds)
      go true r = (s.0, r)
      go false r = r

  -- the entries with a ticket, and the others, are all
  pub times_parted : (x k : ℕ) (ds : List (Drawn I)) → times x (only k ds) + times x (without k ds) ≡ times x ds
  times_parted x k [] = refl
  times_parted x k (d ∷ ds) = go (k == d.ticket) (times_parted x k ds)
    where
      go : (b : Bool) → times x (only k ds) + times x (without k ds) ≡ times x ds →
          times x (if b then d ∷ only k ds else only k ds) + times x (if b then without k ds else d ∷ without k ds) ≡
          hit x d + times x ds
      go true r = omega arith
      go false r = omega arith

  abbrev pub AllAt : ℕ → List (Drawn I) → Type 0
  AllAt k [] = Unit {0}
  AllAt k (d ∷ ds) = (k ≡ d.ticket) × AllAt k ds

  pub only_at : (k : ℕ) (ds : List (Drawn I)) → AllAt k (only k ds)
  only_at k [] = tt
  only_at k (d ∷ ds) = go (k == d.ticket) refl (only_at k ds)
    where
      go : (b : Bool) → (k == d.ticket) ≡ b → AllAt k (only k ds) → AllAt k (if b then d ∷ only k ds else only k ds)
      go true e r = (grind (arith, nat_tests), r)
      go false e r = r

  pub times_at : (x k : ℕ) (ds : List (Drawn I)) → x ≢ k → AllAt k ds → times x ds ≡ 0
  times_at x k [] n a = refl
  times_at x k (d ∷ ds) n a = go (x == d.ticket) refl (times_at x k ds n a.1)
    where
      go : (b : Bool) → (x == d.ticket) ≡ b → times x ds ≡ 0 → (if b then 1 else 0) + times x ds ≡ 0
      go true e r = let h : x ≡ d.ticket = grind (arith, nat_tests) in absurd (n (h ∙ sym a.0))
      go false e r = omega arith

  pub none_only : (x : ℕ) (ds : List (Drawn I)) → times x ds ≡ 0 → only x ds ≡ []
  none_only x [] z = refl
  none_only x (d ∷ ds) z = go (x == d.ticket) (none_only x ds) z
    where
      go : (b : Bool) → (times x ds ≡ 0 → only x ds ≡ []) → (let r : ℕ = if b then 1 else 0 in r) + times x ds ≡ 0 →
          (if b then d ∷ only x ds else only x ds) ≡ []
      go true r z = absurd (omega arith)
      go false r z = r (omega arith)

  pub has_times : (x : ℕ) (d : Drawn I) (ds : List (Drawn I)) → Has d ds → d.ticket ≡ x → 1 ≤ times x ds
  has_times x d [] h e = absurd h
  has_times x d (y ∷ ds) h e =
      ⊎_elim
      (λ (p : y ≡ d).
      let q : x ≡ y.ticket = sym (ap (λ (z : Drawn I). z.ticket) p ∙ e) in
      let o : hit x y ≡ 1 = ap (λ (b : Bool). let r : ℕ = if b then 1 else 0 in r) (eq-eqb x y.ticket q) in
      omega arith)
      (λ (r : Has d ds). omega (arith, has_times x d ds r e))
      h

  pub single : (x : ℕ) (d : Drawn I) (ds : List (Drawn I)) → times x ds ≤ 1 → Has d ds → d.ticket ≡ x →
      only x ds ≡ d ∷ []
  single x d [] le h e = absurd h
  single x d (y ∷ ds) le h e = go (x == y.ticket) refl le (single x d ds)
    where
      go : (b : Bool) → (x == y.ticket) ≡ b → (let r : ℕ = if b then 1 else 0 in r) + times x ds ≤ 1 →
          (times x ds ≤ 1 → Has d ds → d.ticket ≡ x → only x ds ≡ d ∷ []) →
          (if b then y ∷ only x ds else only x ds) ≡ d ∷ []
      go true t le rec =
          let none = none_only x ds (omega arith) in
          let is : y ≡ d =
          ⊎_elim (λ (p : y ≡ d). p) (λ (r : Has d ds). let o = has_times x d ds r e in absurd (omega arith)) h in
          λ i. is i ∷ none i
      go false t le rec =
          ⊎_elim
          (λ (p : y ≡ d).
          absurd
          (Rattle.std.proofs.Common.true≢false
          (sym (eq-eqb x y.ticket (sym (ap (λ (z : Drawn I). z.ticket) p ∙ e))) ∙ t)))
          (λ (r : Has d ds). rec (omega arith) r e) h

  pub only_none : (log : List I) (n : ℕ) (ds : List (Drawn I)) → AllStand log ds → length log < n → times n ds ≡ 0
  only_none log n [] s lt = refl
  only_none log n (d ∷ ds) s lt =
      let b = stands_below log d s.0 in
      let z : hit n d ≡ 0 =
      ap (λ (b : Bool). let r : ℕ = if b then 1 else 0 in r) (ne_eqb n d.ticket (λ e. omega arith)) in
      omega (arith, only_none log n ds s.1 lt)

  pub only-append : (x : ℕ) (ds es : List (Drawn I)) → only x (ds ++ es) ≡ only x ds ++ only x es
  only-append x [] es = refl
  only-append x (d ∷ ds) es = go (x == d.ticket) (only-append x ds es)
    where
      go : (b : Bool) → only x (ds ++ es) ≡ only x ds ++ only x es →
          (if b then d ∷ only x (ds ++ es) else only x (ds ++ es)) ≡ (if b then d ∷ only x ds else only x ds) ++ only x
          es
      go true r = ap (λ l. d ∷ l) r
      go false r = r

  pub only_here : (d : Drawn I) → only d.ticket (d ∷ []) ≡ d ∷ []
  only_here d =
      ap (λ (b : Bool). let r : List (Drawn I) = if b then d ∷ [] else [] in r) (eq-eqb d.ticket d.ticket refl)

  pub all_below : (log : List I) (n : ℕ) (ds : List (Drawn I)) → AllStand log ds → length log < n → AllBelow n ds
  all_below log n [] s lt = All-nil (λ (d : Drawn I). d.ticket < n)
  all_below log n (d ∷ ds) s lt =
      let b = stands_below log d s.0 in
      All-cons (λ (d : Drawn I). d.ticket < n) d ds (omega arith) (all_below log n ds s.1 lt)
