-- The lists of a closed book are the log, parted by owner: each item of the log fits the items of its
-- owner before it, and quotes an earlier one or none. For those too who reason over the lists of a closed book.
-- For `lb_journal`.
use Rattle.std.proofs.Common.{◌≡◌, ℕ, zero, suc, ◌+◌, ◌<◌, ◌≤◌, Bool, true, false, eqb, List, [], ◌∷◌, ◌++◌, length, map, get_or, refl, sym, ◌∙◌, ap, subst, arith, inl, inr, eq-eqb, ne_eqb, append_assoc, append-nil, drop}
use Rattle.std.specs.Prelude.{◌==◌, if◌then◌else◌}
use Rattle.std.proofs.lemmas.Bool.{cases_eq, cases_lt}
use mathlib.Core.Option.{some, some-ne-none, some-injective}
use lib.ListN.{get_elem?}
use Rattle.lb_ticket.specs.declared.item.Drawn.{Drawn}
use Rattle.lb_ticket.proofs.Sums.{total_member, same_eq, same_ne, once_at}
use Rattle.lb_ticket.specs.Tickets.{Meaning, total, times, AllStand, Rises, pair, FitsAfter, AllOwned, IsOwners, ListsFit, QuoteFits, AllQuote, quoted_by, quote_hit, Closes}

-- ---- sums
-- a part of a sum that is not 0
part_of : {A : Type 0} (f : A → ℕ) (xs : List A) (d : A) → 1 ≤ total f xs →
    (p : ℕ) × (p < length xs) × (1 ≤ f (get_or xs p d))
part_of f [] d h = absurd (omega arith)
part_of f (x ∷ xs) d h = elim (cases_eq (f x) 0) [
  | inl z ↦ let r = part_of f xs d (omega arith) in (suc r.0, omega (arith, r.1), r.2)
  | inr n ↦ (zero, omega arith, omega arith)
]

-- two parts of a sum
two_members : {A : Type 0} (f : A → ℕ) (xs : List A) (j k : ℕ) (v w : A) → j < k → get_elem? xs j ≡ some v →
    get_elem? xs k ≡ some w → f v + f w ≤ total f xs
two_members f [] j k v w lt e g = absurd (some-ne-none v (sym e))
two_members f (x ∷ xs) zero zero v w lt e g = absurd (omega arith)
two_members f (x ∷ xs) zero (suc k) v w lt e g =
    let h : f x ≡ f v = ap f (some-injective x v e) in omega (arith, total_member f xs k w g)
two_members f (x ∷ xs) (suc j) zero v w lt e g = absurd (omega arith)
two_members f (x ∷ xs) (suc j) (suc k) v w lt e g = omega (arith, two_members f xs j k v w (omega arith) e g)

-- ---- lists that are equal
pub nil_cons : {A : Type 0} {x : A} {xs : List A} → [] ≡ x ∷ xs → ⊥
nil_cons {xs} e = let h : 0 ≡ suc (length xs) = ap length e in omega arith

pub head_is : {A : Type 0} {x y : A} {xs ys : List A} → x ∷ xs ≡ y ∷ ys → x ≡ y
head_is {x} e = ap (λ (l : List _). get_or l 0 x) e

pub tail_is : {A : Type 0} {x y : A} {xs ys : List A} → x ∷ xs ≡ y ∷ ys → xs ≡ ys
tail_is e = ap (drop 1) e

-- ---- places of a list
pub at_below : {A : Type 0} (l : List A) (k : ℕ) (i : A) → get_elem? l k ≡ some i → k < length l
at_below [] k i e = absurd (some-ne-none i (sym e))
at_below (x ∷ l) zero i e = omega arith
at_below (x ∷ l) (suc k) i e = omega (arith, at_below l k i e)

pub at_get_or : {A : Type 0} (l : List A) (k : ℕ) (i d : A) → get_elem? l k ≡ some i → get_or l k d ≡ i
at_get_or [] k i d e = absurd (some-ne-none i (sym e))
at_get_or (x ∷ l) zero i d e = some-injective x i e
at_get_or (x ∷ l) (suc k) i d e = at_get_or l k i d e

pub get_or_at_elem : {A : Type 0} (l : List A) (k : ℕ) (d : A) → k < length l → get_elem? l k ≡ some (get_or l k d)
get_or_at_elem [] k d lt = absurd (omega arith)
get_or_at_elem (x ∷ l) zero d lt = refl
get_or_at_elem (x ∷ l) (suc k) d lt = get_or_at_elem l k d (omega arith)

module _ {I L : Type 0} (m : Meaning I L) where
  -- the items of an owner among these, which stand from the ticket n on
  abbrev pub owned_from : ℕ → ℕ → List I → List (ℕ × I)
  owned_from k n [] = []
  owned_from k n (i ∷ is) = if m.owner i == k then (n, i) ∷ owned_from k (n + 1) is else owned_from k (n + 1) is

  -- ---- a rising list of what stands in the log, with all of its owner
  StandsFrom : ℕ → List I → Drawn I → Type 0
  StandsFrom b rest d = (i : ℕ) × (d.ticket ≡ b + 1 + i) × (get_elem? rest i ≡ some d.item)

  AllStandFrom : ℕ → List I → List (Drawn I) → Type 0
  unfolding StandsFrom
  AllStandFrom b rest [] = Unit {0}
  AllStandFrom b rest (d ∷ ds) = StandsFrom b rest d × AllStandFrom b rest ds

  from_start : (log : List I) (ds : List (Drawn I)) → AllStand log ds → AllStandFrom 0 log ds
  unfolding StandsFrom AllStandFrom
  from_start log [] s = tt
  from_start log (d ∷ ds) s = ((s.0.0, (let e = s.0.1 in omega arith), s.0.2), from_start log ds s.1)

  -- past the first item
  stands_shift : (b : ℕ) (j : I) (rest : List I) (d : Drawn I) → b + 1 < d.ticket → StandsFrom b (j ∷ rest) d →
      StandsFrom (b + 1) rest d
  unfolding StandsFrom
  stands_shift b j rest d lt (zero, e, at) = absurd (omega arith)
  stands_shift b j rest d lt (suc i, e, at) = (i, omega arith, at)

  all_shift : (b c : ℕ) (j : I) (rest : List I) (ds : List (Drawn I)) → b + 1 ≤ c → Rises c ds →
      AllStandFrom b (j ∷ rest) ds → AllStandFrom (b + 1) rest ds
  unfolding AllStandFrom
  all_shift b c j rest [] le r s = tt
  all_shift b c j rest (d ∷ ds) le r s =
      let lt = r.0 in (stands_shift b j rest d (omega arith) s.0, all_shift b d.ticket j rest ds (omega arith) r.1 s.1)

  times_low : (x c : ℕ) (ds : List (Drawn I)) → x ≤ c → Rises c ds → times x ds ≡ 0
  times_low x c [] le r = refl
  times_low x c (d ∷ ds) le r =
      let lt = r.0 in
      let z = same_ne x d.ticket (λ e. omega arith) in
      let t = times_low x d.ticket ds (omega arith) r.1 in
      omega arith

  rises_up : (b : ℕ) (ds : List (Drawn I)) → Rises b ds → times (b + 1) ds ≡ 0 → Rises (b + 1) ds
  rises_up b [] r z = tt
  rises_up b (d ∷ ds) r z = elim (cases_eq (b + 1) d.ticket) [
    | inl e ↦ absurd (let o = same_eq (b + 1) d.ticket e in omega arith)
    | inr n ↦ (let lt = r.0 in omega arith, r.1)
  ]

  All-present : ℕ → ℕ → List I → List (Drawn I) → Type 0
  All-present k b rest ds = (i : ℕ) (j : I) → get_elem? rest i ≡ some j → m.owner j ≡ k → 1 ≤ times (b + 1 + i) ds

  -- the first item is not of the owner
  present_skip : (k b : ℕ) (j : I) (rest : List I) (ds : List (Drawn I)) → All-present k b (j ∷ rest) ds →
      All-present k (b + 1) rest ds
  unfolding All-present
  present_skip k b j rest ds p i x at own =
      let h = p (suc i) x at own in
      let e : times (b + 1 + suc i) ds ≡ times (b + 1 + 1 + i) ds = ap (λ (y : ℕ). times y ds) (omega arith) in
      omega arith

  present_next : (k b : ℕ) (j : I) (rest : List I) (d : Drawn I) (ds : List (Drawn I)) → d.ticket ≡ b + 1 →
      All-present k b (j ∷ rest) (d ∷ ds) → All-present k (b + 1) rest ds
  unfolding All-present
  present_next k b j rest d ds t p i x at own =
      let h = p (suc i) x at own in
      let z = same_ne (b + 1 + suc i) d.ticket (λ e. omega arith) in
      let e : times (b + 1 + suc i) ds ≡ times (b + 1 + 1 + i) ds = ap (λ (y : ℕ). times y ds) (omega arith) in
      omega arith

  stands_first : (b : ℕ) (j : I) (rest : List I) (d : Drawn I) → d.ticket ≡ b + 1 → StandsFrom b (j ∷ rest) d →
      d.item ≡ j
  unfolding StandsFrom
  stands_first b j rest d t (zero, e, at) = sym (some-injective j d.item at)
  stands_first b j rest d t (suc i, e, at) = absurd (omega arith)

  none_stands : (b : ℕ) (d : Drawn I) → StandsFrom b [] d → ⊥
  unfolding StandsFrom
  none_stands b d s = some-ne-none d.item (sym s.2)

  -- what is shown of the items that stand after ticket b
  Sorted : ℕ → ℕ → List I → Type 0
  unfolding AllStandFrom All-present
  Sorted k b rest =
      (ds : List (Drawn I)) → Rises b ds → AllStandFrom b rest ds → AllOwned m k ds → All-present k b rest ds →
      map pair ds ≡ owned_from k (b + 1) rest

  -- the owner has none with the first ticket
  away : (k b : ℕ) (j : I) (rest : List I) (ds : List (Drawn I)) → (m.owner j ≡ k → ⊥) → Rises b ds →
      AllStandFrom b (j ∷ rest) ds → AllOwned m k ds → times (b + 1) ds ≡ 0
  unfolding AllStandFrom
  away k b j rest [] n r s o = refl
  away k b j rest (d ∷ ds) n r s o = elim (cases_eq (b + 1) d.ticket) [
    | inl e ↦ absurd (n (ap m.owner (sym (stands_first b j rest d (sym e) s.0)) ∙ o.0))
    | inr ne ↦ times_low (b + 1) (b + 1) (d ∷ ds) (omega arith) (let lt = r.0 in omega arith, r.1)
  ]

  here : (k b : ℕ) (j : I) (rest : List I) (ds : List (Drawn I)) → m.owner j ≡ k → Rises b ds →
      AllStandFrom b (j ∷ rest) ds → AllOwned m k ds → All-present k b (j ∷ rest) ds → Sorted k (b + 1) rest →
      map pair ds ≡ (b + 1, j) ∷ owned_from k (b + 1 + 1) rest
  unfolding AllStandFrom All-present Sorted
  here k b j rest [] e r s o p rec = absurd (let h = p 0 j refl e in omega arith)
  here k b j rest (d ∷ ds) e r s o p rec =
      let t : d.ticket ≡ b + 1 = elim (cases_eq d.ticket (b + 1)) [
        | inl y ↦ y
        | inr n ↦ absurd
            (let z = times_low (b + 1) (b + 1) (d ∷ ds) (omega arith) (let lt = r.0 in omega arith, r.1) in
            let h : 1 ≤ times (b + 1) (d ∷ ds) = subst (λ (x : ℕ). 1 ≤ times x (d ∷ ds)) (omega arith) (p 0 j refl e) in
            omega arith)
      ] in
      let it : d.item ≡ j = stands_first b j rest d t s.0 in
      let up : Rises (b + 1) ds = subst (λ (c : ℕ). Rises c ds) t r.1 in
      let more =
      rec ds up (all_shift b (b + 1) j rest ds (omega arith) up s.1) o.1 (present_next k b j rest d ds t p) in
      λ i. (t i, it i) ∷ more i

  sorted_is : (k b : ℕ) (rest : List I) → Sorted k b rest
  unfolding AllStandFrom All-present Sorted
  sorted_is k b [] [] r s o p = refl
  sorted_is k b [] (d ∷ ds) r s o p = absurd (none_stands b d s.0)
  sorted_is k b (j ∷ rest) ds r s o p = elim (cases_eq (m.owner j) k) [
    | inl e ↦ let c : eqb (m.owner j) k ≡ true =
        eq-eqb (m.owner j) k e in rw c (here k b j rest ds e r s o p (sorted_is k (b + 1) rest))
    | inr n ↦
        let up = rises_up b ds r (away k b j rest ds n r s o) in
        let c : eqb (m.owner j) k ≡ false = ne_eqb (m.owner j) k n in
        rw c
        (sorted_is k (b + 1) rest ds up (all_shift b (b + 1) j rest ds (omega arith) up s) o
        (present_skip k b j rest ds p))
  ]

  -- ---- the lists
  pub record IsListOf (log : List I) (k : ℕ) (ds : List (Drawn I)) : Type 0 where
    pub owners : IsOwners m k ds
    pub stand : AllStand log ds

  lists_at : (log : List I) (b : ℕ) (lists : List (List (Drawn I))) (k : ℕ) → ListsFit m log b lists →
      IsListOf log (b + k) (get_or lists k [])
  lists_at log b [] k f = record { owners = record { rises = tt; fits = tt; owned = tt }; stand = tt }
  lists_at log b (ds ∷ lists) zero f =
      subst (λ (n : ℕ). IsListOf log n ds) (omega arith) (record { owners = f.0; stand = f.1 })
  lists_at log b (ds ∷ lists) (suc k) f =
      subst (λ (n : ℕ). IsListOf log n (get_or lists k [])) (omega arith) (lists_at log (b + 1) lists k f.2)

  pub list_fits : (lists : List (List (Drawn I))) (c : Closes m lists) (k : ℕ) → IsListOf c.log k (get_or lists k [])
  list_fits lists c k =
      subst (λ (n : ℕ). IsListOf c.log n (get_or lists k [])) (omega arith) (lists_at c.log 0 lists k c.lists_fit)

  -- an item with this ticket in a list
  found : (log : List I) (k x : ℕ) (ds : List (Drawn I)) → AllStand log ds → AllOwned m k ds → 1 ≤ times x ds →
      (i : I) × (n : ℕ) × (x ≡ suc n) × (get_elem? log n ≡ some i) × (m.owner i ≡ k)
  found log k x [] s o h = absurd (omega arith)
  found log k x (d ∷ ds) s o h = elim (cases_eq x d.ticket) [
    | inl e ↦ (d.item, s.0.0, e ∙ s.0.1, s.0.2, o.0)
    | inr n ↦ let z = same_ne x d.ticket n in found log k x ds s.1 o.1 (omega arith)
  ]

  present : (lists : List (List (Drawn I))) (c : Closes m lists) (k i : ℕ) (j : I) → get_elem? c.log i ≡ some j →
      m.owner j ≡ k → 1 ≤ times (suc i) (get_or lists k [])
  present lists c k i j at own =
      let o = once_at i (length c.log) (at_below c.log i j at) in
      let e = c.each_once (suc i) in
      let p = part_of (times (suc i)) lists [] (omega arith) in
      let l = list_fits lists c p.0 in
      let f = found c.log p.0 (suc i) (get_or lists p.0 []) l.stand l.owners.owned p.2 in
      let n : i ≡ f.1 = let x = f.2 in omega arith in
      let same_item : f.0 ≡ j = some-injective f.0 j (sym f.3 ∙ ap (get_elem? c.log) (sym n) ∙ at) in
      let same_list : p.0 ≡ k = sym f.4 ∙ ap m.owner same_item ∙ own in
      subst (λ (q : ℕ). 1 ≤ times (suc i) (get_or lists q [])) same_list p.2

  -- each list is the log without what is others'
  pub list_is : (lists : List (List (Drawn I))) (c : Closes m lists) (k : ℕ) →
      map pair (get_or lists k []) ≡ owned_from k 1 c.log
  unfolding Sorted All-present
  list_is lists c k =
      let l = list_fits lists c k in
      sorted_is k 0 c.log (get_or lists k []) l.owners.rises (from_start c.log (get_or lists k []) l.stand)
      l.owners.owned
      (λ i j at own. subst (λ (x : ℕ). 1 ≤ times x (get_or lists k [])) (omega arith) (present lists c k i j at own))

  pub owned-append : (k n : ℕ) (xs ys : List I) →
      owned_from k n (xs ++ ys) ≡ owned_from k n xs ++ owned_from k (n + length xs) ys
  owned-append k n [] ys = ap (λ (x : ℕ). owned_from k x ys) (omega arith)
  owned-append k n (x ∷ xs) ys =
      let e : owned_from k (n + 1 + length xs) ys ≡ owned_from k (n + suc (length xs)) ys =
      ap (λ (z : ℕ). owned_from k z ys) (omega arith) in
      go (eqb (m.owner x) k) (owned-append k (n + 1) xs ys ∙ ap (λ (l : List (ℕ × I)). owned_from k (n + 1) xs ++ l) e)
    where
      go : (b : Bool) →
          owned_from k (n + 1) (xs ++ ys) ≡ owned_from k (n + 1) xs ++ owned_from k (n + suc (length xs)) ys →
          (if b then (n, x) ∷ owned_from k (n + 1) (xs ++ ys) else owned_from k (n + 1) (xs ++ ys)) ≡
          (if b then (n, x) ∷ owned_from k (n + 1) xs else owned_from k (n + 1) xs) ++ owned_from k
          (n + suc (length xs)) ys
      go true h = ap (λ (l : List (ℕ × I)). (n, x) ∷ l) h
      go false h = h

  -- ---- each item fits, and quotes an earlier one
  pub fits_part : (before : List (ℕ × I)) (ds : List (Drawn I)) (xs ys : List (ℕ × I)) (d : ℕ × I) →
      FitsAfter m before ds → map pair ds ≡ xs ++ d ∷ ys → m.fits (before ++ xs) d.1
  fits_part before [] [] ys d f e = absurd (nil_cons e)
  fits_part before [] (x ∷ xs) ys d f e = absurd (nil_cons e)
  fits_part before (y ∷ ds) [] ys d f e =
      subst (λ (l : List (ℕ × I)). m.fits l d.1) (sym (append-nil before))
      (subst (λ (p : ℕ × I). m.fits before p.1) (head_is e) f.0)
  fits_part before (y ∷ ds) (x ∷ xs) ys d f e =
      let rec = fits_part (before ++ pair y ∷ []) ds xs ys d f.1 (tail_is e) in
      subst (λ (l : List (ℕ × I)). m.fits l d.1)
      (append_assoc before (pair y ∷ []) xs ∙ ap (λ (p : ℕ × I). before ++ p ∷ xs) (head_is e)) rec

  pub fits_at : (lists : List (List (Drawn I))) (c : Closes m lists) (pre rest : List I) (j : I) →
      c.log ≡ pre ++ j ∷ rest → m.fits (owned_from (m.owner j) 1 pre) j
  fits_at lists c pre rest j e =
      let k = m.owner j in
      let l = list_fits lists c k in
      let own : eqb k k ≡ true = eq-eqb k k refl in
      let later = owned_from k (1 + length pre + 1) rest in
      let parts : owned_from k 1 (pre ++ j ∷ rest) ≡ owned_from k 1 pre ++ (1 + length pre, j) ∷ later =
      owned-append k 1 pre (j ∷ rest) ∙ ap
      (λ (b : Bool).
      owned_from k 1 pre ++
      (if b then (1 + length pre, j) ∷ owned_from k (1 + length pre + 1) rest else owned_from k
      (1 + length pre + 1) rest))
      own in
      fits_part [] (get_or lists k []) (owned_from k 1 pre) (owned_from k (1 + length pre + 1) rest) (1 + length pre, j)
      l.owners.fits (list_is lists c k ∙ ap (owned_from k 1) e ∙ parts)

  quote_part : (before is pre rest : List I) (j : I) → AllQuote m before is → is ≡ pre ++ j ∷ rest →
      QuoteFits m (before ++ pre) j (m.quote j)
  quote_part before [] [] rest j a e = absurd (nil_cons e)
  quote_part before [] (x ∷ pre) rest j a e = absurd (nil_cons e)
  quote_part before (i ∷ is) [] rest j a e =
      subst (λ (l : List I). QuoteFits m l j (m.quote j)) (sym (append-nil before))
      (subst (λ (x : I). QuoteFits m before x (m.quote x)) (head_is e) a.0)
  quote_part before (i ∷ is) (x ∷ pre) rest j a e =
      let rec = quote_part (before ++ i ∷ []) is pre rest j a.1 (tail_is e) in
      subst (λ (l : List I). QuoteFits m l j (m.quote j))
      (append_assoc before (i ∷ []) pre ∙ ap (λ (y : I). before ++ y ∷ pre) (head_is e)) rec

  pub quote_at : (lists : List (List (Drawn I))) (c : Closes m lists) (pre rest : List I) (j : I) →
      c.log ≡ pre ++ j ∷ rest → QuoteFits m pre j (m.quote j)
  quote_at lists c pre rest j e = quote_part [] c.log pre rest j c.quotes e

  pub quoted_apart : (lists : List (List (Drawn I))) (c : Closes m lists) (s t : ℕ) (i j : I) →
      get_elem? c.log s ≡ some i → get_elem? c.log t ≡ some j → 0 < quoted_by (m.quote i) →
      quoted_by (m.quote i) ≡ quoted_by (m.quote j) → s ≡ t
  quoted_apart lists c s t i j ai aj pos e =
      let x = quoted_by (m.quote i) in
      let one = same_eq x (quoted_by (m.quote i)) refl in
      let other = same_eq x (quoted_by (m.quote j)) e in
      let most = c.quoted_once x pos in
      elim (cases_eq s t) [
        | inl y ↦ y
        | inr n ↦ elim (cases_lt s t) [
          | inl lt ↦ absurd (let h = two_members (quote_hit m x) c.log s t i j lt ai aj in omega arith)
          | inr ge ↦ absurd (let h = two_members (quote_hit m x) c.log t s j i (omega arith) aj ai in omega arith)
        ]
      ]
