-- The premises of the merge law, which speak of lists, say all that is needed of the log.
-- For the law `merge_is_run`.
use Rattle.std.proofs.Common.{All, ◌≡◌, ◌⊎◌, ℕ, zero, suc, ◌+◌, ◌-◌, ◌<◌, ◌≤◌, Bool, true, false, cond, eqb, ltb, leb, not, ◌&&◌, ◌||◌, Some, None, is_some, find, List, [], ◌∷◌, ◌++◌, length, map, get_or, refl, sym, ◌∙◌, ap, subst, arith, inl, inr, eq-eqb, append-nil}
use Rattle.std.specs.List.{range_with_len, list_any}
use Rattle.std.proofs.lemmas.Bool.{cases_lt, eqb-true, and_parts, lt-ltb, le-ltb}
use Rattle.lb_base.specs.Sets.{mask_where}
use Rattle.lb_queue.specs.Requests.{has_pending}
use Rattle.lb_trace.specs.declared.trace.Header.{Header}
use Rattle.lb_core.specs.Placed.{PlacedAlways}
use Rattle.lb_core.specs.Same.{same_mask}
use Rattle.std.proofs.lemmas.List.Elements.{filter-append}
use Rattle.lb_core.specs.declared.course.Form.{Form}
use Rattle.lb_core.specs.declared.course.Form.TheVariants.{Rest}
use Rattle.lb_core.specs.declared.entry.FigName.{FigName}
use Rattle.lb_core.specs.declared.entry.Owner.{Owner}
use Rattle.lb_core.specs.declared.entry.Owner.TheVariants.{Lane, Queue}
use Rattle.lb_core.specs.declared.entry.What.{What}
use Rattle.lb_core.specs.declared.entry.What.TheVariants.{Adopt, Look, Scan, End, Out, Landed}
use mathlib.Core.Option.{some-ne-none, some-injective}
use lib.ListN.{get_elem?}
use Rattle.lb_ticket.specs.declared.item.Drawn.{Drawn}
use Rattle.lb_ticket.specs.Tickets.{Closes, QuoteFits, quoted_by, pair}
use Rattle.lb_journal.specs.Journal.{Journal, Left, number_of, quote_of, replay, sight_in, meaning_of_journal}
use Rattle.lb_journal.specs.Merge.{list_of, Each, both_tick, closing_out, is_out_at_rest, is_end, is_landing, closes_at, quotes_closing, is_closing, below, pending_before, unserved_before, ClosesBy, figure_after, is_named_before, ReadsFigures, CarriesRead, versions_of, CarriesVersion, ClosingLast, ClosingBegins, MayMerge, MergeIsRun}
use Rattle.std.proofs.lemmas.List.{get_or_past}
use Rattle.std.proofs.lemmas.List.Elements.{All-nil, All-map}
use Rattle.lb_journal.specs.Owners.{InAll}
use Rattle.lb_ticket.proofs.Logs.{owned_from, list_is, fits_at, quote_at, quoted_apart}
use Rattle.lb_journal.proofs.Good.{items_of, queue_items, At, IsQuoted, pending_in, unserved_in, ClosesIn, ReadsIn, CarriesIn, VersionIn, may_close, Linked, Good}
use Rattle.lb_journal.proofs.Lanes.{staged, split_at, at_front, at_mid}
use Rattle.lb_journal.proofs.Items.{items_front, later_items}
use Rattle.lb_journal.proofs.Stepping.{end_lane}
use Rattle.lb_journal.proofs.Merging.{merge_good}

-- ---- an item and its place among those of its owner
pub owned_place : (x n : ℕ) (log : List Journal) (k : ℕ) (j : Journal) (d : ℕ × Journal) → At log k j →
    number_of j.entry.owner ≡ x →
    (q : ℕ) × (q < length (owned_from meaning_of_journal x n log))
    × (get_or (owned_from meaning_of_journal x n log) q d ≡ (n + k, j))
owned_place x n [] k j d a own = absurd (some-ne-none j (sym a))
owned_place x n (i ∷ log) zero j d a own =
    let same = some-injective i j a in
    let c : eqb (number_of i.entry.owner) x ≡ true =
    eq-eqb _ _ (ap (λ (y : Journal). number_of y.entry.owner) same ∙ own) in
    rw c (zero, omega arith, λ t. (let e : n ≡ n + 0 = omega arith in e t, same t))
owned_place x n (i ∷ log) (suc k) j d a own =
    let r = owned_place x (n + 1) log k j d a own in
    let t : n + 1 + k ≡ n + suc k = omega arith in
    let e : get_or (owned_from meaning_of_journal x (n + 1) log) r.0 d ≡ (n + suc k, j) =
    r.2 ∙ ap (λ (y : ℕ). (y, j)) t in
    go (eqb (number_of i.entry.owner) x) r.0 r.1 e
  where
    go : (b : Bool) (q : ℕ) → q < length (owned_from meaning_of_journal x (n + 1) log) →
        get_or (owned_from meaning_of_journal x (n + 1) log) q d ≡ (n + suc k, j) →
        (q : ℕ) ×
        (q < length
        (cond b ((n, i) ∷ owned_from meaning_of_journal x (n + 1) log)
        (owned_from meaning_of_journal x (n + 1) log)))
        × (get_or
        (cond b ((n, i) ∷ owned_from meaning_of_journal x (n + 1) log)
        (owned_from meaning_of_journal x (n + 1) log))
        q d ≡ (n + suc k, j))
    go true q lt e = (suc q, omega arith, e)
    go false q lt e = (q, lt, e)

pub record Placed-item (log : List Journal) (n : ℕ) (d : ℕ × Journal) : Type 0 where
  pub place : ℕ
  pub item : Journal
  pub there : At log place item
  pub is : d ≡ (n + place, item)

pub owned_at : (x n : ℕ) (log : List Journal) (q : ℕ) (d : ℕ × Journal) →
    q < length (owned_from meaning_of_journal x n log) →
    Placed-item log n (get_or (owned_from meaning_of_journal x n log) q d)
owned_at x n [] q d lt = absurd (omega arith)
owned_at x n (i ∷ log) q d lt = go (eqb (number_of i.entry.owner) x) q lt (λ p h. later (owned_at x (n + 1) log p d h))
  where
    later : {y : ℕ × Journal} → Placed-item log (n + 1) y → Placed-item (i ∷ log) n y
    later r = record {
      place = suc r.place;
      item = r.item;
      there = r.there;
      is = r.is ∙ ap (λ (z : ℕ). (z, r.item)) (let e : n + 1 + r.place ≡ n + suc r.place = omega arith in e);
    }

    go : (b : Bool) (p : ℕ) →
        p < length
        (cond b ((n, i) ∷ owned_from meaning_of_journal x (n + 1) log) (owned_from meaning_of_journal x (n + 1) log)) →
        ((p : ℕ) → p < length (owned_from meaning_of_journal x (n + 1) log) →
        Placed-item (i ∷ log) n (get_or (owned_from meaning_of_journal x (n + 1) log) p d))
        →
        Placed-item (i ∷ log) n
        (get_or
        (cond b ((n, i) ∷ owned_from meaning_of_journal x (n + 1) log)
        (owned_from meaning_of_journal x (n + 1) log))
        p d)
    go true zero lt rec = record {
      place = zero;
      item = i;
      there = refl;
      is = λ t. (let e : n ≡ n + 0 = omega arith in e t, i);
    }
    go true (suc p) lt rec = rec p (omega arith)
    go false p lt rec = rec p lt

-- ---- the items before a ticket
below_none : (x n t : ℕ) (log : List Journal) → t ≤ n → below t (owned_from meaning_of_journal x n log) ≡ []
below_none x n t [] le = refl
below_none x n t (i ∷ log) le = go (eqb (number_of i.entry.owner) x) (below_none x (n + 1) t log (omega arith))
  where
    go : (b : Bool) → below t (owned_from meaning_of_journal x (n + 1) log) ≡ [] →
        below t
        (cond b ((n, i) ∷ owned_from meaning_of_journal x (n + 1) log) (owned_from meaning_of_journal x (n + 1) log)) ≡
        []
    go true r = rw (le-ltb n t le) r
    go false r = r

below_all : (x n t : ℕ) (log : List Journal) → n + length log ≤ t →
    below t (owned_from meaning_of_journal x n log) ≡ owned_from meaning_of_journal x n log
below_all x n t [] le = refl
below_all x n t (i ∷ log) le = go (eqb (number_of i.entry.owner) x) (below_all x (n + 1) t log (omega arith))
  where
    go : (b : Bool) →
        below t (owned_from meaning_of_journal x (n + 1) log) ≡ owned_from meaning_of_journal x (n + 1) log →
        below t
        (cond b ((n, i) ∷ owned_from meaning_of_journal x (n + 1) log) (owned_from meaning_of_journal x (n + 1) log)) ≡
        cond b ((n, i) ∷ owned_from meaning_of_journal x (n + 1) log) (owned_from meaning_of_journal x (n + 1) log)
    go true r = rw (lt-ltb n t (omega arith)) (ap (λ (l : List (ℕ × Journal)). (n, i) ∷ l) r)
    go false r = r

below-append : (t : ℕ) (xs ys : List (ℕ × Journal)) → below t (xs ++ ys) ≡ below t xs ++ below t ys
below-append t xs ys = filter-append (λ d. ltb d.0 t) xs ys

below_front : (x : ℕ) (pre rest : List Journal) → below (suc (length pre)) (items_of x (pre ++ rest)) ≡ items_of x pre
below_front x pre rest =
    ap (below (suc (length pre))) (items_front x pre rest)
    ∙ below-append (suc (length pre)) (items_of x pre) (later_items x pre rest)
    ∙ ap (λ (l : List (ℕ × Journal)). below (suc (length pre)) (items_of x pre) ++ l)
    (below_none x (1 + length pre) (suc (length pre)) rest (omega arith))
    ∙ append-nil (below (suc (length pre)) (items_of x pre))
    ∙ below_all x 1 (suc (length pre)) pre (omega arith)

-- ---- the closing
any_left : (x y z : Bool) → x ≡ true → (x || y || z) ≡ true
any_left true y z e = refl
any_left false y z e = absurd (let k : ⊥ = cc in k)

any_mid : (x y z : Bool) → y ≡ true → (x || y || z) ≡ true
any_mid true y z e = refl
any_mid false true z e = refl
any_mid false false z e = absurd (let k : ⊥ = cc in k)

pub any_cases : (x y z : Bool) → (x || y || z) ≡ true → (x ≡ true) ⊎ ((y ≡ true) ⊎ (z ≡ true))
any_cases true y z e = inl refl
any_cases false true z e = inr (inl refl)
any_cases false false true e = inr (inr refl)
any_cases false false false e = absurd (let k : ⊥ = cc in k)

out_kind : (w : What) (f : Form) → is_out_at_rest w f ≡ true → may_close w ≡ true
out_kind (Out cause to tasks) f e = refl
out_kind w f e = absurd (let k : ⊥ = cc in k)

end_kind : (w : What) → is_end w ≡ true → may_close w ≡ true
end_kind (End unserved) e = refl
end_kind w e = absurd (let k : ⊥ = cc in k)

landing_kind : (w : What) → is_landing w ≡ true → may_close w ≡ true
landing_kind (Landed tasks) e = refl
landing_kind w e = absurd (let k : ⊥ = cc in k)

pub prev_quoted : (j : Journal) → quoted_by (quote_of j) ≡ j.entry.prev
prev_quoted j = go (eqb j.entry.prev 0) refl
  where
    go : (b : Bool) → eqb j.entry.prev 0 ≡ b →
        quoted_by {L = Left} (cond b None (Some (j.entry.prev, record { course = j.course; lane = j.entry.lane }))) ≡
        j.entry.prev
    go true e = sym (eqb-true j.entry.prev 0 e)
    go false e = refl

quoted_is : (pre : List Journal) (j : Journal) (b : Bool) → eqb j.entry.prev 0 ≡ b → 0 < j.entry.prev →
    QuoteFits meaning_of_journal pre j
    (cond b None (Some (j.entry.prev, record { course = j.course; lane = j.entry.lane }))) →
    IsQuoted pre j
quoted_is pre j true e pos q = absurd (let z = eqb-true j.entry.prev 0 e in omega arith)
quoted_is pre j false e pos q = record {
  place = q.1.0;
  item = q.0;
  ticket = q.1.1;
  there = q.1.2;
  left = ap (λ (x : Left). x.course) q.2;
  lane = q.3;
}

-- an item that passes a test in a list
pub some_any : {X : Type 0} (p : X → Bool) (xs : List X) (d : X) → list_any p xs ≡ true →
    (q : ℕ) × (q < length xs) × (p (get_or xs q d) ≡ true)
some_any p [] d e = absurd (let k : ⊥ = cc in k)
some_any p (x ∷ xs) d e = go (p x) refl e (some_any p xs d)
  where
    go : (b : Bool) → p x ≡ b → (b || list_any p xs) ≡ true →
        (list_any p xs ≡ true → (q : ℕ) × (q < length xs) × (p (get_or xs q d) ≡ true)) →
        (q : ℕ) × (q < suc (length xs)) × (p (get_or (x ∷ xs) q d) ≡ true)
    go true px h rec = (zero, omega arith, px)
    go false px h rec = let r = rec h in (suc r.0, omega (arith, r.1), r.2)

-- what holds of each item of each list
pub each_of : (P : ℕ × Journal → Type 0) (lists : List (List (Drawn Journal))) → InAll (λ d. P (pair d)) lists →
    Each P lists
each_of P lists all k = elim (cases_lt k (length lists)) [
  | inl lt ↦ All-map P pair (get_or lists k []) (all k [] lt)
  | inr ge ↦ rw (get_or_past lists k [] ge) (All-nil P)
]

module _ (lists : List (List (Drawn Journal))) (book : Closes meaning_of_journal lists) where
  pub lists_items : (x : ℕ) → list_of lists x ≡ items_of x book.log
  lists_items x = list_is meaning_of_journal lists book x

  -- an item of one list
  pub own_at : (P : ℕ × Journal → Type 0) (x : ℕ) → All P (list_of lists x) → (k : ℕ) (j : Journal) → At book.log k j →
      number_of j.entry.owner ≡ x → P (suc k, j)
  own_at P x all k j a own =
      let d : ℕ × Journal = (suc k, j) in
      let r = owned_place x 1 book.log k j d a own in
      let items = lists_items x in
      let p : P (get_or (list_of lists x) r.0 d) = all r.0 d (let lt = r.1 in let l = ap length items in omega arith) in
      subst P
      (ap (λ (l : List (ℕ × Journal)). get_or l r.0 d) items ∙ r.2
      ∙ ap (λ (y : ℕ). (y, j)) (let e : 1 + k ≡ suc k = omega arith in e))
      p

  pub each_at : (P : ℕ × Journal → Type 0) → Each P lists → (k : ℕ) (j : Journal) → At book.log k j → P (suc k, j)
  each_at P all k j a = own_at P (number_of j.entry.owner) (all (number_of j.entry.owner)) k j a refl

  pub each_from : (P : ℕ × Journal → Type 0) → ((k : ℕ) (j : Journal) → At book.log k j → P (suc k, j)) → Each P lists
  each_from P f x q d lt =
      let items = lists_items x in
      let r = owned_at x 1 book.log q d (let l = ap length items in omega arith) in
      let is : get_or (list_of lists x) q d ≡ (suc r.place, r.item) =
      ap (λ (l : List (ℕ × Journal)). get_or l q d) items ∙ r.is
      ∙ ap (λ (y : ℕ). (y, r.item)) (let e : 1 + r.place ≡ suc r.place = omega arith in e) in
      subst P (sym is) (f r.place r.item r.there)

  abbrev closing : Journal → Bool
  closing j = is_closing lists j

  below_is : (x : ℕ) (pre rest : List Journal) (j : Journal) → book.log ≡ pre ++ j ∷ rest →
      below (suc (length pre)) (list_of lists x) ≡ items_of x pre
  below_is x pre rest j e =
      ap (below (suc (length pre))) (lists_items x ∙ ap (items_of x) e) ∙ below_front x pre (j ∷ rest)

  -- ---- who closes
  kind_closes : (j : Journal) → closing j ≡ true → may_close j.entry.what ≡ true
  kind_closes j c =
      elim (any_cases (closing_out j) (is_end j.entry.what) (is_landing j.entry.what && quotes_closing lists j) c) [
        | inl o ↦ out_kind j.entry.what j.course.form (and_parts _ _ o).0
        | inr r ↦ elim r [
          | inl o ↦ end_kind j.entry.what o
          | inr o ↦ landing_kind j.entry.what (and_parts _ _ o).0
        ]
      ]

  pub out_closes : (j : Journal) → closing_out j ≡ true → closing j ≡ true
  out_closes j o = any_left (closing_out j) (is_end j.entry.what) (is_landing j.entry.what && quotes_closing lists j) o

  pub end_closes : (j : Journal) → is_end j.entry.what ≡ true → closing j ≡ true
  end_closes j o = any_mid (closing_out j) (is_end j.entry.what) (is_landing j.entry.what && quotes_closing lists j) o

  pub quoted_in : (pre rest : List Journal) (j : Journal) → book.log ≡ pre ++ j ∷ rest → 0 < j.entry.prev →
      IsQuoted pre j
  quoted_in pre rest j e pos =
      quoted_is pre j (eqb j.entry.prev 0) refl pos (quote_at meaning_of_journal lists book pre rest j e)

  -- the quoted item closes
  pub record QuotesOut (j : Journal) : Type 0 where
    pub place : ℕ
    pub item : Journal
    pub there : At book.log place item
    pub ticket : suc place ≡ j.entry.prev
    pub closes : closing_out item ≡ true

  pub quoted_item : (j : Journal) → quotes_closing lists j ≡ true → QuotesOut j
  quoted_item j c =
      let no_list : List (Drawn Journal) = [] in
      let l =
      some_any (λ (ds : List (Drawn Journal)). list_any (closes_at j.entry.prev) (map pair ds)) lists no_list c in
      let d : ℕ × Journal = (0, j) in
      let q = some_any (closes_at j.entry.prev) (list_of lists l.0) d l.2 in
      let items = lists_items l.0 in
      let r = owned_at l.0 1 book.log q.0 d (let lt = q.1 in let n = ap length items in omega arith) in
      let is : get_or (list_of lists l.0) q.0 d ≡ (1 + r.place, r.item) =
      ap (λ (x : List (ℕ × Journal)). get_or x q.0 d) items ∙ r.is in
      let t =
      and_parts (eqb (1 + r.place) j.entry.prev) (closing_out r.item)
      (subst (λ (x : ℕ × Journal). closes_at j.entry.prev x ≡ true) is q.2) in
      let ticket = eqb-true (1 + r.place) j.entry.prev t.0 in
      record { place = r.place; item = r.item; there = r.there; ticket = omega arith; closes = t.1 }

  quoted_out : (k : ℕ) (j : Journal) → At book.log k j → quotes_closing lists j ≡ true → j.entry.lane ≡ 0
  quoted_out k j a c =
      let r = quoted_item j c in
      let t = r.ticket in
      let sp = split_at book.log k j a in
      let quote = quoted_in sp.pre sp.rest j sp.parts (omega arith) in
      let qt = quote.ticket in
      let place : quote.place ≡ r.place = omega arith in
      let there : At book.log quote.place quote.item =
      subst (λ (x : List Journal). At x quote.place quote.item) (sym sp.parts)
      (at_front sp.pre (j ∷ sp.rest) quote.place quote.item quote.there) in
      let same : quote.item ≡ r.item =
      some-injective quote.item r.item (sym there ∙ ap (get_elem? book.log) place ∙ r.there) in
      sym quote.lane ∙ ap (λ (x : Journal). x.entry.lane) same
      ∙ eqb-true r.item.entry.lane 0
      (and_parts (is_out_at_rest r.item.entry.what r.item.course.form) (eqb r.item.entry.lane 0) r.closes).1

  pub lane_closes : (k : ℕ) (j : Journal) → At book.log k j → closing j ≡ true → j.entry.lane ≡ 0
  lane_closes k j a c =
      elim (any_cases (closing_out j) (is_end j.entry.what) (is_landing j.entry.what && quotes_closing lists j) c) [
        | inl o ↦ eqb-true j.entry.lane 0 (and_parts _ _ o).1
        | inr r ↦ elim r [
          | inl o ↦
              let sp = split_at book.log k j a in
              let ds = items_of (number_of j.entry.owner) sp.pre in
              let st = staged ds j (fits_at meaning_of_journal lists book sp.pre sp.rest j sp.parts) in
              eqb-true j.entry.lane 0
              (end_lane j.entry.what j.course.form j.header j.course (sight_in ds j).queue j.entry.lane o st.draws)
          | inr o ↦ quoted_out k j a (and_parts _ _ o).1
        ]
      ]

  pub at_split : (pre rest : List Journal) (j : Journal) → book.log ≡ pre ++ j ∷ rest → At book.log (length pre) j
  at_split pre rest j e = subst (λ (l : List Journal). At l (length pre) j) (sym e) (at_mid pre rest j)

  -- ---- the chains
  pub linked : ClosingLast lists → ClosingBegins lists → Linked (λ j. is_closing lists j) book.log
  linked late begins = record {
    fits = λ pre rest j e. fits_at meaning_of_journal lists book pre rest j e;
    quoted = quoted_in;
    apart =
        λ s t i j ai aj pos e.
        quoted_apart meaning_of_journal lists book s t i j ai aj (let k = prev_quoted i in omega arith)
        (prev_quoted i ∙ e ∙ sym (prev_quoted j));
    out_closes = out_closes;
    closing_lane = lane_closes;
    closing_last = λ s t i j ai aj ci cj.
        let k =
        each_at (λ e. is_closing lists i ≡ false → is_closing lists e.1 ≡ true → suc s < e.0)
        (each_at (λ d. Each (λ e. is_closing lists d.1 ≡ false → is_closing lists e.1 ≡ true → d.0 < e.0) lists) late
        s i ai)
        t j aj ci cj in
        omega arith;
    begins = λ t j a c z s i ai l.
        let k =
        each_at (λ x. x.1.entry.lane ≡ 0 → suc t ≤ x.0)
        (each_at
        (λ d. is_closing lists d.1 ≡ true → d.1.entry.prev ≡ 0 → Each (λ e. e.1.entry.lane ≡ 0 → d.0 ≤ e.0) lists)
        begins t j a c z)
        s i ai l in
        omega arith;
  }

  -- ---- the end
  pub record EndAt : Type 0 where
    pub place : ℕ
    pub item : Journal
    pub there : At book.log place item
    pub is : is_end item.entry.what ≡ true

  end_in : (x : ℕ) (xs : List (ℕ × Journal)) → xs ≡ items_of x book.log →
      list_any (λ d. is_end d.1.entry.what) xs ≡ true → EndAt
  end_in x [] e o = absurd (let k : ⊥ = cc in k)
  end_in x (y ∷ xs) e o =
      let r = some_any (λ (d : ℕ × Journal). is_end d.1.entry.what) (y ∷ xs) y o in
      let p = owned_at x 1 book.log r.0 y (let l = ap length e in let lt = r.1 in omega arith) in
      let is : get_or (y ∷ xs) r.0 y ≡ (1 + p.place, p.item) =
      ap (λ (l : List (ℕ × Journal)). get_or l r.0 y) e ∙ p.is in
      record {
        place = p.place;
        item = p.item;
        there = p.there;
        is = ap (λ (d : ℕ × Journal). is_end d.1.entry.what) (sym is) ∙ r.2;
      }

  pub ends : list_any (λ d. is_end d.1.entry.what) (list_of lists (number_of (Lane 0))) ≡ true → EndAt
  ends some_ = end_in (number_of (Lane 0)) (list_of lists (number_of (Lane 0))) (lists_items (number_of (Lane 0))) some_

module _ (h : Header) (lists : List (List (Drawn Journal))) (book : Closes meaning_of_journal lists)
    (may : MayMerge h lists) where
  pending_is : (pre rest : List Journal) (j : Journal) → book.log ≡ pre ++ j ∷ rest →
      pending_before h lists (suc (length pre)) ≡ pending_in h pre
  unfolding pending_before
  pending_is pre rest j e =
      λ i.
      find (λ cpu. has_pending (replay h cpu (below_is lists book (number_of (Queue cpu)) pre rest j e i)))
      (range_with_len 0 (length h.cpus))

  unserved_is : (pre rest : List Journal) (j : Journal) → book.log ≡ pre ++ j ∷ rest →
      unserved_before h lists (suc (length pre)) ≡ unserved_in h pre
  unfolding unserved_before
  unserved_is pre rest j e =
      λ i.
      mask_where
      (λ cpu.
      ltb cpu (length h.cpus) && is_some
      (replay h cpu (below_is lists book (number_of (Queue cpu)) pre rest j e i)).active)

  closes_in : (w : What) (o : Owner) (pre rest : List Journal) (j : Journal) → book.log ≡ pre ++ j ∷ rest →
      ClosesBy h lists (suc (length pre)) w o → ClosesIn h pre w o
  closes_in (Out cause to tasks) (Queue cpu) pre rest j e c = sym (pending_is pre rest j e) ∙ c
  closes_in (End unserved) o pre rest j e c =
      (sym (pending_is pre rest j e) ∙ c.0, ap (same_mask unserved) (sym (unserved_is pre rest j e)) ∙ c.1)
  closes_in w o pre rest j e c = tt

  names_in : (pre rest : List Journal) (j : Journal) (names : List FigName) → book.log ≡ pre ++ j ∷ rest →
      list_any (λ f. not (is_named_before lists (suc (length pre)) f)) names ≡ list_any
      (λ f. not (leb f.n (length (queue_items f.cpu pre)))) names
  names_in pre rest j names e =
      λ i.
      list_any
      (λ (f : FigName). not (leb f.n (length (below_is lists book (number_of (Queue f.cpu)) pre rest j e i)))) names

  reads_in : (pre rest : List Journal) (j : Journal) (names : List FigName) → book.log ≡ pre ++ j ∷ rest →
      ReadsFigures h lists (suc (length pre)) j names → ReadsIn h book.log pre j names
  reads_in pre rest j names e r = record {
    figs = r.figs ∙ (λ i. map (λ (f : FigName). record {
      cpu = f.cpu;
      fig = figure_after h f.cpu (lists_items lists book (number_of (Queue f.cpu)) i) f.n;
    }) names);
    earlier = sym (names_in pre rest j names e) ∙ r.earlier;
  }

  carries_in : (w : What) (pre rest : List Journal) (j : Journal) → book.log ≡ pre ++ j ∷ rest →
      CarriesRead h lists (suc (length pre)) j w → CarriesIn h book.log pre j w
  carries_in (Look p x names t) pre rest j e r = reads_in pre rest j names e r
  carries_in (Scan names t) pre rest j e r = reads_in pre rest j names e r
  carries_in w pre rest j e r = r

  version_in : (w : What) (pre rest : List Journal) (j : Journal) → book.log ≡ pre ++ j ∷ rest →
      CarriesVersion h lists (suc (length pre)) j w → VersionIn h book.log pre j w
  version_in (Adopt v kind cpu) pre rest j e r = record {
    masks = r.masks ∙ ap (λ (l : List (ℕ × Journal)). get_or (versions_of h l) (v - 1) []) (lists_items lists book 0);
    earlier =
        (let le = r.earlier in
        let k = ap (λ (l : List (ℕ × Journal)). length (versions_of h l)) (below_is lists book 0 pre rest j e) in
        omega arith);
  }
  version_in w pre rest j e r = r

  pub good : Good h (λ j. is_closing lists j) book.log
  good = record {
    link = linked lists book may.closing_last may.begins;
    header = each_at lists book (λ d. d.1.header ≡ h) may.headers;
    ticks =
        λ s t i j ai aj.
        each_at lists book (λ e. both_tick i e.1 ≡ true → i.entry.lane ≡ e.1.entry.lane)
        (each_at lists book (λ d. Each (λ e. both_tick d.1 e.1 ≡ true → d.1.entry.lane ≡ e.1.entry.lane) lists)
        may.ticks s i ai)
        t j aj;
    end_closes = end_closes lists book;
    closing_kind = kind_closes lists book;
    at_rest = λ k j a c f.
        each_at lists book
        (λ d.
        is_closing lists d.1 ≡ false →
        Each (λ e. is_closing lists e.1 ≡ false → e.1.entry.lane ≡ d.1.entry.lane → e.0 ≤ d.0) lists →
        d.1.after.form ≡ Rest)
        may.at_rest k j a c
        (each_from lists book (λ e. is_closing lists e.1 ≡ false → e.1.entry.lane ≡ j.entry.lane → e.0 ≤ suc k)
        (λ s i ai ci l. let le = f s i ai ci l in omega arith));
    closes = λ pre rest j e c.
        closes_in j.entry.what j.entry.owner pre rest j e
        (each_at lists book (λ d. is_closing lists d.1 ≡ true → ClosesBy h lists d.0 d.1.entry.what d.1.entry.owner)
        may.closes (length pre) j (at_split lists book pre rest j e) c);
    figures =
        λ pre rest j e.
        carries_in j.entry.what pre rest j e
        (each_at lists book (λ d. CarriesRead h lists d.0 d.1 d.1.entry.what) may.figures (length pre) j
        (at_split lists book pre rest j e));
    masks =
        λ pre rest j e.
        version_in j.entry.what pre rest j e
        (each_at lists book (λ d. CarriesVersion h lists d.0 d.1 d.1.entry.what) may.masks (length pre) j
        (at_split lists book pre rest j e));
    end_place = (ends lists book may.ends).place;
    end_item = (ends lists book may.ends).item;
    end_there = (ends lists book may.ends).there;
    end_is = (ends lists book may.ends).is;
  }

-- the merge law
pub merge_is_run : PlacedAlways → MergeIsRun
merge_is_run placed h lists ok book may =
    merge_good placed h (λ j. is_closing lists j) book.log (good h lists book may) ok
