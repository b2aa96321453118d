-- The lanes are left at rest where each lane that drew a row has a last entry that leaves it at rest:
-- one that nobody quotes, and there is no other such in its chain.
-- For the lemmas of `Known` and `Rows`, and so for the laws `known_rest`, `rows_are_own` and others.
use Rattle.std.proofs.Common.{ltb, ◌≡◌, ℕ, zero, suc, ◌+◌, ◌<◌, ◌≤◌, true, false, List, ◌∷◌, length, get_or, sym, ◌∙◌, ap, subst, arith, inl, inr}
use Rattle.std.proofs.lemmas.Bool.{and_parts, ltb-true, cases_eq, cases_order, false_from_ne_true}
use mathlib.Core.Option.{some-injective}
use lib.ListN.{get_elem?}
use Rattle.lb_trace.specs.declared.trace.Header.{Header}
use Rattle.lb_core.specs.declared.course.Form.TheVariants.{Rest}
use Rattle.lb_core.specs.declared.entry.Owner.TheVariants.{Lane}
use Rattle.lb_ticket.specs.declared.item.Drawn.{Drawn}
use Rattle.lb_ticket.specs.Tickets.{Closes}
use Rattle.lb_journal.specs.Journal.{Journal, number_of, is_nil, meaning_of_journal}
use Rattle.lb_journal.specs.Merge.{Each, list_of, NobodyQuotes, ClosingLast, ClosingBegins, HasEnd, LeavesAtRest, is_closing}
use Rattle.lb_ticket.proofs.Logs.{at_below, fits_at}
use Rattle.lb_journal.proofs.Chain.{is_quoted}
use Rattle.lb_journal.proofs.Good.{At, Linked, items_of}
use Rattle.lb_journal.proofs.Lanes.{item, item_is, item_there, lane_at, quote_at, quotes, split_at, at_whole, has_items, own_first}
use Rattle.lb_journal.proofs.Bridge.{each_at, each_from, linked, lists_items, owned_at, ends, end_closes, lane_closes}
use Rattle.lb_journal.proofs.Handing.{rests}

-- the last entry of a lane, which leaves it at rest: it stands in a list, and no item quotes it
pub record LaneEnds (lists : List (List (Drawn Journal))) (lane : ℕ) : Type 0 where
  pub owner : ℕ
  pub place : ℕ
  pub ticket : ℕ
  pub item : Journal
  pub there : place < length (list_of lists owner)
  pub is : get_or (list_of lists owner) place (ticket, item) ≡ (ticket, item)
  pub lane_is : item.entry.lane ≡ lane
  pub unquoted : NobodyQuotes lists ticket
  pub rest : item.after.form ≡ Rest

-- the lane of an item is declared
pub lane_low : (h : Header) (lists : List (List (Drawn Journal))) (book : Closes meaning_of_journal lists) →
    Each (λ d. d.1.header ≡ h) lists → (k : ℕ) (j : Journal) → At book.log k j → ltb j.entry.lane h.lanes ≡ true
lane_low h lists book headers k j a =
    let sp = split_at book.log k j a in
    let low =
    (and_parts (ltb j.entry.lane j.header.lanes) _
    (fits_at meaning_of_journal lists book sp.pre sp.rest j sp.parts).declared).0
    in
    subst (λ (x : Header). ltb j.entry.lane x.lanes ≡ true) (each_at lists book (λ d. d.1.header ≡ h) headers k j a) low

module _ (lists : List (List (Drawn Journal))) (book : Closes meaning_of_journal lists) (late : ClosingLast lists)
    (begins : ClosingBegins lists) where
  link : Linked (λ j. is_closing lists j) book.log
  link = linked lists book late begins

  -- a later item of its lane follows on an item, so that some item quotes it
  quoted_before : (k t : ℕ) (j x : Journal) → At book.log k j → At book.log t x → j.entry.lane ≡ x.entry.lane → k < t →
      NobodyQuotes lists (suc k) → ⊥
  quoted_before k t j x aj ax l lt nobody =
      let low = at_below book.log t x ax in
      let lanes : lane_at book.log j (suc k) ≡ lane_at book.log j (suc t) =
      ap (λ (y : Journal). y.entry.lane) (item_is book.log j k j aj) ∙ l
      ∙ sym (ap (λ (y : Journal). y.entry.lane) (item_is book.log j t x ax)) in
      let r =
      is_quoted (lane_at book.log j) (quote_at book.log j) (length book.log) (suc k) (suc t)
      (quotes (λ i. is_closing lists i) book.log link j) (omega arith) (omega arith) (omega arith) lanes in
      let le = r.2 in
      quoter r.0 r.1 (omega arith) r.3
    where
      quoter : (r : ℕ) → 1 ≤ r → r ≤ length book.log → quote_at book.log j r ≡ suc k → ⊥
      quoter zero one le q = absurd (omega arith)
      quoter (suc s) one le q =
          each_at lists book (λ e. e.1.entry.prev ≡ suc k → ⊥) nobody s (item book.log j (suc s))
          (item_there book.log j s le) q

  -- a lane above 0 with an item has one of its own
  own_list : (fuel s : ℕ) (i : Journal) → s < fuel → At book.log s i → 1 ≤ i.entry.lane →
      is_nil (items_of (number_of (Lane i.entry.lane)) book.log) ≡ true → ⊥
  own_list zero s i lt a above nil = absurd (omega arith)
  own_list (suc fuel) s i lt a above nil =
      let sp = split_at book.log s i a in
      let open_ : is_closing lists i ≡ false =
      false_from_ne_true (is_closing lists i)
      (λ c. let z = lane_closes lists book s i a c in absurd (omega arith)) in
      elim (cases_eq i.entry.prev 0) [
        | inl z ↦
            let first = own_first (λ j. is_closing lists j) book.log link sp.pre sp.rest i sp.parts open_ z in
            has_items (number_of (Lane i.entry.lane)) 1 book.log s i a (ap number_of first.owner) nil
        | inr n ↦
            let q = link.quoted sp.pre sp.rest i sp.parts (omega arith) in
            let low = at_below sp.pre q.place q.item q.there in
            let size = sp.place in
            let l = q.lane in
            own_list fuel q.place q.item (omega arith)
            (at_whole (λ j. is_closing lists j) book.log link sp.pre (i ∷ sp.rest) q.place q.item sp.parts q.there)
            (omega arith)
            (subst (λ (x : ℕ). is_nil (items_of (number_of (Lane x)) book.log) ≡ true) (sym l) nil)
      ]

  -- the last item of a lane stands in the log
  record Last (lane : ℕ) : Type 0 where
    place : ℕ
    item : Journal
    there : At book.log place item
    lane_is : item.entry.lane ≡ lane
    unquoted : NobodyQuotes lists (suc place)
    rest : item.after.form ≡ Rest

  last_of : (lane : ℕ) → LaneEnds lists lane → Last lane
  last_of lane e =
      let items = lists_items lists book e.owner in
      let d : ℕ × Journal = (e.ticket, e.item) in
      let p = owned_at e.owner 1 book.log e.place d (let l = ap length items in let lt = e.there in omega arith) in
      let is : d ≡ (1 + p.place, p.item) =
      sym e.is ∙ ap (λ (l : List (ℕ × Journal)). get_or l e.place d) items ∙ p.is in
      let ticket : e.ticket ≡ suc p.place =
      ap (λ (x : ℕ × Journal). x.0) is ∙ (let z : 1 + p.place ≡ suc p.place = omega arith in z) in
      let same : e.item ≡ p.item = ap (λ (x : ℕ × Journal). x.1) is in
      record {
        place = p.place;
        item = p.item;
        there = p.there;
        lane_is = ap (λ (x : Journal). x.entry.lane) (sym same) ∙ e.lane_is;
        unquoted = subst (λ (x : ℕ). NobodyQuotes lists x) ticket e.unquoted;
        rest = ap (λ (x : Journal). x.after.form) (sym same) ∙ e.rest;
      }

  same_last : (k : ℕ) (j : Journal) → At book.log k j → NobodyQuotes lists (suc k) → Last j.entry.lane →
      j.after.form ≡ Rest
  same_last k j a nobody last = elim (cases_order k last.place) [
    | inl e ↦
        let same : last.item ≡ j = some-injective last.item j (sym last.there ∙ ap (get_elem? book.log) (sym e) ∙ a) in
        ap (λ (x : Journal). x.after.form) (sym same) ∙ last.rest
    | inr r ↦ elim r [
      | inl lt ↦ absurd (quoted_before k last.place j last.item a last.there (sym last.lane_is) lt nobody)
      | inr lt ↦ absurd (quoted_before last.place k last.item j last.there a last.lane_is lt last.unquoted)
    ]
  ]

  rest_by : (h : Header) → Each (λ d. d.1.header ≡ h) lists → HasEnd lists →
      ((lane : ℕ) → 1 ≤ lane → lane < h.lanes → is_nil (list_of lists (number_of (Lane lane))) ≡ false →
      LaneEnds lists lane)
      →
      (k : ℕ) (j : Journal) → At book.log k j → is_closing lists j ≡ false → NobodyQuotes lists (suc k) →
      j.after.form ≡ Rest
  rest_by h headers end lanes k j a open_ nobody = elim (cases_eq j.entry.lane 0) [
    | inl z ↦
        let e = ends lists book end in
        let closes = end_closes lists book e.item e.is in
        let lt = link.closing_last k e.place j e.item a e.there open_ closes in
        let l : j.entry.lane ≡ e.item.entry.lane = z ∙ sym (lane_closes lists book e.place e.item e.there closes) in
        absurd (quoted_before k e.place j e.item a e.there l lt nobody)
    | inr n ↦
        let some_own : is_nil (list_of lists (number_of (Lane j.entry.lane))) ≡ false =
        false_from_ne_true (is_nil (list_of lists (number_of (Lane j.entry.lane))))
        (λ y.
        own_list (suc k) k j (omega arith) a (omega arith)
        (ap is_nil (sym (lists_items lists book (number_of (Lane j.entry.lane)))) ∙ y))
        in
        same_last k j a nobody
        (last_of j.entry.lane
        (lanes j.entry.lane (omega arith) (ltb-true j.entry.lane h.lanes (lane_low h lists book headers k j a))
        some_own))
  ]

-- the closing finds all lanes at rest, where each declared lane but lane 0 that drew a row ends so
pub lanes_rest : (h : Header) (lists : List (List (Drawn Journal))) → Closes meaning_of_journal lists →
    Each (λ d. d.1.header ≡ h) lists → ClosingLast lists → ClosingBegins lists → HasEnd lists →
    ((lane : ℕ) → 1 ≤ lane → lane < h.lanes → is_nil (list_of lists (number_of (Lane lane))) ≡ false →
    LaneEnds lists lane)
    →
    LeavesAtRest lists
lanes_rest h lists book headers late begins end lanes =
    rests lists book
    (each_from lists book (λ d. is_closing lists d.1 ≡ false → NobodyQuotes lists d.0 → d.1.after.form ≡ Rest)
    (λ k j a open_ nobody. rest_by lists book late begins h headers end lanes k j a open_ nobody))
