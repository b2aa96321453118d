-- Where the closing entries are those after a ticket, they come last, and only the first entry of lane 0
-- has no quote.
-- For the law `closing_is_last`.
use Rattle.std.proofs.Common.{map, eq-eqb, refl, Bool, ◌||◌, ◌≡◌, ℕ, zero, suc, ◌<◌, ◌≤◌, true, false, ◌&&◌, List, [], ◌∷◌, get_or, sym, ◌∙◌, ap, subst, arith, inl, inr, All}
use Rattle.std.specs.List.{list_any}
use Rattle.std.proofs.lemmas.Bool.{cases_eq, cases_lt, and_parts, and_from, both_ways}
use Rattle.std.proofs.lemmas.List.Elements.{All-map}
use Rattle.lb_trace.specs.declared.trace.Header.{Header}
use Rattle.lb_core.specs.declared.entry.Owner.TheVariants.{Lane}
use Rattle.lb_ticket.specs.declared.item.Drawn.{Drawn}
use Rattle.lb_ticket.specs.Tickets.{Among, InLists, Closes, pair}
use Rattle.lb_ticket.proofs.Members.{has_mapped}
use Rattle.lb_journal.specs.Journal.{Journal, number_of, meaning_of_journal}
use Rattle.lb_journal.specs.Merge.{list_of, Each, closing_out, is_end, is_landing, closes_at, quotes_closing, is_closing, ClosesBy, ClosingLast, ClosingBegins}
use Rattle.lb_journal.specs.Owners.{InAll, ClosesAs, ClosesFrom, ClosingIsLast}
use Rattle.lb_ticket.proofs.Logs.{fits_at, at_below}
use Rattle.lb_journal.proofs.Good.{At}
use Rattle.lb_journal.proofs.Lanes.{split_at, at_front, first_own}
use Rattle.lb_journal.proofs.Bridge.{each_of, each_at, own_at, each_from, quoted_in, quoted_item, out_closes, end_closes, any_cases}

any_among : {A : Type 0} (p : A → Bool) (xs : List A) (x : A) → Among x xs → p x ≡ true → list_any p xs ≡ true
any_among p [] x h e = absurd h
any_among p (y ∷ xs) x (inl is) e = rw (ap p is ∙ e) refl
any_among p (y ∷ xs) x (inr h) e = go (p y) (any_among p xs x h e)
  where
    go : (b : Bool) → list_any p xs ≡ true → (b || list_any p xs) ≡ true
    go true r = refl
    go false r = r

list_among : (d : Drawn Journal) (lists : List (List (Drawn Journal))) → InLists d lists →
    (ds : List (Drawn Journal)) × Among ds lists × Among d ds
list_among d [] h = absurd h
list_among d (ds ∷ lists) (inl h) = (ds, inl refl, h)
list_among d (ds ∷ lists) (inr h) = let r = list_among d lists h in (r.0, inr r.1, r.2)

any_right : (a b c : Bool) → c ≡ true → (a || b || c) ≡ true
any_right true b c e = refl
any_right false true c e = refl
any_right false false c e = e

module _ (h : Header) (lists : List (List (Drawn Journal))) (cut : ℕ) (book : Closes meaning_of_journal lists)
    (from : ClosesFrom h lists cut) where
  open_at : (k : ℕ) (j : Journal) → At book.log k j → suc k ≤ cut →
      (closing_out j ≡ false) × (is_end j.entry.what ≡ false)
  open_at =
      each_at lists book (λ d. d.0 ≤ cut → (closing_out d.1 ≡ false) × (is_end d.1.entry.what ≡ false))
      (each_of (λ d. d.0 ≤ cut → (closing_out d.1 ≡ false) × (is_end d.1.entry.what ≡ false)) lists from.open_before)

  -- a closing entry comes after the cut
  pub after_cut : (k : ℕ) (j : Journal) → At book.log k j → is_closing lists j ≡ true → cut < suc k
  after_cut k j a c = elim (cases_lt cut (suc k)) [
    | inl lt ↦ lt
    | inr ge ↦
        let o = open_at k j a (omega arith) in
        elim (any_cases (closing_out j) (is_end j.entry.what) (is_landing j.entry.what && quotes_closing lists j) c) [
          | inl y ↦ absurd (both_ways (closing_out j) o.0 y)
          | inr r ↦ elim r [
            | inl y ↦ absurd (both_ways (is_end j.entry.what) o.1 y)
            | inr y ↦
                let q = quoted_item lists book j (and_parts (is_landing j.entry.what) (quotes_closing lists j) y).1 in
                let t = q.ticket in
                let sp = split_at book.log k j a in
                let size = sp.place in
                let quote = quoted_in lists book sp.pre sp.rest j sp.parts (omega arith) in
                let qt = quote.ticket in
                let low = at_below sp.pre quote.place quote.item quote.there in
                absurd (both_ways (closing_out q.item) (open_at q.place q.item q.there (omega arith)).0 q.closes)
          ]
        ]
  ]

  closes_as : (j : Journal) → ClosesAs lists j → is_closing lists j ≡ true
  closes_as j (inl o) = out_closes lists book j o
  closes_as j (inr (inl e)) = end_closes lists book j e
  closes_as j (inr (inr q)) =
      let l = list_among q.out lists q.there in
      let here =
      any_among (closes_at j.entry.prev) (map pair l.0) (pair q.out) (has_mapped pair l.0 q.out l.2)
      (and_from _ _ (eq-eqb q.out.ticket j.entry.prev q.ticket) q.closes) in
      let quotes = any_among (λ ds. list_any (closes_at j.entry.prev) (map pair ds)) lists l.0 l.1 here in
      any_right (closing_out j) (is_end j.entry.what) (is_landing j.entry.what && quotes_closing lists j)
      (and_from _ _ q.landing quotes)

  pub closing_last : ClosingLast lists
  closing_last =
      each_from lists book
      (λ d. Each (λ e. is_closing lists d.1 ≡ false → is_closing lists e.1 ≡ true → d.0 < e.0) lists)
      (λ s i a.
      each_from lists book (λ e. is_closing lists i ≡ false → is_closing lists e.1 ≡ true → suc s < e.0)
      (λ t j b open_ shut.
      let late = after_cut t j b shut in
      elim (cases_lt cut (suc s)) [
        | inl lt ↦ absurd
            (both_ways (is_closing lists i) open_
            (closes_as i
            (each_at lists book (λ d. cut < d.0 → ClosesAs lists d.1)
            (each_of (λ d. cut < d.0 → ClosesAs lists d.1) lists from.closing_after) s i a lt)))
        | inr ge ↦ omega arith
      ]))

  -- an entry of lane 0 is not before the first closing entry, where that has no quote
  begins_at : (t : ℕ) (j : Journal) → All (λ (e : ℕ × Journal). suc t ≤ e.0) (list_of lists (number_of (Lane 0))) →
      Each (λ e. cut < e.0 → suc t ≤ e.0) lists →
      (fuel s : ℕ) (i : Journal) → s < fuel → At book.log s i → i.entry.lane ≡ 0 → suc t ≤ suc s
  begins_at t j own after zero s i lt a lane = absurd (omega arith)
  begins_at t j own after (suc fuel) s i lt a lane =
      let sp = split_at book.log s i a in
      elim (cases_eq i.entry.prev 0) [
        | inl z ↦ elim (cases_lt cut (suc s)) [
          | inl late ↦ each_at lists book (λ e. cut < e.0 → suc t ≤ e.0) after s i a late
          | inr ge ↦
              let first =
              first_own sp.pre i (fits_at meaning_of_journal lists book sp.pre sp.rest i sp.parts)
              (open_at s i a (omega arith)).0 z in
              own_at lists book (λ e. suc t ≤ e.0) (number_of (Lane 0)) own s i a
              (ap number_of first.owner ∙ ap (λ (l : ℕ). number_of (Lane l)) lane)
        ]
        | inr n ↦
            let q = quoted_in lists book sp.pre sp.rest i sp.parts (omega arith) in
            let low = at_below sp.pre q.place q.item q.there in
            let size = sp.place in
            let there : At book.log q.place q.item =
            subst (λ (x : List Journal). At x q.place q.item) (sym sp.parts)
            (at_front sp.pre (i ∷ sp.rest) q.place q.item q.there) in
            let early = begins_at t j own after fuel q.place q.item (omega arith) there (q.lane ∙ lane) in
            omega arith
      ]

  abbrev Begins : ℕ × Journal → Type 0
  Begins d =
      cut < d.0 → d.1.entry.prev ≡ 0 → All (λ e. d.0 ≤ e.ticket) (get_or lists (number_of (Lane 0)) [])
      × InAll (λ e. cut < e.ticket → d.0 ≤ e.ticket) lists

  pub closing_begins : ClosingBegins lists
  closing_begins =
      each_from lists book
      (λ d. is_closing lists d.1 ≡ true → d.1.entry.prev ≡ 0 → Each (λ e. e.1.entry.lane ≡ 0 → d.0 ≤ e.0) lists)
      (λ t j a c z.
      let b = each_at lists book Begins (each_of Begins lists from.begins) t j a (after_cut t j a c) z in
      let own = All-map (λ (e : ℕ × Journal). suc t ≤ e.0) pair (get_or lists (number_of (Lane 0)) []) b.0 in
      let late = each_of (λ e. cut < e.0 → suc t ≤ e.0) lists b.1 in
      each_from lists book (λ e. e.1.entry.lane ≡ 0 → suc t ≤ e.0)
      (λ s i ai lane. begins_at t j own late (suc s) s i (omega arith) ai lane))

  pub closing_by : Each (λ d. is_closing lists d.1 ≡ true → ClosesBy h lists d.0 d.1.entry.what d.1.entry.owner) lists
  closing_by =
      each_from lists book (λ d. is_closing lists d.1 ≡ true → ClosesBy h lists d.0 d.1.entry.what d.1.entry.owner)
      (λ t j a c.
      each_at lists book (λ d. cut < d.0 → ClosesBy h lists d.0 d.1.entry.what d.1.entry.owner)
      (each_of (λ d. cut < d.0 → ClosesBy h lists d.0 d.1.entry.what d.1.entry.owner) lists from.closes) t j a
      (after_cut t j a c))

pub closing_is_last : ClosingIsLast
closing_is_last h lists cut book from = (closing_last h lists cut book from, closing_begins h lists cut book from)
