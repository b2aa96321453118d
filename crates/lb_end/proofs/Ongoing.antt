-- The closing goes on by an entry of lane 0 that is drawn above all others.
-- For `Ended::serve_all`, `Ended::arrive`, `Ended::depart` and others.
use Rattle.std.proofs.Common.{ℕ, zero, suc, ◌≡◌, ◌+◌, ◌-◌, ◌<◌, ◌≤◌, List, [], ◌∷◌, ◌++◌, Some, length, map, get_or, set, refl, sym, subst, ap, ◌∙◌, true, arith, inl, inr, All}
use Rattle.std.specs.Prelude.{slice_get}
use mathlib.Core.List.{IsPrefix}
use Rattle.std.proofs.lemmas.Bool.{cases_eq}
use Rattle.std.proofs.lemmas.List.{length-map, map-append, get_or-set_same, get_or-set_other}
use Rattle.std.proofs.lemmas.List.Elements.{All-set, All-push}
use Rattle.lb_trace.specs.declared.trace.Header.{Header}
use Rattle.lb_trace.specs.declared.trace.Row.{Row as TraceRow}
use Rattle.lb_core.specs.declared.entry.Entry.{Entry}
use Rattle.lb_core.specs.OfTrace.{row_of, rows_drawn}
use Rattle.lb_ticket.specs.declared.item.Drawn.{Drawn}
use Rattle.lb_ticket.specs.Seats.{SeatIs}
use Rattle.lb_ticket.specs.Tickets.{Among, InLists, pair}
use Rattle.lb_ticket.proofs.Members.{has_either}
use Rattle.lb_journal.specs.Journal.{Journal}
use Rattle.lb_journal.specs.Merge.{ClosesBy, closing_out}
use Rattle.lb_journal.specs.Owners.{ClosesAs, ClosesSoFar, ClosingGoesOn, InAll, lists_of, own_rows, with_item}
use Rattle.lb_journal.proofs.Known.{in_place}
use Rattle.lb_seen.proofs.Beginnings.{prefix_self, prefix_trans}
use Rattle.lb_end.specs.Ends.{EndedIs}
use Rattle.lb_end.specs.Seats.{Follows, list_at, next_at}
use Rattle.lb_end.specs.Drawing.{Drew, HasLeft, first_ticket}
use Rattle.lb_end.specs.Closing.{ClosesOn, GoesOn, IsClosing, StandsAbove}
use Rattle.lb_end.proofs.Chaining.{in_all, lifted}
use Rattle.lb_end.proofs.Keeping.{grows}

-- ---- one item more
module _ (lists : List (List (Drawn Journal))) (k : ℕ) (d : Drawn Journal) (inside : k < length lists) where
  pub here_more : get_or (with_item lists k d) k [] ≡ get_or lists k [] ++ d ∷ []
  here_more = get_or-set_same lists k (get_or lists k [] ++ d ∷ []) [] inside

  pub else_more : (j : ℕ) → (j ≡ k → ⊥) → get_or (with_item lists k d) j [] ≡ get_or lists j []
  else_more j other = get_or-set_other lists k j (get_or lists k [] ++ d ∷ []) [] other

  pub in_more : (P : Drawn Journal → Type 0) → InAll P lists → P d → InAll P (with_item lists k d)
  in_more P all here =
      All-set (λ ds. All P ds) lists k (get_or lists k [] ++ d ∷ []) (All-push P (get_or lists k []) d (all k [] inside) here) all

  pub prefix_more : (j : ℕ) → IsPrefix (get_or lists j []) (get_or (with_item lists k d) j [])
  prefix_more j = let g = grows lists k d inside j in (g.rest, sym g.is)

  pub stands_more : InLists d (with_item lists k d)
  stands_more =
      in_place (with_item lists k d) k d
      (subst (Among d) (sym here_more) (has_either (get_or lists k []) (d ∷ []) d (inr (inl refl))))

  -- an entry that is no row takes up none
  pub rows_more : row_of d.item.entry.what d.item.entry.lane ≡ [] → (lane : ℕ)
      → own_rows (with_item lists k d) lane ≡ own_rows lists lane
  rows_more none lane = elim (cases_eq (lane + 1) k) [
    | inl is ↦
        ap (λ (ds : List (Drawn Journal)). rows_drawn (map (λ (x : ℕ × Journal). x.1.entry) (map pair ds)))
        (subst (λ (j : ℕ). get_or (with_item lists k d) j [] ≡ get_or lists j [] ++ d ∷ []) (sym is) here_more)
        ∙ one_more (get_or lists (lane + 1) [])
    | inr other ↦
        ap (λ (ds : List (Drawn Journal)). rows_drawn (map (λ (x : ℕ × Journal). x.1.entry) (map pair ds)))
        (else_more (lane + 1) other)
  ]
    where
      rows : List (Drawn Journal) → List TraceRow
      rows ds = rows_drawn (map (λ (x : ℕ × Journal). x.1.entry) (map pair ds))

      one_more : (ds : List (Drawn Journal)) → rows (ds ++ d ∷ []) ≡ rows ds
      one_more [] = ap (λ (r : List TraceRow). r ++ []) none
      one_more (x ∷ ds) = ap (λ (r : List TraceRow). row_of x.item.entry.what x.item.entry.lane ++ r) (one_more ds)

-- ---- states that go on
pub goes_itself : (h : Header) (e : EndedIs) → GoesOn h e e
goes_itself h e = record {
  lists = λ k. prefix_self (list_at e.seats k);
  rows = λ lane. refl;
  others = λ lane one lt. refl;
}

pub goes_through : (h : Header) (a b c : EndedIs) → GoesOn h a b → GoesOn h b c → GoesOn h a c
goes_through h a b c f g = record {
  lists = λ k. prefix_trans (list_at a.seats k) (list_at b.seats k) (list_at c.seats k) (f.lists k) (g.lists k);
  rows = λ lane. g.rows lane ∙ f.rows lane;
  others = λ lane one lt. g.others lane one lt ∙ f.others lane one lt;
}

pub closes_itself : (h : Header) (e : EndedIs) → ClosesOn h e e
closes_itself h e = record { goes_on = goes_itself h e; own = refl; closing = λ cut c. c }

pub closes_through : (h : Header) (a b c : EndedIs) → ClosesOn h a b → ClosesOn h b c → ClosesOn h a c
closes_through h a b c f g = record {
  goes_on = goes_through h a b c f.goes_on g.goes_on;
  own = g.own ∙ f.own;
  closing = λ cut x. g.closing cut (f.closing cut x);
}

-- lists that are the same go on, where the other lanes' seats are the same
pub goes_same : (h : Header) (e e' : EndedIs) → lists_of e'.seats ≡ lists_of e.seats
    → ((lane : ℕ) → 1 ≤ lane → lane < h.lanes → slice_get e'.seats (lane + 1) ≡ slice_get e.seats (lane + 1)) → GoesOn h e e'
goes_same h e e' lists others = record {
  lists = λ k.
      subst (λ (l : List (List (Drawn Journal))). IsPrefix (list_at e.seats k) (get_or l k [])) (sym lists)
      (prefix_self (list_at e.seats k));
  rows = λ lane. ap (λ (l : List (List (Drawn Journal))). own_rows l lane) lists;
  others = others;
}

pub goes_drew : (h : Header) (k : ℕ) (item : Journal) (e e' : EndedIs) → Drew k item e e'
    → row_of item.entry.what item.entry.lane ≡ []
    → ((lane : ℕ) → 1 ≤ lane → lane < h.lanes → lane + 1 ≡ k → ⊥) → GoesOn h e e'
goes_drew h k item e e' d none apart =
    let lists = lists_of e.seats in
    let x : Drawn Journal = record { ticket = d.ticket; item = item } in
    record {
      lists = λ j.
          subst (λ (l : List (List (Drawn Journal))). IsPrefix (list_at e.seats j) (get_or l j [])) (sym d.lists)
          (prefix_more lists k x d.inside j);
      rows = λ lane.
          ap (λ (l : List (List (Drawn Journal))). own_rows l lane) d.lists ∙ rows_more lists k x d.inside none lane;
      others = λ lane one lt. d.others (lane + 1) (apart lane one lt);
    }

-- ---- an entry at a queue, whose seat followed lane 0's before, and which lane 0's followed after
module _ (law : ClosingGoesOn) (h : Header) (few : h.lanes ≤ 16) (k : ℕ) (item : Journal) (e e1 e2 e3 : EndedIs) (queue : 17 ≤ k)
    (trail : Follows k 1 e.seats e1.seats) (t1 : first_ticket e1 ≡ first_ticket e) (drew : Drew k item e1 e2)
    (lead : Follows 1 k e2.seats e3.seats) (t3 : first_ticket e3 ≡ first_ticket e2) where
  abbrev lists0 : List (List (Drawn Journal))
  lists0 = lists_of e.seats

  abbrev drawn : Drawn Journal
  drawn = record { ticket = drew.ticket; item = item }

  inside0 : k < length lists0
  inside0 = subst (λ (l : List (List (Drawn Journal))). k < length l) trail.lists drew.inside

  pub lists_now : lists_of e3.seats ≡ with_item lists0 k drawn
  lists_now = lead.lists ∙ (drew.lists ∙ ap (λ (l : List (List (Drawn Journal))). with_item l k drawn) trail.lists)

  pub ticket_now : first_ticket e3 ≡ drew.ticket
  ticket_now = t3 ∙ drew.held

  low : next_at e.seats 1 ≤ drew.ticket
  low = let a = trail.later.1 in let b = drew.above in omega (arith, a, b)

  high : drew.ticket < next_at e3.seats 1
  high = let a = lead.later.1 in let b = drew.next in omega (arith, a, b)

  pub under : StandsAbove e.seats → InAll (λ d. d.ticket < drew.ticket) lists0
  under above = λ j ds lt i x l. let a = above j ds lt i x l in omega (arith, a, low)

  pub step_on : (cut : ℕ) → ClosesAs lists0 item
      → ClosesBy h lists0 drew.ticket item.entry.what item.entry.owner
      → (item.entry.prev ≡ 0 → list_at e.seats 1 ≡ []) → IsClosing h cut e → IsClosing h cut e3
  step_on cut what by empty c =
      let late : cut < drew.ticket = let a = c.late in let p = drew.some in omega (arith, a, p, low) in
      record {
        so_far =
            subst (λ (l : List (List (Drawn Journal))). ClosesSoFar h l cut) (sym lists_now)
            (law h lists0 cut k drawn inside0 late (under c.above) what by
            (λ z. (empty z, c.first (sym t1 ∙ (sym drew.quoted ∙ z)))) c.so_far);
        above =
            subst (InAll (λ d. d.ticket < next_at e3.seats 1)) (sym lists_now)
            (in_more lists0 k drawn inside0 (λ d. d.ticket < next_at e3.seats 1)
            (λ j ds lt i x l. let a = under c.above j ds lt i x l in omega (arith, a, high)) high);
        late = omega (arith, late, high);
        first = λ z. absurd (let p = drew.some in let t = ticket_now in omega (arith, z, p, t));
      }

  apart : (lane : ℕ) → 1 ≤ lane → lane < h.lanes → lane + 1 ≡ k → ⊥
  apart lane one lt is = omega (arith, is, lt, few, queue)

  pub on : row_of item.entry.what item.entry.lane ≡ []
      → (StandsAbove e.seats → ClosesBy h lists0 drew.ticket item.entry.what item.entry.owner) → ClosesAs lists0 item
      → (item.entry.prev ≡ 0 → list_at e.seats 1 ≡ []) → ClosesOn h e e3
  on none by what empty = record {
    goes_on =
        goes_through h e e1 e3
        (goes_same h e e1 trail.lists (λ lane one lt. trail.others (lane + 1) (apart lane one lt)))
        (goes_through h e1 e2 e3 (goes_drew h k item e1 e2 drew none apart)
        (goes_same h e2 e3 lead.lists (λ lane one lt. lead.others (lane + 1) (λ is. omega (arith, is, one)))));
    own =
        ap (λ (l : List (List (Drawn Journal))). get_or l 1 []) lists_now
        ∙ else_more lists0 k drawn inside0 1 (λ is. omega (arith, is, queue));
    closing = λ cut c. step_on cut what (by c.above) empty c;
  }

  pub left : closing_out item ≡ true → HasLeft e3
  left closes = record {
    out = drawn;
    there = subst (InLists drawn) (sym lists_now) (stands_more lists0 k drawn inside0);
    ticket = sym ticket_now;
    closes = closes;
  }
