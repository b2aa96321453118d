-- What the seats of the lanes know when the book is closed says how each lane ends.
-- For the law `known_rest`; cited by `lb_end` too.
use Rattle.std.proofs.Common.{◌≡◌, ℕ, zero, suc, List, [], ◌∷◌, get_or, sym, ◌∙◌, ap, subst, arith, inl, inr, ⊎_elim}
use Rattle.std.proofs.lemmas.List.{length-map, get_or-map}
use base.Stored.{Coded}
use Rattle.lb_ticket.specs.declared.item.Drawn.{Drawn}
use Rattle.lb_ticket.specs.declared.view.Fact.{Fact}
use Rattle.lb_ticket.specs.Tickets.{Has, InLists, pair}
use Rattle.lb_ticket.specs.Facts.{AllUnquoted, IsUnquoted}
use Rattle.lb_ticket.proofs.Members.{has_at, place_in}
use Rattle.lb_journal.specs.Journal.{Journal, Left, leaves_of, meaning_of_journal}
use Rattle.lb_journal.specs.Merge.{list_of, NobodyQuotes}
use Rattle.lb_journal.specs.Known.{KnowsRest, KnownRest}
use Rattle.lb_journal.proofs.Bridge.{prev_quoted}
use Rattle.lb_journal.proofs.Ending.{LaneEnds, lanes_rest}

-- ---- places in lists
pub list_in : (d : Drawn Journal) (lists : List (List (Drawn Journal))) → InLists d lists →
    (k : ℕ) × Has d (get_or lists k [])
list_in d [] h = absurd h
list_in d (ds ∷ lists) h =
    ⊎_elim
    (λ (p : Has d ds). let r : (k : ℕ) × Has d (get_or (ds ∷ lists) k []) = (zero, p) in r)
    (λ (p : InLists d lists).
    let s = list_in d lists p in let r : (k : ℕ) × Has d (get_or (ds ∷ lists) k []) = (suc s.0, s.1) in r)
    h

pub in_place : (lists : List (List (Drawn Journal))) (k : ℕ) (d : Drawn Journal) → Has d (get_or lists k []) →
    InLists d lists
in_place [] k d h = absurd h
in_place (ds ∷ lists) zero d h = inl h
in_place (ds ∷ lists) (suc k) d h = inr (in_place lists k d h)

module _ (code : Coded Left) (lists : List (List (Drawn Journal))) where
  nobody : (f : Fact) → IsUnquoted meaning_of_journal code lists f → NobodyQuotes lists f.ticket
  nobody f u k q d lt quotes =
      let ds = get_or lists k [] in
      let drawn : Drawn Journal = record { ticket = d.0; item = d.1 } in
      let l = length-map ds pair in
      let is : get_or (list_of lists k) q d ≡ pair (get_or ds q drawn) = get_or-map pair ds q drawn d (omega arith) in
      let e = get_or ds q drawn in
      let p : e.item.entry.prev ≡ f.ticket = ap (λ (x : ℕ × Journal). x.1.entry.prev) (sym is) ∙ quotes in
      u.unquoted e (in_place lists k e (has_at ds q drawn (omega arith))) (prev_quoted e.item ∙ p)

  ends_by : (facts : List Fact) (lane : ℕ) → AllUnquoted meaning_of_journal code facts lists →
      KnowsRest code facts lane →
      LaneEnds lists lane
  ends_by facts lane all k =
      let u = all k.fact k.there in
      let d = u.entry in
      let l = list_in d lists u.there in
      let ds = get_or lists l.0 [] in
      let p = place_in d ds l.1 in
      let long = length-map ds pair in
      let ticket : d.ticket ≡ k.fact.ticket = ap (λ (f : Fact). f.ticket) u.fact in
      let left : leaves_of d.item ≡ record { course = k.course; lane = lane } =
      code.inj (leaves_of d.item) (record { course = k.course; lane = lane })
      (ap (λ (f : Fact). f.left) u.fact ∙ k.left) in
      record {
        owner = l.0;
        place = p.0;
        ticket = d.ticket;
        item = d.item;
        there = (let lt = p.1 in omega arith);
        is = get_or-map pair ds p.0 d (d.ticket, d.item) p.1 ∙ ap pair p.2;
        lane_is = ap (λ (f : Fact). f.lane) u.fact ∙ k.lane_is;
        unquoted = subst (NobodyQuotes lists) (sym ticket) (nobody k.fact u);
        rest = ap (λ (x : Left). x.course.form) left ∙ k.rest;
      }

pub known_rest : KnownRest
known_rest h code lists facts book all headers late begins end lanes =
    lanes_rest h lists book headers late begins end
    (λ lane above low own. ends_by code lists facts lane all (lanes lane above low own))
