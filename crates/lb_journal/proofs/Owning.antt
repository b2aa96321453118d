-- What the owners keep gives all premises of the merge, field by field, and that the history is the trace's.
-- For the law `owners_merge`.
use Rattle.std.proofs.Common.{◌<◌, ◌≡◌, ℕ, ◌≤◌, false, true, Some, List, [], ◌∷◌, ◌++◌, length, map, get_or, refl, sym, ◌∙◌, ap, arith, inl, inr, All}
use Rattle.std.specs.Prelude.{slice_get}
use Rattle.std.proofs.lemmas.Bool.{cases_lt, both_ways}
use Rattle.std.proofs.lemmas.List.{length-map, get_or_past, get_or-map}
use Rattle.std.proofs.lemmas.List.Elements.{All-map}
use Rattle.std.proofs.lemmas.Option.{slice_get-get_or}
use base.Stored.{Coded}
use Rattle.lb_trace.specs.declared.trace.Trace.{Trace}
use Rattle.lb_trace.specs.Accepted.{IsTrace}
use Rattle.lb_core.specs.declared.entry.Owner.TheVariants.{Lane}
use Rattle.lb_ticket.specs.declared.item.Drawn.{Drawn}
use Rattle.lb_ticket.specs.Seats.{SeatIs}
use Rattle.lb_ticket.specs.Seats.{all_facts}
use Rattle.lb_ticket.specs.Tickets.{Closes, pair}
use Rattle.lb_ticket.specs.Facts.{AllUnquoted, AllDrawn}
use Rattle.lb_ticket.proofs.Members.{gathered_at}
use Rattle.lb_journal.specs.Journal.{Journal, Left, number_of, is_nil, meaning_of_journal}
use Rattle.lb_journal.specs.Merge.{list_of, Each, MayMerge, MergeIsRun}
use Rattle.lb_journal.specs.Known.{KnowsRest}
use Rattle.lb_journal.specs.Owners.{lists_of, ReadsAll, KeptByOwners, OwnersMerge}
use Rattle.lb_journal.proofs.Bridge.{each_of}
use Rattle.lb_journal.proofs.Known.{known_rest}
use Rattle.lb_journal.proofs.Reading.{masks_are_read, figures_are_read}
use Rattle.lb_journal.proofs.Rows.{rows_by, ticks_by}
use Rattle.lb_journal.proofs.Closing.{closing_last, closing_begins, closing_by}

-- a lane that drew a row knows by its seat how it is left
rest_by : (lanes : ℕ) (left : Coded Left) (seats : List (SeatIs Journal)) →
    ((lane : ℕ) (s : SeatIs Journal) → 1 ≤ lane → lane < lanes → slice_get seats (number_of (Lane lane)) ≡ Some s →
    (s.list ≡ [] → ⊥) → KnowsRest left (s.fresh ++ s.known) lane)
    →
    (lane : ℕ) → 1 ≤ lane → lane < lanes → is_nil (list_of (lists_of seats) (number_of (Lane lane))) ≡ false →
    KnowsRest left (all_facts seats) lane
rest_by lanes left [] rest lane above low nil = absurd (both_ways true nil refl)
rest_by lanes left (first ∷ more) rest lane above low nil =
    let seats = first ∷ more in
    let x = number_of (Lane lane) in
    elim (cases_lt x (length seats)) [
      | inl lt ↦
          let s = get_or seats x first in
          let list = get_or-map (λ (y : SeatIs Journal). y.list) seats x first [] lt in
          let k =
          rest lane s above low (slice_get-get_or seats x first lt)
          (λ e. both_ways true (sym (ap (λ l. is_nil (map pair l)) (list ∙ e)) ∙ nil) refl) in
          record {
            fact = k.fact;
            there = gathered_at (λ y. y.fresh ++ y.known) first seats x k.fact lt k.there;
            lane_is = k.lane_is;
            course = k.course;
            left = k.left;
            rest = k.rest;
          }
      | inr ge ↦ absurd
          (let e = get_or_past (lists_of seats) x [] (let l = length-map seats (λ (y : SeatIs Journal). y.list) in omega arith) in
          both_ways true (sym (ap (λ l. is_nil (map pair l)) e) ∙ nil) refl)
    ]

module _ (t : Trace) (code : Coded Journal) (left : Coded Left) (seats : List (SeatIs Journal)) (cut : ℕ)
    (ok : IsTrace t) (book : Closes meaning_of_journal (lists_of seats))
    (unquoted : AllUnquoted meaning_of_journal left (all_facts seats) (lists_of seats))
    (drawn : All (λ s. AllDrawn code s.read (lists_of seats)) seats) (k : KeptByOwners t code left seats cut) where
  headers : Each (λ d. d.1.header ≡ t.header) (lists_of seats)
  headers =
      each_of (λ d. d.1.header ≡ t.header) (lists_of seats)
      (All-map (λ ds. All (λ (d : Drawn Journal). d.item.header ≡ t.header) ds) (λ s. s.list) seats k.headers)

  may_merge : MayMerge t.header (lists_of seats)
  may_merge =
      let lists = lists_of seats in
      let last = closing_last t.header lists cut book k.closing in
      let begins = closing_begins t.header lists cut book k.closing in
      record {
        headers = headers;
        ticks = ticks_by t lists book ok headers k.rows;
        closing_last = last;
        at_rest =
            known_rest t.header left lists (all_facts seats) book unquoted headers last begins k.closing.ends
            (rest_by t.header.lanes left seats k.rest);
        closes = closing_by t.header lists cut book k.closing;
        begins = begins;
        ends = k.closing.ends;
        figures =
            figures_are_read t.header lists book
            (All-map (λ ds. All (ReadsAll t.header lists) ds) (λ s. s.list) seats k.figures);
        masks = masks_are_read t.header code seats book drawn k.uses;
      }

pub owners_merge : MergeIsRun → OwnersMerge
owners_merge merge t code left seats cut ok book unquoted drawn k =
    let may = may_merge t code left seats cut ok book unquoted drawn k in (
      may,
      record {
        header = refl;
        legal = merge t.header (lists_of seats) ok.header book may;
        rows = rows_by t (lists_of seats) book ok (headers t code left seats cut ok book unquoted drawn k) k.rows;
      },
    )
