-- The premises of the merge, one by one, of the lists of all owners, once every lane is done and the history is closed. Each
-- is what one owner kept of its own list, or what the end adds; together they make the lists a legal history of the trace.
-- For `history_of`.
use Rattle.std.proofs.Common.{ℕ, ◌≡◌, ◌+◌, ◌<◌, ◌≤◌, Some, List, [], ◌++◌, length, map, take, slice_get, sym, subst, ap, ◌∙◌, All, arith}
use Rattle.std.proofs.lemmas.List.{take_all}
use Rattle.std.proofs.lemmas.Option.{same_Some}
use base.Stored.{Coded}
use Rattle.lb_base.specs.declared.mask.Mask.{Mask}
use Rattle.lb_trace.specs.declared.trace.Trace.{Trace}
use Rattle.lb_trace.specs.declared.trace.Row.{Row}
use Rattle.lb_trace.specs.Accepted.{IsTrace}
use Rattle.lb_core.specs.declared.entry.Entry.{Entry}
use Rattle.lb_core.specs.declared.entry.Owner.TheVariants.{Lane}
use Rattle.lb_core.specs.OfTrace.{IsHistoryOf, of_lane}
use Rattle.lb_ticket.specs.declared.item.Drawn.{Drawn}
use Rattle.lb_ticket.specs.Facts.{AllDrawn, AllUnquoted}
use Rattle.lb_ticket.specs.Seats.{SeatIs, all_facts}
use Rattle.lb_ticket.specs.Tickets.{Closes}
use Rattle.lb_journal.specs.Journal.{Journal, Left, meaning_of_journal, number_of}
use Rattle.lb_journal.specs.Known.{KnowsRest}
use Rattle.lb_journal.specs.Merge.{entries}
use Rattle.lb_journal.specs.Owners.{ClosesFrom, KeptByOwners, OwnersMerge, ReadsAll, SeatUses, lists_of, own_rows}
use Rattle.lb_lane.specs.Lanes.{LaneIs}
use Rattle.lb_end.specs.Ends.{EndedIs, KeptLists}
use Rattle.lb_end.specs.Finished.{Finished}
use Rattle.lb_cpu.specs.Ends.{LaneIsLeft}
use Rattle.lb_threads.proofs.Numbers.{item_at}
use Rattle.lb_threads.specs.Lanes.{EachLane, IsDone}

-- `e` is the machine as the lanes left it, `e'` the machine that is closed
module _ (t : Trace) (code : Coded Journal) (left : Coded Left) (e e' : EndedIs) (unserved : Mask) (lanes : List LaneIs)
    (count : length lanes ≡ t.header.lanes) (done : EachLane (IsDone t.rows) lanes)
    (left_so : (k : ℕ) (l : LaneIs) → slice_get lanes k ≡ Some l → LaneIsLeft left e.seats k l)
    (kept : KeptLists t.header code e'.seats) (finished : Finished t.header e e' unserved) where
  -- each declared lane is one of these, and done
  lane_at : (lane : ℕ) → lane < t.header.lanes → (l : LaneIs) × (slice_get lanes lane ≡ Some l)
  lane_at lane lt = item_at lanes lane (subst (λ (n : ℕ). lane < n) (sym count) lt)

  -- every item carries the trace's header
  headers : All (λ s. All (λ d. d.item.header ≡ t.header) s.list) e'.seats
  headers = kept.headers

  -- the rows that a lane's own list takes up are the trace's rows of it
  rows : (lane : ℕ) → lane < t.header.lanes → own_rows (lists_of e'.seats) lane ≡ of_lane lane t.rows
  rows lane lt =
      let l = lane_at lane lt in
      let is = done lane l.0 l.1 in
      let all = is.ended.all in
      let whole : take l.0.side.course.rows l.0.rows ≡ l.0.rows = take_all l.0.side.course.rows l.0.rows (omega arith) in
      finished.rows lane ∙ (left_so lane l.0 l.1).rows ∙ whole ∙ is.has.own

  -- the `pub` of each version that is used was read before
  uses : All (SeatUses t.header code) e'.seats
  uses = kept.uses

  -- each lane but lane 0 is known to rest; its seat is as it left it
  rest : (lane : ℕ) (s : SeatIs Journal) → 1 ≤ lane → lane < t.header.lanes
      → slice_get e'.seats (number_of (Lane lane)) ≡ Some s → (s.list ≡ [] → ⊥) → KnowsRest left (s.fresh ++ s.known) lane
  rest lane s one lt at some =
      let l = lane_at lane lt in
      let is = left_so lane l.0 l.1 in
      let same : is.seat ≡ s = same_Some is.seat s (sym is.there ∙ sym (finished.others lane one lt) ∙ at) in
      subst (λ (u : SeatIs Journal). KnowsRest left (u.fresh ++ u.known) lane) same
      (is.rest one (done lane l.0 l.1).ended.rest (λ none. some (ap (λ (u : SeatIs Journal). u.list) (sym same) ∙ none)))

  -- each figure that is named was published by its queue before
  figures : All (λ s. All (ReadsAll t.header (lists_of e'.seats)) s.list) e'.seats
  figures = kept.figures

  -- the entries after some ticket close the history
  closing : ClosesFrom t.header (lists_of e'.seats) finished.cut
  closing = finished.closing

  pub kept_by_owners : KeptByOwners t code left e'.seats finished.cut
  kept_by_owners = record { headers = headers; rows = rows; uses = uses; rest = rest; figures = figures; closing = closing }

-- so the entries of the closed lists, in the order of their tickets, are a history of the trace
module _ (t : Trace) (code : Coded Journal) (left : Coded Left) (seats : List (SeatIs Journal)) (cut : ℕ)
    (lists : List (List (Drawn Journal))) where
  abbrev ClosedSo : List (List (Drawn Journal)) → Type 0
  ClosedSo ls = (book : Closes meaning_of_journal ls) → AllUnquoted meaning_of_journal left (all_facts seats) ls
      → All (λ s. AllDrawn code s.read ls) seats → IsHistoryOf t (record { header = t.header; entries = entries book.log })

  pub is_history : OwnersMerge → IsTrace t → KeptByOwners t code left seats cut → lists ≡ lists_of seats
      → (book : Closes meaning_of_journal lists) → AllUnquoted meaning_of_journal left (all_facts seats) lists
      → All (λ s. AllDrawn code s.read lists) seats → (es : List Entry) → es ≡ entries book.log
      → IsHistoryOf t (record { header = t.header; entries = es })
  is_history merge trace kept is book unquoted read es in_order =
      subst (λ (xs : List Entry). IsHistoryOf t (record { header = t.header; entries = xs })) (sym in_order)
      (subst ClosedSo (sym is) (λ b u r. (merge t code left seats cut trace b u r kept).1) book unquoted read)
