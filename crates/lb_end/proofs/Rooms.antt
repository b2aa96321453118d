-- A machine keeps what it keeps as room is made for an entry, and as a landing is booked.
-- For `Ended::reserve` and `Ended::book`.
use Rattle.std.proofs.Common.{ℕ, ◌≡◌, ◌+◌, ◌<◌, ◌≤◌, List, [], Option, Some, length, map, get_or, set, refl, sym, subst, ap, ◌∙◌, arith, inl, inr, All}
use Rattle.std.specs.Prelude.{slice_get}
use Rattle.std.proofs.lemmas.Bool.{cases_eq}
use Rattle.std.proofs.lemmas.List.{length-set, get_or-map, get_or-set_same}
use Rattle.std.proofs.lemmas.List.Elements.{All-set}
use Rattle.std.proofs.lemmas.Option.{slice_get_within, get_or_from_slice_get}
use base.Stored.{Coded}
use Rattle.atomic_table.specs.Seated.{TableId}
use Rattle.lb_queue.specs.Queue.{BookedQueue}
use Rattle.lb_trace.specs.declared.trace.Header.{Header}
use Rattle.lb_ticket.specs.declared.item.Drawn.{Drawn}
use Rattle.lb_ticket.specs.Seats.{KeepsView, SeatIs}
use Rattle.lb_journal.specs.Journal.{Journal, Left, replay}
use Rattle.lb_journal.specs.Merge.{queue_list}
use Rattle.lb_journal.specs.Owners.{ReadsAll, SeatUses, UsesVersion, lists_of}
use Rattle.lb_end.specs.Ends.{EndedIs, EndedKeeps, KeptLists}
use Rattle.lb_end.specs.Seats.{next_at, spare_at}
use Rattle.lb_end.proofs.Seating.{numbered_at, numbered_set}
use Rattle.lb_end.proofs.Keeping.{HasHeader, at_seat, lasts_followed, lists_kept}
use Rattle.lb_end.proofs.Chaining.{number_else, number_is, number_now, numbers_kept}

-- but for its room a seat is as it was
pub record IsSameBut (s s' : SeatIs Journal) : Type 0 where
  pub table : s'.table ≡ s.table
  pub number : s'.number ≡ s.number
  pub list : s'.list ≡ s.list
  pub view : KeepsView s s'
  pub room : s.spare ≤ s'.spare

pub keeps_room : (h : Header) (book : TableId) (code : Coded Journal) (left : Coded Left) (e : EndedIs) (k : ℕ)
    (s s' : SeatIs Journal) → slice_get e.seats k ≡ Some s → IsSameBut s s' → EndedKeeps h book code left e
    → EndedKeeps h book code left (record e { seats = set e.seats k s' })
keeps_room h book code left e k s s' here same keep =
    let ss = e.seats in
    let at = numbered_at e.book.table 0 ss k s keep.numbered (slice_get_within ss k s here) in
    let is : get_or ss k s ≡ s = get_or_from_slice_get ss k s s here in
    let lists = lists_kept ss k s s' here same.list in
    let reads : SeatIs Journal → Type 0 = (λ (x : SeatIs Journal). All (ReadsAll h (lists_of ss)) x.list) in
    record {
      header_is = keep.header_is;
      accepted = keep.accepted;
      book_is = keep.book_is;
      numbered =
          numbered_set e.book.table 0 ss k s' keep.numbered
          (same.table ∙ (ap (λ (x : SeatIs Journal). x.table) (sym is) ∙ at.0))
          (same.number ∙ (ap (λ (x : SeatIs Journal). x.number) (sym is) ∙ at.1));
      owners = keep.owners;
      all_seats = length-set ss k s' ∙ keep.all_seats;
      all_queues = keep.all_queues;
      all_courses = keep.all_courses;
      all_tickets = keep.all_tickets;
      all_notes = keep.all_notes;
      lists = record {
        headers =
            All-set (HasHeader h) ss k s'
            (subst (All (λ (d : Drawn Journal). d.item.header ≡ h)) (sym same.list)
            (at_seat (HasHeader h) ss k s here keep.lists.headers)) keep.lists.headers;
        uses =
            All-set (SeatUses h code) ss k s'
            (subst (λ (t : Type 0). t)
            (λ i. All (λ d. UsesVersion h code (sym same.view.2 i) d.ticket d.item d.item.entry.what) (sym same.list i))
            (at_seat (SeatUses h code) ss k s here keep.lists.uses)) keep.lists.uses;
        figures =
            subst (λ (l : List (List (Drawn Journal))). All (λ x. All (ReadsAll h l) x.list) (set ss k s')) (sym lists)
            (All-set reads ss k s'
            (subst (All (ReadsAll h (lists_of ss))) (sym same.list) (at_seat reads ss k s here keep.lists.figures))
            keep.lists.figures);
      };
      replays = λ cpu q there.
          keep.replays cpu q there
          ∙ ap (λ (l : List (List (Drawn Journal))). replay h cpu (queue_list l cpu)) (sym lists);
      lasts = lasts_followed left (length h.cpus) e.courses e.tickets ss k s s' here same.list same.view.1 keep.lasts;
      quiet = keep.quiet;
      first = keep.first;
    }

-- ---- the rooms, the next tickets and the bookings then
pub room_grows : (ss : List (SeatIs Journal)) (k : ℕ) (s s' : SeatIs Journal) → slice_get ss k ≡ Some s → IsSameBut s s'
    → (j : ℕ) → spare_at ss j ≤ spare_at (set ss k s') j
room_grows ss k s s' here same j = elim (cases_eq j k) [
  | inl is ↦
      let a = number_is (λ x. x.spare) ss k s here in
      let b = number_now (λ x. x.spare) ss k s here s' in
      let room = same.room in
      subst (λ (n : ℕ). spare_at ss n ≤ spare_at (set ss k s') n) (sym is) (omega (arith, a, b, room))
  | inr other ↦ let a = number_else (λ x. x.spare) ss k s here s' j other in omega (arith, a)
]

pub room_now : (ss : List (SeatIs Journal)) (k : ℕ) (s s' : SeatIs Journal) → slice_get ss k ≡ Some s
    → spare_at (set ss k s') k ≡ s'.spare
room_now ss k s s' here = number_now (λ x. x.spare) ss k s here s'

pub nexts_stay : (ss : List (SeatIs Journal)) (k : ℕ) (s s' : SeatIs Journal) → slice_get ss k ≡ Some s → IsSameBut s s'
    → (j : ℕ) → next_at (set ss k s') j ≡ next_at ss j
nexts_stay ss k s s' here same j =
    ap (λ (l : List ℕ). get_or l j 0) (numbers_kept (λ x. x.next) ss k s here s' same.view.3)

pub booked_now : (queues : List BookedQueue) (cpu : ℕ) (q q' : BookedQueue) → slice_get queues cpu ≡ Some q
    → get_or (map (λ (x : BookedQueue). x.booked) (set queues cpu q')) cpu 0 ≡ q'.booked
booked_now queues cpu q q' here =
    let within = slice_get_within queues cpu q here in
    get_or-map (λ (x : BookedQueue). x.booked) (set queues cpu q') cpu q' 0
    (subst (λ (n : ℕ). cpu < n) (sym (length-set queues cpu q')) within)
    ∙ ap (λ (x : BookedQueue). x.booked) (get_or-set_same queues cpu q' q' within)
