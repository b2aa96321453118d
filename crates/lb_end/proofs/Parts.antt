-- The parts of a machine that an entry of a queue is drawn upon, and the machine once it was drawn.
-- For `Ended::next_stop`, `Ended::arrive`, `Ended::reserve` and others.
use Rattle.std.proofs.Common.{ℕ, ◌≡◌, ◌+◌, ◌<◌, ◌≤◌, List, [], Option, Some, length, map, get_or, set, sym, subst, ap, ◌∙◌, arith, inl, inr, All, refl}
use Rattle.std.specs.Prelude.{slice_get}
use Rattle.std.proofs.lemmas.List.{length-set, map-set, set-get_or, get_or-map, get_or-set_same}
use Rattle.std.proofs.lemmas.Option.{slice_get-get_or, slice_get_cases, slice_get_within, get_or_from_slice_get}
use base.Stored.{Coded}
use Rattle.atomic_table.specs.Seated.{TableId}
use Rattle.lb_queue.specs.Queue.{BookedQueue}
use Rattle.lb_trace.specs.declared.trace.Header.{Header}
use Rattle.lb_core.specs.declared.course.Course.{Course}
use Rattle.lb_core.specs.declared.entry.Owner.{Owner}
use Rattle.lb_core.specs.declared.entry.What.{What}
use Rattle.lb_core.specs.Course.{opening_course}
use Rattle.lb_ticket.specs.declared.item.Drawn.{Drawn}
use Rattle.lb_ticket.specs.Seats.{NoteIs, SeatIs}
use Rattle.lb_ticket.specs.Tickets.{pair}
use Rattle.lb_journal.specs.Journal.{Journal, Left, queue_by_item, replay}
use Rattle.lb_journal.specs.Owners.{GrowthKeeps, QueueGrows, UsesVersion}
use Rattle.lb_cell.specs.LastEntries.{IsLast}
use Rattle.lb_end.specs.Ends.{EndedIs, EndedKeeps, IsFirstCourse}
use Rattle.lb_end.specs.Seats.{list_at}
use Rattle.lb_end.specs.Drawing.{Drew, DrewItem, first_course, first_ticket, item_of, state_at}
use Rattle.lb_end.proofs.Seating.{kept_at, numbered_at}
use Rattle.lb_end.proofs.Keeping.{header_at, keeps_drawn, list_is, lists_more, long_lists, replays_drawn}
use Rattle.lb_end.proofs.Chaining.{number_else, number_is, number_now}

pub there : {A : Type 0} (xs : List A) (i : ℕ) (x : A) → i < length xs → x ≡ get_or xs i x → slice_get xs i ≡ Some x
there xs i x lt e = slice_get-get_or xs i x lt ∙ ap Some (sym e)

-- the same in a machine as contracts see it
pub seat_there : (e v : EndedIs) → e ≡ v → (k : ℕ) (s : SeatIs Journal) → k < length v.seats → s ≡ get_or e.seats k s
    → slice_get e.seats k ≡ Some s
seat_there e v seen k s lt is = there e.seats k s (subst (λ (x : EndedIs). k < length x.seats) (sym seen) lt) is

-- what lane 0 has
pub record FirstIs (h : Header) (left : Coded Left) (e : EndedIs) (c : Course) (t : ℕ) (n : Option NoteIs) : Type 0 where
  pub course : first_course e ≡ c
  pub ticket : first_ticket e ≡ t
  pub quiet : IsFirstCourse h c
  pub last : IsLast e.book.table left (length h.cpus) 0 c t n
  pub courses : 0 < length e.courses
  pub tickets : 0 < length e.tickets

pub first_is : (h : Header) (book : TableId) (code : Coded Journal) (left : Coded Left) (e : EndedIs)
    → EndedKeeps h book code left e
    → (c : Course) (t : ℕ) (n : Option NoteIs) → c ≡ get_or e.courses 0 c → t ≡ get_or e.tickets 0 t → n ≡ get_or e.notes 0 n
    → FirstIs h left e c t n
first_is h book code left e k c t n ec et en =
    let some = k.accepted.some_lane in
    let ac = k.all_courses in
    let at = k.all_tickets in
    let an = k.all_notes in
    let tc = there e.courses 0 c (omega (arith, some, ac)) ec in
    let tt' = there e.tickets 0 t (omega (arith, some, at)) et in
    let tn = there e.notes 0 n (omega (arith, some, an)) en in
    record {
      course = get_or_from_slice_get e.courses 0 c (opening_course 0) tc;
      ticket = get_or_from_slice_get e.tickets 0 t 0 tt';
      quiet = k.quiet c tc;
      last = subst (λ (b : TableId). IsLast b left (length h.cpus) 0 c t n) (sym k.book_is) (k.first c t n tc tt' tn);
      courses = omega (arith, some, ac);
      tickets = omega (arith, some, at);
    }

-- what a queue has
pub record QueueIs (h : Header) (e : EndedIs) (cpu : ℕ) (q : BookedQueue) (s : SeatIs Journal) : Type 0 where
  pub seat : slice_get e.seats (17 + cpu) ≡ Some s
  pub queue : slice_get e.queues cpu ≡ Some q
  pub table : s.table ≡ e.book.table
  pub number : s.number ≡ 17 + cpu
  pub small : 17 + cpu < 4294967296
  pub state : q.state ≡ replay h cpu (map pair s.list)
  pub list : list_at e.seats (17 + cpu) ≡ s.list
  pub headers : All (λ d. d.item.header ≡ h) s.list

pub queue_is : (h : Header) (book : TableId) (code : Coded Journal) (left : Coded Left) (e : EndedIs)
    → EndedKeeps h book code left e
    → (cpu : ℕ) → cpu < length h.cpus → (q : BookedQueue) (s : SeatIs Journal) → q ≡ get_or e.queues cpu q
    → s ≡ get_or e.seats (17 + cpu) s → QueueIs h e cpu q s
queue_is h book code left e k cpu lt q s eq es =
    let all = k.all_seats in
    let own = k.owners in
    let most = k.accepted.most_cpus in
    let within : 17 + cpu < length e.seats = omega (arith, all, own, lt) in
    let seat = there e.seats (17 + cpu) s within es in
    let queue = there e.queues cpu q (let a = k.all_queues in omega (arith, a, lt)) eq in
    let at = numbered_at e.book.table 0 e.seats (17 + cpu) s k.numbered within in
    let list = list_is e.seats (17 + cpu) s seat in
    record {
      seat = seat;
      queue = queue;
      table = ap (λ (x : SeatIs Journal). x.table) es ∙ at.0;
      number = ap (λ (x : SeatIs Journal). x.number) es ∙ (at.1 ∙ omega arith);
      small = omega (arith, lt, most);
      state = k.replays cpu q queue ∙ ap (λ (l : List (Drawn Journal)). replay h cpu (map pair l)) list;
      list = list;
      headers = header_at h code e.seats (17 + cpu) s seat k.lists;
    }

pub state_is : (h : Header) (book : TableId) (code : Coded Journal) (left : Coded Left) (e : EndedIs)
    → EndedKeeps h book code left e
    → (cpu : ℕ) → cpu < length h.cpus → (q : BookedQueue) → q ≡ get_or e.queues cpu q → q.state ≡ state_at h e cpu
state_is h book code left e k cpu lt q eq =
    k.replays cpu q (there e.queues cpu q (let a = k.all_queues in omega (arith, a, lt)) eq)

-- ---- once it was drawn
pub drew_parts : (table : TableId) (left : Coded Left) (k : ℕ) (item : Journal) (e : EndedIs) (s s' : SeatIs Journal) (t : ℕ)
    (n : Option NoteIs) (queues : List BookedQueue) (notes : List (Option NoteIs)) → slice_get e.seats k ≡ Some s
    → DrewItem table left item s s' t n → item.entry.prev ≡ first_ticket e → 0 < length e.tickets
    → Drew k item e (record e {
      seats = set e.seats k s';
      queues = queues;
      courses = set e.courses 0 item.after;
      tickets = set e.tickets 0 t;
      notes = notes;
    })
drew_parts table left k item e s s' t n queues notes here d prev some = record {
  ticket = t;
  inside = long_lists e.seats k s here;
  lists = lists_more e.seats k s s' (record { ticket = t; item = item }) here d.list;
  others = λ j other. kept_at e.seats k s' j other;
  nexts = λ j other. number_else (λ x. x.next) e.seats k s here s' j other;
  spares = λ j other. number_else (λ x. x.spare) e.seats k s here s' j other;
  own = subst (All (λ (x : Drawn Journal). x.ticket < t)) (sym (list_is e.seats k s here)) d.above.1;
  above = subst (λ (m : ℕ). m ≤ t) (sym (number_is (λ x. x.next) e.seats k s here)) d.above.0;
  next = number_now (λ x. x.next) e.seats k s here s' ∙ d.next;
  some = d.some;
  quoted = prev;
  held = get_or-set_same e.tickets 0 t 0 some;
  course = refl;
}

-- the same of the machine as contracts see it
pub drew_seen : (h : Header) (left : Coded Left) (k : ℕ) (o : Owner) (w : What) (e v : EndedIs) (c c' : Course) (p t : ℕ)
    (m n : Option NoteIs) (s s' : SeatIs Journal) (queues : List BookedQueue) → (header : e.header ≡ h) → e ≡ v
    → FirstIs h left e c p m → slice_get e.seats k ≡ Some s → DrewItem e.book.table left (item_of e.header o c c' p w) s s' t n
    → Drew k (item_of h o (first_course v) (get_or (set e.courses 0 c') 0 (opening_course 0)) (first_ticket v) w) v (record e {
      seats = set e.seats k s';
      queues = queues;
      courses = set e.courses 0 c';
      tickets = set e.tickets 0 t;
      notes = set e.notes 0 n;
    })
drew_seen h left k o w e v c c' p t m n s s' queues header seen f here d =
    subst (λ (x : Type 0). x)
    (λ i.
    Drew k
    (item_of (header i) o ((sym f.course ∙ ap first_course seen) i)
    (sym (get_or-set_same e.courses 0 c' (opening_course 0) f.courses) i) ((sym f.ticket ∙ ap first_ticket seen) i) w)
    (seen i) (record e {
      seats = set e.seats k s';
      queues = queues;
      courses = set e.courses 0 c';
      tickets = set e.tickets 0 t;
      notes = set e.notes 0 n;
    }))
    (drew_parts e.book.table left k (item_of e.header o c c' p w) e s s' t n queues (set e.notes 0 n) here d (sym f.ticket)
    f.tickets)

pub bookings_kept : (queues : List BookedQueue) (cpu : ℕ) (q q' : BookedQueue) → slice_get queues cpu ≡ Some q
    → q'.booked ≡ q.booked → map (λ (x : BookedQueue). x.booked) (set queues cpu q') ≡ map (λ (x : BookedQueue). x.booked) queues
bookings_kept queues cpu q q' here same =
    map-set (λ (x : BookedQueue). x.booked) queues cpu q'
    ∙ (ap (λ (n : ℕ). set (map (λ (x : BookedQueue). x.booked) queues) cpu n)
    (same
    ∙ sym (get_or-map (λ (x : BookedQueue). x.booked) queues cpu q 0 (slice_get_within queues cpu q here)
    ∙ ap (λ (x : BookedQueue). x.booked) (get_or_from_slice_get queues cpu q q here)))
    ∙ set-get_or (map (λ (x : BookedQueue). x.booked) queues) cpu 0)

-- the lanes' own seats stand before those of the queues
pub lanes_before : (h : Header) (book : TableId) (code : Coded Journal) (left : Coded Left) (e : EndedIs)
    → EndedKeeps h book code left e → (cpu lane : ℕ) → 1 ≤ lane → lane < h.lanes → lane + 1 ≡ 17 + cpu → ⊥
lanes_before h book code left e k cpu lane one lt is = let most = k.accepted.most_lanes in omega (arith, is, lt, most)

pub keeps_at_queue : GrowthKeeps → QueueGrows → (h : Header) (book : TableId) (code : Coded Journal) (left : Coded Left)
    (e : EndedIs)
    → (keep : EndedKeeps h book code left e) → (cpu : ℕ) (q q' : BookedQueue) (s s' : SeatIs Journal) (item : Journal) (t : ℕ)
    (n : Option NoteIs) → QueueIs h e cpu q s → DrewItem e.book.table left item s s' t n → item.header ≡ h → item.figs ≡ []
    → item.entry.lane ≡ 0 → UsesVersion h code s.read t item item.entry.what
    → q'.state ≡ queue_by_item q.state (length s.list) item → IsFirstCourse h item.after
    → EndedKeeps h book code left (record e {
      seats = set e.seats (17 + cpu) s';
      queues = set e.queues cpu q';
      courses = set e.courses 0 item.after;
      tickets = set e.tickets 0 t;
      notes = set e.notes 0 n;
    })
keeps_at_queue growth steps h book code left e keep cpu q q' s s' item t n at d header figs lane uses step quiet =
    let x : Drawn Journal = record { ticket = t; item = item } in
    keeps_drawn h book code left e keep (17 + cpu) s s' x at.seat d.list (d.seat.0, d.seat.1) d.seat.3 header uses figs d.some
    (lanes_before h book code left e keep cpu) item.after quiet n
    (subst (λ (t' : Type 0). t')
    (λ i. IsLast (keep.book_is i) left (length (header i).cpus) (lane i) item.after t n) d.last)
    growth (set e.queues cpu q') (length-set e.queues cpu q')
    (replays_drawn steps h cpu e.seats s s' x e.queues q q' at.seat d.list at.queue step keep.replays)

-- where lane 0 drew nothing it has no list
pub empty_first : (h : Header) (book : TableId) (code : Coded Journal) (left : Coded Left) (e : EndedIs)
    → EndedKeeps h book code left e → first_ticket e ≡ 0 → list_at e.seats 1 ≡ []
empty_first h book code left e k z =
    let some = k.accepted.some_lane in
    let own = k.owners in
    let all = k.all_seats in
    let c = get_or e.courses 0 (opening_course 0) in
    let t = get_or e.tickets 0 0 in
    let tc = slice_get-get_or e.courses 0 (opening_course 0) (let a = k.all_courses in omega (arith, some, a)) in
    let tt' = slice_get-get_or e.tickets 0 0 (let a = k.all_tickets in omega (arith, some, a)) in
    elim (slice_get_cases e.seats 1).1 [
      | inl seat ↦ list_is e.seats 1 seat.0 seat.2 ∙ ((k.lasts 0 c t seat.0 tc tt' seat.2).none z).0
      | inr past ↦ absurd (let p = past.0 in omega (arith, p, own, all))
    ]
