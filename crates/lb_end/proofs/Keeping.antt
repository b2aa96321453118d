-- What a machine keeps, as one seat follows another, and as lane 0 draws an entry.
-- For `Ended::reserve`, `Ended::follow` and `Ended::end`.
use Rattle.std.proofs.Common.{ℕ, zero, suc, ◌≡◌, ◌+◌, ◌<◌, ◌≤◌, List, [], ◌∷◌, ◌++◌, Option, Some, length, map, get_or, set, refl, sym, subst, ap, ◌∙◌, ◌⊎◌, arith, inl, inr, All, append-nil}
use Rattle.std.specs.Prelude.{slice_get}
use Rattle.std.proofs.lemmas.Bool.{cases_eq}
use Rattle.std.proofs.lemmas.List.{length-set, length-map, set-get_or, map-set, map-append, get_or-map, get_or-set_same, get_or-set_other}
use Rattle.std.proofs.lemmas.List.Elements.{All-nil, All-cons, All-set, All-push}
use Rattle.std.proofs.lemmas.Option.{slice_get_within, get_or_from_slice_get, slice_get-get_or}
use base.Stored.{Coded}
use Rattle.atomic_table.specs.Seated.{TableId}
use Rattle.lb_queue.specs.Queue.{BookedQueue, QueueState}
use Rattle.lb_trace.specs.declared.trace.Header.{Header}
use Rattle.lb_core.specs.declared.course.Course.{Course}
use Rattle.lb_ticket.specs.declared.item.Drawn.{Drawn}
use Rattle.lb_ticket.specs.declared.view.Held.{Held}
use Rattle.lb_ticket.specs.Seats.{NoteIs, Numbered, SeatIs}
use Rattle.lb_ticket.specs.Facts.{HasFact, held_of}
use Rattle.lb_ticket.specs.Tickets.{pair}
use Rattle.lb_journal.specs.Journal.{Journal, Left, queue_by_item, replay}
use Rattle.lb_journal.specs.Merge.{queue_list}
use Rattle.lb_journal.specs.Owners.{GrowthKeeps, ListGrows, ListsGrow, QueueGrows, ReadsAll, ReadsFigure, SeatUses, UsesStay, UsesVersion, lists_of, with_item}
use Rattle.lb_core.specs.declared.entry.CpuFig.{CpuFig}
use Rattle.lb_cell.specs.LastEntries.{IsLast, fact_left}
use Rattle.lb_ticket.specs.declared.view.Fact.{Fact}
use Rattle.lb_end.specs.Ends.{AreReplays, EndedIs, EndedKeeps, HoldsFirst, IsFirstCourse, KeptLists, KnowLasts, KnowsLast}
use Rattle.lb_end.specs.Seats.{Followed, list_at}
use Rattle.lb_end.proofs.Seating.{changed_at, changed_or_kept, kept_at, numbered_at, numbered_set}

-- ---- the lists
pub list_is : (ss : List (SeatIs Journal)) (k : ℕ) (s : SeatIs Journal) → slice_get ss k ≡ Some s → list_at ss k ≡ s.list
list_is ss k s e =
    get_or-map (λ (x : SeatIs Journal). x.list) ss k s [] (slice_get_within ss k s e)
    ∙ ap (λ (x : SeatIs Journal). x.list) (get_or_from_slice_get ss k s s e)

pub lists_kept : (ss : List (SeatIs Journal)) (k : ℕ) (s s' : SeatIs Journal) → slice_get ss k ≡ Some s → s'.list ≡ s.list
    → lists_of (set ss k s') ≡ lists_of ss
lists_kept ss k s s' e same =
    map-set (λ (x : SeatIs Journal). x.list) ss k s'
    ∙ (ap (λ (l : List (Drawn Journal)). set (lists_of ss) k l) (same ∙ sym (list_is ss k s e)) ∙ set_same (lists_of ss) k [])
  where
    set_same : (l : List (List (Drawn Journal))) (i : ℕ) (d : List (Drawn Journal)) → set l i (get_or l i d) ≡ l
    set_same l i d = set-get_or l i d

pub lists_more : (ss : List (SeatIs Journal)) (k : ℕ) (s s' : SeatIs Journal) (d : Drawn Journal) → slice_get ss k ≡ Some s
    → s'.list ≡ s.list ++ d ∷ [] → lists_of (set ss k s') ≡ with_item (lists_of ss) k d
lists_more ss k s s' d e list =
    map-set (λ (x : SeatIs Journal). x.list) ss k s'
    ∙ ap (λ (l : List (Drawn Journal)). set (lists_of ss) k l)
    (list ∙ ap (λ (l : List (Drawn Journal)). l ++ d ∷ []) (sym (list_is ss k s e)))

pub long_lists : (ss : List (SeatIs Journal)) (k : ℕ) (s : SeatIs Journal) → slice_get ss k ≡ Some s → k < length (lists_of ss)
long_lists ss k s e =
    subst (λ (n : ℕ). k < n) (sym (length-map ss (λ (x : SeatIs Journal). x.list))) (slice_get_within ss k s e)

-- with an item more the lists have grown
pub grows : (lists : List (List (Drawn Journal))) (k : ℕ) (d : Drawn Journal) → k < length lists
    → ListsGrow d.ticket lists (with_item lists k d)
grows lists k d there x = elim (cases_eq x k) [
  | inl e ↦ record {
    rest = d ∷ [];
    is =
        subst (λ (y : ℕ). get_or (with_item lists k d) y [] ≡ get_or lists y [] ++ d ∷ []) (sym e)
        (get_or-set_same lists k (get_or lists k [] ++ d ∷ []) [] there);
    late =
        All-cons (λ (e : Drawn Journal). d.ticket ≤ e.ticket) d [] (omega arith)
        (All-nil (λ (e : Drawn Journal). d.ticket ≤ e.ticket));
  }
  | inr n ↦ record {
    rest = [];
    is = get_or-set_other lists k x (get_or lists k [] ++ d ∷ []) [] n ∙ sym (append-nil (get_or lists x []));
    late = All-nil (λ (e : Drawn Journal). d.ticket ≤ e.ticket);
  }
]

-- ---- what is kept of the lists
abbrev pub HasHeader : Header → SeatIs Journal → Type 0
HasHeader h s = All (λ d. d.item.header ≡ h) s.list

pub at_seat : (P : SeatIs Journal → Type 0) (ss : List (SeatIs Journal)) (k : ℕ) (s : SeatIs Journal) → slice_get ss k ≡ Some s
    → All P ss → P s
at_seat P ss k s e all =
    subst P (get_or_from_slice_get ss k s s e) (all k s (slice_get_within ss k s e))

pub header_at : (h : Header) (code : Coded Journal) (ss : List (SeatIs Journal)) (k : ℕ) (s : SeatIs Journal)
    → slice_get ss k ≡ Some s → KeptLists h code ss → All (λ d. d.item.header ≡ h) s.list
header_at h code ss k s e kept = at_seat (HasHeader h) ss k s e kept.headers

uses_more : UsesStay → (h : Header) (code : Coded Journal) (s s' : SeatIs Journal) (more : List Held) → s'.list ≡ s.list
    → s'.read ≡ s.read ++ more → SeatUses h code s → SeatUses h code s'
uses_more stay h code s s' more list read uses =
    subst (λ (t : Type 0). t)
    (λ i. All (λ d. UsesVersion h code (sym read i) d.ticket d.item d.item.entry.what) (sym list i))
    (stay h code s.read more s.list uses)

pub kept_followed : UsesStay → (h : Header) (code : Coded Journal) (a b : ℕ) (ss ss' : List (SeatIs Journal))
    → Followed code a b ss ss' → KeptLists h code ss → KeptLists h code ss'
kept_followed stay h code a b ss ss' f kept =
    subst (KeptLists h code) (sym f.now) (record {
      headers =
          All-set (HasHeader h) ss a f.seat'
          (subst (All (λ (d : Drawn Journal). d.item.header ≡ h)) (sym f.same.2)
          (at_seat (HasHeader h) ss a f.seat f.here kept.headers)) kept.headers;
      uses =
          All-set (SeatUses h code) ss a f.seat'
          (uses_more stay h code f.seat f.seat' (map (held_of code) f.other.list) f.same.2 f.read
          (at_seat (SeatUses h code) ss a f.seat f.here kept.uses)) kept.uses;
      figures =
          subst (λ (lists : List (List (Drawn Journal))). All (λ s. All (ReadsAll h lists) s.list) (set ss a f.seat'))
          (sym (lists_kept ss a f.seat f.seat' f.here f.same.2))
          (All-set (λ s. All (ReadsAll h (lists_of ss)) s.list) ss a f.seat'
          (subst (All (ReadsAll h (lists_of ss))) (sym f.same.2)
          (at_seat (λ s. All (ReadsAll h (lists_of ss)) s.list) ss a f.seat f.here kept.figures)) kept.figures);
    })

pub kept_drawn : GrowthKeeps → (h : Header) (code : Coded Journal) (k : ℕ) (ss : List (SeatIs Journal))
    (s s' : SeatIs Journal) (d : Drawn Journal) → slice_get ss k ≡ Some s → s'.list ≡ s.list ++ d ∷ [] → s'.read ≡ s.read
    → d.item.header ≡ h → UsesVersion h code s.read d.ticket d.item d.item.entry.what → d.item.figs ≡ []
    → KeptLists h code ss → KeptLists h code (set ss k s')
kept_drawn growth h code k ss s s' d here list read header uses figs kept =
    let lists = lists_of ss in
    let more : List (List (Drawn Journal)) = with_item lists k d in
    let keeps = (growth h lists more d.ticket (grows lists k d (long_lists ss k s here))).0 in
    let use_of : SeatIs Journal → Drawn Journal → Type 0 =
    (λ (x : SeatIs Journal) (e : Drawn Journal). UsesVersion h code x.read e.ticket e.item e.item.entry.what) in
    let old_figures : All (λ s. All (ReadsAll h more) s.list) ss =
    (λ i x lt j y low. keeps (get_or (get_or ss i x).list j y) (kept.figures i x lt j y low)) in
    record {
      headers =
          All-set (HasHeader h) ss k s'
          (subst (All (λ (e : Drawn Journal). e.item.header ≡ h)) (sym list)
          (All-push (λ (e : Drawn Journal). e.item.header ≡ h) s.list d (at_seat (HasHeader h) ss k s here kept.headers) header))
          kept.headers;
      uses =
          All-set (SeatUses h code) ss k s'
          (subst (λ (t : Type 0). t)
          (λ i. All (λ e. UsesVersion h code (sym read i) e.ticket e.item e.item.entry.what) (sym list i))
          (All-push (use_of s) s.list d (at_seat (SeatUses h code) ss k s here kept.uses) uses))
          kept.uses;
      figures =
          subst (λ (l : List (List (Drawn Journal))). All (λ s. All (ReadsAll h l) s.list) (set ss k s'))
          (sym (lists_more ss k s s' d here list))
          (All-set (λ s. All (ReadsAll h more) s.list) ss k s'
          (subst (All (ReadsAll h more)) (sym list)
          (All-push (ReadsAll h more) s.list d (at_seat (λ s. All (ReadsAll h more) s.list) ss k s here old_figures)
          (subst (All (ReadsFigure h more d.ticket)) (sym figs) (All-nil (ReadsFigure h more d.ticket)))))
          old_figures);
    }

-- ---- the queues
other_list : (h : Header) (cpu k : ℕ) (ss : List (SeatIs Journal)) (s' : SeatIs Journal) → (17 + cpu ≡ k → ⊥)
    → queue_list (lists_of (set ss k s')) cpu ≡ queue_list (lists_of ss) cpu
other_list h cpu k ss s' other =
    ap (λ (l : List (List (Drawn Journal))). map pair (get_or l (17 + cpu) []))
    (map-set (λ (x : SeatIs Journal). x.list) ss k s')
    ∙ ap (map pair) (get_or-set_other (lists_of ss) k (17 + cpu) s'.list [] other)

pub replays_else : (h : Header) (k : ℕ) (ss : List (SeatIs Journal)) (s' : SeatIs Journal) (queues : List BookedQueue)
    → k < 17 → AreReplays h ss queues → AreReplays h (set ss k s') queues
replays_else h k ss s' queues low r cpu q e =
    r cpu q e ∙ ap (replay h cpu) (sym (other_list h cpu k ss s' (λ same. omega (arith, same, low))))

pub replays_drawn : QueueGrows → (h : Header) (cpu : ℕ) (ss : List (SeatIs Journal)) (s s' : SeatIs Journal) (d : Drawn Journal)
    (queues : List BookedQueue) (q q' : BookedQueue) → slice_get ss (17 + cpu) ≡ Some s → s'.list ≡ s.list ++ d ∷ []
    → slice_get queues cpu ≡ Some q → q'.state ≡ queue_by_item q.state (length s.list) d.item → AreReplays h ss queues
    → AreReplays h (set ss (17 + cpu) s') (set queues cpu q')
replays_drawn growth h cpu ss s s' d queues q q' here list there step r c x e =
    elim (changed_or_kept queues cpu q' c x e) [
      | inl now ↦
          let ds : List (ℕ × Journal) = map pair s.list in
          let old : queue_list (lists_of ss) cpu ≡ ds = ap (map pair) (list_is ss (17 + cpu) s here) in
          let new : queue_list (lists_of (set ss (17 + cpu) s')) cpu ≡ ds ++ (d.ticket, d.item) ∷ [] =
          ap (map pair) (list_is (set ss (17 + cpu) s') (17 + cpu) s'
          (changed_at ss (17 + cpu) s' (slice_get_within ss (17 + cpu) s here)))
          ∙ (ap (map pair) list ∙ map-append pair s.list (d ∷ [])) in
          let state : x.state ≡ replay h cpu (ds ++ (d.ticket, d.item) ∷ []) =
          ap (λ (y : BookedQueue). y.state) now.1
          ∙ (step
          ∙ ((λ i. queue_by_item ((r cpu q there ∙ ap (replay h cpu) old) i) (sym (length-map s.list pair) i) d.item)
          ∙ sym (growth h cpu ds d.ticket d.item).0)) in
          subst (λ (n : ℕ). x.state ≡ replay h n (queue_list (lists_of (set ss (17 + cpu) s')) n)) (sym now.0)
          (state ∙ ap (replay h cpu) (sym new))
      | inr kept ↦
          r c x kept.1
          ∙ ap (replay h c) (sym (other_list h c (17 + cpu) ss s' (λ same. kept.0 (omega (arith, same)))))
    ]

-- ---- the lanes
pub lasts_followed : (left : Coded Left) (cpus : ℕ) (courses : List Course) (tickets : List ℕ) (ss : List (SeatIs Journal))
    (a : ℕ) (s s' : SeatIs Journal) → slice_get ss a ≡ Some s → s'.list ≡ s.list → s'.known ≡ s.known
    → KnowLasts left cpus courses tickets ss → KnowLasts left cpus courses tickets (set ss a s')
lasts_followed left cpus courses tickets ss a s s' here list known r lane c t x ec et ex =
    elim (changed_or_kept ss a s' (lane + 1) x ex) [
      | inl now ↦
          let k : KnowsLast left cpus lane c t s =
          r lane c t s ec et (subst (λ (n : ℕ). slice_get ss n ≡ Some s) (sym now.0) here) in
          record {
            none = λ z. let n = k.none z in (ap (λ (y : SeatIs Journal). y.list) now.1 ∙ (list ∙ n.0), n.1);
            some = λ one pos.
                subst (λ (facts : List Fact). HasFact (fact_left left lane c t) facts)
                (sym (ap (λ (y : SeatIs Journal). y.known) now.1 ∙ known)) (k.some one pos);
          }
      | inr kept ↦ r lane c t x ec et kept.1
    ]

pub lasts_drawn : (left : Coded Left) (cpus : ℕ) (courses : List Course) (tickets : List ℕ) (ss : List (SeatIs Journal))
    (k : ℕ) (s' : SeatIs Journal) (c' : Course) (t' : ℕ) → 0 < t'
    → ((lane : ℕ) → 1 ≤ lane → lane < length courses → lane + 1 ≡ k → ⊥)
    → KnowLasts left cpus courses tickets ss → KnowLasts left cpus (set courses 0 c') (set tickets 0 t') (set ss k s')
lasts_drawn left cpus courses tickets ss k s' c' t' some apart r lane c t x ec et ex =
    elim (changed_or_kept courses 0 c' lane c ec) [
      | inl now ↦
          elim (changed_or_kept tickets 0 t' lane t et) [
            | inl is ↦ record {
              none = λ z. absurd (let e = is.1 in omega (arith, z, e, some));
              some = λ one pos. absurd (let e = now.0 in omega (arith, e, one));
            }
            | inr else' ↦ absurd (else'.0 now.0)
          ]
      | inr kept ↦
          let one : 1 ≤ lane = positive lane kept.0 in
          let within : lane < length courses = slice_get_within courses lane c kept.1 in
          r lane c t x kept.1 (sym (kept_at tickets 0 t' lane kept.0) ∙ et)
          (sym (kept_at ss k s' (lane + 1) (apart lane one within)) ∙ ex)
    ]
  where
    positive : (n : ℕ) → (n ≡ 0 → ⊥) → 1 ≤ n
    positive zero other = absurd (other refl)
    positive (suc n) other = omega arith

-- ---- all of it
pub keeps_followed : UsesStay → (h : Header) (book : TableId) (code : Coded Journal) (left : Coded Left) (e : EndedIs) (a b : ℕ)
    (ss' : List (SeatIs Journal)) → Followed code a b e.seats ss' → EndedKeeps h book code left e
    → EndedKeeps h book code left (record e { seats = ss' })
keeps_followed stay h book code left e a b ss' f k =
    let ss = e.seats in
    let within = slice_get_within ss a f.seat f.here in
    let at = numbered_at e.book.table 0 ss a f.seat k.numbered within in
    let is : get_or ss a f.seat ≡ f.seat = get_or_from_slice_get ss a f.seat f.seat f.here in
    let lists = lists_kept ss a f.seat f.seat' f.here f.same.2 in
    subst (λ (l : List (SeatIs Journal)). EndedKeeps h book code left (record e { seats = l })) (sym f.now) (record {
      header_is = k.header_is;
      accepted = k.accepted;
      book_is = k.book_is;
      numbered =
          numbered_set e.book.table 0 ss a f.seat' k.numbered
          (f.same.0 ∙ (ap (λ (x : SeatIs Journal). x.table) (sym is) ∙ at.0))
          (f.same.1 ∙ (ap (λ (x : SeatIs Journal). x.number) (sym is) ∙ at.1));
      owners = k.owners;
      all_seats = length-set ss a f.seat' ∙ k.all_seats;
      all_queues = k.all_queues;
      all_courses = k.all_courses;
      all_tickets = k.all_tickets;
      all_notes = k.all_notes;
      lists = subst (KeptLists h code) f.now (kept_followed stay h code a b ss ss' f k.lists);
      replays = λ cpu q there.
          k.replays cpu q there
          ∙ ap (λ (l : List (List (Drawn Journal))). replay h cpu (queue_list l cpu)) (sym lists);
      lasts = lasts_followed left (length h.cpus) e.courses e.tickets ss a f.seat f.seat' f.here f.same.2 f.view.1 k.lasts;
      quiet = k.quiet;
      first = k.first;
    })

-- lane 0 draws an entry in a list, and holds it
module _ (h : Header) (book : TableId) (code : Coded Journal) (left : Coded Left) (e : EndedIs)
    (keep : EndedKeeps h book code left e)
    (k : ℕ) (s s' : SeatIs Journal) (d : Drawn Journal) (here : slice_get e.seats k ≡ Some s)
    (list : s'.list ≡ s.list ++ d ∷ []) (same : (s'.table ≡ s.table) × (s'.number ≡ s.number)) (read : s'.read ≡ s.read)
    (header : d.item.header ≡ h) (uses : UsesVersion h code s.read d.ticket d.item d.item.entry.what)
    (figs : d.item.figs ≡ []) (some : 0 < d.ticket)
    (apart : (lane : ℕ) → 1 ≤ lane → lane < h.lanes → lane + 1 ≡ k → ⊥)
    (c' : Course) (quiet : IsFirstCourse h c') (n' : Option NoteIs) (last : IsLast book left (length h.cpus) 0 c' d.ticket n')
  where
    pub keeps_drawn : GrowthKeeps → (queues : List BookedQueue) → length queues ≡ length e.queues
        → AreReplays h (set e.seats k s') queues
        → EndedKeeps h book code left (record e {
          seats = set e.seats k s';
          queues = queues;
          courses = set e.courses 0 c';
          tickets = set e.tickets 0 d.ticket;
          notes = set e.notes 0 n';
        })
    keeps_drawn growth queues many replays =
        let ss = e.seats in
        let within = slice_get_within ss k s here in
        let at = numbered_at e.book.table 0 ss k s keep.numbered within in
        let is : get_or ss k s ≡ s = get_or_from_slice_get ss k s s here in
        record {
          header_is = keep.header_is;
          accepted = keep.accepted;
          book_is = keep.book_is;
          numbered =
              numbered_set e.book.table 0 ss k s' keep.numbered
              (same.0 ∙ (ap (λ (x : SeatIs Journal). x.table) (sym is) ∙ at.0))
              (same.1 ∙ (ap (λ (x : SeatIs Journal). x.number) (sym is) ∙ at.1));
          owners = keep.owners;
          all_seats = length-set ss k s' ∙ keep.all_seats;
          all_queues = many ∙ keep.all_queues;
          all_courses = length-set e.courses 0 c' ∙ keep.all_courses;
          all_tickets = length-set e.tickets 0 d.ticket ∙ keep.all_tickets;
          all_notes = length-set e.notes 0 n' ∙ keep.all_notes;
          lists = kept_drawn growth h code k ss s s' d here list read header uses figs keep.lists;
          replays = replays;
          lasts =
              lasts_drawn left (length h.cpus) e.courses e.tickets ss k s' c' d.ticket some
              (λ lane one lt. apart lane one (subst (λ (n : ℕ). lane < n) keep.all_courses lt)) keep.lasts;
          quiet = λ c there. elim (changed_or_kept e.courses 0 c' 0 c there) [
            | inl now ↦ subst (IsFirstCourse h) (sym now.1) quiet
            | inr else' ↦ absurd (else'.0 refl)
          ];
          first = λ c t note ec et en. elim (changed_or_kept e.courses 0 c' 0 c ec) [
            | inl now ↦ elim (changed_or_kept e.tickets 0 d.ticket 0 t et) [
              | inl then ↦ elim (changed_or_kept e.notes 0 n' 0 note en) [
                | inl held ↦
                    subst (λ (x : Type 0). x)
                    (λ i. IsLast book left (length h.cpus) 0 (sym now.1 i) (sym then.1 i) (sym held.1 i)) last
                | inr else' ↦ absurd (else'.0 refl)
              ]
              | inr else' ↦ absurd (else'.0 refl)
            ]
            | inr else' ↦ absurd (else'.0 refl)
          ];
        }
