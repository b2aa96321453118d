-- What is left of the owners of lists, put together: the seats of all, and what is kept of their lists.
-- For `Cpus::rest`.
use Rattle.std.proofs.Common.{◌≤◌, ℕ, ◌≡◌, inl, inr, ◌+◌, ◌<◌, zero, suc, Bool, true, false, ◌&&◌, ◌==◌, Some, List, [], ◌∷◌, ◌++◌, map, length, slice_get, slice_index_or, get_or, All, refl, sym, ap, subst, ◌∙◌, arith}
use Rattle.std.proofs.lemmas.Option.{slice_get-get_or, slice_get_within}
use Rattle.std.proofs.lemmas.List.{length-append, get_or_past}
use Rattle.std.proofs.lemmas.List.Elements.{All-nil, All-cons, All-append, All-map}
use Rattle.std.proofs.lemmas.Bool.{cases_lt, false≢true}
use mathlib.Core.List.{IsPrefix}
use base.Stored.{Coded}
use Rattle.atomic_table.specs.Seated.{TableId}
use Rattle.logbook.specs.Pages.{Book}
use Rattle.lb_base.specs.declared.figure.Fig.{Fig}
use Rattle.lb_queue.specs.Queue.{BookedQueue}
use Rattle.lb_trace.specs.declared.trace.Header.{Header}
use Rattle.lb_core.specs.declared.course.Form.{Form}
use Rattle.lb_core.specs.declared.course.Form.TheVariants.{Rest}
use Rattle.lb_core.specs.declared.course.Course.{Course}
use Rattle.lb_core.specs.declared.entry.CpuFig.{CpuFig}
use Rattle.lb_core.specs.declared.entry.Entry.{Entry}
use Rattle.lb_core.specs.declared.entry.What.{What}
use Rattle.lb_core.specs.declared.entry.What.TheVariants.{Row, Adopt, Look, Scan, Pub, End, Did, Out, Landed, Turn, Shut, Close, Ask, Kick, Over}
use Rattle.lb_core.specs.OfTrace.{rows_drawn}
use Rattle.lb_ticket.specs.declared.item.Drawn.{Drawn}
use Rattle.lb_ticket.specs.Seats.{AllEmpty, Numbered, SeatIs}
use Rattle.lb_ticket.specs.Tickets.{pair}
use Rattle.lb_ticket.proofs.Members.{has_either}
use Rattle.lb_journal.specs.Journal.{Journal, Left, replay}
use Rattle.lb_journal.specs.Known.{KnowsRest}
use Rattle.lb_journal.specs.Merge.{closing_out, is_end, is_out_at_rest, queue_list}
use Rattle.lb_journal.specs.Owners.{ReadsAll, ReadsFigure, SeatUses, UsesVersion, lists_of, published}
use Rattle.lb_board.specs.Board.{WriterIs, Witnesses, seen_at}
use Rattle.lb_cell.specs.Cells.{IsPlain}
use Rattle.lb_cell.specs.Kinds.{is_of_lane, is_of_queue}
use Rattle.lb_cell.specs.LastEntries.{fact_left}
use Rattle.lb_cell.specs.Reads.{PlainIsKept, SawIsRead}
use Rattle.lb_lane.specs.Lanes.{LaneIs}
use Rattle.lb_lane.specs.Publishers.{PublisherIs, PublisherKeeps, IsPub}
use Rattle.lb_cpu.specs.Ends.{LeftCell, LeftLane, LaneIsLeft}
use Rattle.lb_end.specs.Ends.{IsFirstCourse, KnowsLast, KeptLists, AreReplays, KnowLasts, NothingCloses}
use Rattle.lb_cpu.specs.Numbering.{EachOfTwo, EachOfThree}
use Rattle.lb_cpu.proofs.Places.{item_at, in_front, behind, one_item, all_at, of_mapped, mapped_at}

abbrev Seats : Type 0
Seats = List (SeatIs Journal)

-- ---- numbers
pub numbered_at : (t : TableId) (k : ℕ) (ss : Seats)
    → ((i : ℕ) (s : SeatIs Journal) → slice_get ss i ≡ Some s → (s.table ≡ t) × (s.number ≡ k + i)) → Numbered t k ss
numbered_at t k [] h = tt
numbered_at t k (s ∷ ss) h =
    let first = h 0 s refl in (
      first.0,
      (let n = first.1 in omega arith),
      numbered_at t (k + 1) ss (λ i x e. let y = h (suc i) x e in (y.0, (let n = y.1 in omega arith))),
    )

again : (t : TableId) (j k : ℕ) (ss : Seats) → j ≡ k → Numbered t j ss → Numbered t k ss
again t j k ss e h = subst (λ (n : ℕ). Numbered t n ss) e h

pub numbered_join : (t : TableId) (k : ℕ) (xs ys : Seats) → Numbered t k xs → Numbered t (k + length xs) ys
    → Numbered t k (xs ++ ys)
numbered_join t k [] ys hx hy = again t (k + 0) k ys (omega arith) hy
numbered_join t k (x ∷ xs) ys hx hy = (
  hx.0,
  hx.1,
  numbered_join t (k + 1) xs ys hx.2 (again t (k + length (x ∷ xs)) (k + 1 + length xs) ys (omega arith) hy),
)

-- ---- what is there
empty_all : (P : Drawn Journal → Type 0) (ss : Seats) → AllEmpty ss → All (λ s. All P s.list) ss
empty_all P [] h = All-nil (λ (s : SeatIs Journal). All P s.list)
empty_all P (s ∷ ss) h =
    All-cons (λ (s : SeatIs Journal). All P s.list) s ss (subst (All P) (sym h.0) (All-nil P)) (empty_all P ss h.5)

empty_uses : (h : Header) (code : Coded Journal) (ss : Seats) → AllEmpty ss → All (SeatUses h code) ss
empty_uses h code [] e = All-nil (SeatUses h code)
empty_uses h code (s ∷ ss) e =
    let P : Drawn Journal → Type 0 = λ d. UsesVersion h code s.read d.ticket d.item d.item.entry.what in
    All-cons (SeatUses h code) s ss (subst (All P) (sym e.0) (All-nil P)) (empty_uses h code ss e.5)

-- the parts of all seats: the publisher's, those of the lanes, the unused ones, and those of the queues
pub record Parts (p : SeatIs Journal) (ls us qs all : Seats) (lanes : ℕ) : Type 0 where
  pub all_are : all ≡ p ∷ (ls ++ us ++ qs)
  pub of_lanes : length ls ≡ lanes
  pub unused : lanes + length us ≡ 16

pub lane_seat : (p : SeatIs Journal) (ls us qs all : Seats) (lanes lane : ℕ) (s : SeatIs Journal) → Parts p ls us qs all lanes
    → slice_get ls lane ≡ Some s → slice_get all (lane + 1) ≡ Some s
lane_seat p ls us qs all lanes lane s parts e =
    ap (λ (l : Seats). slice_get l (lane + 1)) parts.all_are
    ∙ behind (p ∷ []) (ls ++ us ++ qs) (lane + 1) lane s (omega arith)
    (in_front (ls ++ us) qs lane s (in_front ls us lane s e))

pub queue_seat : (p : SeatIs Journal) (ls us qs all : Seats) (lanes cpu : ℕ) (s : SeatIs Journal) → Parts p ls us qs all lanes
    → slice_get qs cpu ≡ Some s → slice_get all (17 + cpu) ≡ Some s
queue_seat p ls us qs all lanes cpu s parts e =
    let n = length-append ls us in
    let l = parts.of_lanes in
    let u = parts.unused in
    ap (λ (x : Seats). slice_get x (17 + cpu)) parts.all_are
    ∙ behind (p ∷ (ls ++ us)) qs (17 + cpu) cpu s (omega arith) e

list_at : (ss : Seats) (k : ℕ) (s : SeatIs Journal) → slice_get ss k ≡ Some s → slice_index_or (lists_of ss) k [] ≡ s.list
list_at ss k s e = mapped_at (λ (x : SeatIs Journal). x.list) ss k s [] e

-- what holds of each part holds of all
pub all_parts : (P : SeatIs Journal → Type 0) (p : SeatIs Journal) (ls us qs all : Seats) (lanes : ℕ)
    → Parts p ls us qs all lanes → P p → All P ls → All P us → All P qs → All P all
all_parts P p ls us qs all lanes parts hp hl hu hq =
    subst (λ (ss : Seats). All P ss) (sym parts.all_are)
    (All-cons P p (ls ++ us ++ qs) hp (All-append P (ls ++ us) qs (All-append P ls us hl hu) hq))

-- ---- the publisher's list
module _ (h : Header) (book : TableId) (versions : Book) (code : Coded Journal) (p : PublisherIs)
    (keeps : PublisherKeeps h book versions p) where
  one_pub : (k : ℕ) (d : Drawn Journal) → k < length p.seat.list → IsPub h p k (get_or p.seat.list k d)
  one_pub k d lt = keeps.pubs k d lt

  pub pub_headers : All (λ d. d.item.header ≡ h) p.seat.list
  pub_headers k d lt = (one_pub k d lt).header

  pub pub_uses : SeatUses h code p.seat
  pub_uses k d lt =
      let x = get_or p.seat.list k d in
      subst (λ (w : What). UsesVersion h code p.seat.read x.ticket x.item w) (sym (one_pub k d lt).what) tt

  pub pub_figures : (lists : List (List (Drawn Journal))) → All (ReadsAll h lists) p.seat.list
  pub_figures lists k d lt =
      let x = get_or p.seat.list k d in
      let F : CpuFig → Type 0 = ReadsFigure h lists x.ticket in
      subst (λ (fs : List CpuFig). All F fs) (sym (one_pub k d lt).figs) (All-nil F)

  pub pub_open : All (λ d. (closing_out d.item ≡ false) × (is_end d.item.entry.what ≡ false)) p.seat.list
  pub_open k d lt =
      let x = get_or p.seat.list k d in
      subst (λ (w : What). ((is_out_at_rest w x.item.course.form && (x.item.entry.lane == 0)) ≡ false) × (is_end w ≡ false))
      (sym (one_pub k d lt).what) (refl, refl)

-- ---- the lists of lanes and of queues
lane_kind : (w : What) (f : Form) → is_of_lane w ≡ true → (is_out_at_rest w f ≡ false) × (is_end w ≡ false)
lane_kind (Row n m command) f h = (refl, refl)
lane_kind (Adopt v kind cpu) f h = (refl, refl)
lane_kind (Look p x names d) f h = (refl, refl)
lane_kind (Scan names t) f h = (refl, refl)
lane_kind (Pub v) f h = absurd (false≢true h)
lane_kind (End m) f h = absurd (false≢true h)
lane_kind (Did r) f h = absurd (false≢true h)
lane_kind (Out c to ids) f h = absurd (false≢true h)
lane_kind (Landed ids) f h = absurd (false≢true h)
lane_kind (Turn ps) f h = absurd (false≢true h)
lane_kind Shut f h = absurd (false≢true h)
lane_kind (Close p o i n) f h = absurd (false≢true h)
lane_kind (Ask r) f h = absurd (false≢true h)
lane_kind (Kick r) f h = absurd (false≢true h)
lane_kind Over f h = absurd (false≢true h)

queue_kind : (w : What) → is_of_queue w ≡ true → is_end w ≡ false
queue_kind (End m) h = absurd (false≢true h)
queue_kind (Row n m command) h = refl
queue_kind (Adopt v kind cpu) h = refl
queue_kind (Look p x names d) h = refl
queue_kind (Scan names t) h = refl
queue_kind (Pub v) h = refl
queue_kind (Did r) h = refl
queue_kind (Out c to ids) h = refl
queue_kind (Landed ids) h = refl
queue_kind (Turn ps) h = refl
queue_kind Shut h = refl
queue_kind (Close p o i n) h = refl
queue_kind (Ask r) h = refl
queue_kind (Kick r) h = refl
queue_kind Over h = refl

pub own_open : (d : Drawn Journal) → is_of_lane d.item.entry.what ≡ true
    → (closing_out d.item ≡ false) × (is_end d.item.entry.what ≡ false)
own_open d h =
    let kind = lane_kind d.item.entry.what d.item.course.form h in
    (ap (λ (b : Bool). b && (d.item.entry.lane == 0)) kind.0, kind.1)

plain_open : (h : Header) (d : Drawn Journal) → IsPlain h d → (closing_out d.item ≡ false) × (is_end d.item.entry.what ≡ false)
plain_open h d x = (x.goes_on, queue_kind d.item.entry.what x.of_queue)

open_of : (P Q : Drawn Journal → Type 0) (ds : List (Drawn Journal)) → ((d : Drawn Journal) → P d → Q d) → All P ds → All Q ds
open_of P Q ds f h k d lt = f (get_or ds k d) (h k d lt)

-- ---- from the parts
-- what is left of the owners, and that the readers saw what the writers published
pub record IsLeft (h : Header) (book : TableId) (board : List TableId) (versions : Book) (code : Coded Journal)
    (left : Coded Left) (p : PublisherIs) (lanes : List LaneIs) (ls us : Seats) (queues : List BookedQueue) (qs : Seats)
    (ws : List WriterIs) (all : Seats) : Type 0 where
  pub parts : Parts p.seat ls us qs all h.lanes
  pub publisher : PublisherKeeps h book versions p
  pub of_lanes : EachOfTwo (LeftLane h book board versions code left) lanes ls
  pub numbered : Numbered book (h.lanes + 1) us
  pub empty : AllEmpty us
  pub of_queues : EachOfThree (LeftCell h book board) queues qs ws
  pub cpus : length queues ≡ length h.cpus
  pub cells : length board ≡ length h.cpus
  pub seen : All (λ (l : LaneIs). Witnesses (length board) ws l.side.known.reader) lanes

module _ (h : Header) (book : TableId) (board : List TableId) (versions : Book) (code : Coded Journal) (left : Coded Left)
    (p : PublisherIs) (lanes : List LaneIs) (ls us : Seats) (queues : List BookedQueue) (qs : Seats) (ws : List WriterIs)
    (all : Seats) (x : IsLeft h book board versions code left p lanes ls us queues qs ws all) where
  -- the lane of a seat
  of_seat : (k : ℕ) (s : SeatIs Journal) → slice_get ls k ≡ Some s
      → (l : LaneIs) × (slice_get lanes k ≡ Some l) × LeftLane h book board versions code left k l s
  of_seat k s e =
      let lt = slice_get_within ls k s e in
      let n = x.of_lanes.count in
      let l = item_at lanes k (omega arith) in (
        l.0,
        l.1,
        x.of_lanes.at k l.0 s l.1 e,
      )

  -- the seat of a lane
  of_lane : (k : ℕ) (l : LaneIs) → slice_get lanes k ≡ Some l
      → (s : SeatIs Journal) × (slice_get ls k ≡ Some s) × LeftLane h book board versions code left k l s
  of_lane k l e =
      let lt = slice_get_within lanes k l e in
      let n = x.of_lanes.count in
      let s = item_at ls k (omega arith) in (
        s.0,
        s.1,
        x.of_lanes.at k l s.0 e s.1,
      )

  -- the queue and the writer of a seat
  of_queue : (k : ℕ) (s : SeatIs Journal) → slice_get qs k ≡ Some s
      → (q : BookedQueue) × (slice_get queues k ≡ Some q) × (w : WriterIs) × (slice_get ws k ≡ Some w)
      × LeftCell h book board k q s w
  of_queue k s e =
      let lt = slice_get_within qs k s e in
      let n = x.of_queues.second in
      let m = x.of_queues.third in
      let q = item_at queues k (omega arith) in
      let w = item_at ws k (omega arith) in (
        q.0,
        q.1,
        w.0,
        w.1,
        x.of_queues.at k q.0 s w.0 q.1 e w.1,
      )

  pub all_numbered : Numbered book 0 all
  all_numbered =
      let l = x.parts.of_lanes in
      let u = x.parts.unused in
      let both = length-append ls us in
      let lanes_are : Numbered book 1 ls =
      numbered_at book 1 ls (λ i s e. let y = of_seat i s e in (y.2.table, y.2.number)) in
      let queues_are : Numbered book 17 qs =
      numbered_at book 17 qs (λ i s e. let y = of_queue i s e in (y.4.table, y.4.number)) in
      let front : Numbered book 1 (ls ++ us) =
      numbered_join book 1 ls us lanes_are (again book (h.lanes + 1) (1 + length ls) us (omega arith) x.numbered) in
      let rest : Numbered book (0 + 1) (ls ++ us ++ qs) =
      again book 1 (0 + 1) (ls ++ us ++ qs) (omega arith)
      (numbered_join book 1 (ls ++ us) qs front (again book 17 (1 + length (ls ++ us)) qs (omega arith) queues_are)) in
      subst (λ (ss : Seats). Numbered book 0 ss) (sym x.parts.all_are) (x.publisher.table, x.publisher.number, rest)

  pub all_counted : length all ≡ 17 + length h.cpus
  all_counted =
      let e = ap (λ (ss : Seats). length ss) x.parts.all_are in
      let n = length-append (ls ++ us) qs in
      let m = length-append ls us in
      let l = x.parts.of_lanes in
      let u = x.parts.unused in
      let q = x.of_queues.second in
      let c = x.cpus in
      omega arith

  -- the list of a queue
  queue_is : (cpu : ℕ) (s : SeatIs Journal) → slice_get qs cpu ≡ Some s → queue_list (lists_of all) cpu ≡ map pair s.list
  queue_is cpu s e =
      ap (λ (ds : List (Drawn Journal)). map pair ds)
      (list_at all (17 + cpu) s (queue_seat p.seat ls us qs all h.lanes cpu s x.parts e))

  pub all_replays : AreReplays h all queues
  all_replays cpu q e =
      let lt = slice_get_within queues cpu q e in
      let n = x.of_queues.second in
      let s = item_at qs cpu (omega arith) in
      let y = of_queue cpu s.0 s.1 in
      let same : y.0 ≡ q = one_item queues cpu y.0 q y.1 e in
      ap (λ (k : BookedQueue). k.state) (sym same) ∙ y.4.replayed
      ∙ ap (λ (ds : List (ℕ × Journal)). replay h cpu ds) (sym (queue_is cpu s.0 s.1))

  -- what a lane's reader saw of a CPU is a beginning of what its queue published
  pub saw_beginning : (k : ℕ) (l : LaneIs) → slice_get lanes k ≡ Some l → (cpu : ℕ)
      → IsPrefix (seen_at l.side.known.reader cpu) (published h cpu (queue_list (lists_of all) cpu))
  saw_beginning k l e cpu =
      elim (cases_lt cpu (length board)) [
        | inl lt ↦
            let n = x.of_queues.second in
            let c = x.cpus in
            let b = x.cells in
            let s = item_at qs cpu (omega arith) in
            let y = of_queue cpu s.0 s.1 in
            let here : Witnesses (length board) ws l.side.known.reader =
            subst (λ (m : LaneIs). Witnesses (length board) ws m.side.known.reader) (seen_lane k l e)
            (x.seen k l (slice_get_within lanes k l e)) in
            let figures : y.2.figures ≡ published h cpu (queue_list (lists_of all) cpu) =
            y.4.figures ∙ ap (λ (ds : List (ℕ × Journal)). published h cpu ds) (sym (queue_is cpu s.0 s.1)) in
            subst (λ (figs : List Fig). IsPrefix (seen_at l.side.known.reader cpu) figs) figures (here cpu y.2 lt y.3)
        | inr ge ↦
            let sizes = (of_lane k l e).2.sizes in
            let none : seen_at l.side.known.reader cpu ≡ [] =
            get_or_past l.side.known.reader.seen cpu [] (omega arith) in
            subst (λ (figs : List Fig). IsPrefix figs (published h cpu (queue_list (lists_of all) cpu))) (sym none)
            (published h cpu (queue_list (lists_of all) cpu), refl)
      ]
    where
      seen_lane : (k : ℕ) (l : LaneIs) → slice_get lanes k ≡ Some l → get_or lanes k l ≡ l
      seen_lane k l e =
          one_item lanes k (get_or lanes k l) l (slice_get-get_or lanes k l (slice_get_within lanes k l e)) e

  pub all_kept : PlainIsKept → SawIsRead → KeptLists h code all
  all_kept plain read =
      let H : SeatIs Journal → Type 0 = λ s. All (λ (d : Drawn Journal). d.item.header ≡ h) s.list in
      let F : SeatIs Journal → Type 0 = λ s. All (ReadsAll h (lists_of all)) s.list in
      let queue : (s : SeatIs Journal) (i : ℕ) → slice_get qs i ≡ Some s → H s × SeatUses h code s × F s =
      λ s i e. plain h code (lists_of all) s (of_queue i s e).4.plain in
      record {
        headers =
            all_parts H p.seat ls us qs all h.lanes x.parts (pub_headers h book versions code p x.publisher)
            (all_at H ls (λ i s e. (of_seat i s e).2.headers)) (empty_all (λ d. d.item.header ≡ h) us x.empty)
            (all_at H qs (λ i s e. (queue s i e).0));
        uses =
            all_parts (SeatUses h code) p.seat ls us qs all h.lanes x.parts (pub_uses h book versions code p x.publisher)
            (all_at (SeatUses h code) ls (λ i s e. (of_seat i s e).2.uses)) (empty_uses h code us x.empty)
            (all_at (SeatUses h code) qs (λ i s e. (queue s i e).1));
        figures =
            all_parts F p.seat ls us qs all h.lanes x.parts
            (pub_figures h book versions code p x.publisher (lists_of all))
            (all_at F ls
            (λ i s e. let y = of_seat i s e in
            read h (lists_of all) y.0.side.known.reader s.list (saw_beginning i y.0 y.1) y.2.saw))
            (empty_all (ReadsAll h (lists_of all)) us x.empty)
            (all_at F qs (λ i s e. (queue s i e).2));
      }

  pub all_lasts : KnowLasts left (length h.cpus) (map (λ (l : LaneIs). l.side.course) lanes)
      (map (λ (l : LaneIs). l.side.known.ticket) lanes) all
  all_lasts lane c t s at_c at_t at_s =
      let l = of_mapped (λ (l : LaneIs). l.side.course) lanes lane c at_c in
      let m = of_mapped (λ (l : LaneIs). l.side.known.ticket) lanes lane t at_t in
      let y = of_lane lane l.0 l.1 in
      let same_lane : m.0 ≡ l.0 = one_item lanes lane m.0 l.0 m.1 l.1 in
      let same_seat : y.0 ≡ s =
      one_item all (lane + 1) y.0 s (lane_seat p.seat ls us qs all h.lanes lane y.0 x.parts y.1) at_s in
      let ticket : l.0.side.known.ticket ≡ t = ap (λ (k : LaneIs). k.side.known.ticket) (sym same_lane) ∙ m.2 in
      subst (λ (u : SeatIs Journal). KnowsLast left (length h.cpus) lane c t u) same_seat
      (subst (λ (n : ℕ). KnowsLast left (length h.cpus) lane c n y.0) ticket
      (subst (λ (z : Course). KnowsLast left (length h.cpus) lane z l.0.side.known.ticket y.0) l.2 y.2.last))

  pub first_course : (c : Course) → slice_get (map (λ (l : LaneIs). l.side.course) lanes) 0 ≡ Some c → IsFirstCourse h c
  first_course c at_c =
      let l = of_mapped (λ (l : LaneIs). l.side.course) lanes 0 c at_c in
      subst (IsFirstCourse h) l.2 (of_lane 0 l.0 l.1).2.course

  pub all_open : NothingCloses all
  all_open =
      let O : Drawn Journal → Type 0 = λ d. (closing_out d.item ≡ false) × (is_end d.item.entry.what ≡ false) in
      let P : SeatIs Journal → Type 0 = λ s. All O s.list in
      All-map (All O) (λ (s : SeatIs Journal). s.list) all
      (all_parts P p.seat ls us qs all h.lanes x.parts (pub_open h book versions code p x.publisher)
      (all_at P ls
      (λ i s e. open_of (λ d. is_of_lane d.item.entry.what ≡ true) O s.list own_open (of_seat i s e).2.own))
      (empty_all O us x.empty)
      (all_at P qs (λ i s e. open_of (IsPlain h) O s.list (plain_open h) (of_queue i s e).4.plain)))

  pub left_lane : (k : ℕ) (l : LaneIs) → slice_get lanes k ≡ Some l → LaneIsLeft left all k l
  left_lane k l e =
      let y = of_lane k l e in
      let there = lane_seat p.seat ls us qs all h.lanes k y.0 x.parts y.1 in
      record {
        seat = y.0;
        there = there;
        list = y.2.list;
        read = y.2.read;
        rows =
            ap (λ (es : List Entry). rows_drawn es)
            (ap (λ (ds : List (Drawn Journal)). map (λ (d : ℕ × Journal). d.1.entry) (map pair ds))
            (list_at all (k + 1) y.0 there)
            ∙ unpaired y.0.list)
            ∙ y.2.rows;
        rest = λ one form some. rests y.0 k l one form some y.2.last l.side.known.ticket refl;
      }
    where
      unpaired : (ds : List (Drawn Journal))
          → map (λ (d : ℕ × Journal). d.1.entry) (map pair ds) ≡ map (λ (d : Drawn Journal). d.item.entry) ds
      unpaired [] = refl
      unpaired (d ∷ ds) = ap (λ (es : List Entry). d.item.entry ∷ es) (unpaired ds)

      rests : (s : SeatIs Journal) (k : ℕ) (l : LaneIs) → 1 ≤ k → l.side.course.form ≡ Rest → (s.list ≡ [] → ⊥)
          → KnowsLast left (length h.cpus) k l.side.course l.side.known.ticket s → (t : ℕ) → t ≡ l.side.known.ticket
          → KnowsRest left (s.fresh ++ s.known) k
      rests s k l one form some last zero e = absurd (some (last.none (sym e)).0)
      rests s k l one form some last (suc t) e = record {
        fact = fact_left left k l.side.course l.side.known.ticket;
        there =
            has_either s.fresh s.known (fact_left left k l.side.course l.side.known.ticket)
            (inr (last.some one (omega arith)));
        lane_is = refl;
        course = l.side.course;
        left = refl;
        rest = form;
      }
