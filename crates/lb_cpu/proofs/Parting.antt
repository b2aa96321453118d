-- A cell and a lane that were taken apart: what they kept is known of what is left.
-- For `Cpus::rest`, `end_cell` and `end_lane`.
use Rattle.std.proofs.Common.{◌≤◌, ℕ, zero, suc, true, ◌≡◌, inl, inr, ◌+◌, Option, Some, None, List, [], ◌∷◌, ◌++◌, map, length, slice_get, All, refl, sym, ap, subst, ◌∙◌, arith}
use Rattle.std.proofs.lemmas.Option.{same_Some, slice_get_within}
use Rattle.std.proofs.lemmas.List.{length-map}
use base.Stored.{Coded}
use Rattle.atomic_table.specs.Seated.{TableId}
use Rattle.logbook.specs.Pages.{Book}
use Rattle.lb_queue.specs.Queue.{BookedQueue}
use Rattle.lb_trace.specs.declared.trace.Header.{Header}
use Rattle.lb_core.specs.declared.course.Course.{Course}
use Rattle.lb_core.specs.OfTrace.{rows_drawn}
use Rattle.lb_ticket.specs.declared.item.Drawn.{Drawn}
use Rattle.lb_ticket.specs.declared.view.Fact.{Fact}
use Rattle.lb_ticket.specs.declared.view.Held.{Held}
use Rattle.lb_ticket.specs.Facts.{HasFact}
use Rattle.lb_ticket.specs.Seats.{KeepsList, NoteIs, SeatIs}
use Rattle.lb_ticket.specs.Tickets.{pair}
use Rattle.lb_ticket.proofs.Members.{has_either}
use Rattle.lb_journal.specs.Journal.{Journal, Left, replay}
use Rattle.lb_journal.specs.Owners.{UsesVersion, published}
use Rattle.lb_board.specs.Board.{Sight, WriterIs}
use Rattle.lb_topub.specs.Versions.{VersionsSeen}
use Rattle.lb_cell.specs.declared.log.Log.{Log}
use Rattle.lb_cell.specs.Cells.{CellIs, CellKeeps, IsPlain, LaneKeeps as SideKeeps}
use Rattle.lb_cell.specs.Kinds.{is_of_lane}
use Rattle.lb_cell.specs.LastEntries.{IsLast, facts_of, fact_left}
use Rattle.lb_cell.specs.Reads.{SawAll}
use Rattle.lb_lane.specs.Lanes.{LaneIs, LaneKeeps}
use Rattle.lb_cpu.specs.Ends.{LeftCell, LeftLane, LeftNote}
use Rattle.lb_end.specs.Ends.{KnowsLast}
use Rattle.lb_cpu.specs.Numbering.{EachOfTwo, EachOfThree}
use Rattle.lb_cpu.proofs.Places.{item_at, all_at, of_mapped}

-- ---- a cell
pub left_cell : (h : Header) (book : TableId) (board : List TableId) (c : CellIs) (cpu : ℕ) (q : BookedQueue)
    (s : SeatIs Journal) (w : WriterIs) → q ≡ c.queue → record { seat = s; writer = w } ≡ c.log → CellKeeps h book board c
    → c.log.writer.cpu ≡ cpu → LeftCell h book board cpu q s w
left_cell h book board c cpu q s w eq log keeps is =
    let same_seat : s ≡ c.log.seat = ap (λ (l : Log). l.seat) log in
    let same_writer : w ≡ c.log.writer = ap (λ (l : Log). l.writer) log in
    let list : c.log.seat.list ≡ s.list = ap (λ (x : SeatIs Journal). x.list) (sym same_seat) in
    record {
      table = ap (λ (x : SeatIs Journal). x.table) same_seat ∙ keeps.table;
      number = ap (λ (x : SeatIs Journal). x.number) same_seat ∙ keeps.number ∙ ap (λ (n : ℕ). 17 + n) is;
      plain = subst (λ (ds : List (Drawn Journal)). All (IsPlain h) ds) list keeps.plain;
      replayed =
          ap (λ (x : BookedQueue). x.state) eq ∙ keeps.replayed
          ∙ ap (λ (n : ℕ). replay h n (map pair c.log.seat.list)) is
          ∙ ap (λ (ds : List (Drawn Journal)). replay h cpu (map pair ds)) list;
      cpu_is = ap (λ (x : WriterIs). x.cpu) same_writer ∙ is;
      of_board = subst (λ (x : WriterIs). slice_get board x.cpu ≡ Some x.cell) (sym same_writer) keeps.of_board;
      figures =
          ap (λ (x : WriterIs). x.figures) same_writer ∙ keeps.figures
          ∙ ap (λ (n : ℕ). published h n (map pair c.log.seat.list)) is
          ∙ ap (λ (ds : List (Drawn Journal)). published h cpu (map pair ds)) list;
    }

-- ---- a lane
lasts : (book : TableId) (left : Coded Left) (cpus lane : ℕ) (course : Course) (ticket : ℕ) (s : SeatIs Journal)
    (known : List Fact) (o : Option NoteIs) → IsLast book left cpus lane course ticket o
    → (1 ≤ lane → s.known ≡ known ++ facts_of o)
    → (ticket ≡ 0 → s.list ≡ []) → KnowsLast left cpus lane course ticket s
lasts book left cpus lane course ticket s known None h e first = record {
  none = λ z. (first z, h.1);
  some = λ one lt. let z = h.0 in absurd (omega arith);
}
lasts book left cpus lane course ticket s known (Some n) h e first = record {
  none = λ z. let lt = h.0 in absurd (omega arith);
  some = λ one lt.
      let f = fact_left left lane course ticket in
      let here : HasFact f n.facts = subst (λ (fs : List Fact). HasFact f fs) (sym h.2) (inl refl) in
      subst (λ (fs : List Fact). HasFact f fs) (sym (e one)) (has_either known n.facts f (inr here));
}

pub left_lane : (h : Header) (book : TableId) (board : List TableId) (versions : Book) (code : Coded Journal)
    (left : Coded Left) (l : LaneIs) (s : SeatIs Journal) → KeepsList l.side.seat s
    → (1 ≤ l.side.number → s.known ≡ l.side.seat.known ++ facts_of l.side.known.note) → s.read ≡ l.side.seat.read
    → SideKeeps h book board left l.side → LaneKeeps h board versions code l
    → length l.side.known.reader.seen ≡ length l.side.known.reader.cells
    → LeftLane h book board versions code left l.side.number l s
left_lane h book board versions code left l s same known read side keeps sizes =
    let list : l.side.seat.list ≡ s.list = sym same.2 in
    let Uses : List Held → List (Drawn Journal) → Type 0 =
    λ r ds. All (λ d. UsesVersion h code r d.ticket d.item d.item.entry.what) ds in
    record {
      table = same.0 ∙ side.table;
      number = (let n = same.1 in let o = side.owner in omega arith);
      list = same.2;
      read = read;
      headers = subst (λ (ds : List (Drawn Journal)). All (λ d. d.item.header ≡ h) ds) list side.headers;
      own = subst (λ (ds : List (Drawn Journal)). All (λ d. is_of_lane d.item.entry.what ≡ true) ds) list keeps.goes_on;
      rows =
          ap (λ (ds : List (Drawn Journal)). rows_drawn (map (λ d. d.item.entry) ds)) same.2 ∙ keeps.rows;
      uses =
          subst (λ (ds : List (Drawn Journal)). Uses s.read ds) list
          (subst (λ (r : List Held). Uses r l.side.seat.list) (sym read) keeps.uses);
      last =
          lasts book left (length h.cpus) l.side.number l.side.course l.side.known.ticket s l.side.seat.known
          l.side.known.note side.last known (λ z. same.2 ∙ side.first z);
      course = (side.named, side.quiet);
      cells = side.cells;
      sizes = sizes ∙ ap (λ (ts : List TableId). length ts) side.cells;
      saw = subst (λ (ds : List (Drawn Journal)). SawAll l.side.known.reader ds) list keeps.saw;
      versions_are = keeps.looker;
    }

pub left_note : (h : Header) (book : TableId) (board : List TableId) (left : Coded Left) (l : LaneIs) (o : Option NoteIs)
    → SideKeeps h book board left l.side → (l.side.number ≡ 0 → o ≡ l.side.known.note)
    → LeftNote book left (length h.cpus) l.side.number l o
left_note h book board left l o side same = record {
  first = λ zero_is.
      let n = length h.cpus in
      let t = l.side.known.ticket in
      subst (λ (k : ℕ). IsLast book left n k l.side.course t o) zero_is
      (subst (λ (x : Option NoteIs). IsLast book left n l.side.number l.side.course t x) (sym (same zero_is)) side.last);
}

-- ---- all of them
same_items : {A : Type 0} (xs ys : List A) → length xs ≡ length ys
    → ((i : ℕ) (x : A) → slice_get xs i ≡ Some x → slice_get ys i ≡ Some x) → xs ≡ ys
same_items [] [] n h = refl
same_items [] (y ∷ ys) n h = absurd (omega arith)
same_items (x ∷ xs) [] n h = absurd (omega arith)
same_items {A = A} (x ∷ xs) (y ∷ ys) n h =
    let first : y ≡ x = same_Some y x (h 0 x refl) in
    ap (λ (z : A). z ∷ xs) (sym first)
    ∙ ap (λ (l : List A). y ∷ l) (same_items xs ys (omega arith) (λ i z e. h (suc i) z e))

-- the writers are those of the board
pub writers_are : (h : Header) (book : TableId) (board : List TableId) (queues : List BookedQueue) (qs : List (SeatIs Journal))
    (ws : List WriterIs) → EachOfThree (LeftCell h book board) queues qs ws → length queues ≡ length board
    → map (λ (w : WriterIs). w.cell) ws ≡ board
writers_are h book board queues qs ws of n =
    let f : WriterIs → TableId = λ w. w.cell in
    let m = of.third in
    let k = of.second in
    same_items (map f ws) board (let l = length-map ws f in omega arith)
    (λ i t e.
    let w = of_mapped f ws i t e in
    let lt = slice_get_within ws i w.0 w.1 in
    let q = item_at queues i (omega arith) in
    let s = item_at qs i (omega arith) in
    let x = of.at i q.0 s.0 w.0 q.1 s.1 w.1 in
    ap (λ (j : ℕ). slice_get board j) (sym x.cpu_is) ∙ x.of_board ∙ ap (λ (u : TableId). Some u) w.2)

module _ (h : Header) (book : TableId) (board : List TableId) (versions : Book) (code : Coded Journal) (left : Coded Left)
    (lanes : List LaneIs) (ls : List (SeatIs Journal)) (of : EachOfTwo (LeftLane h book board versions code left) lanes ls) where
  of_lane : (i : ℕ) (l : LaneIs) → slice_get lanes i ≡ Some l
      → (s : SeatIs Journal) × LeftLane h book board versions code left i l s
  of_lane i l e =
      let lt = slice_get_within lanes i l e in
      let n = of.count in
      let s = item_at ls i (omega arith) in
      (s.0, of.at i l s.0 e s.1)

  -- so are the readers, and the lookers are those of the publisher
  pub readers_are : All (λ (r : Sight). r.cells ≡ board) (map (λ (l : LaneIs). l.side.known.reader) lanes)
  readers_are =
      let f : LaneIs → Sight = λ l. l.side.known.reader in
      all_at (λ (r : Sight). r.cells ≡ board) (map f lanes)
      (λ i r e. let l = of_mapped f lanes i r e in ap (λ (x : Sight). x.cells) (sym l.2) ∙ (of_lane i l.0 l.1).1.cells)

  pub lookers_are : All (λ (k : VersionsSeen). k.book ≡ versions) (map (λ (l : LaneIs). l.looker) lanes)
  lookers_are =
      let f : LaneIs → VersionsSeen = λ l. l.looker in
      all_at (λ (k : VersionsSeen). k.book ≡ versions) (map f lanes)
      (λ i k e.
      let l = of_mapped f lanes i k e in
      ap (λ (x : VersionsSeen). x.book) (sym l.2) ∙ (of_lane i l.0 l.1).1.versions_are)

-- what holds of all images holds of the items
pub unmapped : {A B : Type 0} (f : A → B) (P : B → Type 0) (xs : List A) → All P (map f xs) → All (λ x. P (f x)) xs
unmapped f P [] h k d lt = absurd (omega arith)
unmapped f P (x ∷ xs) h zero d lt = h 0 (f d) (omega arith)
unmapped f P (x ∷ xs) h (suc k) d lt = unmapped f P xs (λ j e l. h (suc j) e (omega arith)) k d (omega arith)
