-- What the owners keep of their own lists, and what ties the lists of two: what was read of the
-- publisher's list, what the queues published, the rows of a trace, and where the closing entries begin.
-- From these, when the book is closed, come the premises of the merge, and that the history is the trace's.
-- Cited by the laws `owners_merge`, `masks_are_read`, `uses_stay` and others, and `close_in_order`; also by
-- `lb_cell`, `lb_cpu` and other crates.
use Rattle.std.specs.Prelude.{◌&&◌, nat_lt, is_some, find, ℕ, ◌≡◌, ◌+◌, ◌<◌, ◌≤◌, false, true, Some, slice_get, slice_set, List, [], ◌∷◌, ◌++◌, map, length, All, ◌⊎◌}
use Rattle.std.specs.List.{range_with_len, slice_index_or}
use base.Stored.{Coded}
use Rattle.lb_base.specs.declared.figure.Fig.{Fig}
use Rattle.lb_base.specs.Sets.{mask_where}
use Rattle.lb_queue.specs.Requests.{has_pending}
use Rattle.lb_queue.specs.Figures.{figure}
use Rattle.lb_trace.specs.declared.trace.Header.{Header}
use Rattle.lb_trace.specs.declared.trace.Row.{Row as TraceRow}
use Rattle.lb_trace.specs.declared.trace.Trace.{Trace}
use Rattle.lb_trace.specs.Accepted.{IsTrace}
use Rattle.lb_core.specs.declared.entry.CpuFig.{CpuFig}
use Rattle.lb_core.specs.declared.entry.Owner.{Owner}
use Rattle.lb_core.specs.declared.entry.Owner.TheVariants.{Publisher, Lane}
use Rattle.lb_core.specs.declared.entry.What.{What}
use Rattle.lb_core.specs.declared.entry.What.TheVariants.{Adopt, Pub}
use Rattle.lb_core.specs.OfTrace.{rows_drawn, of_lane, IsHistoryOf}
use Rattle.lb_ticket.specs.declared.item.Drawn.{Drawn}
use Rattle.lb_ticket.specs.Seats.{SeatIs}
use Rattle.lb_ticket.specs.Seats.{all_facts}
use Rattle.lb_ticket.specs.declared.view.Held.{Held}
use Rattle.lb_ticket.specs.Tickets.{InLists, Closes}
use Rattle.lb_ticket.specs.Facts.{AllUnquoted, HasRead, AllDrawn}
use Rattle.lb_journal.specs.Journal.{Journal, Left, number_of, queue_by_item, replay, meaning_of_journal}
use Rattle.lb_journal.specs.Merge.{list_of, queue_list, Each, closing_out, is_end, is_landing, figure_after, parts_of, pending_before, unserved_before, entries, CarriesRead, CarriesVersion, ClosesBy, ClosingLast, ClosingBegins, HasEnd, MayMerge}
use Rattle.lb_journal.specs.Known.{KnowsRest}

-- ---- the lists
-- it holds of each item of each list
abbrev pub InAll : (Drawn Journal → Type 0) → List (List (Drawn Journal)) → Type 0
InAll P lists = All (λ ds. All P ds) lists

abbrev pub lists_of : List (SeatIs Journal) → List (List (Drawn Journal))
lists_of seats = map (λ s. s.list) seats

-- ---- versions
-- the `pub` of the version was read in the publisher's list before the ticket, and the item carries the
-- masks of the command that it served
pub record ReadsPub (code : Coded Journal) (read : List Held) (ticket : ℕ) (j : Journal) (version : ℕ) : Type 0 where
  pub publ : Drawn Journal
  pub here : HasRead code read ticket publ
  pub owner : publ.item.entry.owner ≡ Publisher
  pub is : publ.item.entry.what ≡ Pub version
  pub masks : j.masks ≡ parts_of publ.item.course.command

-- a `use` is of version 1, with the header's masks, or its `pub` was read
abbrev pub UsesVersion : Header → Coded Journal → List Held → ℕ → Journal → What → Type 0
UsesVersion h code read ticket j (Adopt version kind cpu) =
    ((version ≡ 1) × (j.masks ≡ h.parts)) ⊎ ReadsPub code read ticket j version
UsesVersion h code read ticket j w = Unit {0}

-- so does each item that a seat drew, by what that seat read
abbrev pub SeatUses : Header → Coded Journal → SeatIs Journal → Type 0
SeatUses h code s = All (λ d. UsesVersion h code s.read d.ticket d.item d.item.entry.what) s.list

-- what was read stands in the closed lists: so the masks are those of an earlier `pub`
abbrev pub MasksAreRead : Type 0
MasksAreRead =
    (h : Header) (code : Coded Journal) (seats : List (SeatIs Journal)) → Closes meaning_of_journal (lists_of seats) →
    All (λ s. AllDrawn code s.read (lists_of seats)) seats →
    All (SeatUses h code) seats → Each (λ d. CarriesVersion h (lists_of seats) d.0 d.1 d.1.entry.what) (lists_of seats)

-- so it stays as the seat reads more
abbrev pub UsesStay : Type 0
UsesStay =
    (h : Header) (code : Coded Journal) (read more : List Held) (ds : List (Drawn Journal)) →
    All (λ d. UsesVersion h code read d.ticket d.item d.item.entry.what) ds →
    All (λ d. UsesVersion h code (read ++ more) d.ticket d.item d.item.entry.what) ds

-- ---- figures
-- the figures of a queue after its opening and after each of its items
abbrev pub published : Header → ℕ → List (ℕ × Journal) → List Fig
published h cpu ds = map (figure_after h cpu ds) (range_with_len 0 (length ds + 1))

-- the figure is the one that its queue published under its number, before the ticket
pub record ReadsFigure (h : Header) (lists : List (List (Drawn Journal))) (ticket : ℕ) (f : CpuFig) : Type 0 where
  pub is : slice_get (published h f.cpu (queue_list lists f.cpu)) f.fig.n ≡ Some f.fig
  pub before : f.fig.ticket < ticket

abbrev pub ReadsAll : Header → List (List (Drawn Journal)) → Drawn Journal → Type 0
ReadsAll h lists d = All (ReadsFigure h lists d.ticket) d.item.figs

abbrev pub FiguresAreRead : Type 0
FiguresAreRead =
    (h : Header) (lists : List (List (Drawn Journal))) → Closes meaning_of_journal lists →
    InAll (ReadsAll h lists) lists →
    Each (λ d. CarriesRead h lists d.0 d.1 d.1.entry.what) lists

-- each entry of a queue is one step of it, and adds one figure to those that it published
abbrev pub QueueGrows : Type 0
QueueGrows =
    (h : Header) (cpu : ℕ) (ds : List (ℕ × Journal)) (ticket : ℕ) (j : Journal) →
    let queue = queue_by_item (replay h cpu ds) (length ds) j in
    (replay h cpu (ds ++ (ticket, j) ∷ []) ≡ queue)
    × (published h cpu (ds ++ (ticket, j) ∷ []) ≡ published h cpu ds ++ figure queue (length ds + 1) ticket ∷ [])

-- ---- rows
-- the rows that a lane's own list takes up
abbrev pub own_rows : List (List (Drawn Journal)) → ℕ → List TraceRow
own_rows lists lane = rows_drawn (map (λ d. d.1.entry) (list_of lists (number_of (Lane lane))))

-- the rows of a lane are those of its own list, in their order
abbrev pub RowsAreOwn : Type 0
RowsAreOwn =
    (lists : List (List (Drawn Journal))) → (book : Closes meaning_of_journal lists) → (lane : ℕ) →
    of_lane lane (rows_drawn (entries book.log)) ≡ own_rows lists lane

-- ---- the closing
-- an `in` quotes an `out` that lane 0 drew at rest
pub record QuotesOut (lists : List (List (Drawn Journal))) (j : Journal) : Type 0 where
  pub landing : is_landing j.entry.what ≡ true
  pub out : Drawn Journal
  pub there : InLists out lists
  pub ticket : out.ticket ≡ j.entry.prev
  pub closes : closing_out out.item ≡ true

abbrev pub ClosesAs : List (List (Drawn Journal)) → Journal → Type 0
ClosesAs lists j = (closing_out j ≡ true) ⊎ (is_end j.entry.what ≡ true) ⊎ QuotesOut lists j

-- no item of lane 0's own list, and none after the ticket `cut`, stands below the ticket
abbrev pub IsFirstAbove : List (List (Drawn Journal)) → ℕ → ℕ → Type 0
IsFirstAbove lists cut ticket =
    All (λ e. ticket ≤ e.ticket) (slice_index_or lists (number_of (Lane 0)) [])
    × InAll (λ e. cut < e.ticket → ticket ≤ e.ticket) lists

-- the closing entries are those after the ticket `cut`; the first of them lacks a quote only where lane
-- 0's own list has nothing before it
pub record ClosesSoFar (h : Header) (lists : List (List (Drawn Journal))) (cut : ℕ) : Type 0 where
  pub open_before : InAll (λ d. d.ticket ≤ cut → (closing_out d.item ≡ false) × (is_end d.item.entry.what ≡ false)) lists
  pub closing_after : InAll (λ d. cut < d.ticket → ClosesAs lists d.item) lists
  pub begins : InAll (λ d. cut < d.ticket → d.item.entry.prev ≡ 0 → IsFirstAbove lists cut d.ticket) lists
  pub closes : InAll (λ d. cut < d.ticket → ClosesBy h lists d.ticket d.item.entry.what d.item.entry.owner) lists

pub record ClosesFrom (h : Header) (lists : List (List (Drawn Journal))) (cut : ℕ) : Type 0 where
  pub so_far : ClosesSoFar h lists cut
  pub open so_far use *
  pub ends : HasEnd lists

abbrev pub ClosingIsLast : Type 0
ClosingIsLast =
    (h : Header) (lists : List (List (Drawn Journal))) (cut : ℕ) → Closes meaning_of_journal lists →
    ClosesFrom h lists cut → ClosingLast lists × ClosingBegins lists

-- ---- as the lists grow
-- a list has further items at its end, with tickets from `t` on
pub record ListGrows (t : ℕ) (ds more : List (Drawn Journal)) : Type 0 where
  pub rest : List (Drawn Journal)
  pub is : more ≡ ds ++ rest
  pub late : All (λ d. t ≤ d.ticket) rest

abbrev pub ListsGrow : ℕ → List (List (Drawn Journal)) → List (List (Drawn Journal)) → Type 0
ListsGrow t lists more = (k : ℕ) → ListGrows t (slice_index_or lists k []) (slice_index_or more k [])

-- what was said of the figures that an item carries stays, and so does what was said of a closing entry:
-- what it closes, and, before the further items, which queues ask for it
abbrev pub GrowthKeeps : Type 0
GrowthKeeps =
    (h : Header) (lists more : List (List (Drawn Journal))) (t : ℕ) → ListsGrow t lists more →
    ((d : Drawn Journal) → ReadsAll h lists d → ReadsAll h more d)
    × ((j : Journal) → ClosesAs lists j → ClosesAs more j)
    × ((ticket : ℕ) (w : What) (o : Owner) → ticket ≤ t → ClosesBy h lists ticket w o → ClosesBy h more ticket w o)

-- ---- the closing, entry by entry
-- it starts where nothing closes
abbrev pub ClosingStarts : Type 0
ClosingStarts =
    (h : Header) (lists : List (List (Drawn Journal))) (cut : ℕ) →
    InAll (λ d. (d.ticket ≤ cut) × (closing_out d.item ≡ false) × (is_end d.item.entry.what ≡ false)) lists →
    ClosesSoFar h lists cut

-- the lists once an owner has a further item
abbrev pub with_item : List (List (Drawn Journal)) → ℕ → Drawn Journal → List (List (Drawn Journal))
with_item lists k d = slice_set lists k (slice_index_or lists k [] ++ d ∷ [])

-- it goes on by an item above all others, which lacks a quote only as the first of the closing ones, where
-- lane 0's own list is empty
abbrev pub ClosingGoesOn : Type 0
ClosingGoesOn =
    (h : Header) (lists : List (List (Drawn Journal))) (cut k : ℕ) (d : Drawn Journal) → k < length lists →
    cut < d.ticket → InAll (λ e. e.ticket < d.ticket) lists →
    ClosesAs lists d.item → ClosesBy h lists d.ticket d.item.entry.what d.item.entry.owner →
    (d.item.entry.prev ≡ 0 → (slice_index_or lists (number_of (Lane 0)) [] ≡ []) × InAll (λ e. e.ticket ≤ cut) lists) →
    ClosesSoFar h lists cut → ClosesSoFar h (with_item lists k d) cut

-- where all tickets of the lists are below one, the queues before it are as they are now
abbrev pub ClosesNow : Type 0
ClosesNow =
    (h : Header) (lists : List (List (Drawn Journal))) (t : ℕ) → InAll (λ d. d.ticket < t) lists →
    (pending_before h lists t
    ≡ find (λ cpu. has_pending (replay h cpu (queue_list lists cpu))) (range_with_len 0 (length h.cpus)))
    × (unserved_before h lists t
    ≡ mask_where (λ cpu. nat_lt cpu (length h.cpus) && is_some (replay h cpu (queue_list lists cpu)).active))

-- ---- all of it
-- what the seats keep until the book is closed
pub record KeptByOwners (t : Trace) (code : Coded Journal) (left : Coded Left) (seats : List (SeatIs Journal)) (cut : ℕ)
    : Type 0 where
  -- each owner, of its own list
  pub headers : All (λ s. All (λ d. d.item.header ≡ t.header) s.list) seats
  -- each lane, of its own list: its rows, the versions that it uses, and how it is left
  pub rows : (lane : ℕ) → lane < t.header.lanes → own_rows (lists_of seats) lane ≡ of_lane lane t.rows
  pub uses : All (SeatUses t.header code) seats
  pub rest : (lane : ℕ) (s : SeatIs Journal) → 1 ≤ lane → lane < t.header.lanes →
      slice_get seats (number_of (Lane lane)) ≡ Some s → (s.list ≡ [] → ⊥) → KnowsRest left (s.fresh ++ s.known) lane
  -- of a lane's list and the lists of the queues
  pub figures : All (λ s. All (ReadsAll t.header (lists_of seats)) s.list) seats
  -- of the end
  pub closing : ClosesFrom t.header (lists_of seats) cut

-- so the lists may be merged, and the history is of the trace
abbrev pub OwnersMerge : Type 0
OwnersMerge =
    (t : Trace) (code : Coded Journal) (left : Coded Left) (seats : List (SeatIs Journal)) (cut : ℕ) → IsTrace t →
    (book : Closes meaning_of_journal (lists_of seats)) →
    AllUnquoted meaning_of_journal left (all_facts seats) (lists_of seats) →
    All (λ s. AllDrawn code s.read (lists_of seats)) seats → KeptByOwners t code left seats cut →
    MayMerge t.header (lists_of seats) × IsHistoryOf t (record { header = t.header; entries = entries book.log })
