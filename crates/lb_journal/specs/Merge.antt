-- The merge law: the lists of a closed ticket book, put in the order of their tickets, are a legal
-- history, under premises on the lists alone. The closing entries are each `out` that lane 0 draws at
-- rest, the `in` that quotes it, and the end.
-- Cited by the laws `merge_is_run`, `order_is_log` and `unquoted_rest`, and `in_order`, `close_in_order` and
-- `taken_out`; also by `lb_cell`, `lb_cpu` and other crates.
use Rattle.std.specs.Prelude.{ℕ, ◌≡◌, ◌-◌, ◌<◌, ◌≤◌, ◌==◌, nat_lt, nat_le, Bool, true, false, not, ◌&&◌, ◌||◌, Option, Some, None, is_some, List, [], ◌∷◌, length, map, filter, find, take, All}
use Rattle.std.specs.List.{slice_index_or, range_with_len, list_any}
use Rattle.lb_base.specs.declared.mask.Mask.{Mask}
use Rattle.lb_base.specs.declared.figure.Fig.{Fig}
use Rattle.lb_base.specs.Sets.{mask_where}
use Rattle.lb_queue.specs.Queue.{QueueState}
use Rattle.lb_queue.specs.Requests.{has_pending}
use Rattle.lb_queue.specs.Figures.{figure}
use Rattle.lb_trace.specs.declared.trace.Command.{Command}
use Rattle.lb_trace.specs.declared.trace.Command.TheVariants.{Tick, Rebuild}
use Rattle.lb_trace.specs.declared.trace.Header.{Header}
use Rattle.lb_trace.specs.Accepted.{IsHeader}
use Rattle.lb_core.specs.declared.course.Form.{Form}
use Rattle.lb_core.specs.declared.course.Form.TheVariants.{Rest}
use Rattle.lb_core.specs.declared.entry.CpuFig.{CpuFig}
use Rattle.lb_core.specs.declared.entry.FigName.{FigName}
use Rattle.lb_core.specs.declared.entry.Owner.{Owner}
use Rattle.lb_core.specs.declared.entry.Owner.TheVariants.{Lane, Queue}
use Rattle.lb_core.specs.declared.entry.What.{What}
use Rattle.lb_core.specs.declared.entry.What.TheVariants.{Row, Adopt, Look, Scan, End, Out, Landed}
use Rattle.lb_core.specs.declared.entry.Entry.{Entry}
use Rattle.lb_core.specs.Same.{same_mask}
use Rattle.lb_core.specs.Machine.{opening_queue}
use Rattle.lb_core.specs.Legal.{IsLegalHistory}
use Rattle.lb_ticket.specs.declared.item.Drawn.{Drawn}
use Rattle.lb_ticket.specs.Tickets.{Closes, pair}
use Rattle.lb_journal.specs.Journal.{Journal, meaning_of_journal, number_of, replay}

-- ---- the lists
-- the tickets and items of the owner with a number
abbrev pub list_of : List (List (Drawn Journal)) → ℕ → List (ℕ × Journal)
list_of lists k = map pair (slice_index_or lists k [])

abbrev pub queue_list : List (List (Drawn Journal)) → ℕ → List (ℕ × Journal)
queue_list lists cpu = list_of lists (number_of (Queue cpu))

-- it holds of each item, with its ticket
abbrev pub Each : (ℕ × Journal → Type 0) → List (List (Drawn Journal)) → Type 0
Each P lists = (k : ℕ) → All P (list_of lists k)

-- ---- ticks
abbrev pub ticked_by : What → Option ℕ
ticked_by (Row n at (Tick cpu)) = Some cpu
ticked_by w = None

abbrev pub are_one : Option ℕ → Option ℕ → Bool
are_one (Some a) (Some b) = a == b
are_one a b = false

-- both tick one CPU
abbrev pub both_tick : Journal → Journal → Bool
both_tick i j = are_one (ticked_by i.entry.what) (ticked_by j.entry.what)

-- ---- the closing entries
abbrev pub is_out_at_rest : What → Form → Bool
is_out_at_rest (Out cause to tasks) Rest = true
is_out_at_rest w form = false

-- an `out` that lane 0 draws at rest
abbrev pub closing_out : Journal → Bool
closing_out j = is_out_at_rest j.entry.what j.course.form && (j.entry.lane == 0)

abbrev pub is_end : What → Bool
is_end (End unserved) = true
is_end w = false

abbrev pub is_landing : What → Bool
is_landing (Landed tasks) = true
is_landing w = false

-- such an `out` has this ticket
abbrev pub closes_at : ℕ → ℕ × Journal → Bool
closes_at ticket d = (d.0 == ticket) && closing_out d.1

-- the quoted entry is such an `out`; that lane draws it at a queue, in any list
abbrev pub quotes_closing : List (List (Drawn Journal)) → Journal → Bool
quotes_closing lists j = list_any (λ ds. list_any (closes_at j.entry.prev) (map pair ds)) lists

abbrev pub is_closing : List (List (Drawn Journal)) → Journal → Bool
is_closing lists j = closing_out j || is_end j.entry.what || (is_landing j.entry.what && quotes_closing lists j)

-- ---- the queues as they were before a ticket
abbrev pub below : ℕ → List (ℕ × Journal) → List (ℕ × Journal)
below ticket ds = filter (λ d. nat_lt d.0 ticket) ds

abbrev pub queue_before : Header → List (List (Drawn Journal)) → ℕ → ℕ → QueueState
queue_before h lists ticket cpu = replay h cpu (below ticket (queue_list lists cpu))

-- the least CPU with a pending stop request
unfoldable pub pending_before : Header → List (List (Drawn Journal)) → ℕ → Option ℕ
pending_before h lists ticket =
    find (λ cpu. has_pending (queue_before h lists ticket cpu)) (range_with_len 0 (length h.cpus))

-- the CPUs whose active request is unserved
unfoldable pub unserved_before : Header → List (List (Drawn Journal)) → ℕ → Mask
unserved_before h lists ticket =
    mask_where (λ cpu. nat_lt cpu (length h.cpus) && is_some (queue_before h lists ticket cpu).active)

-- a closing `out` is at the least CPU with a pending stop request, and the end comes where there is none
abbrev pub ClosesBy : Header → List (List (Drawn Journal)) → ℕ → What → Owner → Type 0
ClosesBy h lists ticket (Out cause to tasks) (Queue cpu) = pending_before h lists ticket ≡ Some cpu
ClosesBy h lists ticket (End unserved) owner =
    (pending_before h lists ticket ≡ None) × (same_mask unserved (unserved_before h lists ticket) ≡ true)
ClosesBy h lists ticket w owner = Unit {0}

-- ---- the figures that items carry
-- the figure of a queue after its n-th entry
abbrev pub figure_after : Header → ℕ → List (ℕ × Journal) → ℕ → Fig
figure_after h cpu ds ℕ.zero = figure (opening_queue h cpu) 0 0
figure_after h cpu ds (ℕ.suc n) =
    figure (replay h cpu (take (ℕ.suc n) ds)) (ℕ.suc n) (slice_index_or (map (λ d. d.0) ds) n 0)

abbrev pub figures_of : Header → List (List (Drawn Journal)) → List FigName → List CpuFig
figures_of h lists names = map (λ f. record {
  cpu = f.cpu;
  fig = figure_after h f.cpu (queue_list lists f.cpu) f.n;
}) names

-- the named entry is there, at an earlier ticket
abbrev pub is_named_before : List (List (Drawn Journal)) → ℕ → FigName → Bool
is_named_before lists ticket f = nat_le f.n (length (below ticket (queue_list lists f.cpu)))

pub record ReadsFigures (h : Header) (lists : List (List (Drawn Journal))) (ticket : ℕ) (j : Journal)
    (names : List FigName) : Type 0 where
  pub figs : j.figs ≡ figures_of h lists names
  pub earlier : list_any (λ f. not (is_named_before lists ticket f)) names ≡ false

abbrev pub CarriesRead : Header → List (List (Drawn Journal)) → ℕ → Journal → What → Type 0
CarriesRead h lists ticket j (Look p x names d) = ReadsFigures h lists ticket j names
CarriesRead h lists ticket j (Scan names t) = ReadsFigures h lists ticket j names
CarriesRead h lists ticket j w = Unit {0}

-- ---- the masks that items carry
abbrev pub parts_of : Option Command → List Mask
parts_of (Some (Rebuild parts)) = parts
parts_of command = []

-- the masks of each version: the header's, and those of the `rebuild` that each `pub` serves
abbrev pub versions_of : Header → List (ℕ × Journal) → List (List Mask)
versions_of h pubs = h.parts ∷ map (λ d. parts_of d.1.course.command) pubs

-- of a published version, whose `pub` has an earlier ticket
pub record ReadsMasks (h : Header) (lists : List (List (Drawn Journal))) (ticket : ℕ) (j : Journal) (version : ℕ) : Type
    0 where
  pub masks : j.masks ≡ slice_index_or (versions_of h (list_of lists 0)) (version - 1) []
  pub earlier : version ≤ length (versions_of h (below ticket (list_of lists 0)))

abbrev pub CarriesVersion : Header → List (List (Drawn Journal)) → ℕ → Journal → What → Type 0
CarriesVersion h lists ticket j (Adopt version kind cpu) = ReadsMasks h lists ticket j version
CarriesVersion h lists ticket j w = Unit {0}

-- ---- what the closing follows on
-- of the entries that close nothing it is the last of its lane
abbrev pub IsLast : List (List (Drawn Journal)) → ℕ × Journal → Type 0
IsLast lists d = Each (λ e. is_closing lists e.1 ≡ false → e.1.entry.lane ≡ d.1.entry.lane → e.0 ≤ d.0) lists

-- each such entry leaves its lane at rest
abbrev pub LeavesAtRest : List (List (Drawn Journal)) → Type 0
LeavesAtRest lists = Each (λ d. is_closing lists d.1 ≡ false → IsLast lists d → d.1.after.form ≡ Rest) lists

-- the closing entries come after all others
abbrev pub ClosingLast : List (List (Drawn Journal)) → Type 0
ClosingLast lists =
    Each (λ d. Each (λ e. is_closing lists d.1 ≡ false → is_closing lists e.1 ≡ true → d.0 < e.0) lists) lists

-- a closing entry has no quote only where lane 0 drew nothing before it
abbrev pub ClosingBegins : List (List (Drawn Journal)) → Type 0
ClosingBegins lists =
    Each (λ d. is_closing lists d.1 ≡ true → d.1.entry.prev ≡ 0 → Each (λ e. e.1.entry.lane ≡ 0 → d.0 ≤ e.0) lists)
    lists

-- lane 0 draws the end
abbrev pub HasEnd : List (List (Drawn Journal)) → Type 0
HasEnd lists = list_any (λ d. is_end d.1.entry.what) (list_of lists (number_of (Lane 0))) ≡ true

-- ---- the premises, beside what the closed book says
pub record MayMerge (h : Header) (lists : List (List (Drawn Journal))) : Type 0 where
  pub headers : Each (λ d. d.1.header ≡ h) lists
  -- one lane ticks a CPU
  pub ticks : Each (λ d. Each (λ e. both_tick d.1 e.1 ≡ true → d.1.entry.lane ≡ e.1.entry.lane) lists) lists
  pub closing_last : ClosingLast lists
  pub at_rest : LeavesAtRest lists
  pub closes : Each (λ d. is_closing lists d.1 ≡ true → ClosesBy h lists d.0 d.1.entry.what d.1.entry.owner) lists
  pub begins : ClosingBegins lists
  pub ends : HasEnd lists
  pub figures : Each (λ d. CarriesRead h lists d.0 d.1 d.1.entry.what) lists
  pub masks : Each (λ d. CarriesVersion h lists d.0 d.1 d.1.entry.what) lists

-- the entries of the log
abbrev pub entries : List Journal → List Entry
entries log = map (λ j. j.entry) log

-- the entries of such lists, in the order of their tickets, are a legal history
abbrev pub MergeIsRun : Type 0
MergeIsRun =
    (h : Header) (lists : List (List (Drawn Journal))) → IsHeader h → (book : Closes meaning_of_journal lists) →
    MayMerge h lists →
    IsLegalHistory h (entries book.log)

-- ---- for those who close the book
-- a list that has the entry of each ticket at its place is the entries in their order
abbrev pub OrderIsLog : Type 0
OrderIsLog =
    (lists : List (List (Drawn Journal))) → (book : Closes meaning_of_journal lists) → (es : List Entry) →
    length es ≡ length book.log →
    Each (λ d. (e : Entry) → slice_index_or es (d.0 - 1) e ≡ d.1.entry) lists → es ≡ entries book.log

-- no item quotes the ticket
abbrev pub NobodyQuotes : List (List (Drawn Journal)) → ℕ → Type 0
NobodyQuotes lists ticket = Each (λ d. d.1.entry.prev ≡ ticket → ⊥) lists

-- the lanes are left at rest where each entry that nobody quotes, and that closes nothing, leaves its
-- lane at rest
abbrev pub UnquotedRest : Type 0
UnquotedRest =
    (lists : List (List (Drawn Journal))) → Closes meaning_of_journal lists →
    Each (λ d. is_closing lists d.1 ≡ false → NobodyQuotes lists d.0 → d.1.after.form ≡ Rest) lists → LeavesAtRest lists
