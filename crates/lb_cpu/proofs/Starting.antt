-- What the cells and the lanes are made of is taken one by one, and fits.
-- For `new_lanes` and `new_lane`.
use Rattle.std.proofs.Common.{ℕ, ◌≡◌, ◌+◌, true, ◌&&◌, nat_lt, nat_le, List, ◌∷◌, length, All, ap, arith}
use Rattle.std.specs.List.{list_all}
use Rattle.std.proofs.lemmas.Bool.{and_parts}
use Rattle.std.proofs.lemmas.List.Elements.{All-weaker}
use Rattle.atomic_table.specs.Seated.{TableId}
use Rattle.logbook.specs.Pages.{Book}
use Rattle.lb_levels.specs.Faults.{CanBeRead}
use Rattle.lb_queue.specs.Queue.{BookedQueue}
use Rattle.lb_trace.specs.declared.trace.Header.{Header}
use Rattle.lb_trace.specs.declared.trace.Row.{Row}
use Rattle.lb_trace.specs.declared.trace.TheConstants.{MAX_MOMENT}
use Rattle.lb_trace.specs.Accepted.{IsHeader, is_command, is_row}
use Rattle.lb_core.proofs.Headers.{all_index}
use Rattle.lb_ticket.specs.Seats.{SeatIs}
use Rattle.lb_journal.specs.Journal.{Journal}
use Rattle.lb_board.specs.Board.{Sight, WriterIs}
use Rattle.lb_topub.specs.Versions.{VersionsSeen}
use Rattle.lb_cpu.specs.Blanks.{IsQueue, IsSeat, IsWriter, IsRows, IsReader, IsLooker, FitCpus, FitLanes}
use Rattle.lb_cpu.proofs.Numbering.{each_step}

shorter : {A B : Type 0} (x : A) (xs xs' : List A) (y : B) (ys ys' : List B) → xs ≡ x ∷ xs' → ys ≡ y ∷ ys'
    → length ys ≡ length xs → length ys' ≡ length xs'
shorter {A = A} {B = B} x xs xs' y ys ys' ex ey e =
    let m = ap (λ (l : List A). length l) ex in
    let n = ap (λ (l : List B). length l) ey in
    omega arith

-- ---- of a CPU
pub record NextCpu (h : Header) (t : TableId) (board : List TableId) (k : ℕ) (q : BookedQueue) (s : SeatIs Journal) (w : WriterIs)
    (qs : List BookedQueue) (ss : List (SeatIs Journal)) (ws : List WriterIs) : Type 0 where
  pub queue : IsQueue h k q
  pub seat : IsSeat t 17 k s
  pub writer : IsWriter h board k w
  pub rest : FitCpus h t board (k + 1) qs ss ws

pub next_cpu : (h : Header) (t : TableId) (board : List TableId) (k : ℕ) (q : BookedQueue) (s : SeatIs Journal) (w : WriterIs)
    (qs qs' : List BookedQueue) (ss ss' : List (SeatIs Journal)) (ws ws' : List WriterIs) → FitCpus h t board k qs ss ws
    → qs ≡ q ∷ qs' → ss ≡ s ∷ ss' → ws ≡ w ∷ ws' → NextCpu h t board k q s w qs' ss' ws'
next_cpu h t board k q s w qs qs' ss ss' ws ws' fit eq es ew =
    let queues = each_step (IsQueue h) k q qs' qs eq fit.queues_are in
    let seats = each_step (IsSeat t 17) k s ss' ss es fit.seats_are in
    let writers = each_step (IsWriter h board) k w ws' ws ew fit.writers_are in
    record {
      queue = queues.0;
      seat = seats.0;
      writer = writers.0;
      rest = record {
        queues_are = queues.1;
        seats_are = seats.1;
        writers_are = writers.1;
        seats_count = shorter q qs qs' s ss ss' eq es fit.seats_count;
        writers_count = shorter q qs qs' w ws ws' eq ew fit.writers_count;
      };
    }

-- ---- of a lane
pub record NextLane (h : Header) (t : TableId) (board : List TableId) (versions : Book) (k : ℕ) (r : List Row)
    (s : SeatIs Journal) (a : Sight) (l : VersionsSeen) (rs : List (List Row)) (ss : List (SeatIs Journal)) (views : List Sight)
    (ls : List VersionsSeen) : Type 0 where
  pub rows : IsRows h k r
  pub seat : IsSeat t 1 k s
  pub reader : IsReader h board a
  pub looker : IsLooker h versions l
  pub rest : FitLanes h t board versions (k + 1) rs ss views ls

pub next_lane : (h : Header) (t : TableId) (board : List TableId) (versions : Book) (k : ℕ) (r : List Row)
    (s : SeatIs Journal) (a : Sight) (l : VersionsSeen) (rs rs' : List (List Row)) (ss ss' : List (SeatIs Journal))
    (views views' : List Sight) (ls ls' : List VersionsSeen) → FitLanes h t board versions k rs ss views ls → rs ≡ r ∷ rs'
    → ss ≡ s ∷ ss' → views ≡ a ∷ views' → ls ≡ l ∷ ls' → NextLane h t board versions k r s a l rs' ss' views' ls'
next_lane h t board versions k r s a l rs rs' ss ss' views views' ls ls' fit er es ea el =
    let rows = each_step (IsRows h) k r rs' rs er fit.rows_are in
    let seats = each_step (IsSeat t 1) k s ss' ss es fit.seats_are in
    let readers = each_step (λ (n : ℕ) (x : Sight). IsReader h board x) k a views' views ea fit.readers_are in
    let lookers = each_step (λ (n : ℕ) (x : VersionsSeen). IsLooker h versions x) k l ls' ls el fit.lookers_are in
    record {
      rows = rows.0;
      seat = seats.0;
      reader = readers.0;
      looker = lookers.0;
      rest = record {
        rows_are = rows.1;
        seats_are = seats.1;
        readers_are = readers.1;
        lookers_are = lookers.1;
        seats_count = shorter r rs rs' s ss ss' er es fit.seats_count;
        readers_count = shorter r rs rs' a views views' er ea fit.readers_count;
        lookers_count = shorter r rs rs' l ls ls' er el fit.lookers_count;
      };
    }

one_row : (h : Header) (r : Row) → is_row h r ≡ true → is_command h r.command ≡ true
one_row h r e = (and_parts (nat_lt r.lane h.lanes && nat_le r.at MAX_MOMENT) (is_command h r.command) e).1

pub declared_rows : (h : Header) (rows : List Row) → list_all (is_row h) rows ≡ true
    → All (λ r. is_command h r.command ≡ true) rows
declared_rows h rows e =
    All-weaker (λ (r : Row). is_row h r ≡ true) (λ (r : Row). is_command h r.command ≡ true) (λ r x. one_row h r x) rows
    (all_index (is_row h) rows e)

pub can_be_read : (h : Header) → IsHeader h → CanBeRead h.cpus h.distances
can_be_read h accepted = record {
  some = let s = accepted.some_cpu in omega arith;
  few = accepted.most_cpus;
  good =
      accepted.machine;
}
