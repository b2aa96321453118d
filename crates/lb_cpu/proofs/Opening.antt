-- What the cells and the lanes of an accepted trace are made of fits.
-- For `Blank::new`.
use Rattle.std.proofs.Common.{ℕ, ◌≡◌, ◌==◌, ◌+◌, ◌≤◌, ◌<◌, zero, suc, Bool, true, false, cond, Some, List, [], ◌∷◌, ◌++◌, map, replicate, length, slice_get, slice_index_or, refl, sym, ap, subst, ◌∙◌, arith}
use Rattle.std.specs.List.{range_with_len, list_all}
use Rattle.std.proofs.lemmas.Bool.{and_parts, eqb-true}
use Rattle.std.proofs.lemmas.List.{length-append, length-map, length-replicate, append_assoc}
use Rattle.std.proofs.lemmas.List.Elements.{All-weaker, filter_passes}
use Rattle.std.proofs.lemmas.List.FromFn.{length-range_with_len}
use Rattle.atomic_table.specs.Seated.{TableId}
use Rattle.lb_domain.specs.Topologies.{DomainsWithin, domains_within}
use Rattle.lb_trace.specs.declared.trace.Header.{Header}
use Rattle.lb_trace.specs.declared.trace.Row.{Row}
use Rattle.lb_trace.specs.declared.trace.Trace.{Trace}
use Rattle.lb_trace.specs.Accepted.{IsTrace, is_row}
use Rattle.lb_queue.specs.Queue.{BookedQueue}
use Rattle.lb_core.specs.Machine.{opening_queue}
use Rattle.lb_ticket.specs.Seats.{SeatIs}
use Rattle.lb_journal.specs.Journal.{Journal}
use Rattle.lb_core.specs.OfTrace.{of_lane}
use Rattle.lb_board.specs.Board.{Sight, WriterIs, first_writers, sight_of_all}
use Rattle.lb_topub.specs.Versions.{VersionsSeen}
use Rattle.lb_cpu.specs.Numbering.{EachFrom}
use Rattle.lb_cpu.specs.Blanks.{IsQueue, IsSeat, IsWriter, IsRows, IsReader, IsLooker, FitCpus, FitLanes}

-- ---- lists that are made by their numbers
pub each_of_range : {A : Type 0} (P : ℕ → A → Type 0) (f : ℕ → A) (k n : ℕ) → ((i : ℕ) → P i (f i))
    → EachFrom P k (map f (range_with_len k n))
each_of_range P f k zero h = tt
each_of_range P f k (suc n) h = (h k, each_of_range P f (k + 1) n h)

each_copy : {A : Type 0} (P : ℕ → A → Type 0) (x : A) (k n : ℕ) → ((i : ℕ) → P i x) → EachFrom P k (replicate n x)
each_copy P x k zero h = tt
each_copy P x k (suc n) h = (h k, each_copy P x (k + 1) n h)

-- ---- writers
here : {A : Type 0} (before : List A) (x : A) (after : List A) → slice_get (before ++ x ∷ after) (length before) ≡ Some x
here [] x after = refl
here (y ∷ before) x after = here before x after

writers_from : (h : Header) (board : List TableId) (k : ℕ) (before after : List TableId) → board ≡ before ++ after
    → k ≡ length before → length board ≡ length h.cpus → EachFrom (IsWriter h board) k (first_writers k after)
writers_from h board k before [] e ke n = tt
writers_from h board k before (t ∷ ts) e ke n = (
  record {
    cpu_is = refl;
    declared =
        let l = ap (λ (x : List TableId). length x) e in
        let m = length-append before (t ∷ ts) in
        omega arith;
    of_board =
        ap (λ (x : List TableId). slice_get x k) e ∙ ap (λ (i : ℕ). slice_get (before ++ t ∷ ts) i) ke ∙ here before t ts;
    figures = refl;
  },
  writers_from h board (k + 1) (before ++ t ∷ []) ts (e ∙ sym (append_assoc before (t ∷ []) ts))
      (let l = length-append before (t ∷ []) in omega arith) n,
)

pub writers_fit : (h : Header) (board : List TableId) (ws : List WriterIs) → ws ≡ first_writers 0 board
    → length board ≡ length h.cpus → EachFrom (IsWriter h board) 0 ws
writers_fit h board ws e n =
    subst (λ (l : List WriterIs). EachFrom (IsWriter h board) 0 l) (sym e) (writers_from h board 0 [] board refl refl n)

pub writers_count : (k : ℕ) (ts : List TableId) → length (first_writers k ts) ≡ length ts
writers_count k [] = refl
writers_count k (t ∷ ts) = ap suc (writers_count (k + 1) ts)

-- ---- readers
cells_of : (k : ℕ) (ts : List TableId) → map (λ (w : WriterIs). w.cell) (first_writers k ts) ≡ ts
cells_of k [] = refl
cells_of k (t ∷ ts) = ap (λ (l : List TableId). t ∷ l) (cells_of (k + 1) ts)

some_seen : (k : ℕ) (ts : List TableId) (cpu : ℕ) → cpu < length ts
    → 0 < length (slice_index_or (map (λ (w : WriterIs). w.figures) (first_writers k ts)) cpu [])
some_seen k [] cpu lt = absurd (omega arith)
some_seen k (t ∷ ts) zero lt = omega arith
some_seen k (t ∷ ts) (suc cpu) lt = some_seen (k + 1) ts cpu (omega arith)

first_sight : (h : Header) (board : List TableId) → length board ≡ length h.cpus
    → IsReader h board (sight_of_all (first_writers 0 board))
first_sight h board n = record { cells = cells_of 0 board; seen = λ cpu lt. some_seen 0 board cpu (omega arith) }

pub readers_fit : (h : Header) (board : List TableId) (ws : List WriterIs) (lanes : ℕ) (rs : List Sight)
    → ws ≡ first_writers 0 board → rs ≡ replicate lanes (sight_of_all ws) → length board ≡ length h.cpus
    → EachFrom (λ lane r. IsReader h board r) 0 rs
readers_fit h board ws lanes rs we re n =
    let P : ℕ → Sight → Type 0 = λ lane r. IsReader h board r in
    let first : IsReader h board (sight_of_all ws) =
    subst (λ (l : List WriterIs). IsReader h board (sight_of_all l)) (sym we) (first_sight h board n) in
    subst (λ (l : List Sight). EachFrom P 0 l) (sym re) (each_copy P (sight_of_all ws) 0 lanes (λ i. first))

-- ---- lookers
pub lookers_fit : (h : Header) (p : VersionsSeen) (lanes : ℕ) (ls : List VersionsSeen) → ls ≡ replicate lanes p
    → p.topologies ≡ domains_within h.cpus h.distances h.parts ∷ [] → EachFrom (λ lane l. IsLooker h p.book l) 0 ls
lookers_fit h p lanes ls e first =
    let P : ℕ → VersionsSeen → Type 0 = λ lane l. IsLooker h p.book l in
    let one : IsLooker h p.book p =
    record { book = refl; first = ap (λ (l : List DomainsWithin). slice_get l 0) first } in
    subst (λ (l : List VersionsSeen). EachFrom P 0 l) (sym e) (each_copy P p 0 lanes (λ i. one))

-- ---- rows
fewer : (b : Bool) (x : Row) (xs : List Row) (n : ℕ) → length xs ≤ n → length (cond b (x ∷ xs) xs) ≤ suc n
fewer true x xs n h = omega arith
fewer false x xs n h = omega arith

fewer_rows : (lane : ℕ) (rows : List Row) → length (of_lane lane rows) ≤ length rows
fewer_rows lane [] = omega arith
fewer_rows lane (r ∷ rows) = fewer (r.lane == lane) r (of_lane lane rows) (length rows) (fewer_rows lane rows)

kept : (p : Row → Bool) (b : Bool) (x : Row) (xs : List Row) → p x ≡ true → list_all p xs ≡ true
    → list_all p (cond b (x ∷ xs) xs) ≡ true
kept p true x xs one all = rw one all
kept p false x xs one all = all

accepted_rows : (p : Row → Bool) (lane : ℕ) (rows : List Row) → list_all p rows ≡ true → list_all p (of_lane lane rows) ≡ true
accepted_rows p lane [] h = refl
accepted_rows p lane (r ∷ rows) h =
    let parts = and_parts (p r) (list_all p rows) h in
    kept p (r.lane == lane) r (of_lane lane rows) parts.0 (accepted_rows p lane rows parts.1)

own_rows : (t : Trace) → IsTrace t → (lane : ℕ) → IsRows t.header lane (of_lane lane t.rows)
own_rows t is lane = record {
  owned = All-weaker (λ (r : Row). (r.lane == lane) ≡ true) (λ (r : Row). r.lane ≡ lane) (λ r e. eqb-true r.lane lane e)
      (of_lane lane t.rows) (filter_passes (λ (r : Row). r.lane == lane) t.rows);
  accepted = accepted_rows (is_row t.header) lane t.rows is.rows;
  short = let f = fewer_rows lane t.rows in let m = is.most_rows in omega arith;
}

pub rows_fit : (t : Trace) (h : Header) (lists : List (List Row)) (lanes : ℕ) → IsTrace t → h ≡ t.header
    → lists ≡ map (λ lane. of_lane lane t.rows) (range_with_len 0 lanes) → EachFrom (IsRows h) 0 lists
rows_fit t h lists lanes is e le =
    let Q : Header → Type 0 = λ x. EachFrom (IsRows x) 0 lists in
    let P : List (List Row) → Type 0 = λ l. EachFrom (IsRows t.header) 0 l in
    subst Q (sym e) (subst P (sym le)
    (each_of_range (IsRows t.header) (λ lane. of_lane lane t.rows) 0 lanes (λ i. own_rows t is i)))

-- ---- of the CPUs, and of the lanes
abbrev opened : Header → ℕ → BookedQueue
opened h cpu = record { state = opening_queue h cpu; booked = 0 }

pub cpus_fit : (h : Header) (t : TableId) (board : List TableId) (qs : List BookedQueue) (ss : List (SeatIs Journal))
    (ws : List WriterIs) → length board ≡ length h.cpus → qs ≡ map (opened h) (range_with_len 0 (length h.cpus))
    → EachFrom (IsSeat t 17) 0 ss → length ss ≡ length h.cpus → ws ≡ first_writers 0 board
    → FitCpus h t board 0 qs ss ws × (length qs ≡ length h.cpus)
cpus_fit h t board qs ss ws cells qe seats sn we =
    let count : length qs ≡ length h.cpus =
    ap (λ (l : List BookedQueue). length l) qe ∙ length-map (range_with_len 0 (length h.cpus)) (opened h)
    ∙ length-range_with_len 0 (length h.cpus) in
    let n : length ws ≡ length board = ap (λ (l : List WriterIs). length l) we ∙ writers_count 0 board in (
      record {
        queues_are =
            subst (λ (l : List BookedQueue). EachFrom (IsQueue h) 0 l) (sym qe)
            (each_of_range (IsQueue h) (opened h) 0 (length h.cpus) (λ i. refl));
        seats_are = seats;
        writers_are = writers_fit h board ws we cells;
        seats_count = sn ∙ sym count;
        writers_count = n ∙ cells ∙ sym count;
      },
      count,
    )

pub lanes_fit : (t : Trace) (h : Header) (table : TableId) (board : List TableId) (p : VersionsSeen) (rows : List (List Row))
    (ss : List (SeatIs Journal)) (ws : List WriterIs) (rs : List Sight) (ls : List VersionsSeen) → IsTrace t → h ≡ t.header
    → length board ≡ length h.cpus → rows ≡ map (λ lane. of_lane lane t.rows) (range_with_len 0 h.lanes)
    → EachFrom (IsSeat table 1) 0 ss → length ss ≡ h.lanes → ws ≡ first_writers 0 board
    → rs ≡ replicate h.lanes (sight_of_all ws) → ls ≡ replicate h.lanes p
    → p.topologies ≡ domains_within h.cpus h.distances h.parts ∷ []
    → FitLanes h table board p.book 0 rows ss rs ls × (length rows ≡ h.lanes)
lanes_fit t h table board p rows ss ws rs ls is same cells re seats sn we rse le first =
    let count : length rows ≡ h.lanes =
    ap (λ (l : List (List Row)). length l) re
    ∙ length-map (range_with_len 0 h.lanes) (λ (lane : ℕ). of_lane lane t.rows) ∙ length-range_with_len 0 h.lanes in (
      record {
        rows_are = rows_fit t h rows h.lanes is same re;
        seats_are = seats;
        readers_are = readers_fit h board ws h.lanes rs we rse cells;
        lookers_are = lookers_fit h p h.lanes ls le first;
        seats_count = sn ∙ sym count;
        readers_count = ap (λ (l : List Sight). length l) rse ∙ length-replicate h.lanes (sight_of_all ws) ∙ sym count;
        lookers_count = ap (λ (l : List VersionsSeen). length l) le ∙ length-replicate h.lanes p ∙ sym count;
      },
      count,
    )
