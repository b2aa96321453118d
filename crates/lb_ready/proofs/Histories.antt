-- The histories of an accepted trace: they have as many rows as the trace, end, and what each entry says is
-- in range.
-- For the laws `entries_fit` and `histories_end`.
use Rattle.std.proofs.Common.{arith, ◌≡◌, ℕ, suc, ◌≤◌, Bool, true, false, cond, ◌==◌, List, [], ◌∷◌, length, refl, sym, ◌∙◌, ap, inl, inr, ◌+◌, ◌*◌, ◌<◌, ◌++◌, map, replicate, get_or, subst}
use Rattle.std.specs.List.{list_all, range_with_len}
use Rattle.std.proofs.lemmas.Bool.{and_from, and_parts, eq-eqb, eqb-true, ne_eqb, cases_eq}
use Rattle.std.specs.Prelude.{sum_by}
use Rattle.std.proofs.lemmas.List.Folds.{list_all-append}
use Rattle.std.proofs.lemmas.List.Sums.{sum_by-le}
use Rattle.std.proofs.lemmas.List.{get_or-replicate, length-replicate}
use Rattle.std.proofs.lemmas.List.FromFn.{get_or-map-range_with_len, length-map-range_with_len}
use Rattle.std.proofs.Math.Nat.{mul-le-mul_left}
use Rattle.lb_trace.specs.declared.trace.Row.{Row as TraceRow}
use Rattle.lb_trace.specs.declared.trace.Trace.{Trace}
use Rattle.lb_trace.specs.declared.trace.Header.{Header}
use Rattle.lb_trace.specs.Accepted.{is_row, IsTrace}
use Rattle.lb_queue.proofs.Every.{all_filter}
use Rattle.lb_core.specs.declared.entry.Entry.{Entry}
use Rattle.lb_core.specs.declared.entry.What.{What}
use Rattle.lb_core.specs.declared.entry.What.TheVariants.{Row}
use Rattle.lb_core.specs.declared.history.History.{History}
use Rattle.lb_core.specs.declared.history.TheConstants.{MAX_TICKET}
use Rattle.lb_core.specs.OfTrace.{of_lane, row_of, rows_drawn, IsHistoryOf}
use Rattle.lb_core.specs.Course.{opening_course}
use Rattle.lb_core.specs.Machine.{MachineState, opening_queue, start}
use Rattle.lb_core.specs.Step.{after}
use Rattle.lb_core.specs.Legal.{MayFollow}
use Rattle.lb_core.specs.Ranges.{fit_from}
use Rattle.lb_ready.specs.Laws.{HistoriesEnd, EntriesFit, OpensReady, StaysReady, EntriesFall}
use Rattle.lb_ready.specs.Ready.{IsReady}
use Rattle.lb_ready.specs.Left.{count_where, asked_count, work_of, row_work, rows_before, entries_left}
use Rattle.lb_ready.proofs.Ranges.{row_in_range, entry_in, ReadyLaws}

-- ---- rows that are the same lane by lane
abbrev LaneByLane : List TraceRow → List TraceRow → Type 0
LaneByLane xs ys = (lane : ℕ) → of_lane lane xs ≡ of_lane lane ys

-- all of them are accepted where the others are
all_of_lanes : (p : TraceRow → Bool) (xs : List TraceRow) → ((lane : ℕ) → list_all p (of_lane lane xs) ≡ true)
    → list_all p xs ≡ true
all_of_lanes p [] each = refl
all_of_lanes p (x ∷ xs) each =
    let own : (x.lane == x.lane) ≡ true = eq-eqb x.lane x.lane refl in
    let here : list_all p (x ∷ of_lane x.lane xs) ≡ true = rw own at (each x.lane) in
    and_from (p x) _ (and_parts (p x) _ here).0
    (all_of_lanes p xs (λ lane. behind (x.lane == lane) (of_lane lane xs) (each lane)))
  where
    behind : (b : Bool) (rest : List TraceRow) → list_all p (cond b (x ∷ rest) rest) ≡ true → list_all p rest ≡ true
    behind true rest y = (and_parts (p x) _ y).1
    behind false rest y = y

pub all_lane_by_lane : (p : TraceRow → Bool) (xs ys : List TraceRow) → LaneByLane xs ys → list_all p ys ≡ true
    → list_all p xs ≡ true
all_lane_by_lane p xs ys same all = all_of_lanes p xs
    (λ lane. ap (list_all p) (same lane) ∙ all_filter p (λ (row : TraceRow). row.lane == lane) ys all)

-- without the first row of a lane
abbrev without_first : ℕ → List TraceRow → List TraceRow
without_first lane [] = []
without_first lane (y ∷ ys) = cond (y.lane == lane) ys (y ∷ without_first lane ys)

abbrev behind_first : List TraceRow → List TraceRow
behind_first [] = []
behind_first (y ∷ ys) = ys

first_gone : (lane : ℕ) (ys : List TraceRow) → of_lane lane (without_first lane ys) ≡ behind_first (of_lane lane ys)
first_gone lane [] = refl
first_gone lane (y ∷ ys) = by_test (y.lane == lane) refl (first_gone lane ys)
  where
    by_test : (b : Bool) → (y.lane == lane) ≡ b
        → of_lane lane (without_first lane ys) ≡ behind_first (of_lane lane ys)
        → of_lane lane (cond b ys (y ∷ without_first lane ys)) ≡ behind_first (cond b (y ∷ of_lane lane ys) (of_lane lane ys))
    by_test true e k = refl
    by_test false e k = rw e k

others_stay : (lane other : ℕ) (ys : List TraceRow) → (other ≡ lane → ⊥)
    → of_lane other (without_first lane ys) ≡ of_lane other ys
others_stay lane other [] n = refl
others_stay lane other (y ∷ ys) n = by_test (y.lane == lane) refl (others_stay lane other ys n)
  where
    by_test : (b : Bool) → (y.lane == lane) ≡ b → of_lane other (without_first lane ys) ≡ of_lane other ys
        → of_lane other (cond b ys (y ∷ without_first lane ys)) ≡ of_lane other (y ∷ ys)
    by_test true e k =
        let i = eqb-true y.lane lane e in
        let f : (y.lane == other) ≡ false = ne_eqb y.lane other (λ z. n (sym z ∙ i)) in
        rw f refl
    by_test false e k = ap (λ (rest : List TraceRow). cond (y.lane == other) (y ∷ rest) rest) k

one_fewer : (lane : ℕ) (r : TraceRow) (rest ys : List TraceRow) → of_lane lane ys ≡ r ∷ rest
    → length ys ≡ suc (length (without_first lane ys))
one_fewer lane r rest [] e = absurd (let z : ⊥ = cc in z)
one_fewer lane r rest (y ∷ ys) e = by_test (y.lane == lane) refl (one_fewer lane r rest ys)
  where
    by_test : (b : Bool) → (y.lane == lane) ≡ b
        → (of_lane lane ys ≡ r ∷ rest → length ys ≡ suc (length (without_first lane ys)))
        → suc (length ys) ≡ suc (length (cond b ys (y ∷ without_first lane ys)))
    by_test true f k = refl
    by_test false f k = let here : of_lane lane ys ≡ r ∷ rest = rw f at e in ap suc (k here)

pub as_many : (xs ys : List TraceRow) → LaneByLane xs ys → length xs ≤ length ys
as_many [] ys same = omega arith
as_many (x ∷ xs) ys same =
    let own : (x.lane == x.lane) ≡ true = eq-eqb x.lane x.lane refl in
    let here : x ∷ of_lane x.lane xs ≡ of_lane x.lane ys = rw own at (same x.lane) in
    let fewer = one_fewer x.lane x (of_lane x.lane xs) ys (sym here) in
    let less = as_many xs (without_first x.lane ys) (λ lane. elim (cases_eq lane x.lane) [
      | inl i ↦ rw i (ap behind_first here ∙ sym (first_gone x.lane ys))
      | inr n ↦
          let f : (x.lane == lane) ≡ false = ne_eqb x.lane lane (λ z. n (sym z)) in
          let there : of_lane lane xs ≡ of_lane lane ys = rw f at (same lane) in
          there ∙ sym (others_stay x.lane lane ys n)
    ]) in
    omega (arith, fewer, less)

-- ---- entries and their rows
-- the rows of the first entry and of the others
split_rows : (m : MachineState) (e : Entry) (es : List Entry)
    → list_all (is_row m.header) (rows_drawn (e ∷ es)) ≡ true
    → (list_all (is_row m.header) (row_of e.what e.lane) ≡ true) × (list_all (is_row m.header) (rows_drawn es) ≡ true)
split_rows m e es h = and_parts _ _ (sym (list_all-append (is_row m.header) (row_of e.what e.lane) (rows_drawn es)) ∙ h)

-- ---- how many
row_counted : (w : What) (lane : ℕ) (rows : List TraceRow) → rows_before w (length rows) ≡ length (row_of w lane ++ rows)
row_counted (Row n at command) lane rows = omega arith
row_counted w lane rows = refl

few_from : StaysReady → EntriesFall → (es : List Entry) (m : MachineState) → IsReady m → MayFollow es m
    → list_all (is_row m.header) (rows_drawn es) ≡ true → length es ≤ entries_left (length (rows_drawn es)) m
unfolding after
few_from stays falls [] m k follow rows = omega arith
few_from stays falls (e ∷ es) m k follow rows =
    let r = split_rows m e es rows in
    let next = stays m e k follow.0 (row_in_range m.header e.what e.lane r.0) in
    let less = few_from stays falls es (after m e) next follow.1 r.1 in
    let fall : entries_left (length (rows_drawn es)) (after m e) < entries_left (length (rows_drawn (e ∷ es))) m =
    subst (λ (n : ℕ). entries_left (length (rows_drawn es)) (after m e) < entries_left n m)
    (row_counted e.what e.lane (rows_drawn es)) (falls m e (length (rows_drawn es)) k follow.0) in
    omega (arith, less, fall)

-- nothing is at work or asked for in the opening machine
nothing : {X : Type 0} (f : X → ℕ) (xs : List X) → ((i : ℕ) (d : X) → i < length xs → f (get_or xs i d) ≡ 0) → sum_by f xs ≡ 0
nothing f xs none = let most = sum_by-le f 0 xs (λ i d lt. let e = none i d lt in omega (arith, e)) in omega (arith, most)

none_asked : (h : Header) (cpu n : ℕ) → asked_count n (opening_queue h cpu) ≡ 0
unfolding opening_queue count_where
none_asked h cpu n = nothing (λ k. 0) (range_with_len 0 n) (λ i d lt. refl)

left_at_start : (h : Header) (rows : ℕ) → entries_left rows (start h) ≡ row_work * rows + 1
unfolding start
left_at_start h rows =
    let lanes = nothing work_of (replicate h.lanes (opening_course (length h.cpus)))
    (λ i d lt. ap work_of (get_or-replicate h.lanes i (opening_course (length h.cpus)) d
    (let l = length-replicate h.lanes (opening_course (length h.cpus)) in omega (arith, l, lt)))) in
    let queues = nothing (asked_count (length h.tasks)) (map (opening_queue h) (range_with_len 0 (length h.cpus))) (λ i d lt.
    ap (asked_count (length h.tasks)) (get_or-map-range_with_len (opening_queue h) 0 (length h.cpus) i i d
    (let l = length-map-range_with_len (opening_queue h) 0 (length h.cpus) in omega (arith, l, lt)) (omega arith))
    ∙ none_asked h i (length h.tasks)) in
    omega (arith, lanes, queues)

rows_accepted : (t : Trace) (history : History) → IsTrace t → IsHistoryOf t history
    → list_all (is_row t.header) (rows_drawn history.entries) ≡ true
rows_accepted t history accepted of = all_lane_by_lane (is_row t.header) (rows_drawn history.entries) t.rows of.rows accepted.rows

pub histories_end : OpensReady → StaysReady → EntriesFall → HistoriesEnd
unfolding start
histories_end opens stays falls t history accepted of =
    let follow = subst (λ (h : Header). MayFollow history.entries (start h)) of.header of.legal.0 in
    let few = few_from stays falls history.entries (start t.header) (opens t.header accepted.header) follow
    (rows_accepted t history accepted of) in
    let left = left_at_start t.header (length (rows_drawn history.entries)) in
    let rows = mul-le-mul_left row_work (as_many (rows_drawn history.entries) t.rows of.rows) in
    omega (arith, few, left, rows)

-- ---- in range
fits_from : (laws : ReadyLaws) (es : List Entry) (m : MachineState) → IsReady m → MayFollow es m
    → list_all (is_row m.header) (rows_drawn es) ≡ true → m.ticket + length es ≤ MAX_TICKET → fit_from (m.ticket + 1) es ≡ true
unfolding after
fits_from laws [] m k follow rows few = refl
fits_from laws (e ∷ es) m k follow rows few =
    let r = split_rows m e es rows in
    let next = laws.stays m e k follow.0 (row_in_range m.header e.what e.lane r.0) in
    and_from _ _ (entry_in laws m e k (omega arith) follow.0 r.0) (fits_from laws es (after m e) next follow.1 r.1 (omega arith))

pub entries_fit : OpensReady → HistoriesEnd → ReadyLaws → EntriesFit
unfolding start
entries_fit opens end laws t history accepted of =
    let follow = subst (λ (h : Header). MayFollow history.entries (start h)) of.header of.legal.0 in
    let few = end t history accepted of in
    let rows = accepted.most_rows in
    fits_from laws history.entries (start t.header) (opens t.header accepted.header) follow
    (rows_accepted t history accepted of) (omega arith)
