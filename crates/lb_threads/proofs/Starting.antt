-- The lanes as they are made are ready: each has the trace's rows of its number.
-- For `run_blank`.
use Rattle.std.proofs.Common.{ℕ, ◌≡◌, ◌+◌, ◌<◌, Option, option_map, List, Some, map, length, slice_get, get_or, refl, sym, ap, subst, ◌∙◌, arith}
use Rattle.std.proofs.lemmas.Option.{same_Some, slice_get-map, slice_get-get_or, slice_get_within, get_or_from_slice_get}
use Rattle.std.proofs.lemmas.List.{length-map}
use Rattle.std.proofs.lemmas.List.FromFn.{get_or-map-range_with_len, length-map-range_with_len}
use Rattle.std.specs.List.{range_with_len}
use Rattle.lb_trace.specs.declared.trace.Header.{Header}
use Rattle.lb_trace.specs.declared.trace.Row.{Row}
use Rattle.lb_core.specs.declared.course.Course.{Course}
use Rattle.lb_core.specs.OfTrace.{of_lane}
use Rattle.lb_cpu.specs.Numbering.{EachFrom}
use Rattle.lb_cpu.specs.Starts.{IsNew}
use Rattle.lb_lane.specs.Lanes.{LaneIs}
use Rattle.lb_threads.specs.Lanes.{EachLane, IsReady}
use Rattle.lb_threads.proofs.Numbers.{each_at}

-- the k-th list of rows is that of lane k
own_rows_at : (rows : List Row) (n : ℕ) (lanes : List LaneIs) → map (λ l. l.rows) lanes ≡ map
    (λ lane. of_lane lane rows) (range_with_len 0 n)
    → (k : ℕ) (l : LaneIs) → slice_get lanes k ≡ Some l → l.rows ≡ of_lane k rows
own_rows_at rows n lanes e k l at =
    let rows_of : LaneIs → List Row = λ x. x.rows in
    let within = slice_get_within lanes k l at in
    let count : length lanes ≡ n =
    sym (length-map lanes rows_of) ∙ ap (λ (ls : List (List Row)). length ls) e
    ∙ length-map-range_with_len (λ (lane : ℕ). of_lane lane rows) 0 n in
    let mapped : get_or (map rows_of lanes) k l.rows ≡ l.rows =
    get_or_from_slice_get (map rows_of lanes) k l.rows l.rows
    (slice_get-map rows_of lanes k ∙ ap (λ (o : Option LaneIs). option_map rows_of o) at) in
    sym mapped ∙ ap (λ (ls : List (List Row)). get_or ls k l.rows) e
    ∙ get_or-map-range_with_len (λ (lane : ℕ). of_lane lane rows) 0 n k k l.rows (subst (λ (m : ℕ). k < m) count within)
    (omega arith)

pub all_ready : (h : Header) (rows : List Row) (n : ℕ) (lanes : List LaneIs) → EachFrom (IsNew h) 0 lanes
    → map (λ l. l.rows) lanes ≡ map (λ lane. of_lane lane rows) (range_with_len 0 n) → EachLane (IsReady rows) lanes
all_ready h rows n lanes new e k l at =
    let is = each_at (IsNew h) 0 lanes new k l at in
    record {
      has = record {
        number = subst (λ (n : ℕ). l.side.number ≡ n) (omega arith) is.number;
        own = own_rows_at rows n
            lanes e k l at;
      };
      rest = ap (λ (c : Course). c.form) is.course;
      none = ap (λ (c : Course). c.rows) is.course;
    }
