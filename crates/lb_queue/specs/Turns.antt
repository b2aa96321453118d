-- Turns: the counters that a turn of a version of the topology finds, the positions that it opens,
-- the counters after a position's outcome, and the end of a turn.
-- Cited by the contracts of `Queue::opens`, `Queue::turn`, `Queue::close_look` and others; also by `lb_act`,
-- `lb_cell` and other crates.
use Rattle.std.specs.Prelude.{◌≡◌, MatchOption, IfSome, slice_get, ℕ, ◌+◌, ◌==◌, nat_lt, Bool, true, false, not, ◌&&◌, if◌then◌else◌, Option, Some, None, unwrap_or, is_some, List, [], ◌∷◌, map, length, slice_set}
use Rattle.std.specs.List.{slice_index_or}
use Rattle.lb_base.specs.declared.mask.Mask.{Mask}
use Rattle.lb_base.specs.Mask.{has, members, no_cpus}
use Rattle.lb_base.specs.Sets.{mask_where}
use Rattle.lb_base.specs.declared.shape.Shape.{Shape}
use Rattle.lb_base.specs.declared.shape.LevelName.{LevelName}
use Rattle.lb_base.specs.declared.shape.LevelName.TheVariants.{Smt, Mc, Pkg, Numa}
use Rattle.lb_base.specs.declared.shape.Kind.{Kind}
use Rattle.lb_base.specs.declared.shape.Kind.TheVariants.{Tick, Idle, Nohz}
use Rattle.lb_interval.specs.declared.Counters.{Counters}
use Rattle.lb_interval.specs.declared.Outcome.{Outcome}
use Rattle.lb_interval.specs.After.{fresh_counters, counters_after, is_due}
use Rattle.lb_newidle.specs.Budget.{cost_of, goes_on}
use Rattle.lb_queue.specs.declared.answers.OpenTurn.{OpenTurn}
use Rattle.lb_queue.specs.declared.answers.TurnReply.{TurnReply}
use Rattle.lb_queue.specs.declared.answers.TurnReply.TheVariants.{Opened, TurnOpen}
use Rattle.lb_queue.specs.Queue.{QueueState, nobody, clock_at, at_moment, milliseconds}

-- ---- counters
abbrev pub weight_of_mask : Mask → ℕ
weight_of_mask m = length (members m)

abbrev pub fresh_at : ℕ → Shape → Counters
fresh_at now shape = fresh_counters (weight_of_mask shape.span) now

-- stand where there are no counters of a position
abbrev pub no_counters : Counters
no_counters = record { last = 0; interval = 0; failures = 0; imb = false }

abbrev pub counters_at : List Counters → ℕ → Counters
counters_at cs p = slice_index_or cs p no_counters

abbrev pub counters_or_fresh : Option (List Counters) → List Shape → List Counters
counters_or_fresh None shapes = map (fresh_at 0) shapes
counters_or_fresh (Some cs) shapes = cs

-- those of the same version, or fresh ones at some milliseconds
abbrev pub found_by : Bool → Option (List Counters) → List Shape → ℕ → List Counters
found_by same cs shapes now = if same then counters_or_fresh cs shapes else map (fresh_at now) shapes

-- the counters that a turn finds: the queue's, which a first turn of its version makes fresh at 0,
-- and fresh ones at the clock where the version is another
unfoldable pub counters_found : QueueState → ℕ → ℕ → List Shape → List Counters
counters_found q at version shapes =
    found_by (version == q.version) q.counters shapes (milliseconds (clock_at q at))

-- ---- the positions of a turn
unfoldable pub due_positions : List Counters → Bool → ℕ → ℕ → Mask
due_positions cs busy cpus now = mask_where (λ p. nat_lt p (length cs) && is_due (counters_at cs p) busy cpus now)

-- how many levels a newly-idle turn goes up, after it has spent so much
abbrev pub idle_levels : ℕ → ℕ → List Shape → ℕ
idle_levels avg spent [] = 0
idle_levels avg spent (s ∷ ss) =
    let weight = weight_of_mask s.span in
    if goes_on avg spent weight then 1 + idle_levels avg (spent + cost_of weight) ss else 0

abbrev pub positions_by : Kind → QueueState → List Counters → List Shape → ℕ → Mask
positions_by Tick q cs shapes now = due_positions cs (not (nobody q.awake)) q.cpus now
positions_by Idle q cs shapes now = if nobody q.awake then mask_where (λ p. nat_lt p (idle_levels q.avg_idle 0 shapes)) else no_cpus
positions_by Nohz q cs shapes now = if nobody q.awake && q.tickless then due_positions cs false q.cpus now else no_cpus

unfoldable pub positions_found : QueueState → ℕ → Kind → ℕ → List Shape → Mask
positions_found q at kind version shapes =
    positions_by kind q (counters_found q at version shapes) shapes (milliseconds (clock_at q at))

-- ---- a turn opens, or is shut where one is open
-- a turn on behalf of idle CPUs clears the flag of its kick
abbrev pub kicked_after : Kind → Bool → Bool
kicked_after Tick kicked = kicked
kicked_after Idle kicked = kicked
kicked_after Nohz kicked = false

abbrev pub shut : QueueState → ℕ → Kind → QueueState
shut q at kind = record (at_moment q at) { kicked = kicked_after kind q.kicked }

abbrev pub opened : QueueState → ℕ → ℕ → Kind → ℕ → List Shape → QueueState
opened q at lane kind version shapes =
    record (at_moment q at) {
      kicked = kicked_after kind q.kicked;
      counters = Some (counters_found q at version shapes);
      version = version;
      open_turn = Some (record { lane = lane; kind = kind; positions = positions_found q at kind version shapes });
    }

unfoldable pub opens : QueueState → ℕ → Kind → ℕ → List Shape → TurnReply
opens q at kind version shapes = if is_some q.open_turn then TurnOpen else Opened (positions_found q at kind version shapes)

unfoldable pub turn : QueueState → ℕ → ℕ → Kind → ℕ → List Shape → TurnReply × QueueState
turn q at lane kind version shapes = (
  opens q at kind version shapes,
  if is_some q.open_turn then shut q at kind else opened q at lane kind version shapes,
)

-- ---- a position closes
abbrev pub tries_of : LevelName → ℕ
tries_of Smt = 0
tries_of Mc = 1
tries_of Pkg = 1
tries_of (Numa d) = 2

abbrev pub open_kind : Option OpenTurn → Kind
open_kind None = Tick
open_kind (Some t) = t.kind

-- the counters of a position after its outcome in a turn of a kind, at some milliseconds
abbrev pub closed_by : Counters → Kind → Shape → Outcome → Option Bool → ℕ → Counters
closed_by c kind shape outcome imb now = counters_after c kind outcome imb (weight_of_mask shape.span) (tries_of shape.name) now

-- all counters after it
abbrev pub closed_at : List Counters → Kind → Shape → Outcome → Option Bool → ℕ → List Counters
closed_at cs kind shape outcome imb now = slice_set cs shape.position (closed_by (counters_at cs shape.position) kind shape outcome imb now)

-- the counters of a position after its outcome in the open turn
unfoldable pub counters_closed : QueueState → ℕ → Shape → Outcome → Option Bool → Counters
counters_closed q at shape outcome imb =
    closed_by (counters_at (unwrap_or q.counters []) shape.position) (open_kind q.open_turn) shape outcome imb (milliseconds (clock_at q at))

unfoldable pub close_look : QueueState → ℕ → Shape → Outcome → Option Bool → QueueState
close_look q at shape outcome imb =
    record (at_moment q at) {
      counters = Some (slice_set (unwrap_or q.counters []) shape.position (counters_closed q at shape outcome imb));
    }

abbrev pub end_turn : QueueState → ℕ → QueueState
end_turn q at = record (at_moment q at) { open_turn = None }

-- ---- what is read of counters
abbrev pub counters_of : QueueState → ℕ → Option Counters
counters_of q position = slice_get (unwrap_or q.counters []) position

-- a turn is open at that position
abbrev pub IsOpenAt : Option OpenTurn → ℕ → Type 0
IsOpenAt None position = ⊥
IsOpenAt (Some t) position = has t.positions position ≡ true

-- where the queue has counters of that version, there are as many shapes
abbrev pub FitCounters : QueueState → ℕ → List Shape → Type 0
FitCounters q version shapes = version ≡ q.version → MatchOption q.counters (Unit {0}) (λ cs. length shapes ≡ length cs)

-- the shapes stand at their positions
abbrev pub AreInOrder : List Shape → Type 0
AreInOrder shapes = (i : ℕ) → IfSome (slice_get shapes i) (λ s. s.position ≡ i)
