-- The law Placed: after every legal front each declared task stands at exactly one place, once: in
-- one list of one queue or in one hand, and that is its place in the map; and no other number stands
-- anywhere. From entry to entry this is kept together with a second thing: a hand is empty unless its
-- lane is in flight. A task in a hand is awake.
-- Cited by the laws `placed` and `placed_stays`; also by `lb`, `lb_cell` and other crates.
use Rattle.std.specs.Prelude.{ℕ, ◌≡◌, nat_lt, Bool, true, false, ◌&&◌, if◌then◌else◌, List, [], length}
use Rattle.lb_queue.specs.Tasks.{ids, awake_ids, occurs}
use Rattle.lb_trace.specs.declared.trace.Header.{Header}
use Rattle.lb_core.specs.declared.course.Form.{Form}
use Rattle.lb_core.specs.declared.course.Form.TheVariants.{Flight}
use Rattle.lb_core.specs.declared.entry.Entry.{Entry}
use Rattle.lb_core.specs.declared.place.Place.{Place}
use Rattle.lb_core.specs.declared.place.Place.TheVariants.{Awake as AwakeAt, Asleep as AsleepAt, Gone as GoneAt, Hand as HandOf}
use Rattle.lb_core.specs.Same.{same_place}
use Rattle.lb_core.specs.Machine.{MachineState, queue_at, course_at, place_at, start}
use Rattle.lb_core.specs.Step.{after}
use Rattle.lb_core.specs.Legal.{MayBeAdded, run, IsLegalFront}
use Rattle.lb_trace.specs.Accepted.{IsHeader}

-- who stands at a place
abbrev pub standing : MachineState → Place → List ℕ
standing m (AwakeAt cpu) = awake_ids (queue_at m.queues cpu).awake
standing m (AsleepAt cpu) = ids (queue_at m.queues cpu).asleep
standing m (GoneAt cpu) = ids (queue_at m.queues cpu).gone
standing m (HandOf lane) = ids (course_at m.courses lane).hand

-- how often a task stands at a place
abbrev pub times : MachineState → Place → ℕ → ℕ
times m place t = occurs t (standing m place)

-- it is a declared task, and the map has it at that place
abbrev pub is_its_place : MachineState → Place → ℕ → Bool
is_its_place m place t = nat_lt t (length m.places) && same_place place (place_at m t)

-- the map has a place for each task of the header; a declared task stands once at its place and nowhere
-- else, and any other number nowhere
pub record IsPlaced (m : MachineState) : Type 0 where
  pub mapped : length m.places ≡ length m.header.tasks
  pub once : (place : Place) (t : ℕ) → times m place t ≡ (if is_its_place m place t then 1 else 0)

abbrev pub PlacedAlways : Type 0
PlacedAlways = (h : Header) (es : List Entry) → IsHeader h → IsLegalFront h es → IsPlaced (run es (start h))

-- ---- from entry to entry
abbrev pub is_flight : Form → Bool
is_flight Flight = true
is_flight form = false

-- a hand is empty unless its lane is in flight
abbrev pub HandsRest : MachineState → Type 0
HandsRest m = (lane : ℕ) → is_flight (course_at m.courses lane).form ≡ false → (course_at m.courses lane).hand ≡ []

-- the opening state of an accepted header has both, and each entry that may be added keeps both
abbrev pub PlacedOpens : Type 0
PlacedOpens = (h : Header) → IsHeader h → IsPlaced (start h) × HandsRest (start h)

abbrev pub PlacedStays : Type 0
PlacedStays = (m : MachineState) (e : Entry) → IsPlaced m → HandsRest m → MayBeAdded m e → IsPlaced (after m e) × HandsRest (after m e)
