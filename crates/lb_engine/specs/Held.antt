-- What the engine is, as contracts see it: the machine that it holds, and what the machine does
-- not show: the hand of each lane that is in flight, how many landings are booked at each queue, and for
-- how many more figures of each queue there is room. And how the hands go with the machine.
-- Cited by the contracts of `Engine::take_out`, `Engine::take_landing`, `Engine::start` and others; also by
-- `lb_state`.
use Rattle.std.specs.Prelude.{◌≡◌, ℕ, ◌==◌, false, true, if◌then◌else◌, Option, Some, None, List, length, sum_by}
use Rattle.std.specs.List.{slice_index_or}
use Rattle.lb_queue.specs.Hands.{HandState}
use Rattle.lb_core.specs.declared.course.Course.{Course}
use Rattle.lb_core.specs.Machine.{MachineState, course_at}
use Rattle.lb_core.specs.Placed.{is_flight}
use Rattle.lb_act.specs.Hands.{IsLoaded}

-- `hands` has one item for each lane, `booked` and `spare` one for each CPU
pub record Held : Type 0 where
  pub machine : MachineState
  pub hands : List (Option HandState)
  pub booked : List ℕ
  pub spare : List ℕ

abbrev pub hand_at : List (Option HandState) → ℕ → Option HandState
hand_at hands lane = slice_index_or hands lane None

abbrev pub booked_at : List ℕ → ℕ → ℕ
booked_at booked cpu = slice_index_or booked cpu 0

abbrev pub spare_at : List ℕ → ℕ → ℕ
spare_at spare cpu = slice_index_or spare cpu 0

-- ---- a hand and the course of its lane
-- the lane is in flight, and the hand is that of its course
pub record IsInFlight (h : HandState) (c : Course) : Type 0 where
  pub flight : is_flight c.form ≡ true
  pub loaded : IsLoaded h c

-- there is a hand exactly while the lane is in flight
abbrev pub Holds : Option HandState → Course → Type 0
Holds None c = is_flight c.form ≡ false
Holds (Some h) c = IsInFlight h c

-- ---- hands and bookings
-- how many tasks of a hand go to a CPU
abbrev pub tasks_for : ℕ → Option HandState → ℕ
tasks_for cpu None = 0
tasks_for cpu (Some h) = if h.to == cpu then length h.tasks else 0

-- and of all hands
abbrev pub held_for : ℕ → List (Option HandState) → ℕ
held_for cpu hands = sum_by (tasks_for cpu) hands

-- how many tasks all lanes have in hand
abbrev pub in_hands : List Course → ℕ
in_hands courses = sum_by (λ c. length c.hand) courses

-- each lane has a hand or none, as its course says, and at each queue just as many landings are booked as the
-- hands that go there hold
pub record HandsFit (p : Held) : Type 0 where
  pub lanes : length p.hands ≡ length p.machine.courses
  pub queues : length p.booked ≡ length p.machine.queues
  pub holds : (lane : ℕ) → Holds (hand_at p.hands lane) (course_at p.machine.courses lane)
  pub booked : (cpu : ℕ) → booked_at p.booked cpu ≡ held_for cpu p.hands
