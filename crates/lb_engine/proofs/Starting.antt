-- The engine before any entry: the machine of the header, and no lane with a hand.
-- For `Engine::start`.
use Rattle.std.proofs.Common.{ℕ, ◌≡◌, ◌*◌, zero, suc, false, Option, None, List, [], ◌∷◌, length, map, replicate, refl, ap, sym, ◌∙◌, subst, arith}
use Rattle.std.specs.List.{range_with_len}
use Rattle.std.proofs.lemmas.List.{length-replicate}
use Rattle.std.proofs.lemmas.List.Folds.{sum_by-replicate}
use Rattle.lb_base.specs.declared.figure.Fig.{Fig}
use Rattle.lb_queue.specs.Hands.{HandState}
use Rattle.lb_queue.specs.Figures.{figure}
use Rattle.lb_queue.specs.Queue.{BookedQueue, QueueState}
use Rattle.lb_trace.specs.declared.trace.Header.{Header}
use Rattle.lb_base.specs.declared.mask.Mask.{Mask}
use Rattle.lb_core.specs.declared.course.Course.{Course}
use Rattle.lb_core.specs.declared.place.Place.{Place}
use Rattle.lb_core.specs.declared.place.Place.TheVariants.{Asleep as AsleepAt}
use Rattle.lb_core.specs.Course.{opening_course}
use Rattle.lb_core.specs.Machine.{MachineState, course_at, opening_queue, start}
use Rattle.lb_core.specs.Placed.{is_flight}
use Rattle.lb_engine.specs.Held.{Held, HandsFit, hand_at, held_for, tasks_for, booked_at, Holds}
use Rattle.lb_engine.proofs.Queues.{states, bookings}

map_twice : {X Y Z : Type 0} (f : X → Y) (g : Y → Z) (xs : List X) → map g (map f xs) ≡ map (λ x. g (f x)) xs
map_twice f g [] = refl
map_twice f g (x ∷ xs) = ap (λ l. g (f x) ∷ l) (map_twice f g xs)

-- the opening queues, with no landing booked
abbrev pub opened : Header → List BookedQueue
opened h = map (λ cpu. record { state = opening_queue h cpu; booked = 0 }) (range_with_len 0 (length h.cpus))

pub opening_states : (h : Header) → states (opened h) ≡ map (opening_queue h) (range_with_len 0 (length h.cpus))
opening_states h = map_twice (λ (cpu : ℕ). let q : BookedQueue = record { state = opening_queue h cpu; booked = 0 } in
    q) (λ (q : BookedQueue). q.state) (range_with_len 0 (length h.cpus))

pub opening_figs : (h : Header) → map (λ (q : BookedQueue). figure q.state 0 0 ∷ []) (opened h) ≡ map
    (λ cpu. figure (opening_queue h cpu) 0 0 ∷ []) (range_with_len 0 (length h.cpus))
opening_figs h = map_twice (λ (cpu : ℕ). let q : BookedQueue = record { state = opening_queue h cpu; booked = 0 } in
    q) (λ (q : BookedQueue). figure q.state 0 0 ∷ []) (range_with_len 0 (length h.cpus))

none_of : (f : ℕ → QueueState) (cpus : List ℕ) (cpu : ℕ)
    → booked_at (bookings (map (λ (k : ℕ). let q : BookedQueue = record { state = f k; booked = 0 } in q) cpus)) cpu ≡ 0
none_of f [] cpu = refl
none_of f (k ∷ cpus) zero = refl
none_of f (k ∷ cpus) (suc cpu) = none_of f cpus cpu

pub none_booked : (h : Header) (cpu : ℕ) → booked_at (bookings (opened h)) cpu ≡ 0
none_booked h cpu = none_of (opening_queue h) (range_with_len 0 (length h.cpus)) cpu

-- ---- no lane has a hand
no_hand : (n lane : ℕ) → hand_at (replicate n None) lane ≡ None
no_hand zero lane = refl
no_hand (suc n) zero = refl
no_hand (suc n) (suc lane) = no_hand n lane

at_rest : (n lane : ℕ) (c : Course) → is_flight c.form ≡ false → is_flight (course_at (replicate n c) lane).form ≡ false
at_rest zero lane c rests = refl
at_rest (suc n) zero c rests = rests
at_rest (suc n) (suc lane) c rests = at_rest n lane c rests

nothing_held : (n lane : ℕ) (o : Option HandState) (c : Course) → o ≡ None → is_flight c.form ≡ false → Holds o c
nothing_held n lane o c e rests = let P : Option HandState → Type 0 = λ x. Holds x c in subst P (sym e) rests

pub fit_start : (p : Held) (n : ℕ) (c : Course) → p.hands ≡ replicate n None → p.machine.courses ≡ replicate n c
    → is_flight c.form ≡ false → length p.booked ≡ length p.machine.queues → ((cpu : ℕ) → booked_at p.booked cpu ≡ 0) → HandsFit p
fit_start p n c he ce rests be none = record {
  lanes = ap (λ (l : List (Option HandState)). length l) he ∙ length-replicate n None ∙ sym (length-replicate n c)
      ∙ ap (λ (l : List Course). length l) (sym ce);
  queues = be;
  holds = λ lane. nothing_held n lane (hand_at p.hands lane) (course_at p.machine.courses lane)
      (ap (λ (l : List (Option HandState)). hand_at l lane) he ∙ no_hand n lane)
      (ap (λ (l : List Course). is_flight (course_at l lane).form) ce ∙ at_rest n lane c rests);
  booked = λ cpu.
      let h : held_for cpu p.hands ≡ n * 0 =
      ap (λ (l : List (Option HandState)). held_for cpu l) he ∙ sum_by-replicate (tasks_for cpu) n None in
      let z = none cpu in
      omega arith;
}

-- ---- the machine
abbrev machine_of : Header → List (List Mask) → List QueueState → List (List Fig) → List Course → List ℕ
    → List (Option ℕ) → List Place → MachineState
machine_of h versions queues figures courses last ticked places =
    record {
      header = h;
      ticket = 0;
      versions = versions;
      queues = queues;
      figures = figures;
      courses = courses;
      last = last;
      ticked = ticked;
      closing = false;
      ended = false;
      places = places;
    }

pub start_is : (h header : Header) (versions : List (List Mask)) (queues : List QueueState)
    (figures : List (List Fig)) (courses : List Course) (last : List ℕ) (ticked : List (Option ℕ)) (places : List Place)
    → header ≡ h → versions ≡ h.parts ∷ [] → queues ≡ map (opening_queue h) (range_with_len 0 (length h.cpus))
    → figures ≡ map (λ cpu. figure (opening_queue h cpu) 0 0 ∷ []) (range_with_len 0 (length h.cpus))
    → courses ≡ replicate h.lanes (opening_course (length h.cpus))
    → last ≡ replicate h.lanes 0 → ticked ≡ replicate (length h.cpus) None → places ≡ map (λ row. AsleepAt row.home) h.tasks
    → machine_of header versions queues figures courses last ticked places ≡ start h
unfolding start
start_is h header versions queues figures courses last ticked places he ve qe fe ce le te pe =
    ap (λ (x : Header). machine_of x versions queues figures courses last ticked places) he
    ∙ ap (λ (x : List (List Mask)). machine_of h x queues figures courses last ticked places) ve
    ∙ ap (λ (x : List QueueState). machine_of h (h.parts ∷ []) x figures courses last ticked places) qe
    ∙ ap (λ (x : List (List Fig)). record
    (start h) { figures = x; courses = courses; last = last; ticked = ticked; places = places }) fe
    ∙ ap (λ (x : List Course). record (start h) { courses = x; last = last; ticked = ticked; places = places }) ce
    ∙ ap (λ (x : List ℕ). record (start h) { last = x; ticked = ticked; places = places }) le
    ∙ ap (λ (x : List (Option ℕ)). record (start h) { ticked = x; places = places }) te
    ∙ ap (λ (x : List Place). record (start h) { places = x }) pe
