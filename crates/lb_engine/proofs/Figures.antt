-- The figures of the queues, in lists with room: room that is made changes no figure, and a queue publishes
-- one more.
-- For `Engine::make_room` and `Engine::publish_figure`.
use Rattle.std.proofs.Common.{ℕ, ◌≡◌, ◌<◌, ◌+◌, List, [], ◌∷◌, ◌++◌, map, length, slice_set, slice_index_or, ap, sym, subst, ◌∙◌}
use Rattle.std.proofs.Math.Seq.{map-set_same}
use Rattle.std.proofs.lemmas.List.{map-set, get_or-map, get_or-set_same, length-map}
use Rattle.lb_base.specs.declared.figure.Fig.{Fig}
use Rattle.lb_base.specs.Room.{WithRoom}
use Rattle.lb_queue.specs.Figures.{figure}
use Rattle.lb_queue.specs.Queue.{QueueState, BookedQueue}
use Rattle.lb_core.specs.declared.course.Course.{Course}
use Rattle.lb_core.specs.declared.entry.Owner.TheVariants.{Queue}
use Rattle.lb_core.specs.CourseAfter.{drew}
use Rattle.lb_core.specs.Machine.{MachineState, queue_at, course_at, figures_at}
use Rattle.lb_engine.specs.Held.{Held, spare_at}
use Rattle.lb_engine.specs.Steps.{published}
use Rattle.lb_engine.proofs.Queues.{states}
use Rattle.lb_engine.proofs.Serving.{course_is, queue_is}

abbrev pub items : List (WithRoom Fig) → List (List Fig)
items figures = map (λ b. b.items) figures

abbrev pub rooms : List (WithRoom Fig) → List ℕ
rooms figures = map (λ b. b.spare) figures

-- ---- room
pub items_same : (figures : List (WithRoom Fig)) (cpu : ℕ) (f f2 : WithRoom Fig) → f ≡ slice_index_or figures cpu f
    → f2.items ≡ f.items → items (slice_set figures cpu f2) ≡ items figures
items_same figures cpu f f2 fe e = map-set_same (λ (b : WithRoom Fig). b.items) figures cpu f2 f
    (e ∙ ap (λ (b : WithRoom Fig). b.items) fe)

pub room_there : (figures : List (WithRoom Fig)) (cpu : ℕ) (f2 : WithRoom Fig) → cpu < length figures
    → spare_at (rooms (slice_set figures cpu f2)) cpu ≡ f2.spare
room_there figures cpu f2 inside =
    ap (λ (l : List ℕ). spare_at l cpu) (map-set (λ (b : WithRoom Fig). b.spare) figures cpu f2)
    ∙ get_or-set_same (rooms figures) cpu f2.spare 0
    (subst (λ (n : ℕ). cpu < n) (sym (length-map figures (λ (b : WithRoom Fig). b.spare))) inside)

figures_is : (figures : List (WithRoom Fig)) (cpu : ℕ) (f : WithRoom Fig) → cpu < length figures
    → f ≡ slice_index_or figures cpu f → figures_at (items figures) cpu ≡ f.items
figures_is figures cpu f inside fe = get_or-map (λ (b : WithRoom Fig). b.items) figures cpu f [] inside
    ∙ ap (λ (b : WithRoom Fig). b.items) (sym fe)

pub figures_there : (m : MachineState) (figures : List (WithRoom Fig)) (cpu : ℕ) → m.figures ≡ items figures
    → cpu < length m.figures → cpu < length figures
figures_there m figures cpu e inside = subst (λ (n : ℕ). cpu < n)
    (ap (λ (l : List (List Fig)). length l) e ∙ length-map figures (λ (b : WithRoom Fig). b.items)) inside

queues_there : (m : MachineState) (queues : List BookedQueue) (cpu : ℕ) → m.queues ≡ states queues
    → cpu < length m.queues → cpu < length queues
queues_there m queues cpu e inside = subst (λ (n : ℕ). cpu < n)
    (ap (λ (l : List QueueState). length l) e ∙ length-map queues (λ (b : BookedQueue). b.state)) inside

-- ---- one figure more
published_as : (m : MachineState) (figures : List (WithRoom Fig)) (queues : List BookedQueue) (cpu lane number : ℕ)
    (f f2 : WithRoom Fig) (q : BookedQueue) (c c2 : Course)
    → m.figures ≡ items figures → m.queues ≡ states queues
    → cpu < length m.figures → f ≡ slice_index_or figures cpu f → cpu < length m.queues → q ≡ slice_index_or queues cpu q
    → lane < length m.courses → c ≡ slice_index_or m.courses lane c → number ≡ length f.items
    → f2.items ≡ f.items ++ figure q.state number (m.ticket + 1) ∷ [] → c2 ≡ drew (Queue cpu) number c
    → record m { figures = items (slice_set figures cpu f2); courses = slice_set m.courses lane c2 } ≡ published m cpu lane
published_as m figures queues cpu lane number f f2 q c c2 mf mq infigures fe inqueues qe incourses ce ne f2e c2e =
    let fs : figures_at m.figures cpu ≡ f.items =
    ap (λ (l : List (List Fig)). figures_at l cpu) mf ∙ figures_is figures cpu f (figures_there m figures cpu mf infigures) fe in
    let qs : queue_at m.queues cpu ≡ q.state =
    ap (λ (l : List QueueState). queue_at l cpu) mq ∙ queue_is queues cpu q (queues_there m queues cpu mq inqueues) qe in
    let cs : course_at m.courses lane ≡ c = course_is m.courses lane c incourses ce in
    let n : number ≡ length (figures_at m.figures cpu) = ne ∙ ap (λ (l : List Fig). length l) (sym fs) in
    let now : f2.items ≡ figures_at m.figures cpu ++ figure (queue_at m.queues cpu)
    (length (figures_at m.figures cpu)) (m.ticket + 1) ∷ [] =
    f2e ∙ ap (λ (k : ℕ). f.items ++ figure q.state k (m.ticket + 1) ∷ []) n
    ∙ ap (λ (x : QueueState). f.items ++ figure x (length (figures_at m.figures cpu)) (m.ticket + 1) ∷ []) (sym qs)
    ∙ ap (λ (l : List Fig). l ++ figure (queue_at m.queues cpu) (length (figures_at m.figures cpu))
    (m.ticket + 1) ∷ []) (sym fs) in
    let figs : items (slice_set figures cpu f2) ≡ slice_set m.figures cpu
    (figures_at m.figures cpu ++ figure (queue_at m.queues cpu) (length (figures_at m.figures cpu)) (m.ticket + 1) ∷ []) =
    map-set (λ (b : WithRoom Fig). b.items) figures cpu f2
    ∙ ap (λ (l : List (List Fig)). slice_set l cpu f2.items) (sym mf) ∙ ap (λ (l : List Fig). slice_set m.figures cpu l) now in
    let courses : slice_set m.courses lane c2 ≡ slice_set m.courses lane
    (drew (Queue cpu) (length (figures_at m.figures cpu)) (course_at m.courses lane)) =
    ap (λ (x : Course). slice_set m.courses lane x)
    (c2e ∙ ap (λ (k : ℕ). drew (Queue cpu) k c) n
    ∙ ap (λ (x : Course). drew (Queue cpu) (length (figures_at m.figures cpu)) x) (sym cs)) in
    ap (λ (l : List (List Fig)). record m { figures = l; courses = slice_set m.courses lane c2 }) figs
    ∙ ap (λ (l : List Course). record (published m cpu lane) { courses = l }) courses

-- where the fields of the engine show the machine
pub published_by : (v now : Held) (figures : List (WithRoom Fig)) (queues : List BookedQueue) (cpu lane number : ℕ)
    (f f2 : WithRoom Fig) (q : BookedQueue) (c c2 : Course)
    → v ≡ now → v.machine.figures ≡ items figures → v.machine.queues ≡ states queues
    → cpu < length now.machine.figures → f ≡ slice_index_or figures cpu f → cpu < length now.machine.queues
    → q ≡ slice_index_or queues cpu q
    → lane < length now.machine.courses → c ≡ slice_index_or v.machine.courses lane c → number ≡ length f.items
    → f2.items ≡ f.items ++ figure q.state number (v.machine.ticket + 1) ∷ [] → c2 ≡ drew (Queue cpu) number c
    → record v.machine {
      figures = items (slice_set figures cpu f2);
      courses = slice_set v.machine.courses lane c2;
    } ≡ published now.machine cpu lane
published_by v now figures queues cpu lane number f f2 q c c2 e mf mq infigures fe inqueues qe incourses ce ne f2e c2e =
    published_as v.machine figures queues cpu lane number f f2 q c c2 mf mq
    (subst (λ (p : Held). cpu < length p.machine.figures) (sym e) infigures) fe
    (subst (λ (p : Held). cpu < length p.machine.queues) (sym e) inqueues) qe
    (subst (λ (p : Held). lane < length p.machine.courses) (sym e) incourses) ce ne f2e c2e
    ∙ ap (λ (p : Held). published p.machine cpu lane) e

pub figures_within : (v now : Held) (figures : List (WithRoom Fig)) (cpu : ℕ) → v ≡ now
    → v.machine.figures ≡ items figures → cpu < length now.machine.figures → cpu < length figures
figures_within v now figures cpu e mf inside =
    figures_there v.machine figures cpu mf (subst (λ (p : Held). cpu < length p.machine.figures) (sym e) inside)
