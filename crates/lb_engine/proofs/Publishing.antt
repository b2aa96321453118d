-- The step of a queue's entry is what the entry itself changes, and then its figure.
-- For the lemmas of `Taking`, and so for `Engine::take_of_queue`.
use Rattle.std.proofs.Common.{ℕ, ◌≡◌, ◌<◌, ◌≤◌, ◌+◌, ◌-◌, List, [], ◌∷◌, ◌++◌, length, slice_set, ap, ◌∙◌, arith}
use Rattle.std.proofs.lemmas.List.{get_or-set_same, set-set}
use Rattle.lb_queue.specs.Queue.{QueueState}
use Rattle.lb_queue.specs.Figures.{figure}
use Rattle.lb_core.specs.declared.course.Course.{Course}
use Rattle.lb_core.specs.declared.entry.Owner.TheVariants.{Queue}
use Rattle.lb_core.specs.declared.entry.What.{What}
use Rattle.lb_core.specs.CourseAfter.{course_by, course_after, drew}
use Rattle.lb_core.specs.QueueAfter.{queue_after}
use Rattle.lb_core.specs.Step.{after}
use Rattle.lb_core.specs.Machine.{MachineState, queue_at, course_at, figures_at, no_queue, no_course, sight}
use Rattle.lb_engine.specs.Steps.{of_queue, stepped, served, published}

pub publishes : (m : MachineState) (cpu lane : ℕ) (w : What) → cpu < length m.queues → lane < length m.courses
    → 1 ≤ length (figures_at m.figures cpu)
    → published (served m (of_queue cpu lane w)) cpu lane ≡ stepped m (of_queue cpu lane w)
unfolding after sight course_after
publishes m cpu lane w incpu inlane some =
    let e = of_queue cpu lane w in
    let q = queue_after (sight m e) e in
    let c = course_by w (sight m e) cpu q in
    let number = length (figures_at m.figures cpu) in
    let qe : queue_at (slice_set m.queues cpu q) cpu ≡ q = get_or-set_same m.queues cpu q no_queue incpu in
    let ce : course_at (slice_set m.courses lane c) lane ≡ c = get_or-set_same m.courses lane c no_course inlane in
    let n : number ≡ number - 1 + 1 = omega arith in
    ap (λ (x : QueueState). record (published (served m e) cpu lane) {
      figures = slice_set m.figures cpu
          (figures_at m.figures cpu ++ figure x number (m.ticket + 1) ∷ []);
    }) qe
    ∙ ap (λ (cs : List Course). record (stepped m e) { courses = cs })
    (ap (λ (x : Course). slice_set (slice_set m.courses lane c) lane (drew (Queue cpu) number x)) ce
    ∙ set-set m.courses lane c (drew (Queue cpu) number c)
    ∙ ap (λ (k : ℕ). slice_set m.courses lane (drew (Queue cpu) k c)) n)
