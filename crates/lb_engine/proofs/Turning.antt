-- The shapes of a lane's turn, as the engine shows them, and what is asked of them.
-- For `Engine::take_turn` and `Engine::take_shut`.
use Rattle.std.proofs.Common.{◌≡◌, ◌≤◌, ℕ, List, length, ap, sym, subst, ◌∙◌}
use Rattle.lb_base.specs.declared.shape.Shape.{Shape}
use Rattle.lb_queue.specs.declared.queue.TheConstants.{MAX_SHAPES}
use Rattle.lb_queue.specs.Queue.{QueueState}
use Rattle.lb_queue.specs.Turns.{AreInOrder, FitCounters}
use Rattle.lb_trace.specs.declared.trace.Header.{Header}
use Rattle.lb_core.specs.declared.course.Course.{Course}
use Rattle.lb_core.specs.Course.{turn_domains, shapes_of}
use Rattle.lb_core.specs.Machine.{course_at}
use Rattle.lb_turn.specs.Turns.{TurnState}
use Rattle.lb_core.specs.Asks.{OpeningAsks}
use Rattle.lb_engine.specs.Held.{Held}

-- the turn, where the fields of the engine show the machine and the lane's course
pub turn_is : (v now : Held) (lane : ℕ) (c : Course) (t : TurnState) → v ≡ now → course_at now.machine.courses lane ≡ c
    → t ≡ record { header = now.machine.header; course = course_at now.machine.courses lane }
    → t ≡ record { header = v.machine.header; course = c }
turn_is v now lane c t e ce te =
    te ∙ ap (λ (x : Course). let u : TurnState = record { header = now.machine.header; course = x } in u) ce
    ∙ ap (λ (x : Held). let u : TurnState = record { header = x.machine.header; course = c } in u) (sym e)

pub shapes_are : (t : TurnState) (h : Header) (c : Course) (shapes list : List Shape) → t ≡ record { header = h; course = c }
    → list ≡ shapes → shapes ≡ shapes_of (turn_domains t.header t.course) → list ≡ shapes_of (turn_domains h c)
shapes_are t h c shapes list te le se = le ∙ se ∙ ap (λ (x : TurnState). shapes_of (turn_domains x.header x.course)) te

-- what opening the turn asks
pub record Asked (q : QueueState) (c : Course) (shapes : List Shape) : Type 0 where
  pub few : length shapes ≤ MAX_SHAPES
  pub in_order : AreInOrder shapes
  pub fit : FitCounters q c.version shapes

pub opening_asks : (v now : Held) (lane : ℕ) (q0 q : QueueState) (c : Course) (shapes : List Shape) → v ≡ now → q0 ≡ q
    → course_at now.machine.courses lane ≡ c
    → shapes ≡ shapes_of (turn_domains v.machine.header c)
    → OpeningAsks now.machine.header q0 (course_at now.machine.courses lane) → Asked q c shapes
opening_asks v now lane q0 q c shapes e qe ce se asks =
    let P : Held → Type 0 = λ p. OpeningAsks p.machine.header q0 (course_at now.machine.courses lane) in
    let Q : QueueState → Type 0 = λ x. OpeningAsks v.machine.header x (course_at now.machine.courses lane) in
    let R : Course → Type 0 = λ x. OpeningAsks v.machine.header q x in
    let a = subst R ce (subst Q qe (subst P (sym e) asks)) in
    let F : List Shape → Type 0 = λ l. Asked q c l in
    subst F (sym se) (record { few = a.few; in_order = a.in_order; fit = a.fit })
