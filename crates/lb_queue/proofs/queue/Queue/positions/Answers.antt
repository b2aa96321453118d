-- For `Queue::positions` of src/queue/turns.rt: the positions of a turn.
use Rattle.std.proofs.Common.{◌≡◌, ◌∙◌, ◌&&◌, true, false, max, sym, ap, refl}
use Rattle.lb_queue.specs.Queue.{BookedQueue, nobody, clock_at}
use Rattle.lb_queue.proofs.Opening.{positions_tick, positions_idle, positions_nohz, positions_none}
use Rattle.lb_queue.proofs.queue.Queue.positions.Goals.{else-idle-via-then-idle+else-self, else-idle-via-else-idle}
use Rattle.lb_queue.proofs.queue.Queue.positions.Goals as goal

pub returns-in-Tick : goal.returns-in-Tick
returns-in-Tick c =
    let q = c.args.self.now.state in
    let clock : c.max-now.result ≡ clock_at q c.args.at =
    c.max-now.ensures ∙ ap (λ (b : BookedQueue). max b.state.clock c.args.at) c.self.view_is in
    let idle : c.is_idle-idle.result ≡ nobody q.awake =
    c.is_idle-idle.ensures ∙ ap (λ (b : BookedQueue). nobody b.state.awake) c.self.view_is in
    rw c.in-Tick.is (positions_tick q c.args.at c.max-now.result c.args.version c.args.shapes.now
    c.due_positions.result c.is_idle-idle.result clock idle c.due_positions.ensures)

pub returns-in-Idle : goal.returns-in-Idle
returns-in-Idle c =
    let q = c.args.self.now.state in
    let idle : c.is_idle-idle.result ≡ nobody q.awake =
    c.is_idle-idle.ensures ∙ ap (λ (b : BookedQueue). nobody b.state.awake) c.self.view_is in
    rw c.in-Idle.is (positions_idle q c.args.at c.args.version c.self.inside.avg_idle c.args.shapes.now
    c.idle_positions.result c.is_idle-idle.result idle
    (ap (λ (b : BookedQueue). b.state.avg_idle) c.self.view_is) c.idle_positions.ensures)

pub returns-then-self : goal.returns-then-self
returns-then-self c =
    let q = c.args.self.now.state in
    let clock : c.max-now.result ≡ clock_at q c.args.at =
    c.max-now.ensures ∙ ap (λ (b : BookedQueue). max b.state.clock c.args.at) c.self.view_is in
    let idle : c.is_idle-idle.result ≡ nobody q.awake =
    c.is_idle-idle.ensures ∙ ap (λ (b : BookedQueue). nobody b.state.awake) c.self.view_is in
    let tickless : q.tickless ≡ true = sym (ap (λ (b : BookedQueue). b.state.tickless) c.self.view_is) ∙ c.if-self.true in
    rw c.in-Nohz.is (positions_nohz q c.args.at c.max-now.result c.args.version c.args.shapes.now
    c.due_positions-then-self.result clock (sym idle ∙ c.if-idle.true) tickless c.due_positions-then-self.ensures)

pub returns-else-idle : goal.returns-else-idle
returns-else-idle c =
    let q = c.args.self.now.state in
    let idle : c.is_idle-idle.result ≡ nobody q.awake =
    c.is_idle-idle.ensures ∙ ap (λ (b : BookedQueue). nobody b.state.awake) c.self.view_is in
    let tickless : c.self.inside.tickless ≡ q.tickless = ap (λ (b : BookedQueue). b.state.tickless) c.self.view_is in
    let not_both : (nobody q.awake && q.tickless) ≡ false = elim c.else-idle.branch [
      | else-idle-via-then-idle+else-self w ↦ rw (← idle, ← tickless, w.if-idle.true, w.if-self.false) refl
      | else-idle-via-else-idle w ↦ rw (← idle, w.if-idle.false) refl
    ] in
    rw c.in-Nohz.is (c.none.ensures.value ∙ positions_none q c.args.at c.args.version c.args.shapes.now not_both)
