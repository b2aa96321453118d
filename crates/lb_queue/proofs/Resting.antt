-- What each call leaves as it is, besides the tasks that it moves.
-- For the law `calls_keep_rest`.
use Rattle.std.proofs.Common.{◌≡◌, ℕ, Bool, true, false, List, None, is_some, refl, sym, ◌∙◌}
use Rattle.lb_base.specs.declared.shape.Kind.{Kind}
use Rattle.lb_base.specs.declared.shape.Shape.{Shape}
use Rattle.lb_queue.specs.Queue.{QueueState, at_moment}
use Rattle.lb_queue.specs.Requests.{tick, ask_active, kick}
use Rattle.lb_queue.specs.Hands.{take_pull}
use Rattle.lb_queue.specs.Turns.{turn, close_look}
use Rattle.lb_queue.specs.Calls.{Call, after_call}
use Rattle.lb_queue.specs.Calls.Call.{Declare, Wake, Leave, Sleep, Exit, SetMask, Renice, Tick, TakeStop, TakePush, Take, Land, Turn}
use Rattle.lb_queue.specs.Moves.{SameTurns, SameTasks, is_of_tasks}
use Rattle.lb_queue.specs.Laws.{RestStays}
use Rattle.lb_queue.proofs.Outcomes.{Refuses, wake_by, sleep_by, exit_by, mask_by, nice_by, leave_by, stop_by, push_by, land_by}

pub record IsAlike (q q' : QueueState) : Type 0 where
  pub cpu : q'.cpu ≡ q.cpu
  pub cpus : q'.cpus ≡ q.cpus
  pub turns : SameTurns q q'

-- a state that differs in its tasks, its clock and its idle time alone is so by computing
alike : (q : QueueState) → IsAlike q q
alike q = record {
  cpu = refl;
  cpus = refl;
  turns = record { version = refl; counters = refl; open_turn = refl; kicked = refl; active = λ to e. e };
}

moved : (q q' : QueueState) → q'.cpu ≡ q.cpu → q'.cpus ≡ q.cpus → q'.version ≡ q.version → q'.counters ≡ q.counters
    → q'.open_turn ≡ q.open_turn → q'.kicked ≡ q.kicked → q'.active ≡ q.active → IsAlike q q'
moved q q' a b c d e f g = record {
  cpu = a;
  cpus = b;
  turns = record { version = c; counters = d; open_turn = e; kicked = f; active = λ to h. sym g ∙ h };
}

-- the active request is gone
asks_no_more : (q q' : QueueState) → q'.cpu ≡ q.cpu → q'.cpus ≡ q.cpus → q'.version ≡ q.version
    → q'.counters ≡ q.counters → q'.open_turn ≡ q.open_turn → q'.kicked ≡ q.kicked → q'.active ≡ None → IsAlike q q'
asks_no_more q q' a b c d e f g = record {
  cpu = a;
  cpus = b;
  turns = record {
    version = c;
    counters = d;
    open_turn = e;
    kicked = f;
    active = λ to h. let k = sym g ∙ h in
        let z : ⊥ = cc in absurd z;
  };
}

module _ (q : QueueState) where
  refuses : (at : ℕ) → Refuses (λ r q'. IsAlike q q') q at
  refuses at = let same = moved q (at_moment q at) refl refl refl refl refl refl refl in
      record { already = same; gone = same; bad_mask = same; not_here = alike q }

  call_alike : (c : Call) → is_of_tasks c ≡ true → IsAlike q (after_call q c)
  unfolding tick take_pull
  call_alike (Declare id nice mask) t = moved q _ refl refl refl refl refl refl refl
  call_alike (Wake at id) t = wake_by (λ r q'. IsAlike q q') q at id (refuses at)
      (λ x e. moved q _ refl refl refl refl refl refl refl)
  call_alike (Leave at id to) t = leave_by (λ ts q'. IsAlike q q') q at id
      (moved q _ refl refl refl refl refl refl refl) (λ x e. moved q _ refl refl refl refl refl refl refl)
  call_alike (Sleep at id) t = sleep_by (λ r q'. IsAlike q q') q at id (refuses at)
      (λ a e. moved q _ refl refl refl refl refl refl refl)
  call_alike (Exit at id) t = exit_by (λ r q'. IsAlike q q') q at id (refuses at)
      (λ a e. moved q _ refl refl refl refl refl refl refl) (λ x n e. moved q _ refl refl refl refl refl refl refl)
  call_alike (SetMask at id mask) t = mask_by (λ r q'. IsAlike q q') q at id mask (refuses at)
      (λ good. moved q _ refl refl refl refl refl refl refl) (λ good. moved q _ refl refl refl refl refl refl refl)
  call_alike (Renice at id nice) t = nice_by (λ r q'. IsAlike q q') q at id nice (refuses at)
      (moved q _ refl refl refl refl refl refl refl) (moved q _ refl refl refl refl refl refl refl)
  call_alike (Tick at) t = moved q _ refl refl refl refl refl refl refl
  call_alike (TakeStop at id to) t = stop_by (λ ts q'. IsAlike q q') q at id
      (moved q _ refl refl refl refl refl refl refl) (λ a e. moved q _ refl refl refl refl refl refl refl)
  call_alike (TakePush at to) t = push_by (λ ts q'. IsAlike q q') q at to
      (asks_no_more q _ refl refl refl refl refl refl refl) (λ id a f e. asks_no_more q _ refl refl refl refl refl refl refl)
  call_alike (Take at env) t = moved q _ refl refl refl refl refl refl refl
  call_alike (Land at cause moment tasks) t =
      land_by (λ ts q'. IsAlike q q') q at cause moment tasks (moved q _ refl refl refl refl refl refl refl)
      (λ x ts e. moved q _ refl refl refl refl refl refl refl)
  call_alike c t = let z : ⊥ = cc in absurd z

  of_tasks : (c : Call) → is_of_tasks c ≡ true → RestStays q c
  of_tasks c t = let h = call_alike c t in
      record { cpu = h.cpu; cpus = h.cpus; turns = λ e. h.turns; tasks = λ e. let k = sym t ∙ e in let z : ⊥ = cc in absurd z }

  -- a turn, a request or a kick
  turned : (c : Call) → is_of_tasks c ≡ false → (after_call q c).cpu ≡ q.cpu → (after_call q c).cpus ≡ q.cpus
      → SameTasks q (after_call q c) → RestStays q c
  turned c t a b s = record { cpu = a; cpus = b; turns = λ e. let k = sym t ∙ e in let z : ⊥ = cc in absurd z; tasks = λ e. s }

  turn_keeps : (at lane : ℕ) (kind : Kind) (version : ℕ) (shapes : List Shape) → RestStays q (Turn at lane kind version shapes)
  unfolding turn
  turn_keeps at lane kind version shapes = by (is_some q.open_turn) refl
    where
      by : (b : Bool) → is_some q.open_turn ≡ b → RestStays q (Turn at lane kind version shapes)
      by true e = turned (Turn at lane kind version shapes) refl (rw e refl) (rw e refl)
          (rw e (record { awake = refl; asleep = refl; gone = refl; tickless = refl; idle_since = refl; avg_idle = refl }))
      by false e = turned (Turn at lane kind version shapes) refl (rw e refl) (rw e refl)
          (rw e (record { awake = refl; asleep = refl; gone = refl; tickless = refl; idle_since = refl; avg_idle = refl }))

  pub calls_keep_rest : (c : Call) → RestStays q c
  unfolding close_look ask_active kick
  calls_keep_rest (Declare id nice mask) = of_tasks (Declare id nice mask) refl
  calls_keep_rest (Wake at id) = of_tasks (Wake at id) refl
  calls_keep_rest (Leave at id to) = of_tasks (Leave at id to) refl
  calls_keep_rest (Sleep at id) = of_tasks (Sleep at id) refl
  calls_keep_rest (Exit at id) = of_tasks (Exit at id) refl
  calls_keep_rest (SetMask at id mask) = of_tasks (SetMask at id mask) refl
  calls_keep_rest (Renice at id nice) = of_tasks (Renice at id nice) refl
  calls_keep_rest (Tick at) = of_tasks (Tick at) refl
  calls_keep_rest (TakeStop at id to) = of_tasks (TakeStop at id to) refl
  calls_keep_rest (TakePush at to) = of_tasks (TakePush at to) refl
  calls_keep_rest (Take at env) = of_tasks (Take at env) refl
  calls_keep_rest (Land at cause moment tasks) = of_tasks (Land at cause moment tasks) refl
  calls_keep_rest (Turn at lane kind version shapes) = turn_keeps at lane kind version shapes
  calls_keep_rest c = turned c refl refl refl
      (record { awake = refl; asleep = refl; gone = refl; tickless = refl; idle_since = refl; avg_idle = refl })
