-- The changing calls of a queue with their arguments: when a call may be made, and which state it
-- leaves. Lists of calls are made one after the other.
-- For the definitions of `Laws` and `Moves`, and so for the laws `sound`, `clock_rises` and others; cited by
-- `lb_cell`, `lb_core` and other crates.
use Rattle.std.specs.Prelude.{◌≡◌, ℕ, ℤ, pos, negsuc, ◌<◌, ◌≤◌, ◌≤ℤ◌, true, false, Bool, Option, Some, None, IsSome, All, List, [], ◌∷◌, length}
use Rattle.std.specs.List.{list_all}
use Rattle.lb_base.specs.declared.mask.Mask.{Mask}
use Rattle.lb_base.specs.declared.shape.Kind.{Kind}
use Rattle.lb_base.specs.declared.shape.Shape.{Shape}
use Rattle.lb_base.specs.Mask.{has}
use Rattle.lb_base.specs.Sets.{is_empty, is_below}
use Rattle.lb_detach.specs.declared.Env.{Env}
use Rattle.lb_interval.specs.declared.Outcome.{Outcome}
use Rattle.lb_queue.specs.declared.queue.TheConstants.{MAX_SHAPES}
use Rattle.lb_queue.specs.declared.record.TaskRecord.{TaskRecord}
use Rattle.lb_queue.specs.declared.answers.OutCause.{OutCause}
use Rattle.lb_queue.specs.Tasks.{ids, occurs}
use Rattle.lb_queue.specs.Queue.{QueueState, new_task, declared, knows, away}
use Rattle.lb_queue.specs.Kept.{IsTask, id_limit}
use Rattle.lb_queue.specs.Commands.{wake, sleep, exit, set_mask, renice}
use Rattle.lb_queue.specs.Requests.{tick, ask_active, kick, has_owed}
use Rattle.lb_queue.specs.Hands.{leave, take_stop, stop_to, take_push, take_pull, land}
use Rattle.lb_queue.specs.Turns.{turn, close_look, end_turn, FitCounters, AreInOrder, IsOpenAt}

-- `at` is the moment of the call, `to` the destination of the hand; a landing has the cause, the
-- hand's moment and its tasks
pub data Call : Type 0 where
  Declare : (id : ℕ) → (nice : ℤ) → (mask : Mask) → Call
  Wake : (at id : ℕ) → Call
  Leave : (at id to : ℕ) → Call
  Sleep : (at id : ℕ) → Call
  Exit : (at id : ℕ) → Call
  SetMask : (at id : ℕ) → (mask : Mask) → Call
  Renice : (at id : ℕ) → (nice : ℤ) → Call
  Tick : (at : ℕ) → Call
  TakeStop : (at id to : ℕ) → Call
  TakePush : (at to : ℕ) → Call
  Take : (at : ℕ) → (env : Env) → Call
  Land : (at : ℕ) → (cause : OutCause) → (moment : ℕ) → (tasks : List TaskRecord) → Call
  Turn : (at lane : ℕ) → (kind : Kind) → (version : ℕ) → (shapes : List Shape) → Call
  CloseLook : (at : ℕ) → (shape : Shape) → (outcome : Outcome) → (imb : Option Bool) → Call
  EndTurn : (at : ℕ) → Call
  AskActive : (at to : ℕ) → Call
  Kick : (at : ℕ) → Call

-- what is asked of a new task
pub record IsNew (q : QueueState) (id : ℕ) (nice : ℤ) (mask : Mask) : Type 0 where
  pub unknown : knows q id ≡ false
  pub numbered : id < id_limit
  pub low : negsuc 19 ≤ℤ nice
  pub high : nice ≤ℤ pos 19
  pub somewhere : is_empty mask ≡ false
  pub within : is_below mask q.cpus ≡ true

-- what is asked of the tasks of a hand, and what every hand that goes here keeps of its tasks
pub record CanLand (q : QueueState) (tasks : List TaskRecord) : Type 0 where
  pub differ : (id : ℕ) → occurs id (ids tasks) ≤ 1
  pub unknown : All (λ t. knows q t.id ≡ false) tasks
  pub permitted : list_all (λ t. has t.mask q.cpu) tasks ≡ true
  pub each : All IsTask tasks

-- the call may be made
abbrev pub May : QueueState → Call → Type 0
May q (Declare id nice mask) = IsNew q id nice mask
May q (Wake at id) = away q id ≡ None
May q (Leave at id to) = away q id ≡ Some to
May q (Sleep at id) = Unit {0}
May q (Exit at id) = Unit {0}
May q (SetMask at id mask) = Unit {0}
May q (Renice at id nice) = (negsuc 19 ≤ℤ nice) × (nice ≤ℤ pos 19)
May q (Tick at) = has_owed q ≡ false
May q (TakeStop at id to) = stop_to q id ≡ Some to
May q (TakePush at to) = q.active ≡ Some to
May q (Take at env) = Unit {0}
May q (Land at cause moment tasks) = CanLand q tasks
May q (Turn at lane kind version shapes) = (length shapes ≤ MAX_SHAPES) × AreInOrder shapes × FitCounters q version shapes
May q (CloseLook at shape outcome imb) = IsOpenAt q.open_turn shape.position
May q (EndTurn at) = IsSome q.open_turn
May q (AskActive at to) = Unit {0}
May q (Kick at) = Unit {0}

-- the state that it leaves
abbrev pub after_call : QueueState → Call → QueueState
after_call q (Declare id nice mask) = declared (new_task id nice mask) q
after_call q (Wake at id) = (wake q at id).1
after_call q (Leave at id to) = (leave q at id).1
after_call q (Sleep at id) = (sleep q at id).1
after_call q (Exit at id) = (exit q at id).1
after_call q (SetMask at id mask) = (set_mask q at id mask).1
after_call q (Renice at id nice) = (renice q at id nice).1
after_call q (Tick at) = tick q at
after_call q (TakeStop at id to) = (take_stop q at id).1
after_call q (TakePush at to) = (take_push q at to).1
after_call q (Take at env) = (take_pull q at env).1
after_call q (Land at cause moment tasks) = land q at cause moment tasks
after_call q (Turn at lane kind version shapes) = (turn q at lane kind version shapes).1
after_call q (CloseLook at shape outcome imb) = close_look q at shape outcome imb
after_call q (EndTurn at) = end_turn q at
after_call q (AskActive at to) = (ask_active q at to).1
after_call q (Kick at) = (kick q at).1

-- ---- one call after the other
unfoldable pub after_calls : QueueState → List Call → QueueState
after_calls q [] = q
after_calls q (c ∷ cs) = after_calls (after_call q c) cs

unfoldable pub MayAll : QueueState → List Call → Type 0
MayAll q [] = Unit {0}
MayAll q (c ∷ cs) = May q c × MayAll (after_call q c) cs
