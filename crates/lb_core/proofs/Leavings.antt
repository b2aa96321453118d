-- Each `out` that is due is a call of the queue by which tasks leave: a wake, a stop, a push or a pull.
-- For the lemmas of `Carrying`, `Permits` and other files, and so for the laws `permitted_stays`, `permitted` and
-- others.
use Rattle.std.proofs.Common.{◌≡◌, ℕ, Bool, true, false, not, Option, Some, None, IfSome, refl, subst}
use Rattle.std.specs.List.{list_all}
use Rattle.lb_base.specs.Sets.{is_empty}
use Rattle.lb_detach.specs.declared.Env.{Env}
use Rattle.lb_queue.specs.declared.answers.OutCause.{OutCause}
use Rattle.lb_queue.specs.declared.answers.Stop.{Stop}
use Rattle.lb_queue.specs.declared.answers.Taken.{Taken}
use Rattle.lb_queue.specs.declared.awake.Awake.{Awake}
use Rattle.lb_queue.specs.Queue.{QueueState, away}
use Rattle.lb_queue.specs.Requests.{next_stop}
use Rattle.lb_queue.specs.Hands.{stop_to}
use Rattle.lb_queue.specs.Calls.{Call, May, after_call}
use Rattle.lb_queue.specs.Calls.Call.{Leave, TakeStop, TakePush, Take}
use Rattle.lb_queue.specs.Moves.{AreDistinct, taken_along, goes_to}
use Rattle.lb_queue.specs.Laws.{NextMayBeTaken}
use Rattle.lb_trace.specs.declared.trace.Command.{Command}
use Rattle.lb_trace.specs.declared.trace.Command.TheVariants.{Wake}
use Rattle.lb_trace.specs.declared.trace.Header.{Header}
use Rattle.lb_core.specs.declared.course.Course.{Course}
use Rattle.lb_core.specs.declared.course.Form.{Form}
use Rattle.lb_core.specs.declared.course.Form.TheVariants.{Rest, Asked, Serving, Looked}
use Rattle.lb_core.specs.Course.{env_of}
use Rattle.lb_core.specs.Leaving.{Leaving, wake_to, wake_out, stop_out, push_out, served_out, pull_out, out_by}

-- tasks leave by the call
abbrev pub leaves : Call → Bool
leaves (Leave at id to) = true
leaves (TakeStop at id to) = true
leaves (TakePush at to) = true
leaves (Take at env) = true
leaves call = false

-- what leaves by it
abbrev pub leaving_of : QueueState → OutCause → Option Taken → Call → Leaving
leaving_of q cause taken call = record {
  cause = cause;
  to = goes_to call;
  hand = taken_along q call;
  rest = after_call q call;
  taken = taken;
}

-- no mask of an awake task is empty
abbrev pub HaveMasks : QueueState → Type 0
HaveMasks q = list_all (λ (a : Awake). not (is_empty a.task.mask)) q.awake ≡ true

pub record IsLeft (q : QueueState) (l : Leaving) : Type 0 where
  pub call : Call
  pub leaves : leaves call ≡ true
  pub is : leaving_of q l.cause l.taken call ≡ l
  pub may : NextMayBeTaken → AreDistinct q → HaveMasks q → May q call

by : (q : QueueState) (cause : OutCause) (taken : Option Taken) (call : Call) (l : Leaving) → leaves call ≡ true
    → Some (leaving_of q cause taken call) ≡ Some l → (NextMayBeTaken → AreDistinct q → HaveMasks q → May q call) → IsLeft q l
by q cause taken call l b e may =
    let same : leaving_of q cause taken call ≡ l = cc in
    subst (IsLeft q) same (record { call = call; leaves = b; is = refl; may = may })

nothing : (q : QueueState) (l : Leaving) → None ≡ Some l → IsLeft q l
nothing q l e = absurd (let k : ⊥ = cc in k)

wakes : (o : Option ℕ) (at t : ℕ) (q : QueueState) (l : Leaving) → away q t ≡ o → wake_to o at t q ≡ Some l → IsLeft q l
wakes None at t q l a e = nothing q l e
wakes (Some to) at t q l a e = by q _ None (Leave at t to) l refl e (λ next one masks. a)

wakes_off : (command : Option Command) (at : ℕ) (q : QueueState) (l : Leaving) → wake_out command at q ≡ Some l → IsLeft q l
wakes_off (Some (Wake t)) at q l e = wakes (away q t) at t q l refl e
wakes_off command at q l e = nothing q l e

stops : (o : Option Stop) (owed : Bool) (at : ℕ) (q : QueueState) (l : Leaving) → next_stop q owed ≡ o
    → stop_out o at q ≡ Some l → IsLeft q l
stops None owed at q l s e = nothing q l e
stops (Some stop) owed at q l s e = by q _ None (TakeStop at stop.id stop.to) l refl e
    (λ next one masks. subst (λ (o : Option Stop). IfSome o (λ x. stop_to q x.id ≡ Some x.to)) s (next q one masks owed))

pushes : (o : Option ℕ) (at : ℕ) (q : QueueState) (l : Leaving) → q.active ≡ o → push_out o at q ≡ Some l → IsLeft q l
pushes None at q l a e = nothing q l e
pushes (Some to) at q l a e = by q _ None (TakePush at to) l refl e (λ next one masks. a)

serves : (o : Option Stop) (at : ℕ) (q : QueueState) (l : Leaving) → next_stop q true ≡ o → served_out o at q ≡ Some l
    → IsLeft q l
serves None at q l s e = pushes q.active at q l refl e
serves (Some stop) at q l s e = stops (Some stop) true at q l s e

pulls : (o : Option Env) (at : ℕ) (q : QueueState) (l : Leaving) → pull_out o at q ≡ Some l → IsLeft q l
pulls None at q l e = nothing q l e
pulls (Some env) at q l e = by q _ _ (Take at env) l refl e (λ next one masks. tt)

pub is_left : (f : Form) (h : Header) (c : Course) (q : QueueState) (l : Leaving) → out_by f h c q ≡ Some l → IsLeft q l
is_left Rest h c q l e = stops (next_stop q false) false c.at q l refl e
is_left Asked h c q l e = wakes_off c.command c.at q l e
is_left Serving h c q l e = serves (next_stop q true) c.at q l refl e
is_left Looked h c q l e = pulls (env_of h c) c.at q l e
is_left f h c q l e = nothing q l e
