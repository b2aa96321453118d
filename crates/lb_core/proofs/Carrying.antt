-- Each answer and each `out` moves tasks as the map says.
-- For the lemmas of `Permits`, `Places` and `Placing`, and so for the laws `permitted_stays`, `permitted` and others.
use Rattle.std.proofs.Common.{◌≡◌, ℕ, Bool, true, false, cond, List, [], set, Option, Some, None, refl, ◌∙◌, ap, arith, subst}
use Rattle.lb_queue.specs.declared.record.TaskRecord.{TaskRecord}
use Rattle.lb_queue.specs.declared.awake.Awake.{Awake}
use Rattle.lb_queue.specs.declared.answers.OutCause.{OutCause}
use Rattle.lb_queue.specs.declared.answers.Reply.{Reply}
use Rattle.lb_queue.specs.declared.answers.Reply.TheVariants.{Done as DoneReply}
use Rattle.lb_queue.specs.declared.answers.Taken.{Taken}
use Rattle.lb_queue.specs.Tasks.{ids, awake_ids, occurs}
use Rattle.lb_queue.specs.Queue.{QueueState, is_awake}
use Rattle.lb_queue.specs.Commands.{wake, sleep, exit}
use Rattle.lb_queue.specs.Calls.{Call, after_call}
use Rattle.lb_queue.specs.Calls.Call.{Wake as WakeCall, Sleep as SleepCall, Exit as ExitCall, SetMask as MaskCall, Renice, Tick as TickCall, Leave, TakeStop, TakePush, Take}
use Rattle.lb_queue.specs.Moves.{Side, OnAwake, OnAsleep, OnGone, OnHand, same_side, standing, AreDistinct, brought, taken_along, Move, if_done, moved_by, HasMoved}
use Rattle.lb_queue.specs.Laws.{CallsMove}
use Rattle.lb_trace.specs.declared.trace.Command.{Command}
use Rattle.lb_trace.specs.declared.trace.Command.TheVariants.{Wake, Sleep, Exit, SetMask, Nice, Tick, Rebuild}
use Rattle.lb_core.specs.declared.entry.Owner.TheVariants.{Queue}
use Rattle.lb_core.specs.declared.entry.What.TheVariants.{Did}
use Rattle.lb_core.specs.declared.place.Place.{Place}
use Rattle.lb_core.specs.declared.place.Place.TheVariants.{Awake as AwakeAt, Asleep as AsleepAt, Gone as GoneAt, Hand as HandOf}
use Rattle.lb_core.specs.Leaving.{Leaving}
use Rattle.lb_core.specs.QueueAfter.{answer_to}
use Rattle.lb_core.specs.Step.{set_places, places_by, places_after}
use Rattle.lb_core.proofs.Leavings.{leaves, leaving_of, IsLeft}

-- ---- sides as places
abbrev pub place_on : Side → ℕ → ℕ → Place
place_on OnAwake cpu lane = AwakeAt cpu
place_on OnAsleep cpu lane = AsleepAt cpu
place_on OnGone cpu lane = GoneAt cpu
place_on OnHand cpu lane = HandOf lane

-- some tasks move, and the map says so
pub record Carried (q : QueueState) (h : List TaskRecord) (q' : QueueState) (h' : List TaskRecord) (cpu lane : ℕ)
    (places places' : List Place) : Type 0 where
  pub move : Move
  pub apart : same_side move.from move.to ≡ false
  pub moved : HasMoved move q h q' h'
  pub map : places' ≡ set_places move.tasks (place_on move.to cpu lane) places

-- the lists of a queue stay
abbrev pub lists_of : QueueState → List Awake × List TaskRecord × List TaskRecord
lists_of q = (q.awake, q.asleep, q.gone)

stands : (q q' : QueueState) (h : List TaskRecord) → lists_of q' ≡ lists_of q → (s : Side) (u : ℕ)
    → occurs u (standing s q' h) ≡ occurs u (standing s q h)
stands q q' h e OnAwake u = ap (λ (l : List Awake × List TaskRecord × List TaskRecord). occurs u (awake_ids l.0)) e
stands q q' h e OnAsleep u = ap (λ (l : List Awake × List TaskRecord × List TaskRecord). occurs u (ids l.1)) e
stands q q' h e OnGone u = ap (λ (l : List Awake × List TaskRecord × List TaskRecord). occurs u (ids l.2)) e
stands q q' h e OnHand u = refl

still : (q q' : QueueState) (h : List TaskRecord) → lists_of q' ≡ lists_of q
    → HasMoved (record { tasks = []; from = OnHand; to = OnAwake }) q h q' h
still q q' h e OnAwake u = let k = stands q q' h e OnAwake u in omega arith
still q q' h e OnAsleep u = let k = stands q q' h e OnAsleep u in omega arith
still q q' h e OnGone u = let k = stands q q' h e OnGone u in omega arith
still q q' h e OnHand u = let k = stands q q' h e OnHand u in omega arith

pub unmoved : (q : QueueState) (h : List TaskRecord) (q' : QueueState) (cpu lane : ℕ) (places places' : List Place)
    → lists_of q' ≡ lists_of q → places' ≡ places → Carried q h q' h cpu lane places places'
unmoved q h q' cpu lane places places' e p =
    record { move = record { tasks = []; from = OnHand; to = OnAwake }; apart = refl; moved = still q q' h e; map = p }

-- ---- the answer to a row
-- the map sets the task of a command that was done
done_map : (r s : Reply) (cpu lane t : ℕ) (place : Place) (command : Option Command) (places : List Place) → r ≡ s
    → places_by command cpu places ≡ set places t place
    → places_after (Did r) (Queue cpu) lane command places ≡ set_places (if_done s t) place places
done_map r s cpu lane t place command places e h = by_reply r h ∙ ap (λ (x : Reply). set_places (if_done x t) place places) e
  where
    by_reply : (r : Reply) → places_by command cpu places ≡ set places t place
        → places_after (Did r) (Queue cpu) lane command places ≡ set_places (if_done r t) place places
    by_reply DoneReply h = h
    by_reply r h = refl

-- a command that changes no place
same_map : (r : Reply) (cpu lane : ℕ) (command : Option Command) (places : List Place)
    → places_by command cpu places ≡ places → places_after (Did r) (Queue cpu) lane command places ≡ places
same_map DoneReply cpu lane command places h = h
same_map r cpu lane command places h = refl

not_gone : (b : Bool) → same_side (cond b OnAwake OnAsleep) OnGone ≡ false
not_gone true = refl
not_gone false = refl

pub answers : CallsMove → (command : Option Command) (r : Reply) (at cpu lane : ℕ) (q : QueueState)
    (places : List Place) → AreDistinct q → r ≡ (answer_to command at q).0 →
    Carried q [] (answer_to command at q).1 [] cpu lane places (places_after (Did r) (Queue cpu) lane command places)
answers law None r at cpu lane q places one said = unmoved q [] q cpu lane places _ refl (same_map r cpu lane None places refl)
answers law (Some (Wake t)) r at cpu lane q places one said =
    record {
      move = moved_by q (WakeCall at t);
      apart = refl;
      moved = law q one (WakeCall at t);
      map = done_map r (wake q at t).0 cpu lane t (AwakeAt cpu) (Some (Wake t)) places said refl;
    }
answers law (Some (Sleep t)) r at cpu lane q places one said =
    record {
      move = moved_by q (SleepCall at t);
      apart = refl;
      moved = law q one (SleepCall at t);
      map = done_map r (sleep q at t).0 cpu lane t (AsleepAt cpu) (Some (Sleep t)) places said refl;
    }
answers law (Some (Exit t)) r at cpu lane q places one said =
    record {
      move = moved_by q (ExitCall at t);
      apart = not_gone (is_awake q t);
      moved = law q one (ExitCall at t);
      map = done_map r (exit q at t).0 cpu lane t (GoneAt cpu) (Some (Exit t)) places said refl;
    }
answers law (Some (SetMask t m)) r at cpu lane q places one said =
    record {
      move = moved_by q (MaskCall at t m);
      apart = refl;
      moved = law q one (MaskCall at t m);
      map = same_map r cpu lane (Some (SetMask t m)) places refl;
    }
answers law (Some (Nice t n)) r at cpu lane q places one said =
    record {
      move = moved_by q (Renice at t n);
      apart = refl;
      moved = law q one (Renice at t n);
      map = same_map r cpu lane (Some (Nice t n)) places refl;
    }
answers law (Some (Tick u)) r at cpu lane q places one said =
    record {
      move = moved_by q (TickCall at);
      apart = refl;
      moved = law q one (TickCall at);
      map = same_map r cpu lane (Some (Tick u)) places refl;
    }
answers law (Some (Rebuild parts)) r at cpu lane q places one said =
    unmoved q [] q cpu lane places _ refl (same_map r cpu lane (Some (Rebuild parts)) places refl)

-- ---- tasks that leave
pub record Leaves (q : QueueState) (l : Leaving) : Type 0 where
  pub from : Side
  pub apart : same_side from OnHand ≡ false
  pub moved : HasMoved (record { tasks = ids l.hand; from = from; to = OnHand }) q [] l.rest l.hand

leaves_by : (q : QueueState) (cause : OutCause) (taken : Option Taken) (call : Call) → leaves call ≡ true
    → HasMoved (moved_by q call) q (brought call) (after_call q call) (taken_along q call)
    → Leaves q (leaving_of q cause taken call)
leaves_by q cause taken (Leave at id to) b h = record { from = OnAsleep; apart = refl; moved = h }
leaves_by q cause taken (TakeStop at id to) b h = record { from = OnAwake; apart = refl; moved = h }
leaves_by q cause taken (TakePush at to) b h = record { from = OnAwake; apart = refl; moved = h }
leaves_by q cause taken (Take at env) b h = record { from = OnAwake; apart = refl; moved = h }
leaves_by q cause taken call b h = absurd (let k : ⊥ = cc in k)

pub out_leaves : CallsMove → (q : QueueState) (l : Leaving) → IsLeft q l → AreDistinct q → Leaves q l
out_leaves law q l left one = subst (Leaves q) left.is (leaves_by q l.cause l.taken left.call left.leaves (law q one left.call))
