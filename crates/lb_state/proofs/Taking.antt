-- An entry that may be added to a ready machine meets what its step asks of the engine.
-- For the law `steps_may_be_taken`.
use Rattle.std.proofs.Common.{arith, ◌≡◌, ℕ, ◌<◌, true, false, length, refl}
use Rattle.lb_domain.specs.Laws.{LieInside}
use Rattle.lb_queue.specs.Queue.{QueueState}
use Rattle.lb_trace.specs.declared.trace.Header.{Header}
use Rattle.lb_core.specs.declared.course.Course.{Course}
use Rattle.lb_core.specs.declared.course.Form.{Form}
use Rattle.lb_core.specs.declared.course.Form.TheVariants.{Flight}
use Rattle.lb_core.specs.declared.entry.Owner.{Owner}
use Rattle.lb_core.specs.declared.entry.Owner.TheVariants.{Publisher, Lane, Queue}
use Rattle.lb_core.specs.declared.entry.What.{What}
use Rattle.lb_core.specs.declared.entry.What.TheVariants.{Did, Out, Landed, Turn, Shut, Close, Ask, Kick, Over}
use Rattle.lb_core.specs.declared.rule.Rule.TheVariants.{Reply as ReplyRule}
use Rattle.lb_core.specs.Legal.{MayBeAdded}
use Rattle.lb_core.specs.Machine.{MachineState, course_at, queue_at, sight}
use Rattle.lb_core.specs.Placed.{is_flight}
use Rattle.lb_core.specs.Stage.{draws, queue_due, is_owner}
use Rattle.lb_core.proofs.Placing.{entry, lane_there, cpu_there, form_lets}
use Rattle.lb_core.proofs.Unbroken.{unbroken_here}
use Rattle.lb_ready.specs.Calls.{QueueAsks}
use Rattle.lb_ready.specs.Lanes.{Suits, LanesSuit}
use Rattle.lb_ready.specs.Laws.{StaysReady, CallsMayBeMade, TasksStand}
use Rattle.lb_ready.specs.Ready.{IsReady, nice_fits}
use Rattle.lb_engine.specs.Takes.{QueueStepAsks, OfQueueAsks, OwnerAsks, is_landing}
use Rattle.lb_state.specs.Laws.{StepsMayBeTaken}
use Rattle.lb_state.proofs.LaneEntries.{lane_asks}
use Rattle.lb_state.proofs.QueueEntries.{did_asks, turn_asks, close_asks, over_asks, landed_asks, some_not_none}
use Rattle.lb_state.proofs.Departures.{out_asks}

-- the laws of ready machines
pub record ReadyLaws : Type 0 where
  pub stays : StaysReady
  pub calls : CallsMayBeMade
  pub stand : TasksStand
  pub suit : LanesSuit
  pub inside : LieInside

-- a lane in flight draws its landing alone
lands_in_flight : (f : Form) (h : Header) (c : Course) (q : QueueState) (lane : ℕ) (w : What)
    → draws f h c q lane w ≡ true → is_flight f ≡ is_landing w
unfolding draws
lands_in_flight Flight h c q lane (Landed tasks) d = refl
lands_in_flight Flight h c q lane w d = absurd (let y : ⊥ = cc in y)
lands_in_flight f h c q lane (Landed tasks) d = absurd (let y : ⊥ = cc in y)
lands_in_flight f h c q lane w d = refl

queue_asks : ReadyLaws → (m : MachineState) (cpu lane prev : ℕ) (w : What) → IsReady m
    → MayBeAdded m (entry (Queue cpu) lane prev w) → nice_fits w ≡ true → cpu < length m.header.cpus
    → Suits m.header (course_at m.courses lane) →
    QueueAsks w (sight m (entry (Queue cpu) lane prev w)) → QueueStepAsks w m cpu lane (queue_at m.queues cpu)
    (course_at m.courses lane)
unfolding sight
queue_asks laws m cpu lane prev (Did r) k h r' lt s meets = did_asks laws.stand m cpu lane prev r k h meets
queue_asks laws m cpu lane prev (Out cause to tasks) k h r lt s meets =
    out_asks m cpu lane prev cause to tasks k h (laws.stays m (entry (Queue cpu) lane prev (Out cause to tasks)) k h r)
queue_asks laws m cpu lane prev (Landed tasks) k h r lt s meets = landed_asks m cpu lane prev tasks k lt h meets
queue_asks laws m cpu lane prev (Turn ps) k h r lt s meets =
    turn_asks m cpu lane prev (Turn ps) false k refl h meets (unbroken_here m (entry (Queue cpu) lane prev (Turn ps)) h ReplyRule)
queue_asks laws m cpu lane prev Shut k h r lt s meets =
    turn_asks m cpu lane prev Shut true k refl h meets
    (some_not_none _ (unbroken_here m (entry (Queue cpu) lane prev Shut) h ReplyRule))
queue_asks laws m cpu lane prev (Close p w i n) k h r lt s meets = close_asks m cpu lane prev p i n w k s h meets
queue_asks laws m cpu lane prev (Ask a) k h r lt s meets = s.position
queue_asks laws m cpu lane prev (Kick a) k h r lt s meets = tt
queue_asks laws m cpu lane prev Over k h r lt s meets = over_asks m cpu lane prev k h meets
queue_asks laws m cpu lane prev w k h r lt s meets =
    absurd (let o : is_owner w lane (queue_due (course_at m.courses lane).form (course_at m.courses lane))
    (Queue cpu) ≡ true = (form_lets m (entry (Queue cpu) lane prev w) h).0 in let y : ⊥ = cc in y)

of_queue_asks : ReadyLaws → (m : MachineState) (cpu lane prev : ℕ) (w : What) → IsReady m
    → MayBeAdded m (entry (Queue cpu) lane prev w) → nice_fits w ≡ true → Suits m.header (course_at m.courses lane)
    → OfQueueAsks w m cpu lane
of_queue_asks laws m cpu lane prev w k h r s =
    let e = entry (Queue cpu) lane prev w in
    let there = cpu_there m cpu lane prev w h in
    let queues = k.sizes.queues in
    let figures = k.sizes.figures in
    let lt : cpu < length m.header.cpus = omega arith in
    record {
      cpu_is = there;
      figures = omega arith;
      opening = k.sizes.published cpu lt;
      named = (let n = s.numbers in omega arith);
      few = k.accepted.most_cpus;
      serve = queue_asks laws m cpu lane prev w k h r lt s (laws.calls m e k h);
    }

owner_asks : ReadyLaws → (m : MachineState) (o : Owner) (lane prev : ℕ) (w : What) → IsReady m
    → MayBeAdded m (entry o lane prev w) → nice_fits w ≡ true → Suits m.header (course_at m.courses lane) → OwnerAsks o w m lane
owner_asks laws m (Queue cpu) lane prev w k h r s = of_queue_asks laws m cpu lane prev w k h r s
owner_asks laws m Publisher lane prev w k h r s = lane_asks laws.inside m Publisher lane prev w k s refl h
owner_asks laws m (Lane l) lane prev w k h r s = lane_asks laws.inside m (Lane l) lane prev w k s refl h

pub steps_may_be_taken : ReadyLaws → StepsMayBeTaken
steps_may_be_taken laws m e k h r =
    let there = lane_there m e h in
    let courses = k.sizes.courses in
    let lasts = k.sizes.lasts in
    record {
      lane = there;
      last = omega arith;
      flight = lands_in_flight (course_at m.courses e.lane).form m.header (course_at m.courses e.lane)
          (sight m e).queue e.lane e.what (form_lets m e h).1;
      owner = owner_asks laws m e.owner e.lane e.prev e.what k h r (laws.suit m e.lane k there);
    }
