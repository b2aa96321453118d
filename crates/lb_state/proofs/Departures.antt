-- What the step of an `out` asks, where it may be added to a ready machine: it is the one that is due, and goes
-- to a CPU of the machine with tasks that are declared, and few. The machine after it is ready too, and has them
-- in the hand of a lane in flight.
-- For the lemmas of `Taking`, and so for the law `steps_may_be_taken`.
use Rattle.std.proofs.Common.{arith, ◌≡◌, ℕ, ◌+◌, ◌<◌, ◌≤◌, false, List, length, Option, Some, None, refl, sym, ◌∙◌, ap, subst, get_or-set_same}
use Rattle.std.specs.Prelude.{All}
use Rattle.std.proofs.lemmas.Bool.{or_parts, eqb-true, not-false}
use Rattle.std.proofs.lemmas.List.{length-map}
use Rattle.lb_queue.specs.declared.answers.OutCause.{OutCause}
use Rattle.lb_queue.specs.declared.record.TaskRecord.{TaskRecord}
use Rattle.lb_queue.specs.Tasks.{ids}
use Rattle.lb_trace.specs.declared.trace.Header.{Header}
use Rattle.lb_core.specs.declared.course.Course.{Course}
use Rattle.lb_core.specs.declared.entry.Owner.TheVariants.{Queue}
use Rattle.lb_core.specs.declared.entry.What.TheVariants.{Out}
use Rattle.lb_core.specs.declared.place.Place.TheVariants.{Hand as HandOf}
use Rattle.lb_core.specs.declared.rule.Rule.TheVariants.{Pick}
use Rattle.lb_core.specs.CourseAfter.{takes_off, drew, course_after}
use Rattle.lb_core.specs.Leaving.{Leaving, leaving}
use Rattle.lb_core.specs.Legal.{MayBeAdded}
use Rattle.lb_core.specs.Machine.{MachineState, course_at, no_course, sight}
use Rattle.lb_core.specs.Rules.{is_other_out}
use Rattle.lb_core.specs.Step.{after}
use Rattle.lb_core.proofs.Equality.{cause_is, numbers_same}
use Rattle.lb_core.proofs.Placing.{entry, lane_there}
use Rattle.lb_core.proofs.Unbroken.{unbroken_here}
use Rattle.lb_ready.specs.Ready.{IsReady, Fits}
use Rattle.lb_engine.specs.Leaves.{IsOut, IsDue}
use Rattle.lb_engine.specs.Steps.{of_queue}
use Rattle.lb_engine.specs.Takes.{OutAsks}
use Rattle.lb_state.proofs.Counted.{few_at, few_in_hands}
use Rattle.lb_state.proofs.QueueEntries.{pull_asks, each_declared}

-- ---- the one that is due
record IsSaid (out : Option Leaving) (cause : OutCause) (to : ℕ) (tasks : List ℕ) : Type 0 where
  one : Leaving
  due : out ≡ Some one
  cause_is : one.cause ≡ cause
  to_is : one.to ≡ to
  tasks_are : tasks ≡ ids one.hand

said_by : (out : Option Leaving) (cause : OutCause) (to : ℕ) (tasks : List ℕ)
    → is_other_out out cause to tasks ≡ false → IsSaid out cause to tasks
said_by None cause to tasks h = absurd (let y : ⊥ = cc in y)
said_by (Some l) cause to tasks h =
    let p = or_parts _ _ h in
    let first = or_parts _ _ p.0 in
    record {
      one = l;
      due = refl;
      cause_is = sym (cause_is cause l.cause (not-false _ first.0));
      to_is = sym (eqb-true to l.to (not-false _ first.1));
      tasks_are = numbers_same tasks (ids l.hand) (not-false _ p.1);
    }

is_due : (out : Option Leaving) (cause : OutCause) (to : ℕ) (tasks : List ℕ) → IsSaid out cause to tasks
    → IsDue out cause to (length tasks)
is_due None cause to tasks s = absurd (let e = s.due in let y : ⊥ = cc in y)
is_due (Some l) cause to tasks s =
    let e : Some l ≡ Some s.one = s.due in
    let same : l ≡ s.one = cc in
    subst (λ (x : Leaving). IsOut x cause to (length tasks)) (sym same)
    (record {
      cause_is = s.cause_is;
      to_is = s.to_is;
      tasks_are = sym (ap length s.tasks_are ∙ length-map s.one.hand (λ (t : TaskRecord). t.id));
    })

-- ---- the machine after it
-- its lane is in flight, with these tasks
flown : (m : MachineState) (cpu lane prev : ℕ) (cause : OutCause) (to : ℕ) (tasks : List ℕ) (l : Leaving)
    → MayBeAdded m (entry (Queue cpu) lane prev (Out cause to tasks)) →
    leaving (sight m (entry (Queue cpu) lane prev (Out cause to tasks))) ≡ Some l →
    course_at (after m (entry (Queue cpu) lane prev (Out cause to tasks))).courses lane ≡ drew (Queue cpu)
    ((sight m (entry (Queue cpu) lane prev (Out cause to tasks))).count + 1)
    (takes_off (Some l) (sight m (entry (Queue cpu) lane prev (Out cause to tasks))).course)
unfolding after course_after
flown m cpu lane prev cause to tasks l h due =
    let e = entry (Queue cpu) lane prev (Out cause to tasks) in
    let s = sight m e in
    get_or-set_same m.courses lane (course_after s e) no_course (lane_there m e h)
    ∙ ap (λ (o : Option Leaving). drew (Queue cpu) (s.count + 1) (takes_off o s.course)) due

goes_inside : (m : MachineState) (lane cpu n : ℕ) (l : Leaving) (c : Course) → IsReady m
    → course_at m.courses lane ≡ drew (Queue cpu) n (takes_off (Some l) c) → l.to < length m.header.cpus
goes_inside m lane cpu n l c k is = (subst (Fits m.ended m.header m.ticket) is (k.fits lane)).form

holds_few : (m : MachineState) (lane cpu n : ℕ) (l : Leaving) (c : Course) → IsReady m
    → course_at m.courses lane ≡ drew (Queue cpu) n (takes_off (Some l) c) → length (ids l.hand) ≤ 4096
holds_few m lane cpu n l c k is =
    let few = subst (λ (x : Course). length (ids x.hand) ≤ length m.header.tasks) is (few_at m (HandOf lane) k.placed) in
    let tasks = k.accepted.most_tasks in
    omega (arith, few, tasks)

holds_declared : (m : MachineState) (lane cpu n : ℕ) (l : Leaving) (c : Course) → IsReady m
    → course_at m.courses lane ≡ drew (Queue cpu) n (takes_off (Some l) c) → All (λ t. t < length m.places) (ids l.hand)
holds_declared m lane cpu n l c k is = subst (λ (x : Course). All (λ t. t < length m.places) (ids x.hand)) is
    (each_declared m lane k.placed)

header_stays : (m : MachineState) (cpu lane prev : ℕ) (cause : OutCause) (to : ℕ) (tasks : List ℕ)
    → (after m (entry (Queue cpu) lane prev (Out cause to tasks))).header ≡ m.header
unfolding after
header_stays m cpu lane prev cause to tasks = refl

same_sight : (m : MachineState) (cpu lane prev : ℕ) (cause : OutCause) (to : ℕ) (tasks : List ℕ)
    → leaving (sight m (entry (Queue cpu) lane prev (Out cause to tasks))) ≡ leaving
    (sight m (of_queue cpu lane (Out cause to tasks)))
unfolding sight
same_sight m cpu lane prev cause to tasks = refl

pub out_asks : (m : MachineState) (cpu lane prev : ℕ) (cause : OutCause) (to : ℕ) (tasks : List ℕ) → IsReady m
    → MayBeAdded m (entry (Queue cpu) lane prev (Out cause to tasks))
    → IsReady (after m (entry (Queue cpu) lane prev (Out cause to tasks))) →
    OutAsks m cpu lane cause to tasks
out_asks m cpu lane prev cause to tasks k h later =
    let e = entry (Queue cpu) lane prev (Out cause to tasks) in
    let m' = after m e in
    let said = said_by (leaving (sight m e)) cause to tasks (unbroken_here m e h Pick) in
    let is = flown m cpu lane prev cause to tasks said.one h said.due in
    let n = (sight m e).count + 1 in
    let c = (sight m e).course in
    let header = header_stays m cpu lane prev cause to tasks in
    let inside = goes_inside m' lane cpu n said.one c later is in
    let places : length m'.places ≡ length m.places =
    later.placed.mapped ∙ ap (λ (h : Header). length h.tasks) header ∙ sym k.placed.mapped in
    record {
      due = subst (λ (o : Option Leaving). IsDue o cause to (length tasks))
          (same_sight m cpu lane prev cause to tasks) (is_due (leaving (sight m e)) cause to tasks said);
      to = (let cpus = ap (λ (h : Header). length h.cpus) header in let q = k.sizes.queues in let t = said.to_is in omega arith);
      pull = pull_asks (course_at m.courses lane).form m lane k (k.turns lane);
      places = subst (λ (x : ℕ). All (λ t. t < x) tasks) places
          (subst (All (λ t. t < length m'.places)) (sym said.tasks_are) (holds_declared m' lane cpu n said.one c later is));
      few = (
          let hands = few_in_hands m k in
          let count = ap length said.tasks_are in
          let more = holds_few m' lane cpu n said.one c later is in
          omega (arith, hands, count, more)
          );
    }
