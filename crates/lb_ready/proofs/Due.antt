-- When an entry that a lane draws keeps every rule: each rule is asked in the form of the lane's course. What
-- a lane's next entry has to be, so that it may be added; and tasks that leave, by whatever form.
-- For the lemmas of `Calls`, `Drawing` and other files, and so for the laws `calls_may_be_made`, `next_entries` and
-- others.
use Rattle.std.proofs.Common.{cond, ◌≡◌, ℕ, ◌<◌, Bool, true, false, not, ◌==◌, ◌&&◌, ◌||◌, List, [], ◌∷◌, length, map, get_or, Option, Some, None, refl, sym, ◌∙◌, ltb, arith, is_some}
use Rattle.std.specs.List.{list_any}
use Rattle.std.proofs.lemmas.Bool.{and_from, or_parts, eq-eqb, lt-ltb}
use Rattle.lb_base.specs.declared.view.MoveKind.{MoveKind}
use Rattle.lb_base.specs.declared.view.MoveKind.TheVariants.{Load, Util, Tasks}
use Rattle.lb_base.specs.declared.shape.Kind.{Kind}
use Rattle.lb_base.specs.declared.shape.Kind.TheVariants.{Tick as TickTurn, Idle, Nohz}
use Rattle.lb_base.specs.Mask.{members}
use Rattle.lb_imbalance.specs.declared.decision.Decision.{Decision}
use Rattle.lb_imbalance.specs.declared.decision.Decision.TheVariants.{NotMine, Balanced, Pull}
use Rattle.lb_queue.specs.declared.answers.AskReply.{AskReply}
use Rattle.lb_queue.specs.declared.answers.AskReply.TheVariants.{New, Old}
use Rattle.lb_queue.specs.declared.answers.OutCause.{OutCause}
use Rattle.lb_queue.specs.declared.answers.OutCause.TheVariants.{Wake as WakeOut, Stop as StopOut, Pull as PullOut, Push as PushOut}
use Rattle.lb_queue.specs.declared.answers.Reply.{Reply}
use Rattle.lb_queue.specs.declared.answers.Reply.TheVariants.{Done as DoneReply, Already, NotHere, Gone, BadMask}
use Rattle.lb_queue.specs.Tasks.{ids}
use Rattle.lb_queue.specs.Laws.{AskedIsNext}
use Rattle.lb_core.proofs.Equality.{numbers_itself, cause_itself}
use Rattle.lb_core.specs.declared.course.Course.{Course}
use Rattle.lb_core.specs.declared.course.Form.{Form}
use Rattle.lb_core.specs.declared.entry.FigName.{FigName}
use Rattle.lb_core.specs.declared.entry.Owner.{Owner}
use Rattle.lb_core.specs.declared.entry.OutcomeWord.{OutcomeWord}
use Rattle.lb_core.specs.declared.entry.OutcomeWord.TheVariants.{NotMine as NotMineWord, Balanced as BalancedWord, Moved as MovedWord, Pinned as PinnedWord, Failed as FailedWord, Asking as AskingWord}
use Rattle.lb_core.specs.declared.entry.What.{What}
use Rattle.lb_core.specs.declared.entry.What.TheVariants.{Look, Scan, Out}
use Rattle.lb_core.specs.declared.entry.Entry.{Entry}
use Rattle.lb_core.specs.declared.rule.Rule.{Rule}
use Rattle.lb_core.specs.declared.rule.Rule.TheVariants.{Ticket, Prev, Stage, Row as RowRule, Place as PlaceRule, Reply as ReplyRule, Version, Figure, Decision as DecisionRule, Pick, Flight as FlightRule, Counters as CountersRule, Owed, End as EndRule}
use Rattle.lb_core.specs.declared.entry.Owner.TheVariants.{Queue}
use Rattle.lb_core.specs.Same.{same_numbers, same_number, same_kind, same_reply, same_ask, same_cause, same_word, same_move, same_decision}
use Rattle.lb_core.specs.Course.{named_at}
use Rattle.lb_core.specs.Sight.{Sight}
use Rattle.lb_core.specs.Stage.{draws, queue_due, is_owner, stage_allows, is_queue}
use Rattle.lb_core.specs.Leaving.{Leaving, leaving, out_by}
use Rattle.lb_core.specs.Rules.{breaks_figure, breaks_pick, breaks_row, breaks_reply, breaks_version, figures_due, breaks_decision, is_other_out, breaks_flight, breaks_counters, breaks_owed}
use Rattle.lb_core.specs.Machine.{MachineState, course_at, owned_queue, owned_count, masks_for, figs_for, sight, queue_at}
use Rattle.lb_core.specs.Elsewhere.{is_undeclared_owner, stage_at_rest, stage_of_use, ticked_elsewhere, answered_elsewhere, version_unpublished, figure_unpublished, owed_elsewhere, end_is_wrong}
use Rattle.lb_core.specs.Step.{breaks, first_broken, ended_after}
use Rattle.lb_core.specs.Legal.{MayBeAdded}
use Rattle.lb_core.specs.OfTrace.{row_of}
use Rattle.lb_core.specs.Serial.{is_serial}
use Rattle.lb_core.proofs.Placing.{entry}
use Rattle.lb_ready.specs.Ready.{nice_fits, Speaks, NamesPublished, HasSizes}
use Rattle.lb_ready.specs.Next.{cpu_next, owner_of, out_of, what_next}

-- ---- rules by the form
-- what the step of an entry reads
abbrev pub seen : MachineState → Course → Owner → What → Sight
seen m c o w = record {
  header = m.header;
  course = c;
  queue = owned_queue o m;
  count = owned_count o m;
  masks = masks_for w m;
  figs = figs_for w m;
}

abbrev pub names_wrong : Form → Sight → List FigName → Bool
names_wrong f s names = not (same_numbers (map (λ n. n.cpu) names) (members (figures_due f s))) || list_any
    (λ n. ltb n.n (named_at s.course n.cpu)) names

abbrev pub figure_wrong : Form → Sight → What → Bool
figure_wrong f s (Look p x names d) = names_wrong f s names
figure_wrong f s (Scan names t) = names_wrong f s names
figure_wrong f s w = false

abbrev pub pick_wrong : Form → Sight → What → Bool
pick_wrong f s (Out cause to tasks) = is_other_out (out_by f s.header s.course s.queue) cause to tasks
pick_wrong f s w = false

-- whether the rule is broken, in a form; the last ticket of the lane is right
abbrev pub breaks_in : Form → Rule → MachineState → ℕ → Course → Owner → What → Bool
breaks_in f Stage m lane c o w =
    not (is_owner w lane (queue_due f c) o && draws f m.header c (owned_queue o m) lane w) ||
    (is_undeclared_owner m o || stage_at_rest f m o w || stage_of_use m c w)
breaks_in f RowRule m lane c o w = breaks_row (seen m c o w) w || ticked_elsewhere m lane w
breaks_in f PlaceRule m lane c o w = answered_elsewhere f c m o w
breaks_in f ReplyRule m lane c o w = breaks_reply (seen m c o w) w
breaks_in f Version m lane c o w = breaks_version (seen m c o w) w || version_unpublished m w
breaks_in f Figure m lane c o w = figure_wrong f (seen m c o w) w || figure_unpublished m w
breaks_in f DecisionRule m lane c o w = breaks_decision (seen m c o w) w
breaks_in f Pick m lane c o w = pick_wrong f (seen m c o w) w
breaks_in f FlightRule m lane c o w = breaks_flight (seen m c o w) w
breaks_in f CountersRule m lane c o w = breaks_counters (seen m c o w) w
breaks_in f Owed m lane c o w = breaks_owed (seen m c o w) w || owed_elsewhere m w
breaks_in f EndRule m lane c o w = end_is_wrong m w
breaks_in f r m lane c o w = false

-- no rule is broken
abbrev pub Keeps : Form → MachineState → ℕ → Course → Owner → What → Type 0
Keeps f m lane c o w = (r : Rule) → breaks_in f r m lane c o w ≡ false

-- the lane's entry, after its last one
abbrev pub drawn_by : MachineState → ℕ → Owner → What → Entry
drawn_by m lane o w = entry o lane (get_or m.last lane 0) w

pub or_none : (a b : Bool) → a ≡ false → b ≡ false → (a || b) ≡ false
or_none a b h k = rw (h, k) refl

figure_in : (f : Form) (m : MachineState) (c : Course) (o : Owner) (w : What)
    → figure_wrong c.form (seen m c o w) w ≡ breaks_figure (seen m c o w) w
figure_in f m c o (Look p x names d) = refl
figure_in f m c o (Scan names t) = refl
figure_in f m c o w = refl

pick_in : (m : MachineState) (c : Course) (o : Owner) (w : What) → pick_wrong c.form (seen m c o w) w ≡ breaks_pick
    (seen m c o w) w
unfolding leaving
pick_in m c o (Out cause to tasks) = refl
pick_in m c o w = refl

pub each_kept : (m : MachineState) (lane : ℕ) (o : Owner) (w : What) → lane < length m.courses → m.ended ≡ false
    → Keeps (course_at m.courses lane).form m lane (course_at m.courses lane) o w → (r : Rule)
    → breaks m (drawn_by m lane o w) r ≡ false
unfolding sight stage_allows
each_kept m lane o w lt live k Ticket = refl
each_kept m lane o w lt live k Prev = rw (eq-eqb (get_or m.last lane 0) (get_or m.last lane 0) refl) refl
each_kept m lane o w lt live k Stage =
    let a = or_parts _ (is_undeclared_owner m o || stage_at_rest
    (course_at m.courses lane).form m o w || stage_of_use m (course_at m.courses lane) w) (k Stage) in
    let b = or_parts _ (stage_of_use m (course_at m.courses lane) w) a.1 in
    let d = or_parts (is_undeclared_owner m o) _ b.0 in
    or_none _ _ a.0 (or_none _ _ (or_none _ _ (or_none _ _ (rw (lt-ltb lane (length m.courses) lt) refl) d.0) d.1) b.1)
each_kept m lane o w lt live k RowRule = k RowRule
each_kept m lane o w lt live k PlaceRule = k PlaceRule
each_kept m lane o w lt live k ReplyRule = or_none _ _ (k ReplyRule) refl
each_kept m lane o w lt live k Version = k Version
each_kept m lane o w lt live k Figure = let a = or_parts _ (figure_unpublished m w) (k Figure) in
    or_none _ _ (sym (figure_in (course_at m.courses lane).form m (course_at m.courses lane) o w) ∙ a.0) a.1
each_kept m lane o w lt live k DecisionRule = or_none _ _ (k DecisionRule) refl
each_kept m lane o w lt live k Pick = or_none _ _ (sym (pick_in m (course_at m.courses lane) o w) ∙ k Pick) refl
each_kept m lane o w lt live k FlightRule = or_none _ _ (k FlightRule) refl
each_kept m lane o w lt live k CountersRule = or_none _ _ (k CountersRule) refl
each_kept m lane o w lt live k Owed = k Owed
each_kept m lane o w lt live k EndRule = or_none _ _ refl (or_none _ _ live (k EndRule))

pub may_be_added : (m : MachineState) (e : Entry) → ((r : Rule) → breaks m e r ≡ false) → MayBeAdded m e
unfolding first_broken
may_be_added m e h = rw (
  h Prev,
  h Stage,
  h RowRule,
  h PlaceRule,
  h ReplyRule,
  h Version,
  h Figure,
  h DecisionRule,
  h
      Pick,
  h FlightRule,
  h CountersRule,
  h Owed,
  h EndRule,
) refl

pub not_not : (b : Bool) → b ≡ true → not b ≡ false
not_not b h = rw h refl

-- the tasks that leave are those that are due
pub out_itself : (o : Option Leaving) (l : Leaving) → o ≡ Some l → is_other_out o l.cause l.to (ids l.hand) ≡ false
out_itself o l e = rw e (or_none _ _ (or_none _ _ (not_not _ (cause_itself l.cause))
    (not_not _ (eq-eqb l.to l.to refl))) (not_not _ (numbers_itself (ids l.hand))))

-- ---- what comes next
-- a serial entry of the lane that keeps all rules, and takes up no row
pub record IsDue (f : Form) (m : MachineState) (lane : ℕ) (c : Course) (o : Owner) (w : What) : Type 0 where
  pub keeps : Keeps f m lane c o w
  pub serial : is_serial m w ≡ true
  pub rowless : (l : ℕ) → row_of w l ≡ []
  pub nice : nice_fits w ≡ true
  pub lives : ended_after w false ≡ false

-- so of its lane, or the queue of this CPU
abbrev pub Draws : Form → MachineState → ℕ → Course → ℕ → What → Type 0
Draws f m lane c cpu w = IsDue f m lane c (owner_of w lane cpu) w

abbrev pub Next : Form → MachineState → ℕ → Course → Type 0
Next f m lane c = Draws f m lane c (cpu_next f m c) (what_next f m c)

-- by a test
pub draws_by : (f : Form) (m : MachineState) (lane : ℕ) (c : Course) (cpu : ℕ) (b : Bool) (v w : What)
    → (b ≡ true → Draws f m lane c cpu v) → (b ≡ false → Draws f m lane c cpu w) → Draws f m lane c cpu (cond b v w)
draws_by f m lane c cpu true v w h k = h refl
draws_by f m lane c cpu false v w h k = k refl

draws_out : (f : Form) (m : MachineState) (lane : ℕ) (c : Course) (cpu : ℕ) (o : Option Leaving) → is_some o ≡ true
    → ((l : Leaving) → o ≡ Some l → Draws f m lane c cpu (Out l.cause l.to (ids l.hand))) → Draws f m lane c cpu (out_of o)
draws_out f m lane c cpu None h k = absurd (let y : ⊥ = cc in y)
draws_out f m lane c cpu (Some l) h k = k l refl

-- what is known of the lane's course
pub record Knows (m : MachineState) (c : Course) : Type 0 where
  pub sizes : HasSizes m
  pub says : Speaks m.header m.ticket c
  pub named : NamesPublished m c
  pub asked : AskedIsNext

pub stage_by : (a b u r s : Bool) → a ≡ true → b ≡ true → u ≡ false → r ≡ false → s ≡ false
    → (not (a && b) || (u || r || s)) ≡ false
stage_by a b u r s x y z v w = rw (x, y, z, v, w) refl

pub same : (n : ℕ) → (n == n) ≡ true
same n = eq-eqb n n refl

pub queue_there : (m : MachineState) (cpu : ℕ) → HasSizes m → cpu < length m.header.cpus → not (ltb cpu (length m.queues)) ≡ false
queue_there m cpu sizes lt = let z = sizes.queues in not_not _ (lt-ltb cpu (length m.queues) (omega arith))

-- ---- tasks that leave
pub out_goes : (f : Form) (m : MachineState) (lane : ℕ) (c : Course) (cpu : ℕ) → Knows m c
    → cpu < length m.header.cpus → is_some (out_by f m.header c (queue_at m.queues cpu)) ≡ true →
    is_queue (Queue cpu) (queue_due f c) ≡ true
    → ((l : Leaving) → draws f m.header c (queue_at m.queues cpu) lane (Out l.cause l.to (ids l.hand)) ≡ true) →
    ((l : Leaving) → stage_at_rest f m (Queue cpu) (Out l.cause l.to (ids l.hand)) ≡ false)
    → ((l : Leaving) → answered_elsewhere f c m (Queue cpu) (Out l.cause l.to (ids l.hand)) ≡ false)
    → Draws f m lane c cpu (out_of (out_by f m.header c (queue_at m.queues cpu)))
out_goes f m lane c cpu k lt there w d r p = draws_out f m lane c cpu (out_by f m.header c (queue_at m.queues cpu)) there goes
  where
    goes : (l : Leaving) → out_by f m.header c (queue_at m.queues cpu) ≡ Some l
        → Draws f m lane c cpu (Out l.cause l.to (ids l.hand))
    goes l e = record { keeps = keeps; serial = refl; rowless = λ l. refl; nice = refl; lives = refl }
      where
        keeps : Keeps f m lane c (Queue cpu) (Out l.cause l.to (ids l.hand))
        keeps Stage = stage_by _ _ _ _ _ w (d l) (queue_there m cpu k.sizes lt) (r l) refl
        keeps PlaceRule = p l
        keeps Pick = out_itself (out_by f m.header c (queue_at m.queues cpu)) l e
        keeps r = refl
