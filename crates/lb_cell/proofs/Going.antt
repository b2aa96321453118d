-- An entry of a queue leaves the numbers that its lane named, but for its own; and only one by which tasks leave a queue
-- leaves its lane in flight.
-- For the lemmas of `Entering`, and so for `Before::enter` and `item_of`.
use Rattle.std.proofs.Common.{ℕ, ◌≡◌, Bool, true, false, ◌&&◌, Option, Some, None, length, if◌then◌else◌, refl, inl, inr}
use Rattle.std.specs.Prelude.{nat_lt}
use Rattle.std.proofs.lemmas.Bool.{cases_Bool}
use Rattle.lb_base.specs.Sets.{least, least_above}
use Rattle.lb_base.specs.declared.shape.Kind.{Kind}
use Rattle.lb_base.specs.declared.shape.Kind.TheVariants.{Tick as TickTurn, Idle, Nohz}
use Rattle.lb_queue.specs.Queue.{QueueState}
use Rattle.lb_queue.specs.declared.answers.OutCause.{OutCause}
use Rattle.lb_queue.specs.declared.answers.OutCause.TheVariants as outs
use Rattle.lb_queue.specs.declared.answers.AskReply.{AskReply}
use Rattle.lb_queue.specs.declared.answers.AskReply.TheVariants.{New, Old}
use Rattle.lb_trace.specs.declared.trace.Command.{Command}
use Rattle.lb_trace.specs.declared.trace.Command.TheVariants.{Wake, Sleep, Exit, SetMask, Nice, Tick, Rebuild}
use Rattle.lb_trace.specs.declared.trace.Header.{Header}
use Rattle.lb_core.specs.declared.course.Course.{Course}
use Rattle.lb_core.specs.declared.entry.OutcomeWord.{OutcomeWord}
use Rattle.lb_core.specs.declared.entry.OutcomeWord.TheVariants as words
use Rattle.lb_core.specs.declared.entry.What.{What}
use Rattle.lb_core.specs.declared.entry.What.TheVariants as whats
use Rattle.lb_core.specs.Sight.{Sight, tickless_in}
use Rattle.lb_core.specs.Course.{turn_kind, turn_domains, is_tick, is_newly}
use Rattle.lb_core.specs.Stage.{target_of}
use Rattle.lb_core.specs.Placed.{is_flight}
use Rattle.lb_core.specs.Leaving.{Leaving, leaving}
use Rattle.lb_core.specs.QueueAfter.{cause_of}
use Rattle.lb_core.specs.CourseAfter.{course_by, after_sleep, answered, left_idle, takes_off, lands, goes_to, kicks_next, kicked, turn_ends_by, turn_ends, closes}
use Rattle.lb_cell.specs.Kinds.{is_of_queue, is_out}

-- the numbers are as they were, and the lane is not in flight
abbrev GoesOn : Course → Course → Type 0
GoesOn c c' = (c'.named ≡ c.named) × (is_flight c'.form ≡ false)

either_goes : (b : Bool) (c x y : Course) → GoesOn c x → GoesOn c y → GoesOn c (if b then x else y)
either_goes true c x y e f = e
either_goes false c x y e f = f

sleep_goes : (b : Bool) (cpu : ℕ) (c : Course) → GoesOn c (after_sleep b cpu c)
sleep_goes true cpu c = (refl, refl)
sleep_goes false cpu c = (refl, refl)

did_goes : (o : Option Command) (cpu : ℕ) (q now : QueueState) (c : Course) → GoesOn c (answered o cpu q now c)
did_goes None cpu q now c = (refl, refl)
did_goes (Some (Wake t)) cpu q now c = (refl, refl)
did_goes (Some (Sleep t)) cpu q now c = sleep_goes (left_idle t q now) cpu c
did_goes (Some (Exit t)) cpu q now c = sleep_goes (left_idle t q now) cpu c
did_goes (Some (SetMask t m)) cpu q now c = (refl, refl)
did_goes (Some (Nice t n)) cpu q now c = (refl, refl)
did_goes (Some (Tick k)) cpu q now c = (refl, refl)
did_goes (Some (Rebuild p)) cpu q now c = (refl, refl)

landing_goes : (cause : OutCause) (c : Course) → GoesOn c (lands cause c)
landing_goes outs.Pull c = (refl, refl)
landing_goes outs.Wake c = either_goes (is_tick c.command) c _ _ (refl, refl) (refl, refl)
landing_goes outs.Stop c = either_goes (is_tick c.command) c _ _ (refl, refl) (refl, refl)
landing_goes outs.Push c = either_goes (is_tick c.command) c _ _ (refl, refl) (refl, refl)

next_goes : (p : Option ℕ) (c : Course) → GoesOn c (goes_to p c)
next_goes None c = (refl, refl)
next_goes (Some p) c = (refl, refl)

kick_goes : (p : Option ℕ) (c : Course) → GoesOn c (kicks_next p c)
kick_goes None c = (refl, refl)
kick_goes (Some p) c = (refl, refl)

ends_go : (k : Kind) (h : Header) (c : Course) → GoesOn c (turn_ends_by k h c)
ends_go TickTurn h c = either_goes (nat_lt 1 c.awake && nat_lt 0 (length (turn_domains h c))) c _ _ (refl, refl) (refl, refl)
ends_go Idle h c = (refl, refl)
ends_go Nohz h c = kick_goes (least_above (tickless_in c.figures) c.cpu) c

end_goes : (h : Header) (c : Course) → GoesOn c (turn_ends h c)
unfolding turn_ends
end_goes h c = ends_go (turn_kind c) h c

kicked_goes : (r : AskReply) (c : Course) → GoesOn c (kicked r c)
kicked_goes New c = kick_goes (target_of c) c
kicked_goes Old c = (refl, refl)

close_goes : (w : OutcomeWord) (c : Course) → GoesOn c (closes w c)
close_goes words.Asking c = (refl, refl)
close_goes words.NotMine c = (refl, refl)
close_goes words.Moved c =
    either_goes (is_newly (turn_kind c)) c _ _ (refl, refl) (next_goes (least_above c.positions c.position) c)
close_goes words.Balanced c = next_goes (least_above c.positions c.position) c
close_goes words.Pinned c = next_goes (least_above c.positions c.position) c
close_goes words.Failed c = next_goes (least_above c.positions c.position) c

-- the entry of a queue by which no task leaves it
goes : (w : What) (s : Sight) (cpu : ℕ) (q : QueueState) → is_of_queue w ≡ true → is_out w ≡ false
    → GoesOn s.course (course_by w s cpu q)
goes (whats.Did r) s cpu q e f = did_goes s.course.command cpu s.queue q s.course
goes (whats.Out cause to ids) s cpu q e f = absurd (cc f)
goes (whats.Landed ids) s cpu q e f = landing_goes (cause_of s.course) s.course
goes (whats.Turn ps) s cpu q e f = next_goes (least ps) _
goes whats.Shut s cpu q e f = end_goes s.header s.course
goes (whats.Close p w i n) s cpu q e f = close_goes w s.course
goes (whats.Ask r) s cpu q e f = next_goes (least_above s.course.positions s.course.position) s.course
goes (whats.Kick r) s cpu q e f = kicked_goes r s.course
goes whats.Over s cpu q e f = end_goes s.header s.course
goes (whats.Row n at command) s cpu q e f = absurd (cc e)
goes (whats.Adopt v k c) s cpu q e f = absurd (cc e)
goes (whats.Look p x fs d) s cpu q e f = absurd (cc e)
goes (whats.Scan fs t) s cpu q e f = absurd (cc e)
goes (whats.End u) s cpu q e f = absurd (cc e)
goes (whats.Pub v) s cpu q e f = absurd (cc e)

off_names : (l : Option Leaving) (c : Course) → (takes_off l c).named ≡ c.named
off_names None c = refl
off_names (Some l) c = refl

out_names : (w : What) (s : Sight) (cpu : ℕ) (q : QueueState) → is_out w ≡ true → (course_by w s cpu q).named ≡ s.course.named
out_names (whats.Out cause to ids) s cpu q e = off_names (leaving s) s.course
out_names (whats.Did r) s cpu q e = absurd (cc e)
out_names (whats.Landed ids) s cpu q e = absurd (cc e)
out_names (whats.Turn ps) s cpu q e = absurd (cc e)
out_names whats.Shut s cpu q e = absurd (cc e)
out_names (whats.Close p w i n) s cpu q e = absurd (cc e)
out_names (whats.Ask r) s cpu q e = absurd (cc e)
out_names (whats.Kick r) s cpu q e = absurd (cc e)
out_names whats.Over s cpu q e = absurd (cc e)
out_names (whats.Row n at command) s cpu q e = absurd (cc e)
out_names (whats.Adopt v k c) s cpu q e = absurd (cc e)
out_names (whats.Look p x fs d) s cpu q e = absurd (cc e)
out_names (whats.Scan fs t) s cpu q e = absurd (cc e)
out_names (whats.End u) s cpu q e = absurd (cc e)
out_names (whats.Pub v) s cpu q e = absurd (cc e)

pub named_stays : (w : What) (s : Sight) (cpu : ℕ) (q : QueueState) → is_of_queue w ≡ true
    → (course_by w s cpu q).named ≡ s.course.named
named_stays w s cpu q e = elim (cases_Bool (is_out w)) [
  | inl out ↦ out_names w s cpu q out
  | inr none ↦ (goes w s cpu q e none).0
]

pub flight_is_out : (w : What) (s : Sight) (cpu : ℕ) (q : QueueState) → is_of_queue w ≡ true
    → is_flight (course_by w s cpu q).form ≡ true → is_out w ≡ true
flight_is_out w s cpu q e flies = elim (cases_Bool (is_out w)) [
  | inl out ↦ out
  | inr none ↦ absurd (let no = (goes w s cpu q e none).1 in cc (no, flies))
]
