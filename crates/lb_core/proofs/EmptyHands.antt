-- The hand of a course is empty unless its lane is in flight. For callers too: which entries are an `out`.
-- For the lemmas of `Placing`, and so for the laws `choices`, `one_serial_history` and others; cited by `lb_ready`
-- too.
use Rattle.std.proofs.Common.{◌≡◌, ℕ, Bool, true, false, cond, [], Option, Some, None, refl}
use Rattle.lb_base.specs.declared.shape.Kind.{Kind}
use Rattle.lb_base.specs.declared.shape.Kind.TheVariants.{Tick as TickTurn, Idle, Nohz}
use Rattle.lb_queue.specs.declared.answers.AskReply.{AskReply}
use Rattle.lb_queue.specs.declared.answers.AskReply.TheVariants.{New, Old}
use Rattle.lb_queue.specs.declared.answers.OutCause.{OutCause}
use Rattle.lb_queue.specs.declared.answers.OutCause.TheVariants.{Pull as PullOut}
use Rattle.lb_queue.specs.Queue.{QueueState}
use Rattle.lb_trace.specs.declared.trace.Header.{Header}
use Rattle.lb_core.specs.declared.course.Course.{Course}
use Rattle.lb_core.specs.declared.course.Form.{Form}
use Rattle.lb_core.specs.declared.course.Form.TheVariants.{Flight}
use Rattle.lb_trace.specs.declared.trace.Command.{Command}
use Rattle.lb_trace.specs.declared.trace.Command.TheVariants.{Sleep, Exit, Tick}
use Rattle.lb_core.specs.declared.entry.Owner.{Owner}
use Rattle.lb_core.specs.declared.entry.Owner.TheVariants.{Publisher, Lane, Queue}
use Rattle.lb_core.specs.declared.entry.OutcomeWord.{OutcomeWord}
use Rattle.lb_core.specs.declared.entry.OutcomeWord.TheVariants.{NotMine as NotMineWord, Moved as MovedWord, Asking as AskingWord}
use Rattle.lb_core.specs.declared.entry.What.{What}
use Rattle.lb_core.specs.declared.entry.What.TheVariants.{Row, Adopt, Look, Scan, End, Did, Out, Landed, Turn, Shut, Close, Ask, Kick, Over, Pub}
use Rattle.lb_core.specs.Sight.{Sight}
use Rattle.lb_core.specs.Stage.{draws}
use Rattle.lb_core.specs.Placed.{is_flight}
use Rattle.lb_core.specs.CourseAfter.{course_by, drew, goes_to, scanned, kicks_next, kicked, turn_ends_by, turn_ends, after_sleep, answered, lands, closes}

abbrev pub is_landing : What → Bool
is_landing (Landed ids) = true
is_landing w = false

abbrev pub is_out : What → Bool
is_out (Out c to ids) = true
is_out w = false

-- only a landing is drawn in flight
pub not_in_flight : (f : Form) (h : Header) (c : Course) (q : QueueState) (lane : ℕ) (w : What) → is_landing w ≡ false
    → draws f h c q lane w ≡ true → is_flight f ≡ false
unfolding draws
not_in_flight Flight h c q lane (Landed ids) n a = absurd (let k : ⊥ = cc in k)
not_in_flight Flight h c q lane w n a = absurd (let k : ⊥ = cc in k)
not_in_flight f h c q lane w n a = refl

-- ---- a course's hand stays empty
abbrev Empty : Course → Type 0
Empty c = c.hand ≡ []

goes_to_empty : (p : Option ℕ) (c : Course) → Empty c → Empty (goes_to p c)
goes_to_empty None c h = h
goes_to_empty (Some p) c h = h

kicks_next_empty : (p : Option ℕ) (c : Course) → Empty c → Empty (kicks_next p c)
kicks_next_empty None c h = refl
kicks_next_empty (Some p) c h = h

scanned_empty : (p : Option ℕ) (c : Course) → Empty c → Empty (scanned p c)
scanned_empty None c h = refl
scanned_empty (Some p) c h = h

kicked_empty : (r : AskReply) (c : Course) → Empty c → Empty (kicked r c)
kicked_empty New c h = kicks_next_empty _ c h
kicked_empty Old c h = refl

cond_empty : (b : Bool) (x y : Course) → Empty x → Empty y → Empty (cond b x y)
cond_empty true x y h k = h
cond_empty false x y h k = k

ends_turn_empty : (k : Kind) (hd : Header) (c : Course) → Empty c → Empty (turn_ends_by k hd c)
ends_turn_empty TickTurn hd c h = cond_empty _ _ _ h refl
ends_turn_empty Idle hd c h = refl
ends_turn_empty Nohz hd c h = kicks_next_empty _ c h

turn_ends_empty : (hd : Header) (c : Course) → Empty c → Empty (turn_ends hd c)
unfolding turn_ends
turn_ends_empty hd c h = ends_turn_empty _ hd c h

after_sleep_empty : (b : Bool) (cpu : ℕ) (c : Course) → Empty c → Empty (after_sleep b cpu c)
after_sleep_empty true cpu c h = h
after_sleep_empty false cpu c h = refl

answered_empty : (command : Option Command) (cpu : ℕ) (before now : QueueState) (c : Course) → Empty c
    → Empty (answered command cpu before now c)
answered_empty (Some (Sleep t)) cpu before now c h = after_sleep_empty _ cpu c h
answered_empty (Some (Exit t)) cpu before now c h = after_sleep_empty _ cpu c h
answered_empty (Some (Tick u)) cpu before now c h = h
answered_empty command cpu before now c h = refl

closes_empty : (w : OutcomeWord) (c : Course) → Empty c → Empty (closes w c)
closes_empty AskingWord c h = h
closes_empty NotMineWord c h = h
closes_empty MovedWord c h = cond_empty _ _ _ h (goes_to_empty _ c h)
closes_empty w c h = goes_to_empty _ c h

lands_empty : (o : OutCause) (c : Course) → Empty (lands o c)
lands_empty PullOut c = refl
lands_empty o c = cond_empty _ _ _ refl refl

course_empty : (w : What) (s : Sight) (cpu : ℕ) (now : QueueState) → is_out w ≡ false
    → (is_landing w ≡ false → Empty s.course) → Empty (course_by w s cpu now)
course_empty (Row n at c) s cpu now o h = h refl
course_empty (Adopt v k u) s cpu now o h = h refl
course_empty (Look p x f d) s cpu now o h = h refl
course_empty (Scan f t) s cpu now o h = scanned_empty t _ (h refl)
course_empty (End u) s cpu now o h = h refl
course_empty (Did r) s cpu now o h = answered_empty _ cpu s.queue now s.course (h refl)
course_empty (Out c to ids) s cpu now o h = absurd (let k : ⊥ = cc in k)
course_empty (Landed ids) s cpu now o h = lands_empty _ s.course
course_empty (Turn ps) s cpu now o h = goes_to_empty _ _ (h refl)
course_empty Shut s cpu now o h = turn_ends_empty s.header s.course (h refl)
course_empty (Close p w i f) s cpu now o h = closes_empty w s.course (h refl)
course_empty (Ask r) s cpu now o h = goes_to_empty _ s.course (h refl)
course_empty (Kick r) s cpu now o h = kicked_empty r s.course (h refl)
course_empty Over s cpu now o h = turn_ends_empty s.header s.course (h refl)
course_empty (Pub v) s cpu now o h = refl

pub drew_empty : (o : Owner) (n : ℕ) (c : Course) → Empty c → Empty (drew o n c)
drew_empty (Queue cpu) n c h = h
drew_empty Publisher n c h = h
drew_empty (Lane l) n c h = h

-- the hand is empty after an entry that is no `out`
pub hand_after : (w : What) (s : Sight) (o : Owner) (n cpu : ℕ) (now : QueueState) → is_out w ≡ false
    → (is_landing w ≡ false → s.course.hand ≡ []) → (drew o n (course_by w s cpu now)).hand ≡ []
hand_after w s o n cpu now a h = drew_empty o n _ (course_empty w s cpu now a h)
