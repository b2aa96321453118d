-- What a course becomes: to show something of the course after an entry, show it of the few courses
-- that each kind of entry can leave.
-- For the lemmas of `Fitting`, `Keeping` and other files, and so for the laws `calls_may_be_made`, `ready` and
-- others.
use Rattle.std.proofs.Common.{length, ltb, ◌&&◌, ◌<◌, set, ◌≡◌, ℕ, Bool, true, false, cond, Option, Some, None, refl}
use Rattle.std.proofs.lemmas.Bool.{and_parts, ltb-true}
use Rattle.lb_base.specs.declared.shape.Kind.{Kind}
use Rattle.lb_base.specs.declared.shape.Kind.TheVariants.{Tick as TickTurn, Idle, Nohz}
use Rattle.lb_base.specs.Mask.{has}
use Rattle.lb_base.specs.Sets.{least_above}
use Rattle.lb_trace.specs.declared.trace.Command.{Command}
use Rattle.lb_trace.specs.declared.trace.Command.TheVariants.{Sleep, Exit, Tick}
use Rattle.lb_trace.specs.declared.trace.Header.{Header}
use Rattle.lb_queue.specs.declared.answers.AskReply.{AskReply}
use Rattle.lb_queue.specs.declared.answers.AskReply.TheVariants.{New, Old}
use Rattle.lb_queue.specs.declared.answers.OutCause.{OutCause}
use Rattle.lb_queue.specs.declared.answers.OutCause.TheVariants.{Pull as PullOut}
use Rattle.lb_queue.specs.Queue.{QueueState}
use Rattle.lb_core.specs.declared.course.Course.{Course}
use Rattle.lb_core.specs.declared.course.Form.TheVariants.{Serving, Landed as LandedForm, Closed, ScanDue, Kicking}
use Rattle.lb_core.specs.declared.entry.OutcomeWord.{OutcomeWord}
use Rattle.lb_core.specs.declared.entry.OutcomeWord.TheVariants.{NotMine as NotMineWord, Moved as MovedWord, Asking as AskingWord}
use Rattle.lb_core.specs.declared.entry.Owner.{Owner}
use Rattle.lb_core.specs.declared.entry.Owner.TheVariants.{Publisher, Lane, Queue}
use Rattle.lb_core.specs.Course.{is_tick, is_newly, turn_kind, turn_domains}
use Rattle.lb_core.specs.Sight.{tickless_in}
use Rattle.lb_core.specs.Stage.{target_of}
use Rattle.lb_core.specs.CourseAfter.{lets_go, begins_anew, comes_to_rest, is_due_at, goes_to, kicks_next, turn_ends_by, after_sleep, left_idle, answered, excluding, lands, scanned, kicked, closes, drew}
use Rattle.lb_ready.proofs.Counting.{least_found, least_above_found, cond_by}

-- an entry of a queue counts as its lane's greatest number there
pub drew_by : (P : Course → Type 0) (o : Owner) (n : ℕ) (c : Course) → P c
    → ((cpu : ℕ) → P (record c { named = set c.named cpu n })) → P (drew o n c)
drew_by P (Queue cpu) n c k q = q cpu
drew_by P Publisher n c k q = k
drew_by P (Lane l) n c k q = k

pub goes_to_by : (P : Course → Type 0) (o : Option ℕ) (c : Course) → P (goes_to None c)
    → ((p : ℕ) → o ≡ Some p → P (goes_to (Some p) c)) → P (goes_to o c)
goes_to_by P None c n s = n
goes_to_by P (Some p) c n s = s p refl

-- the next position is one of the turn's
pub goes_on_by : (P : Course → Type 0) (c : Course) → P (goes_to None c)
    → ((p : ℕ) → has c.positions p ≡ true → P (goes_to (Some p) c)) → P (goes_to (least_above c.positions c.position) c)
goes_on_by P c n s = goes_to_by P (least_above c.positions c.position) c n
    (λ p e. s p (least_above_found c.positions c.position p e).0)

-- a turn on behalf of idle CPUs is of a tickless one
kicks_by : (P : Course → Type 0) (o : Option ℕ) (c : Course) → P (comes_to_rest c)
    → ((t : ℕ) → o ≡ Some t → P (is_due_at Nohz t c)) → P (kicks_next o c)
kicks_by P None c r d = r
kicks_by P (Some t) c r d = d t refl

pub ends_by : (P : Course → Type 0) (k : Kind) (h : Header) (c : Course) → P (comes_to_rest c)
    → (0 < length (turn_domains h c) → P (record (begins_anew c) { form = ScanDue }))
    → ((t : ℕ) → has (tickless_in c.figures) t ≡ true → P (is_due_at Nohz t c)) → P (turn_ends_by k h c)
ends_by P TickTurn h c r s d = by_test (ltb 1 c.awake && ltb 0 (length (turn_domains h c))) refl
  where
    by_test : (b : Bool) → (ltb 1 c.awake && ltb 0 (length (turn_domains h c))) ≡ b
        → P (cond b (record (begins_anew c) { form = ScanDue }) (comes_to_rest c))
    by_test true e = s (ltb-true 0 (length (turn_domains h c)) ((and_parts (ltb 1 c.awake) _ e).1))
    by_test false e = r
ends_by P Idle h c r s d = r
ends_by P Nohz h c r s d = kicks_by P (least_above (tickless_in c.figures) c.cpu) c r
    (λ t e. d t (least_above_found (tickless_in c.figures) c.cpu t e).0)

sleep_by : (P : Course → Type 0) (b : Bool) (cpu : ℕ) (c : Course) → P (comes_to_rest c) → P (is_due_at Idle cpu c)
    → P (after_sleep b cpu c)
sleep_by P true cpu c r d = d
sleep_by P false cpu c r d = r

pub answered_by : (P : Course → Type 0) (command : Option Command) (cpu : ℕ) (before now : QueueState) (c : Course)
    → P (comes_to_rest c) → P (is_due_at Idle cpu c)
    → ((u : ℕ) → command ≡ Some (Tick u) → P (record c { form = Serving; awake = length now.awake }))
    → P (answered command cpu before now c)
answered_by P (Some (Sleep t)) cpu before now c r d s = sleep_by P (left_idle t before now) cpu c r d
answered_by P (Some (Exit t)) cpu before now c r d s = sleep_by P (left_idle t before now) cpu c r d
answered_by P (Some (Tick u)) cpu before now c r d s = s u refl
answered_by P command cpu before now c r d s = r

back_by : (P : Course → Type 0) (b : Bool) (c : Course) → is_tick c.command ≡ b → P (comes_to_rest c)
    → (is_tick c.command ≡ true → P (record (lets_go c) { form = Serving }))
    → P (cond b (record (lets_go c) { form = Serving }) (comes_to_rest c))
back_by P true c e r s = s e
back_by P false c e r s = r

pub lands_by : (P : Course → Type 0) (o : OutCause) (c : Course) → P (comes_to_rest c)
    → (is_tick c.command ≡ true → P (record (lets_go c) { form = Serving }))
    → (o ≡ PullOut → P (record (lets_go c) { form = LandedForm; excluded = excluding c })) → P (lands o c)
lands_by P PullOut c r s l = l refl
lands_by P o c r s l = back_by P (is_tick c.command) c refl r s

pub scanned_by : (P : Course → Type 0) (t : Option ℕ) (c : Course) → P (comes_to_rest c)
    → ((u : ℕ) → t ≡ Some u → P (record c { form = Kicking })) → P (scanned t c)
scanned_by P None c r k = r
scanned_by P (Some u) c r k = k u refl

pub kicked_by : (P : Course → Type 0) (a : AskReply) (c : Course) → P (comes_to_rest c)
    → ((t : ℕ) → has (tickless_in c.figures) t ≡ true → P (is_due_at Nohz t c)) → P (kicked a c)
kicked_by P New c r d = kicks_by P (target_of c) c r (λ t e. d t (least_found (tickless_in c.figures) t e).0)
kicked_by P Old c r d = r

pub closes_by : (P : Course → Type 0) (w : OutcomeWord) (c : Course) → P (record c { form = Closed })
    → P (goes_to None c) → ((p : ℕ) → has c.positions p ≡ true → P (goes_to (Some p) c)) → P (closes w c)
closes_by P AskingWord c a n s = a
closes_by P NotMineWord c a n s = n
closes_by P MovedWord c a n s = cond_by P (is_newly (turn_kind c)) _ _ n (goes_on_by P c n s)
closes_by P w c a n s = goes_on_by P c n s
