-- What an entry leaves of the course of its lane: it is in flight after an `out` alone, and as many numbers
-- are kept as before.
-- For the lemmas of `Beside` and `Taking`, and so for `Engine::take_beside`, `Engine::step` and
-- `Engine::take_of_queue`.
use Rattle.std.proofs.Common.{ℕ, ◌≡◌, nat_lt, Bool, true, false, cond, ◌&&◌, Option, Some, None, List, [], ◌∷◌, length, slice_set, refl, ap, ◌∙◌}
use Rattle.std.proofs.Math.ListN.{length-set}
use Rattle.lb_base.specs.declared.shape.Kind.{Kind}
use Rattle.lb_base.specs.declared.shape.Kind.TheVariants.{Tick as TickTurn, Idle, Nohz}
use Rattle.lb_base.specs.Sets.{least, least_above}
use Rattle.lb_queue.specs.declared.answers.AskReply.{AskReply}
use Rattle.lb_queue.specs.declared.answers.AskReply.TheVariants.{New, Old}
use Rattle.lb_queue.specs.declared.answers.OutCause.{OutCause}
use Rattle.lb_queue.specs.declared.answers.OutCause.TheVariants.{Wake as WakeOut, Stop as StopOut, Pull as PullOut, Push as PushOut}
use Rattle.lb_queue.specs.Queue.{QueueState}
use Rattle.lb_trace.specs.declared.trace.Command.{Command}
use Rattle.lb_trace.specs.declared.trace.Command.TheVariants.{Wake, Sleep, Exit, SetMask, Nice, Tick, Rebuild}
use Rattle.lb_trace.specs.declared.trace.Header.{Header}
use Rattle.lb_core.specs.declared.course.Course.{Course}
use Rattle.lb_core.specs.declared.course.Form.TheVariants.{Serving}
use Rattle.lb_core.specs.declared.entry.FigName.{FigName}
use Rattle.lb_core.specs.declared.entry.OutcomeWord.{OutcomeWord}
use Rattle.lb_core.specs.declared.entry.OutcomeWord.TheVariants.{NotMine as NotMineWord, Balanced as BalancedWord, Moved as MovedWord, Pinned as PinnedWord, Failed as FailedWord, Asking as AskingWord}
use Rattle.lb_core.specs.declared.entry.What.{What}
use Rattle.lb_core.specs.declared.entry.What.TheVariants.{Row, Adopt, Look, Scan, End, Did, Out, Landed, Turn, Shut, Close, Ask, Kick, Over, Pub}
use Rattle.lb_core.specs.Course.{is_tick, is_newly, turn_kind, turn_domains}
use Rattle.lb_core.specs.CourseAfter.{lets_go, comes_to_rest, goes_to, goes_on, kicks_next, turn_ends_by, turn_ends, after_sleep, answered, left_idle, takes_off, lands, scanned, kicked, closes, raised_numbers, course_by}
use Rattle.lb_core.specs.Leaving.{Leaving, leaving}
use Rattle.lb_core.specs.QueueAfter.{cause_of}
use Rattle.lb_core.specs.Sight.{Sight, tickless_in}
use Rattle.lb_core.specs.Stage.{target_of}
use Rattle.lb_core.specs.Placed.{is_flight}

-- as many numbers are kept, and the course is not in flight
record Settles (c c2 : Course) : Type 0 where
  pub named : c2.named ≡ c.named
  pub comes_to_rest : is_flight c2.form ≡ false

either_way : (b : Bool) (c x y : Course) → Settles c x → Settles c y → Settles c (cond b x y)
either_way true c x y sx sy = sx
either_way false c x y sx sy = sy

going_to : (o : Option ℕ) (c : Course) → Settles c (goes_to o c)
going_to None c = record { named = refl; comes_to_rest = refl }
going_to (Some p) c = record { named = refl; comes_to_rest = refl }

kicking : (o : Option ℕ) (c : Course) → Settles c (kicks_next o c)
kicking None c = record { named = refl; comes_to_rest = refl }
kicking (Some cpu) c = record { named = refl; comes_to_rest = refl }

resting : (c : Course) → Settles c (comes_to_rest c)
resting c = record { named = refl; comes_to_rest = refl }

ending : (k : Kind) (h : Header) (c : Course) → Settles c (turn_ends_by k h c)
ending TickTurn h c = either_way (nat_lt 1 c.awake && nat_lt 0 (length (turn_domains h c))) c _ _
    (record { named = refl; comes_to_rest = refl }) (resting c)
ending Idle h c = resting c
ending Nohz h c = kicking (least_above (tickless_in c.figures) c.cpu) c

turn_ending : (h : Header) (c : Course) → Settles c (turn_ends h c)
unfolding turn_ends
turn_ending h c = ending (turn_kind c) h c

sleeping : (b : Bool) (cpu : ℕ) (c : Course) → Settles c (after_sleep b cpu c)
sleeping true cpu c = record { named = refl; comes_to_rest = refl }
sleeping false cpu c = resting c

answering : (command : Option Command) (cpu : ℕ) (before now : QueueState) (c : Course)
    → Settles c (answered command cpu before now c)
answering None cpu before now c = resting c
answering (Some (Wake t)) cpu before now c = resting c
answering (Some (Sleep t)) cpu before now c = sleeping (left_idle t before now) cpu c
answering (Some (Exit t)) cpu before now c = sleeping (left_idle t before now) cpu c
answering (Some (SetMask t mask)) cpu before now c = resting c
answering (Some (Nice t nice)) cpu before now c = resting c
answering (Some (Tick ticked)) cpu before now c = record { named = refl; comes_to_rest = refl }
answering (Some (Rebuild parts)) cpu before now c = resting c

landing_on : (c : Course) → Settles c (cond (is_tick c.command) (record (lets_go c) { form = Serving }) (comes_to_rest c))
landing_on c = either_way (is_tick c.command) c _ _ (record { named = refl; comes_to_rest = refl }) (resting c)

landing : (cause : OutCause) (c : Course) → Settles c (lands cause c)
landing WakeOut c = landing_on c
landing StopOut c = landing_on c
landing PullOut c = record { named = refl; comes_to_rest = refl }
landing PushOut c = landing_on c

kicked_on : (r : AskReply) (c : Course) → Settles c (kicked r c)
kicked_on New c = kicking (target_of c) c
kicked_on Old c = resting c

going_on : (c : Course) → Settles c (goes_on c)
going_on c = going_to (least_above c.positions c.position) c

closing : (w : OutcomeWord) (c : Course) → Settles c (closes w c)
closing NotMineWord c = going_to None c
closing BalancedWord c = going_on c
closing MovedWord c = either_way (is_newly (turn_kind c)) c _ _ (going_to None c) (going_on c)
closing PinnedWord c = going_on c
closing FailedWord c = going_on c
closing AskingWord c = record { named = refl; comes_to_rest = refl }

taking_off : (o : Option Leaving) (c : Course) → (takes_off o c).named ≡ c.named
taking_off None c = refl
taking_off (Some l) c = refl

naming : (fs : List FigName) (named : List ℕ) → length (raised_numbers fs named) ≡ length named
naming [] named = refl
naming (f ∷ fs) named = naming fs (slice_set named f.cpu f.n) ∙ length-set named f.cpu f.n

scanning : (t : Option ℕ) (c : Course) → Settles c (scanned t c)
scanning None c = resting c
scanning (Some cpu) c = record { named = refl; comes_to_rest = refl }

-- ---- an entry
abbrev pub is_out : What → Bool
is_out (Out cause to tasks) = true
is_out w = false

-- it keeps as many numbers
pub named_kept : (w : What) (s : Sight) (cpu : ℕ) (q : QueueState) → length (course_by w s cpu q).named ≡ length s.course.named
named_kept (Row n at command) s cpu q = refl
named_kept (Adopt v k turned) s cpu q = refl
named_kept (Look p x fs d) s cpu q = naming fs s.course.named
named_kept (Scan fs t) s cpu q = ap (λ (l : List ℕ). length l) (scanning t _).named ∙ naming fs s.course.named
named_kept (End unserved) s cpu q = refl
named_kept (Did r) s cpu q = ap (λ (l : List ℕ). length l) (answering s.course.command cpu s.queue q s.course).named
named_kept (Out cause to tasks) s cpu q = ap (λ (l : List ℕ). length l) (taking_off (leaving s) s.course)
named_kept (Landed tasks) s cpu q = ap (λ (l : List ℕ). length l) (landing (cause_of s.course) s.course).named
named_kept (Turn ps) s cpu q = ap (λ (l : List ℕ). length l) (going_to (least ps) _).named
named_kept Shut s cpu q = ap (λ (l : List ℕ). length l) (turn_ending s.header s.course).named
named_kept (Close p w i f) s cpu q = ap (λ (l : List ℕ). length l) (closing w s.course).named
named_kept (Ask r) s cpu q = ap (λ (l : List ℕ). length l) (going_on s.course).named
named_kept (Kick r) s cpu q = ap (λ (l : List ℕ). length l) (kicked_on r s.course).named
named_kept Over s cpu q = ap (λ (l : List ℕ). length l) (turn_ending s.header s.course).named
named_kept (Pub v) s cpu q = refl

-- and is in flight after an `out` alone
pub not_in_flight : (w : What) (s : Sight) (cpu : ℕ) (q : QueueState) → is_out w ≡ false
    → is_flight (course_by w s cpu q).form ≡ false
not_in_flight (Row n at command) s cpu q e = refl
not_in_flight (Adopt v k turned) s cpu q e = refl
not_in_flight (Look p x fs d) s cpu q e = refl
not_in_flight (Scan fs t) s cpu q e = (scanning t _).comes_to_rest
not_in_flight (End unserved) s cpu q e = refl
not_in_flight (Did r) s cpu q e = (answering s.course.command cpu s.queue q s.course).comes_to_rest
not_in_flight (Out cause to tasks) s cpu q e = cc
not_in_flight (Landed tasks) s cpu q e = (landing (cause_of s.course) s.course).comes_to_rest
not_in_flight (Turn ps) s cpu q e = (going_to (least ps) _).comes_to_rest
not_in_flight Shut s cpu q e = (turn_ending s.header s.course).comes_to_rest
not_in_flight (Close p w i f) s cpu q e = (closing w s.course).comes_to_rest
not_in_flight (Ask r) s cpu q e = (going_on s.course).comes_to_rest
not_in_flight (Kick r) s cpu q e = (kicked_on r s.course).comes_to_rest
not_in_flight Over s cpu q e = (turn_ending s.header s.course).comes_to_rest
not_in_flight (Pub v) s cpu q e = refl
