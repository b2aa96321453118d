-- The CPU of a turn, the position in work and the source of the last pull stay in range, whatever entry of a queue comes.
-- For the lemmas of `Entering`, and so for `Before::enter` and `item_of`.
use Rattle.std.proofs.Common.{ℕ, ◌≡◌, ◌+◌, ◌<◌, zero, suc, Bool, true, false, ◌&&◌, Option, Some, None, IfSome, find, length, if◌then◌else◌, arith, inl, inr}
use Rattle.std.specs.Prelude.{nat_lt}
use Rattle.std.specs.List.{range_with_len}
use Rattle.std.proofs.lemmas.Bool.{cases_Bool}
use Rattle.lb_base.specs.declared.mask.Mask.{Mask}
use Rattle.lb_base.specs.declared.mask.TheConstants.{MAX_CPUS}
use Rattle.lb_base.specs.Mask.{has}
use Rattle.lb_base.specs.Sets.{least, least_above}
use Rattle.lb_base.specs.declared.shape.Kind.{Kind}
use Rattle.lb_base.specs.declared.shape.Kind.TheVariants.{Tick as TickTurn, Idle, Nohz}
use Rattle.lb_queue.specs.Queue.{QueueState}
use Rattle.lb_queue.specs.declared.answers.OutCause.{OutCause}
use Rattle.lb_queue.specs.declared.answers.OutCause.TheVariants as outs
use Rattle.lb_queue.specs.declared.answers.AskReply.{AskReply}
use Rattle.lb_queue.specs.declared.answers.AskReply.TheVariants.{New, Old}
use Rattle.lb_trace.specs.declared.trace.Command.{Command}
use Rattle.lb_trace.specs.declared.trace.Command.TheVariants.{Wake, Sleep, Exit, SetMask, Nice, Tick, Rebuild}
use Rattle.lb_trace.specs.declared.trace.Header.{Header}
use Rattle.lb_core.specs.declared.course.Course.{Course}
use Rattle.lb_core.specs.declared.entry.OutcomeWord.{OutcomeWord}
use Rattle.lb_core.specs.declared.entry.OutcomeWord.TheVariants as words
use Rattle.lb_core.specs.declared.entry.What.{What}
use Rattle.lb_core.specs.declared.entry.What.TheVariants as whats
use Rattle.lb_core.specs.Sight.{Sight, tickless_in}
use Rattle.lb_core.specs.Course.{turn_kind, turn_domains, is_tick, is_newly}
use Rattle.lb_core.specs.Stage.{target_of}
use Rattle.lb_core.specs.Leaving.{Leaving, leaving}
use Rattle.lb_core.specs.QueueAfter.{cause_of}
use Rattle.lb_core.specs.CourseAfter.{course_by, after_sleep, answered, left_idle, takes_off, lands, goes_to, comes_to_rest, kicks_next, kicked, turn_ends_by, turn_ends, closes}
use Rattle.lb_cell.specs.Kinds.{is_of_queue}
use Rattle.lb_cell.specs.Cells.{IsInRange}

-- ---- the CPUs of a mask
found_below : (p : ℕ → Bool) (a n : ℕ) → IfSome (find p (range_with_len a n)) (λ k. k < a + n)
found_below p a zero = tt
found_below p a (suc n) = elim (cases_Bool (p a)) [
  | inl e ↦ rw e (omega arith)
  | inr e ↦ rw e (further (find p (range_with_len (a + 1) n)) (found_below p (a + 1) n))
]
  where
    further : (o : Option ℕ) → IfSome o (λ k. k < a + 1 + n) → IfSome o (λ k. k < a + suc n)
    further None h = tt
    further (Some k) h = omega (arith, h)

abbrev IsCpu : Option ℕ → Type 0
IsCpu o = IfSome o (λ k. k < MAX_CPUS)

least_below : (m : Mask) → IsCpu (least m)
unfolding least
least_below m = found_below (has m) 0 MAX_CPUS

above_below : (m : Mask) (c : ℕ) → IsCpu (least_above m c)
unfolding least_above
above_below m c = found_below (λ k. nat_lt c k && has m k) 0 MAX_CPUS

-- ---- the steps of a course
none : 0 < MAX_CPUS
none = omega arith

either_in : (b : Bool) (x y : Course) → IsInRange x → IsInRange y → IsInRange (if b then x else y)
either_in true x y e f = e
either_in false x y e f = f

rest_in : (c : Course) → IsInRange c → IsInRange (comes_to_rest c)
rest_in c b = record { cpu = b.cpu; position = b.position; source = none }

sleep_in : (b : Bool) (cpu : ℕ) (c : Course) → cpu < MAX_CPUS → IsInRange c → IsInRange (after_sleep b cpu c)
sleep_in true cpu c k b = record { cpu = k; position = b.position; source = b.source }
sleep_in false cpu c k b = rest_in c b

did_in : (o : Option Command) (cpu : ℕ) (q now : QueueState) (c : Course) → cpu < MAX_CPUS → IsInRange c
    → IsInRange (answered o cpu q now c)
did_in None cpu q now c k b = rest_in c b
did_in (Some (Wake t)) cpu q now c k b = rest_in c b
did_in (Some (Sleep t)) cpu q now c k b = sleep_in (left_idle t q now) cpu c k b
did_in (Some (Exit t)) cpu q now c k b = sleep_in (left_idle t q now) cpu c k b
did_in (Some (SetMask t m)) cpu q now c k b = rest_in c b
did_in (Some (Nice t n)) cpu q now c k b = rest_in c b
did_in (Some (Tick z)) cpu q now c k b = record { cpu = b.cpu; position = b.position; source = b.source }
did_in (Some (Rebuild p)) cpu q now c k b = rest_in c b

out_in : (l : Option Leaving) (c : Course) → IsInRange c → IsInRange (takes_off l c)
out_in None c b = b
out_in (Some l) c b = record { cpu = b.cpu; position = b.position; source = b.source }

landing_in : (cause : OutCause) (c : Course) → IsInRange c → IsInRange (lands cause c)
landing_in outs.Pull c b = record { cpu = b.cpu; position = b.position; source = b.source }
landing_in outs.Wake c b =
    either_in (is_tick c.command) _ _ (record { cpu = b.cpu; position = b.position; source = b.source }) (rest_in c b)
landing_in outs.Stop c b =
    either_in (is_tick c.command) _ _ (record { cpu = b.cpu; position = b.position; source = b.source }) (rest_in c b)
landing_in outs.Push c b =
    either_in (is_tick c.command) _ _ (record { cpu = b.cpu; position = b.position; source = b.source }) (rest_in c b)

next_in : (p : Option ℕ) (c : Course) → IsCpu p → IsInRange c → IsInRange (goes_to p c)
next_in None c k b = record { cpu = b.cpu; position = none; source = none }
next_in (Some p) c k b = record { cpu = b.cpu; position = k; source = none }

kick_in : (p : Option ℕ) (c : Course) → IsCpu p → IsInRange c → IsInRange (kicks_next p c)
kick_in None c k b = rest_in c b
kick_in (Some p) c k b = record { cpu = k; position = b.position; source = b.source }

ends_in : (kind : Kind) (h : Header) (c : Course) → IsInRange c → IsInRange (turn_ends_by kind h c)
ends_in TickTurn h c b =
    either_in (nat_lt 1 c.awake && nat_lt 0 (length (turn_domains h c))) _ _
    (record { cpu = b.cpu; position = b.position; source = none }) (rest_in c b)
ends_in Idle h c b = rest_in c b
ends_in Nohz h c b = kick_in (least_above (tickless_in c.figures) c.cpu) c (above_below (tickless_in c.figures) c.cpu) b

end_in : (h : Header) (c : Course) → IsInRange c → IsInRange (turn_ends h c)
unfolding turn_ends
end_in h c b = ends_in (turn_kind c) h c b

kicked_in : (r : AskReply) (c : Course) → IsInRange c → IsInRange (kicked r c)
kicked_in New c b = kick_in (target_of c) c (least_below (tickless_in c.figures)) b
kicked_in Old c b = rest_in c b

go_in : (c : Course) → IsInRange c → IsInRange (goes_to (least_above c.positions c.position) c)
go_in c b = next_in (least_above c.positions c.position) c (above_below c.positions c.position) b

close_in : (w : OutcomeWord) (c : Course) → IsInRange c → IsInRange (closes w c)
close_in words.Asking c b = record { cpu = b.cpu; position = b.position; source = b.source }
close_in words.NotMine c b = next_in None c tt b
close_in words.Moved c b = either_in (is_newly (turn_kind c)) _ _ (next_in None c tt b) (go_in c b)
close_in words.Balanced c b = go_in c b
close_in words.Pinned c b = go_in c b
close_in words.Failed c b = go_in c b

pub stays_in : (w : What) (s : Sight) (cpu : ℕ) (q : QueueState) → is_of_queue w ≡ true → cpu < MAX_CPUS → IsInRange s.course
    → IsInRange (course_by w s cpu q)
stays_in (whats.Did r) s cpu q e k b = did_in s.course.command cpu s.queue q s.course k b
stays_in (whats.Out cause to ids) s cpu q e k b = out_in (leaving s) s.course b
stays_in (whats.Landed ids) s cpu q e k b = landing_in (cause_of s.course) s.course b
stays_in (whats.Turn ps) s cpu q e k b =
    next_in (least ps) _ (least_below ps) (record { cpu = b.cpu; position = b.position; source = b.source })
stays_in whats.Shut s cpu q e k b = end_in s.header s.course b
stays_in (whats.Close p w i n) s cpu q e k b = close_in w s.course b
stays_in (whats.Ask r) s cpu q e k b = go_in s.course b
stays_in (whats.Kick r) s cpu q e k b = kicked_in r s.course b
stays_in whats.Over s cpu q e k b = end_in s.header s.course b
stays_in (whats.Row n at command) s cpu q e k b = absurd (cc e)
stays_in (whats.Adopt v t c) s cpu q e k b = absurd (cc e)
stays_in (whats.Look p x fs d) s cpu q e k b = absurd (cc e)
stays_in (whats.Scan fs t) s cpu q e k b = absurd (cc e)
stays_in (whats.End u) s cpu q e k b = absurd (cc e)
stays_in (whats.Pub v) s cpu q e k b = absurd (cc e)
