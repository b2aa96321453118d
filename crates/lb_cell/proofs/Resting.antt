-- At rest no command is in service, and no look is kept: so it stays from entry to entry of a lane, since a course comes to
-- rest in one way alone.
-- For the lemmas of `Entering` and `Owning`, and so for `Before::enter`, `Lane::draw` and others.
use Rattle.std.proofs.Common.{ℕ, Bool, true, false, ◌&&◌, Option, Some, None, length, if◌then◌else◌, refl}
use Rattle.std.specs.Prelude.{nat_lt}
use Rattle.lb_base.specs.Sets.{least, least_above}
use Rattle.lb_base.specs.declared.shape.Kind.{Kind}
use Rattle.lb_base.specs.declared.shape.Kind.TheVariants.{Tick as TickTurn, Idle, Nohz}
use Rattle.lb_queue.specs.Queue.{QueueState}
use Rattle.lb_queue.specs.declared.answers.OutCause.{OutCause}
use Rattle.lb_queue.specs.declared.answers.OutCause.TheVariants as outs
use Rattle.lb_queue.specs.declared.answers.AskReply.{AskReply}
use Rattle.lb_queue.specs.declared.answers.AskReply.TheVariants.{New, Old}
use Rattle.lb_trace.specs.declared.trace.Command.{Command}
use Rattle.lb_trace.specs.declared.trace.Command.TheVariants.{Wake, Sleep, Exit, SetMask, Nice, Tick, Rebuild}
use Rattle.lb_trace.specs.declared.trace.Header.{Header}
use Rattle.lb_core.specs.declared.course.Course.{Course}
use Rattle.lb_core.specs.declared.entry.OutcomeWord.{OutcomeWord}
use Rattle.lb_core.specs.declared.entry.OutcomeWord.TheVariants as words
use Rattle.lb_core.specs.declared.entry.What.{What}
use Rattle.lb_core.specs.declared.entry.What.TheVariants as whats
use Rattle.lb_core.specs.Sight.{Sight, tickless_in}
use Rattle.lb_core.specs.Course.{turn_kind, turn_domains, is_tick, is_newly}
use Rattle.lb_core.specs.Stage.{target_of}
use Rattle.lb_core.specs.Leaving.{Leaving, leaving}
use Rattle.lb_core.specs.QueueAfter.{cause_of}
use Rattle.lb_core.specs.CourseAfter.{course_by, after_sleep, answered, left_idle, takes_off, lands, goes_to, kicks_next, kicked, scanned, turn_ends_by, turn_ends, closes}
use Rattle.lb_cell.specs.Cells.{IsQuiet}

either_rests : (b : Bool) (x y : Course) → IsQuiet x → IsQuiet y → IsQuiet (if b then x else y)
either_rests true x y p q = p
either_rests false x y p q = q

sleep_rests : (b : Bool) (cpu : ℕ) (c : Course) → IsQuiet (after_sleep b cpu c)
sleep_rests true cpu c = λ e. absurd (cc e)
sleep_rests false cpu c = λ e. (refl, refl)

did_rests : (o : Option Command) (cpu : ℕ) (q now : QueueState) (c : Course) → IsQuiet (answered o cpu q now c)
did_rests None cpu q now c = λ e. (refl, refl)
did_rests (Some (Wake t)) cpu q now c = λ e. (refl, refl)
did_rests (Some (Sleep t)) cpu q now c = sleep_rests (left_idle t q now) cpu c
did_rests (Some (Exit t)) cpu q now c = sleep_rests (left_idle t q now) cpu c
did_rests (Some (SetMask t m)) cpu q now c = λ e. (refl, refl)
did_rests (Some (Nice t n)) cpu q now c = λ e. (refl, refl)
did_rests (Some (Tick k)) cpu q now c = λ e. absurd (cc e)
did_rests (Some (Rebuild p)) cpu q now c = λ e. (refl, refl)

out_rests : (l : Option Leaving) (c : Course) → IsQuiet c → IsQuiet (takes_off l c)
out_rests None c k = k
out_rests (Some l) c k = λ e. absurd (cc e)

landing_rests : (cause : OutCause) (c : Course) → IsQuiet (lands cause c)
landing_rests outs.Pull c = λ e. absurd (cc e)
landing_rests outs.Wake c = either_rests (is_tick c.command) _ _ (λ e. absurd (cc e)) (λ e. (refl, refl))
landing_rests outs.Stop c = either_rests (is_tick c.command) _ _ (λ e. absurd (cc e)) (λ e. (refl, refl))
landing_rests outs.Push c = either_rests (is_tick c.command) _ _ (λ e. absurd (cc e)) (λ e. (refl, refl))

next_rests : (p : Option ℕ) (c : Course) → IsQuiet (goes_to p c)
next_rests None c = λ e. absurd (cc e)
next_rests (Some p) c = λ e. absurd (cc e)

kick_rests : (p : Option ℕ) (c : Course) → IsQuiet (kicks_next p c)
kick_rests None c = λ e. (refl, refl)
kick_rests (Some p) c = λ e. absurd (cc e)

ends_rest : (k : Kind) (h : Header) (c : Course) → IsQuiet (turn_ends_by k h c)
ends_rest TickTurn h c =
    either_rests (nat_lt 1 c.awake && nat_lt 0 (length (turn_domains h c))) _ _ (λ e. absurd (cc e)) (λ e. (refl, refl))
ends_rest Idle h c = λ e. (refl, refl)
ends_rest Nohz h c = kick_rests (least_above (tickless_in c.figures) c.cpu) c

end_rests : (h : Header) (c : Course) → IsQuiet (turn_ends h c)
unfolding turn_ends
end_rests h c = ends_rest (turn_kind c) h c

kicked_rests : (r : AskReply) (c : Course) → IsQuiet (kicked r c)
kicked_rests New c = kick_rests (target_of c) c
kicked_rests Old c = λ e. (refl, refl)

scan_rests : (t : Option ℕ) (c : Course) → IsQuiet (scanned t c)
scan_rests None c = λ e. (refl, refl)
scan_rests (Some t) c = λ e. absurd (cc e)

close_rests : (w : OutcomeWord) (c : Course) → IsQuiet (closes w c)
close_rests words.Asking c = λ e. absurd (cc e)
close_rests words.NotMine c = λ e. absurd (cc e)
close_rests words.Moved c =
    either_rests (is_newly (turn_kind c)) _ _ (λ e. absurd (cc e)) (next_rests (least_above c.positions c.position) c)
close_rests words.Balanced c = next_rests (least_above c.positions c.position) c
close_rests words.Pinned c = next_rests (least_above c.positions c.position) c
close_rests words.Failed c = next_rests (least_above c.positions c.position) c

-- the course that an entry leaves, but for the number of the entry
pub rests_quiet : (w : What) (s : Sight) (cpu : ℕ) (q : QueueState) → IsQuiet s.course → IsQuiet (course_by w s cpu q)
rests_quiet (whats.Did r) s cpu q k = did_rests s.course.command cpu s.queue q s.course
rests_quiet (whats.Out cause to ids) s cpu q k = out_rests (leaving s) s.course k
rests_quiet (whats.Landed ids) s cpu q k = landing_rests (cause_of s.course) s.course
rests_quiet (whats.Turn ps) s cpu q k = next_rests (least ps) _
rests_quiet whats.Shut s cpu q k = end_rests s.header s.course
rests_quiet (whats.Close p w i n) s cpu q k = close_rests w s.course
rests_quiet (whats.Ask r) s cpu q k = next_rests (least_above s.course.positions s.course.position) s.course
rests_quiet (whats.Kick r) s cpu q k = kicked_rests r s.course
rests_quiet whats.Over s cpu q k = end_rests s.header s.course
rests_quiet (whats.Row n at command) s cpu q k = λ e. absurd (cc e)
rests_quiet (whats.Adopt v kind c) s cpu q k = λ e. absurd (cc e)
rests_quiet (whats.Look p x fs d) s cpu q k = λ e. absurd (cc e)
rests_quiet (whats.Scan fs t) s cpu q k = scan_rests t _
rests_quiet (whats.End u) s cpu q k = λ e. absurd (cc e)
rests_quiet (whats.Pub v) s cpu q k = λ e. (refl, refl)
