-- An entry at a queue leaves as many rows taken up as there were.
-- For `serve_kick`, `serve_out`, `end_turn` and `pass_position`.
use Rattle.std.proofs.Common.{ℕ, ◌≡◌, Bool, true, false, ◌&&◌, List, Option, Some, None, length, if◌then◌else◌, refl, ap, ◌∙◌}
use Rattle.std.specs.Prelude.{nat_lt}
use base.Stored.{Coded}
use Rattle.atomic_table.specs.Seated.{TableId}
use Rattle.lb_base.specs.Sets.{least, least_above}
use Rattle.lb_base.specs.declared.shape.Kind.{Kind}
use Rattle.lb_base.specs.declared.shape.Kind.TheVariants.{Tick as TickTurn, Idle, Nohz}
use Rattle.lb_queue.specs.Queue.{QueueState}
use Rattle.lb_queue.specs.declared.answers.OutCause.{OutCause}
use Rattle.lb_queue.specs.declared.answers.OutCause.TheVariants as outs
use Rattle.lb_queue.specs.declared.answers.AskReply.{AskReply}
use Rattle.lb_queue.specs.declared.answers.AskReply.TheVariants.{New, Old}
use Rattle.lb_trace.specs.declared.trace.Command.{Command}
use Rattle.lb_trace.specs.declared.trace.Command.TheVariants.{Wake, Sleep, Exit, SetMask, Nice, Tick, Rebuild}
use Rattle.lb_trace.specs.declared.trace.Header.{Header}
use Rattle.lb_core.specs.declared.course.Course.{Course}
use Rattle.lb_core.specs.declared.entry.OutcomeWord.{OutcomeWord}
use Rattle.lb_core.specs.declared.entry.OutcomeWord.TheVariants as words
use Rattle.lb_core.specs.declared.entry.What.{What}
use Rattle.lb_core.specs.declared.entry.What.TheVariants as whats
use Rattle.lb_core.specs.Sight.{Sight, tickless_in}
use Rattle.lb_core.specs.Course.{turn_kind, turn_domains, is_tick, is_newly}
use Rattle.lb_core.specs.Stage.{target_of}
use Rattle.lb_core.specs.Leaving.{Leaving, leaving}
use Rattle.lb_core.specs.QueueAfter.{cause_of, queue_after}
use Rattle.lb_core.specs.CourseAfter.{course_after, course_by, after_sleep, answered, left_idle, takes_off, lands, goes_to, kicks_next, kicked, turn_ends_by, turn_ends, closes}
use Rattle.lb_journal.specs.Journal.{Journal}
use Rattle.lb_cell.specs.Cells.{CellIs, LaneIs as SideIs}
use Rattle.lb_cell.specs.Draws.{course_left, entry_at, sight_at}
use Rattle.lb_cell.specs.Kinds.{is_of_queue}
use Rattle.lb_lane.specs.Lanes.{LaneIs}
use Rattle.lb_lane_laws.specs.Stays.{SameRows}
use Rattle.lb_lane_laws.proofs.Lanes.{there_rows, there_course}
use Rattle.lb_cpu.specs.Drawn.{DrewThere}

either_rows : (b : Bool) (n : ℕ) (x y : Course) → x.rows ≡ n → y.rows ≡ n → (if b then x else y).rows ≡ n
either_rows true n x y e f = e
either_rows false n x y e f = f

sleep_rows : (b : Bool) (cpu : ℕ) (c : Course) → (after_sleep b cpu c).rows ≡ c.rows
sleep_rows true cpu c = refl
sleep_rows false cpu c = refl

did_rows : (o : Option Command) (cpu : ℕ) (q now : QueueState) (c : Course) → (answered o cpu q now c).rows ≡ c.rows
did_rows None cpu q now c = refl
did_rows (Some (Wake t)) cpu q now c = refl
did_rows (Some (Sleep t)) cpu q now c = sleep_rows (left_idle t q now) cpu c
did_rows (Some (Exit t)) cpu q now c = sleep_rows (left_idle t q now) cpu c
did_rows (Some (SetMask t m)) cpu q now c = refl
did_rows (Some (Nice t n)) cpu q now c = refl
did_rows (Some (Tick k)) cpu q now c = refl
did_rows (Some (Rebuild p)) cpu q now c = refl

out_rows : (l : Option Leaving) (c : Course) → (takes_off l c).rows ≡ c.rows
out_rows None c = refl
out_rows (Some l) c = refl

landing_rows : (cause : OutCause) (c : Course) → (lands cause c).rows ≡ c.rows
landing_rows outs.Pull c = refl
landing_rows outs.Wake c = either_rows (is_tick c.command) c.rows _ _ refl refl
landing_rows outs.Stop c = either_rows (is_tick c.command) c.rows _ _ refl refl
landing_rows outs.Push c = either_rows (is_tick c.command) c.rows _ _ refl refl

next_rows : (p : Option ℕ) (c : Course) → (goes_to p c).rows ≡ c.rows
next_rows None c = refl
next_rows (Some p) c = refl

kick_rows : (p : Option ℕ) (c : Course) → (kicks_next p c).rows ≡ c.rows
kick_rows None c = refl
kick_rows (Some p) c = refl

ends_rows : (k : Kind) (h : Header) (c : Course) → (turn_ends_by k h c).rows ≡ c.rows
ends_rows TickTurn h c = either_rows (nat_lt 1 c.awake && nat_lt 0 (length (turn_domains h c))) c.rows _ _ refl refl
ends_rows Idle h c = refl
ends_rows Nohz h c = kick_rows (least_above (tickless_in c.figures) c.cpu) c

end_rows : (h : Header) (c : Course) → (turn_ends h c).rows ≡ c.rows
unfolding turn_ends
end_rows h c = ends_rows (turn_kind c) h c

kicked_rows : (r : AskReply) (c : Course) → (kicked r c).rows ≡ c.rows
kicked_rows New c = kick_rows (target_of c) c
kicked_rows Old c = refl

close_rows : (w : OutcomeWord) (c : Course) → (closes w c).rows ≡ c.rows
close_rows words.Asking c = refl
close_rows words.NotMine c = refl
close_rows words.Moved c =
    either_rows (is_newly (turn_kind c)) c.rows _ _ refl (next_rows (least_above c.positions c.position) c)
close_rows words.Balanced c = next_rows (least_above c.positions c.position) c
close_rows words.Pinned c = next_rows (least_above c.positions c.position) c
close_rows words.Failed c = next_rows (least_above c.positions c.position) c

rows_by : (w : What) (s : Sight) (cpu : ℕ) (q : QueueState) → is_of_queue w ≡ true → (course_by w s cpu q).rows ≡ s.course.rows
rows_by (whats.Did r) s cpu q e = did_rows s.course.command cpu s.queue q s.course
rows_by (whats.Out cause to ids) s cpu q e = out_rows (leaving s) s.course
rows_by (whats.Landed ids) s cpu q e = landing_rows (cause_of s.course) s.course
rows_by (whats.Turn ps) s cpu q e = next_rows (least ps) _
rows_by whats.Shut s cpu q e = end_rows s.header s.course
rows_by (whats.Close p w i n) s cpu q e = close_rows w s.course
rows_by (whats.Ask r) s cpu q e = next_rows (least_above s.course.positions s.course.position) s.course
rows_by (whats.Kick r) s cpu q e = kicked_rows r s.course
rows_by whats.Over s cpu q e = end_rows s.header s.course
rows_by (whats.Row n at command) s cpu q e = absurd (cc e)
rows_by (whats.Adopt v k c) s cpu q e = absurd (cc e)
rows_by (whats.Look p x fs d) s cpu q e = absurd (cc e)
rows_by (whats.Scan fs t) s cpu q e = absurd (cc e)
rows_by (whats.End u) s cpu q e = absurd (cc e)
rows_by (whats.Pub v) s cpu q e = absurd (cc e)

pub rows_left : (h : Header) (c : CellIs) (l : SideIs) (w : What) → is_of_queue w ≡ true
    → (course_left h c l w).rows ≡ l.course.rows
unfolding course_after
rows_left h c l w e =
    rows_by w (sight_at h c l) c.log.writer.cpu (queue_after (sight_at h c l) (entry_at c l w)) e

pub there_same : (h : Header) (book : TableId) (board : List TableId) (code : Coded Journal) (l l' : LaneIs) (cpu : ℕ)
    (w : What) → DrewThere h book board code l l' cpu w → SameRows l l'
there_same h book board code l l' cpu w x =
    there_rows h book board code l l' cpu w x
    (ap (λ (c : Course). c.rows) (there_course h book board code l l' cpu w x)
    ∙ rows_left h x.before l.side w x.drew.may.of_queue)
