-- The entries of a service: what each leaves of its lane, and what the lane's course still asks for.
-- For `serve_scan`, `serve_kick`, `open_turn` and others.
use Rattle.std.proofs.Common.{ℕ, ◌≡◌, ◌+◌, ◌<◌, Bool, true, false, not, ◌==◌, cond, List, [], Option, Some, None, length, map, unwrap_or, if◌then◌else◌, refl, sym, ap, subst, ◌∙◌, arith, All, inl, inr}
use Rattle.std.proofs.lemmas.Bool.{and_parts, eqb-true}
use Rattle.std.proofs.lemmas.List.{length-map}
use base.Stored.{Coded}
use Rattle.atomic_table.specs.Seated.{TableId}
use Rattle.lb_base.specs.declared.mask.Mask.{Mask}
use Rattle.lb_base.specs.declared.shape.Kind.{Kind}
use Rattle.lb_base.specs.declared.shape.Kind.TheVariants.{Tick as TickTurn, Idle, Nohz}
use Rattle.lb_base.specs.Mask.{has}
use Rattle.lb_base.specs.Sets.{least, least_above}
use Rattle.lb_interval.specs.declared.Counters.{Counters}
use Rattle.lb_interval.specs.declared.Outcome.{Outcome}
use Rattle.lb_interval.specs.declared.Outcome.TheVariants.{NotMine, Balanced, Moved, Pinned, Failed, Asking}
use Rattle.lb_queue.specs.Queue.{QueueState}
use Rattle.lb_queue.specs.Requests.{next_stop}
use Rattle.lb_queue.specs.Turns.{FitCounters}
use Rattle.lb_queue.specs.declared.answers.AskReply.{AskReply}
use Rattle.lb_queue.specs.declared.answers.OutCause.{OutCause}
use Rattle.lb_queue.specs.declared.answers.OutCause.TheVariants as outs
use Rattle.lb_queue.specs.declared.answers.Stop.{Stop}
use Rattle.lb_trace.specs.declared.trace.Header.{Header}
use Rattle.lb_core.specs.declared.course.Course.{Course}
use Rattle.lb_core.specs.declared.course.Form.{Form}
use Rattle.lb_core.specs.declared.course.Form.TheVariants as forms
use Rattle.lb_core.specs.declared.entry.CpuFig.{CpuFig}
use Rattle.lb_core.specs.declared.entry.Owner.TheVariants.{Lane, Queue}
use Rattle.lb_core.specs.declared.entry.What.{What}
use Rattle.lb_core.specs.declared.entry.What.TheVariants as whats
use Rattle.lb_core.specs.declared.rule.Rule.TheVariants.{Counters as CountersRule}
use Rattle.lb_core.specs.Course.{is_newly, is_tick, shapes_of, ticked_cpu, turn_domains, turn_kind}
use Rattle.lb_core.specs.Placed.{is_flight}
use Rattle.lb_core.specs.Sight.{tickless_in}
use Rattle.lb_core.specs.Same.{same_kind, same_number}
use Rattle.lb_core.specs.Stage.{queue_due, target_of}
use Rattle.lb_core.specs.Rules.{positions_due}
use Rattle.lb_core.specs.Leaving.{Leaving, leaving}
use Rattle.lb_core.specs.QueueAfter.{cause_of}
use Rattle.lb_core.specs.CourseAfter.{course_after, drew, goes_to, lands, raised_numbers, scanned, takes_off}
use Rattle.lb_core.proofs.Positions.{AreMany, above_has, least_has, positions_below}
use Rattle.lb_journal.specs.Journal.{Journal, names_of}
use Rattle.lb_cell.specs.Cells.{CellIs, LaneIs as SideIs}
use Rattle.lb_cell.specs.Draws.{course_left, sight_at}
use Rattle.lb_cell.specs.Own.{own_left}
use Rattle.lb_cell.specs.Serving.{cause_by, out_cause}
use Rattle.lb_lane.specs.Lanes.{LaneIs}
use Rattle.lb_lane.specs.Scans.{LaneScanned, scan_of, target_among}
use Rattle.lb_lane.specs.Uses.{use_due}
use Rattle.lb_lane_laws.specs.Stays.{BeginsAt, ComesTo, SameRows, SameTurn, next_position}
use Rattle.lb_lane_laws.proofs.Courses.{AskLeft, ask_left}
use Rattle.lb_lane_laws.proofs.Lanes.{there_course}
use Rattle.lb_cpu.specs.Drawn.{DrewThere}
use Rattle.lb_cpu.specs.Hands.{InFlight}
use Rattle.lb_cpu.specs.Turns.{IsDue, AskedThere, KickedThere, due_at}
use Rattle.lb_pass.specs.Passes.{GoesOnAfter}
use Rattle.lb_service.specs.Services.{DueIn, IsAt, StillDue, IsTurning, ScannedAreDeclared}
use Rattle.lb_service.proofs.Following.{end_serves, kick_serves, tickless_below}

-- ---- forms
empty_handed_by : (f : Form) (h : Header) (c : Course) → DueIn f h c → is_flight f ≡ false
empty_handed_by forms.Rest h c a = refl
empty_handed_by forms.Serving h c a = refl
empty_handed_by forms.Due h c a = refl
empty_handed_by forms.ScanDue h c a = refl
empty_handed_by forms.Kicking h c a = refl
empty_handed_by forms.Asked h c a = absurd a
empty_handed_by forms.Flight h c a = absurd a
empty_handed_by forms.Used h c a = absurd a
empty_handed_by forms.Position h c a = absurd a
empty_handed_by forms.Looked h c a = absurd a
empty_handed_by forms.Landed h c a = absurd a
empty_handed_by forms.Closed h c a = absurd a
empty_handed_by forms.Done h c a = absurd a
empty_handed_by forms.Ended h c a = absurd a

-- a lane in service has no task in its hand
pub serving_empty_handed : (h : Header) (c : Course) → StillDue h c → is_flight c.form ≡ false
serving_empty_handed h c a = empty_handed_by c.form h c a

pub form_empty_handed : (c : Course) (f : Form) → c.form ≡ f → is_flight f ≡ false → is_flight c.form ≡ false
form_empty_handed c f e g = ap is_flight e ∙ g

pub turning_empty_handed : (h : Header) (c : Course) → IsTurning h c → is_flight c.form ≡ false
turning_empty_handed h c t = elim t.comes [
  | inl at ↦ ap is_flight at.0.form
  | inr done ↦ ap is_flight done
]

-- ---- a kick, an end, and a scan
kick_left : (h : Header) (c : CellIs) (l : SideIs) (r : AskReply) → ScannedAreDeclared h Nohz l.course
    → StillDue h (course_left h c l (whats.Kick r))
unfolding course_after
kick_left h c l r kicks = kick_serves r h l.course c.log.writer.cpu (length c.log.seat.list + 1) kicks

over_left : (h : Header) (c : CellIs) (l : SideIs) → ScannedAreDeclared h (turn_kind l.course) l.course
    → StillDue h (course_left h c l whats.Over)
unfolding course_after
over_left h c l kicks = end_serves h l.course c.log.writer.cpu (length c.log.seat.list + 1) kicks

shut_left : (h : Header) (c : CellIs) (l : SideIs) → ScannedAreDeclared h (turn_kind l.course) l.course
    → StillDue h (course_left h c l whats.Shut)
unfolding course_after
shut_left h c l kicks = end_serves h l.course c.log.writer.cpu (length c.log.seat.list + 1) kicks

pub kicked_serves : (h : Header) (book : TableId) (board : List TableId) (code : Coded Journal) (l l' : LaneIs) (cpu : ℕ)
    (r : AskReply) → ScannedAreDeclared h Nohz l.side.course → KickedThere h book board code l l' cpu r
    → StillDue h l'.side.course
kicked_serves h book board code l l' cpu r kicks x =
    subst (StillDue h) (sym (there_course h book board code l l' cpu (whats.Kick r) x.there))
    (kick_left h x.there.before l.side r kicks)

pub over_serves : (h : Header) (book : TableId) (board : List TableId) (code : Coded Journal) (l l' : LaneIs) (cpu : ℕ)
    → ScannedAreDeclared h (turn_kind l.side.course) l.side.course → DrewThere h book board code l l' cpu whats.Over
    → StillDue h l'.side.course
over_serves h book board code l l' cpu kicks x =
    subst (StillDue h) (sym (there_course h book board code l l' cpu whats.Over x)) (over_left h x.before l.side kicks)

scan_by : (o : Option ℕ) (h : Header) (c : Course) (lane n : ℕ) (figs : List CpuFig) (named : List ℕ)
    → least (tickless_in figs) ≡ o → All (λ f. f.cpu < length h.cpus) figs
    → StillDue h (drew (Lane lane) n (scanned o (record c { figures = figs; named = named })))
scan_by None h c lane n figs named e inside = tt
scan_by (Some p) h c lane n figs named e inside = (
  record {
    due = record { form = refl; here = rw e refl };
    declared = rw e (tickless_below figs (length h.cpus) p inside (least_has (tickless_in figs) p e));
  },
  inside,
)

scan_left : (h : Header) (l : SideIs) (figs : List CpuFig) → All (λ f. f.cpu < length h.cpus) figs
    → StillDue h (own_left h l (scan_of figs) [] figs)
unfolding course_after
scan_left h l figs inside =
    scan_by (target_among figs) h l.course l.number 1 figs (raised_numbers (names_of figs) l.course.named) refl inside

pub scanned_serves : (h : Header) (n : ℕ) (l l' : LaneIs) (t : Option ℕ) → n ≡ length h.cpus → LaneScanned h n l l' t
    → StillDue h l'.side.course
scanned_serves h n l l' t same x =
    subst (StillDue h) (sym x.scanned.drew.drew.course)
    (scan_left h l.side x.scanned.drew.figs
    (subst (λ (m : ℕ). All (λ f. f.cpu < m) x.scanned.drew.figs) same x.scanned.drew.inside))

scan_rows_left : (h : Header) (l : SideIs) (figs : List CpuFig) → (own_left h l (scan_of figs) [] figs).rows ≡ l.course.rows
unfolding course_after
scan_rows_left h l figs = by (target_among figs)
  where
    by : (o : Option ℕ)
        → (scanned o (record l.course { figures = figs; named = raised_numbers (names_of figs) l.course.named })).rows ≡
        l.course.rows
    by None = refl
    by (Some p) = refl

pub scan_same : (h : Header) (n : ℕ) (l l' : LaneIs) (t : Option ℕ) → LaneScanned h n l l' t → SameRows l l'
scan_same h n l l' t x = record {
  number = x.scanned.drew.drew.number;
  rows = x.rest.rows;
  taken_up = ap (λ (c : Course). c.rows) x.scanned.drew.drew.course ∙ scan_rows_left h l.side x.scanned.drew.figs;
}

-- ---- the stops and the push of a tick
cause_served : (o : Option Stop) → ((cause_by o ≡ outs.Pull) → ⊥) × ((cause_by o ≡ outs.Wake) → ⊥)
cause_served None = (λ e. (let y : ⊥ = cc e in y), λ e. (let y : ⊥ = cc e in y))
cause_served (Some s) = (λ e. (let y : ⊥ = cc e in y), λ e. (let y : ⊥ = cc e in y))

off_command : (o : Option Leaving) (c : Course) → (takes_off o c).command ≡ c.command
off_command None c = refl
off_command (Some x) c = refl

pub out_command : (h : Header) (c : CellIs) (l : SideIs) (cause : OutCause) (to : ℕ) (tasks : List ℕ)
    → (course_left h c l (whats.Out cause to tasks)).command ≡ l.course.command
unfolding course_after
out_command h c l cause to tasks = off_command (leaving (sight_at h c l)) l.course

-- it goes on with the tick, if it was in one
pub record TickGoesOn (c c' : Course) : Type 0 where
  pub form : c'.form ≡ forms.Serving
  pub command : c'.command ≡ c.command

lands_by : (cause : OutCause) (b : Bool) (c : Course) (cpu n : ℕ) → (cause ≡ outs.Pull → ⊥) → is_tick c.command ≡ b → b ≡ true
    → TickGoesOn c (drew (Queue cpu) n (lands cause c))
lands_by outs.Pull b c cpu n other e t = absurd (other refl)
lands_by outs.Wake b c cpu n other e t = let tick = e ∙ t in rw tick (record { form = refl; command = refl })
lands_by outs.Stop b c cpu n other e t = let tick = e ∙ t in rw tick (record { form = refl; command = refl })
lands_by outs.Push b c cpu n other e t = let tick = e ∙ t in rw tick (record { form = refl; command = refl })

land_tick : (h : Header) (c : CellIs) (l : SideIs) (cause : OutCause) (tasks : List ℕ) → l.course.cause ≡ Some cause
    → (cause ≡ outs.Pull → ⊥) → is_tick l.course.command ≡ true → TickGoesOn l.course (course_left h c l (whats.Landed tasks))
unfolding course_after
land_tick h c l cause tasks is other tick =
    subst (λ (x : OutCause). TickGoesOn l.course (drew (Queue c.log.writer.cpu) (length c.log.seat.list + 1) (lands x l.course)))
    (sym (ap (λ (o : Option OutCause). unwrap_or o outs.Wake) is))
    (lands_by cause true l.course c.log.writer.cpu (length c.log.seat.list + 1) other tick refl)

-- the tick's CPU is as it was
pub due_still : (h : Header) (c c' : Course) → IsDue h forms.Serving c → TickGoesOn c c' → IsDue h forms.Serving c'
due_still h c c' d g =
    let same : due_at c' ≡ due_at c =
    ap (λ (f : Form). unwrap_or (queue_due f c') 0) g.form
    ∙ (ap (λ o. unwrap_or (ticked_cpu o) 0) g.command
    ∙ sym (ap (λ (f : Form). unwrap_or (queue_due f c) 0) d.due.form)) in
    record {
      due = record {
        form = g.form;
        here = ap ticked_cpu g.command ∙ (d.due.here ∙ ap (λ (n : ℕ). Some n) (sym same));
      };
      declared = subst (λ (n : ℕ). n < length h.cpus) (sym same) d.declared;
    }

is_ticking : (h : Header) (c : Course) → IsDue h forms.Serving c → is_tick c.command ≡ true
is_ticking h c d = ap (λ o. by o) d.due.here
  where
    by : Option ℕ → Bool
    by None = false
    by (Some x) = true

pub out_serves : (h : Header) (book : TableId) (board : List TableId) (code : Coded Journal) (l m l' : LaneIs) (cpu to : ℕ)
    (cause : OutCause) (tasks lands : List ℕ) (q : QueueState) → IsDue h forms.Serving l.side.course
    → DrewThere h book board code l m cpu (whats.Out cause to tasks) → cause ≡ out_cause q
    → m.side.course.cause ≡ Some cause → DrewThere h book board code m l' m.side.course.to (whats.Landed lands)
    → IsDue h forms.Serving l'.side.course
out_serves h book board code l m l' cpu to cause tasks lands q d out why is x =
    let command : m.side.course.command ≡ l.side.course.command =
    ap (λ (c : Course). c.command) (there_course h book board code l m cpu (whats.Out cause to tasks) out)
    ∙ out_command h out.before l.side cause to tasks in
    let tick : is_tick m.side.course.command ≡ true =
    ap (λ o. is_tick o) command ∙ is_ticking h l.side.course d in
    let other : cause ≡ outs.Pull → ⊥ = λ e. (cause_served (next_stop q true)).0 (sym why ∙ e) in
    let left = land_tick h x.before m.side cause lands is other tick in
    let go : TickGoesOn m.side.course l'.side.course =
    subst (TickGoesOn m.side.course) (sym (there_course h book board code m l' m.side.course.to (whats.Landed lands) x)) left in
    due_still h l.side.course l'.side.course d (record { form = go.form; command = go.command ∙ command })
