-- The answer to a row: the lane has taken up one row more, and goes on with what follows from it.
-- For `answer_row`.
use Rattle.std.proofs.Common.{ℕ, ◌≡◌, ◌+◌, ◌<◌, Bool, true, false, ◌==◌, List, [], Option, Some, None, unwrap_or, length, if◌then◌else◌, refl, sym, ap, subst, ◌∙◌, inl, inr}
use Rattle.std.proofs.lemmas.Bool.{eqb-true}
use base.Stored.{Coded}
use Rattle.atomic_table.specs.Seated.{TableId}
use Rattle.logbook.specs.Pages.{Book}
use Rattle.lb_base.specs.declared.shape.Kind.TheVariants.{Idle}
use Rattle.lb_queue.specs.Hands.{HandState}
use Rattle.lb_queue.specs.Queue.{QueueState}
use Rattle.lb_queue.specs.Tasks.{ids}
use Rattle.lb_queue.specs.declared.answers.OutCause.{OutCause}
use Rattle.lb_queue.specs.declared.answers.OutCause.TheVariants as outs
use Rattle.lb_queue.specs.declared.answers.Reply.{Reply}
use Rattle.lb_trace.specs.declared.trace.Command.{Command}
use Rattle.lb_trace.specs.declared.trace.Command.TheVariants.{Wake, Sleep, Exit, SetMask, Nice, Tick, Rebuild}
use Rattle.lb_trace.specs.declared.trace.Header.{Header}
use Rattle.lb_trace.specs.declared.trace.Row.{Row}
use Rattle.lb_core.specs.declared.course.Course.{Course}
use Rattle.lb_core.specs.declared.course.Form.TheVariants as forms
use Rattle.lb_core.specs.declared.entry.Owner.TheVariants.{Queue}
use Rattle.lb_core.specs.declared.entry.What.TheVariants as whats
use Rattle.lb_core.specs.Course.{is_tick, ticked_cpu}
use Rattle.lb_core.specs.CourseAfter.{after_sleep, answered, course_after, drew, lands, left_idle}
use Rattle.lb_core.specs.QueueAfter.{queue_after}
use Rattle.lb_journal.specs.Journal.{Journal}
use Rattle.lb_cell.specs.Cells.{CellIs, LaneIs as SideIs}
use Rattle.lb_cell.specs.Commands.{answers_at}
use Rattle.lb_cell.specs.Draws.{course_left, entry_at, sight_at}
use Rattle.lb_cell.specs.Own.{own_left}
use Rattle.lb_cell.specs.Pubs.{pub_left}
use Rattle.lb_lane.specs.Lanes.{LaneIs}
use Rattle.lb_lane.specs.Own.{TookRow}
use Rattle.lb_lane_laws.specs.Stays.{SameRows}
use Rattle.lb_lane_laws.proofs.Lanes.{rows_still, there_course}
use Rattle.lb_cpu.specs.Commands.{Answered, Commanded, MadeVersion, Served, WokeElsewhere}
use Rattle.lb_service.specs.Services.{StillDue, ScannedAreDeclared}
use Rattle.lb_service.proofs.Entries.{out_command}
use Rattle.lb_service.proofs.Rows.{there_same}

-- ---- by a queue
sleep_serves : (b : Bool) (h : Header) (c : Course) (cpu n : ℕ) → cpu < length h.cpus
    → StillDue h (drew (Queue cpu) n (after_sleep b cpu c))
sleep_serves true h c cpu n lt = (lt, tt)
sleep_serves false h c cpu n lt = tt

answer_serves : (o : Option Command) (h : Header) (c : Course) (cpu n : ℕ) (q now : QueueState) → c.command ≡ o
    → answers_at o cpu ≡ true → cpu < length h.cpus → StillDue h (drew (Queue cpu) n (answered o cpu q now c))
answer_serves None h c cpu n q now e a lt = tt
answer_serves (Some (Wake t)) h c cpu n q now e a lt = tt
answer_serves (Some (SetMask t m)) h c cpu n q now e a lt = tt
answer_serves (Some (Nice t v)) h c cpu n q now e a lt = tt
answer_serves (Some (Rebuild p)) h c cpu n q now e a lt = tt
answer_serves (Some (Sleep t)) h c cpu n q now e a lt = sleep_serves (left_idle t q now) h c cpu n lt
answer_serves (Some (Exit t)) h c cpu n q now e a lt = sleep_serves (left_idle t q now) h c cpu n lt
answer_serves (Some (Tick ticked)) h c cpu n q now e a lt =
    let same : cpu ≡ ticked = eqb-true cpu ticked a in
    record {
      due = record { form = refl; here = rw e refl };
      declared = rw e (subst (λ (k : ℕ). k < length h.cpus) same lt);
    }

did_left : (h : Header) (c : CellIs) (l : SideIs) (r : Reply) → answers_at l.course.command c.log.writer.cpu ≡ true
    → c.log.writer.cpu < length h.cpus → StillDue h (course_left h c l (whats.Did r))
unfolding course_after
did_left h c l r a lt =
    answer_serves l.course.command h l.course c.log.writer.cpu (length c.log.seat.list + 1) c.queue.state
    (queue_after (sight_at h c l) (entry_at c l (whats.Did r))) refl a lt

-- ---- by a wake that lands elsewhere
wake_lands : (h : Header) (c : Course) (cpu n : ℕ) → is_tick c.command ≡ false
    → StillDue h (drew (Queue cpu) n (lands outs.Wake c))
wake_lands h c cpu n e = rw e tt

wake_left : (h : Header) (c : CellIs) (l : SideIs) (tasks : List ℕ) → l.course.cause ≡ Some outs.Wake
    → is_tick l.course.command ≡ false → StillDue h (course_left h c l (whats.Landed tasks))
unfolding course_after
wake_left h c l tasks is tick =
    subst (λ (x : OutCause). StillDue h (drew (Queue c.log.writer.cpu) (length c.log.seat.list + 1) (lands x l.course)))
    (sym (ap (λ (o : Option OutCause). unwrap_or o outs.Wake) is))
    (wake_lands h l.course c.log.writer.cpu (length c.log.seat.list + 1) tick)

-- ---- by a version
pub_serves : (h : Header) (l : SideIs) (count version : ℕ) → StillDue h (pub_left h l count version)
unfolding course_after
pub_serves h l count version = tt

pub_rows : (h : Header) (l : SideIs) (count version : ℕ) → (pub_left h l count version).rows ≡ l.course.rows
unfolding course_after
pub_rows h l count version = refl

-- ---- a row
-- it is taken up
pub record TookUpRow (l l' : LaneIs) : Type 0 where
  pub number : l'.side.number ≡ l.side.number
  pub rows : l'.rows ≡ l.rows
  pub taken_up : l'.side.course.rows ≡ l.side.course.rows + 1
  pub form : l'.side.course.form ≡ forms.Asked

row_left : (h : Header) (l : SideIs) (n at : ℕ) (command : Command)
    → ((own_left h l (whats.Row n at command) [] []).rows ≡ n)
    × ((own_left h l (whats.Row n at command) [] []).form ≡ forms.Asked)
unfolding course_after
row_left h l n at command = (refl, refl)

pub took_row : (h : Header) (l l' : LaneIs) → TookRow h l l' → TookUpRow l l'
took_row h l l' t =
    let left = row_left h l.side (l.side.course.rows + 1) t.row.at t.row.command in
    record {
      number = t.drew.number;
      rows = t.rest.rows;
      taken_up = ap (λ (c : Course). c.rows) t.drew.course ∙ left.0;
      form = ap (λ (c : Course). c.form) t.drew.course ∙ left.1;
    }

module _ (h : Header) (book : TableId) (board : List TableId) (versions : Book) (code : Coded Journal) (m l' : LaneIs)
    (reply : Reply) where
  answered_serves : Answered h book board code m l' reply → StillDue h l'.side.course × SameRows m l'
  answered_serves x = (
    subst (StillDue h) (sym (there_course h book board code m l' x.cpu (whats.Did reply) x.there))
        (did_left h x.there.before m.side reply
        (subst (λ (k : ℕ). answers_at m.side.course.command k ≡ true) (sym x.there.here) x.asked.command) x.there.kept.declared),
    there_same h book board code m l' x.cpu (whats.Did reply) x.there,
  )

  woke_serves : WokeElsewhere h book board code m l' reply → StillDue h l'.side.course × SameRows m l'
  woke_serves x =
      let out = x.left.there in
      let task = x.left.wakes.task in
      let command : x.mid.side.course.command ≡ Some (Wake task) =
      ap (λ (c : Course). c.command)
      (there_course h book board code m x.mid x.left.cpu (whats.Out outs.Wake x.hand.to (ids x.hand.tasks)) out)
      ∙ (out_command h out.before m.side outs.Wake x.hand.to (ids x.hand.tasks) ∙ x.left.wakes.command) in
      let tick : is_tick x.mid.side.course.command ≡ false = ap is_tick command in (
        subst (StillDue h)
            (sym (there_course h book board code x.mid l' x.hand.to (whats.Landed (ids x.hand.tasks)) x.landed))
            (wake_left h x.landed.before x.mid.side (ids x.hand.tasks) x.left.flies.cause_is tick),
        rows_still m x.mid l'
            (there_same h book board code m x.mid x.left.cpu (whats.Out outs.Wake x.hand.to (ids x.hand.tasks)) out)
            (there_same h book board code x.mid l' x.hand.to (whats.Landed (ids x.hand.tasks)) x.landed),
      )

  version_serves : MadeVersion h book versions code m l' reply → StillDue h l'.side.course × SameRows m l'
  version_serves x =
      let d = x.published.drew in
      let count = length x.published.roomy.list in (
        subst (StillDue h) (sym (x.read.same.course ∙ d.course)) (pub_serves h m.side count x.version),
        record {
          number = x.read.same.number ∙ d.number;
          rows = x.rows;
          taken_up = ap (λ (c : Course). c.rows) (x.read.same.course ∙ d.course) ∙ pub_rows h m.side count x.version;
        },
      )

  served_serves : Served h book board versions code m l' reply → StillDue h l'.side.course × SameRows m l'
  served_serves s = elim s [
    | inl woke ↦ elim woke [
      | inl here ↦ answered_serves here
      | inr away ↦ woke_serves away
    ]
    | inr made ↦ version_serves made
  ]

-- the row was taken up and answered
pub record RowAnswered (h : Header) (l l' : LaneIs) : Type 0 where
  pub serving : StillDue h l'.side.course
  pub number : l'.side.number ≡ l.side.number
  pub rows : l'.rows ≡ l.rows
  pub taken_up : l'.side.course.rows ≡ l.side.course.rows + 1

pub row_answered : (h : Header) (book : TableId) (board : List TableId) (versions : Book) (code : Coded Journal) (l l' : LaneIs)
    (row : Row) (reply : Reply) → Commanded h book board versions code l l' row reply → RowAnswered h l l'
row_answered h book board versions code l l' row reply x =
    let t = took_row h l x.mid x.took in
    let s = served_serves h book board versions code x.mid l' reply x.served in
    record {
      serving = s.0;
      number = s.1.number ∙ t.number;
      rows = s.1.rows ∙ t.rows;
      taken_up = s.1.taken_up ∙ t.taken_up;
    }
