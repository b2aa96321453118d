-- A row that a lane took up is in service: its command is that of the lane's course.
-- For `Cpus::command` and `Cpus::take_up`.
use Rattle.std.proofs.Common.{ℕ, ◌≡◌, ◌∙◌, ◌+◌, Some, Result, Ok, Err, IfOk, OnOk, All, List, [], slice_get, true, refl, sym, subst, ap}
use Rattle.std.proofs.lemmas.Option.{same_Some, slice_get-get_or, slice_get_within}
use base.Stored.{Coded}
use Rattle.logbook.specs.Pages.{Book}
use Rattle.atomic_table.specs.Seated.{TableId}
use Rattle.lb_trace.specs.Accepted.{is_command}
use Rattle.lb_trace.specs.declared.trace.Header.{Header}
use Rattle.lb_trace.specs.declared.trace.Row.{Row}
use Rattle.lb_core.specs.CourseAfter.{course_after}
use Rattle.lb_core.specs.declared.course.Form.TheVariants.{Asked}
use Rattle.lb_core.specs.declared.entry.What.TheVariants.{Row as RowEntry}
use Rattle.lb_journal.specs.Journal.{Journal}
use Rattle.lb_cell.specs.Cells.{LaneIs as SideIs}
use Rattle.lb_cell.specs.Own.{own_left}
use Rattle.lb_lane.specs.Lanes.{LaneIs, LaneKeeps}
use Rattle.lb_lane.specs.Own.{TookRow}
use Rattle.lb_queue.specs.declared.answers.Reply.{Reply}
use Rattle.lb_cpu.specs.Commands.{Commanded, IsInService, Served}

-- what the row leaves
left_form : (h : Header) (l : SideIs) (n : ℕ) (row : Row) → (own_left h l (RowEntry n row.at row.command) [] []).form ≡ Asked
unfolding course_after
left_form h l n row = refl

left_command : (h : Header) (l : SideIs) (n : ℕ) (row : Row)
    → (own_left h l (RowEntry n row.at row.command) [] []).command ≡ Some row.command
unfolding course_after
left_command h l n row = refl

-- what holds of all rows holds of the one at a place
at_place : (P : Row → Type 0) (rows : List Row) (n : ℕ) (row : Row) → All P rows → slice_get rows n ≡ Some row → P row
at_place P rows n row all here =
    let lt = slice_get_within rows n row here in
    subst P (same_Some _ _ (sym (slice_get-get_or rows n row lt) ∙ here)) (all n row lt)

in_service : (h : Header) (board : List TableId) (versions : Book) (code : Coded Journal) (l l' : LaneIs) (row : Row)
    → LaneKeeps h board versions code l → slice_get l.rows l.side.course.rows ≡ Some row → TookRow h l l'
    → IsInService h l'.side.course row
in_service h board versions code l l' row k next took =
    let is : took.row ≡ row = same_Some _ _ (sym took.next ∙ next) in
    record {
      form = ap (λ c. c.form) took.drew.course ∙ left_form h l.side (l.side.course.rows + 1) took.row;
      command =
          ap (λ c. c.command) took.drew.course
          ∙ (left_command h l.side (l.side.course.rows + 1) took.row ∙ ap (λ (r : Row). Some r.command) is);
      accepted = at_place (λ r. is_command h r.command ≡ true) l.rows l.side.course.rows row k.declared next;
    }

pub service_if : {A E : Type 0} (r : Result A E) (h : Header) (board : List TableId) (versions : Book) (code : Coded Journal)
    (l l' : LaneIs) (row : Row) → LaneKeeps h board versions code l → slice_get l.rows l.side.course.rows ≡ Some row
    → OnOk r (TookRow h l l') → OnOk r (IsInService h l'.side.course row)
service_if (Ok x) h board versions code l l' row k next took = in_service h board versions code l l' row k next took
service_if (Err x) h board versions code l l' row k next took = tt

-- and where it is served then, the command is
pub commanded_if : {E : Type 0} (r : Result Reply E) (h : Header) (book : TableId) (board : List TableId) (versions : Book)
    (code : Coded Journal) (l m l' : LaneIs) (row : Row) → slice_get l.rows l.side.course.rows ≡ Some row → TookRow h l m
    → IfOk r (λ reply. Served h book board versions code m l' reply)
    → IfOk r (λ reply. Commanded h book board versions code l l' row reply)
commanded_if (Ok reply) h book board versions code l m l' row next took served =
    record { mid = m; took = took; is = same_Some _ _ (sym took.next ∙ next); served = served }
commanded_if (Err x) h book board versions code l m l' row next took served = tt
