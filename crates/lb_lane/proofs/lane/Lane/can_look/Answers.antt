-- For `Lane::can_look` of src/due.rt: whether a look at the position in work may be drawn.
use Rattle.std.proofs.Common.{rules, ℕ, ◌≡◌, ◌↔◌, true, false, ap, sym, subst}
use Rattle.lb_base.specs.Mask.{has}
use Rattle.lb_trace.specs.declared.trace.Header.{Header}
use Rattle.lb_core.specs.declared.course.Course.{Course}
use Rattle.lb_core.specs.Course.{turn_domain}
use Rattle.lb_journal.specs.contracts.journal.Journal.{the_row}
use Rattle.lb_lane.specs.Lanes.{LaneIs, is_due}
use Rattle.lb_lane.specs.Looks.{LookAsks, look_due}
use Rattle.lb_lane.proofs.DueNow.{look_when, no_look}
use Rattle.lb_lane.proofs.lane.Lane.can_look.Goals as goal

pub returns-then-look_due : goal.returns-then-look_due
returns-then-look_due g c =
    let n = g.N.Names in
    let i = c.self.inside in
    let l : LaneIs =
    record { side = i.side; looker = i.looker; rows = i.rows; vouched = i.vouched; turned = i.turned; domains = i.domains } in
    let course : c.course-course.result.now ≡ l.side.course = c.course-course.ensures in
    let d = c.get-domain.result.now in
    let due = c.look_due.result in
    let apart = c.are_apart.result in
    let holds : due ≡ true = search rules in
    subst (λ (x : LaneIs). (apart ≡ true) ↔ LookAsks n.header x) c.self.view_is
    (look_when n.header n.board g.N.Versions.versions the_row.coded l c.course-course.result.now.position d due apart
    c.self.invariant
    (ap (λ (y : Course). y.position) course) c.get-domain.ensures
    (subst (λ (y : Course). (h : Header) → turn_domain h y ≡ d → due ≡ look_due y.form h y) course c.look_due.ensures.due)
    (subst (λ (y : Course). due ≡ true → is_due y.form ≡ false) course c.look_due.ensures.late)
    (subst (λ (t : Type 0). t)
    (λ j. (apart ≡ true) ↔ ((k : ℕ) → has (c.local_group.ensures j) k ≡ true → has (course j).excluded k ≡ false))
    c.are_apart.ensures) holds)

pub returns-else-look_due : goal.returns-else-look_due
returns-else-look_due g c =
    let n = g.N.Names in
    let i = c.self.inside in
    let l : LaneIs =
    record { side = i.side; looker = i.looker; rows = i.rows; vouched = i.vouched; turned = i.turned; domains = i.domains } in
    let course : c.course-course.result.now ≡ l.side.course = c.course-course.ensures in
    let d = c.get-domain.result.now in
    let due = c.look_due.result in
    let fails : due ≡ false = search rules in (
      λ e. absurd (cc e),
      λ asks. absurd
          (no_look n.header n.board g.N.Versions.versions the_row.coded l c.course-course.result.now.position d due
          c.self.invariant
          (ap (λ (y : Course). y.position) course) c.get-domain.ensures
          (subst (λ (y : Course). (h : Header) → turn_domain h y ≡ d → due ≡ look_due y.form h y) course c.look_due.ensures.due)
          fails
          (subst (LookAsks n.header) (sym c.self.view_is) asks)),
    )
