-- For `Lane::row` of src/row.rt: takes up the lane's next row, while no row is in service.
use Rattle.std.proofs.Common.{true, rules, ◌≡◌, ◌∙◌, ◌+◌, ◌<◌, false, length, ap, sym, subst, refl}
use Rattle.lb_core.specs.declared.entry.What.TheVariants.{Row}
use Rattle.lb_core.specs.Rules.{is_undeclared}
use Rattle.lb_trace.specs.Accepted.{is_command}
use Rattle.lb_journal.specs.contracts.journal.Journal.{the_row}
use Rattle.lb_lane.specs.Lanes.{LaneIs}
use Rattle.lb_lane.proofs.Drawing.{kept}
use Rattle.lb_lane.proofs.Ranging.{row_in_range}
use Rattle.lb_lane.proofs.Rows.{is_declared, allowed_as, at_place, row_adds}
use Rattle.lb_lane.proofs.lane.Lane.row.Goals as goal

pub enter-requires-clause-allowed : goal.enter-requires-clause-allowed
enter-requires-clause-allowed g c =
    let n = g.N.Names in
    let i = c.self.inside in
    let rows = c.course.result.now.rows in
    let row = c.get-row.result.now in
    let er : rows ≡ i.side.course.rows = ap (λ x. x.rows) c.course.ensures in
    let more : rows < length i.rows =
    subst (λ n. n < length i.rows) (sym er)
    (subst (λ (k : LaneIs). k.side.course.rows < length k.rows) (sym c.self.view_is) c.requires.more) in
    allowed_as n.header i.side rows row.at c.in_ok-copy.field-0 c.new-masks.result c.new-figs.result
    (ap (λ (k : LaneIs). k.side.course.form) c.self.view_is ∙ c.requires.rest)
    (ap (is_undeclared n.header) (search rules)
    ∙ is_declared c.a_partition_has_no_fault.ensures n.header row.command
    (at_place (λ r. is_command n.header r.command ≡ true) i.rows rows row c.self.invariant.declared (search rules) more))
    er (search rules) (search rules)

pub enter-requires-clause-range : goal.enter-requires-clause-range
enter-requires-clause-range g c =
    let rows = c.course.result.now.rows in
    let row = c.get-row.result.now in
    row_in_range g.N.Names.header c.self.inside.side (rows + 1) row.at c.in_ok-copy.field-0 c.new-masks.result c.new-figs.result
    c.keeps.ensures.range

pub invariant_of-self-2 : goal.invariant_of-self-2
invariant_of-self-2 g c =
    let n = g.N.Names in
    let i = c.self.inside in
    let l : LaneIs =
    record { side = i.side; looker = i.looker; rows = i.rows; vouched = i.vouched; turned = i.turned; domains = i.domains } in
    let rows = c.course.result.now.rows in
    let row = c.get-row.result.now in
    let command = c.in_ok-copy.field-0 in
    let er : rows ≡ i.side.course.rows = ap (λ x. x.rows) c.course.ensures in
    let more : rows < length i.rows =
    subst (λ n. n < length i.rows) (sym er)
    (subst (λ (k : LaneIs). k.side.course.rows < length k.rows) (sym c.self.view_is) c.requires.more) in
    let ticket = c.in_ok-enter.field-0 in
    kept n.header n.board g.N.Versions.versions the_row.coded l (record l { side = c.enter.new.side })
    (Row (rows + 1) row.at command)
    c.new-masks.result c.new-figs.result ticket c.saw_stays.ensures c.self.invariant (search rules)
    (row_adds n.header n.board g.N.Versions.versions the_row.coded l c.enter.new.side rows row.at command row c.new-masks.result
    c.new-figs.result ticket c.self.invariant (search rules) er more (search rules) refl (search rules) (search rules)
    (search rules)
    (ap (λ (k : LaneIs). k.side.course.form) c.self.view_is ∙ c.requires.rest))
