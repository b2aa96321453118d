-- For `Lane::look` of src/look.rt: looks at the domain in work: reads a figure of each CPU that is not
-- excluded, decides on just these, and draws the look above their tickets.
use Rattle.std.proofs.Common.{rules, [], sym, subst}
use Rattle.lb_journal.specs.contracts.journal.Journal.{the_row}
use Rattle.lb_lane.specs.Lanes.{LaneIs}
use Rattle.lb_core.specs.Course.{turn_domain}
use Rattle.lb_lane.specs.Looks.{LookAsks, look_of}
use Rattle.lb_lane.proofs.Drawing.{kept}
use Rattle.lb_lane.proofs.Deciding.{look_adds, may_look}
use Rattle.lb_lane.proofs.Refusing.{still}
use Rattle.lb_lane.proofs.lane.Lane.look.Goals as goal

pub look_at-requires-clause-may : goal.look_at-requires-clause-may
look_at-requires-clause-may g c =
    let n = g.N.Names in
    let i = c.self.inside in
    let l : LaneIs =
    record { side = i.side; looker = i.looker; rows = i.rows; vouched = i.vouched; turned = i.turned; domains = i.domains } in
    may_look n.header n.board g.N.Versions.versions the_row.coded l c.self.invariant c.keeps.ensures.named
    (subst (LookAsks n.header) (sym c.self.view_is) c.requires) c.groups_part_the_span.ensures c.spans_lie_inside.ensures

pub invariant_of-self : goal.invariant_of-self
invariant_of-self g c =
    let n = g.N.Names in
    let i = c.self.inside in
    let l : LaneIs =
    record { side = i.side; looker = i.looker; rows = i.rows; vouched = i.vouched; turned = i.turned; domains = i.domains } in
    still n.header n.board g.N.Versions.versions the_row.coded l c.look_at.new.side c.saw_stays.ensures c.uses_stay.ensures
    c.self.invariant (search rules)

pub invariant_of-self-2 : goal.invariant_of-self-2
invariant_of-self-2 g c =
    let n = g.N.Names in
    let i = c.self.inside in
    let l : LaneIs =
    record { side = i.side; looker = i.looker; rows = i.rows; vouched = i.vouched; turned = i.turned; domains = i.domains } in
    let asks : LookAsks n.header l = subst (LookAsks n.header) (sym c.self.view_is) c.requires in
    let may = may_look n.header n.board g.N.Versions.versions the_row.coded l c.self.invariant c.keeps.ensures.named asks
    c.groups_part_the_span.ensures c.spans_lie_inside.ensures in
    let x = c.in_ok-decision.ensures.ok in
    let what = look_of (turn_domain n.header l.side.course) l.side.course x.drew.figs in
    kept n.header n.board g.N.Versions.versions the_row.coded l (record l { side = c.look_at.new.side }) what [] x.drew.figs
    x.drew.ticket c.saw_stays.ensures c.self.invariant x.drew.drew
    (look_adds n.header n.board g.N.Versions.versions the_row.coded l c.look_at.new.side c.in_ok-decision.decision
    c.self.invariant asks
    may.named x)
