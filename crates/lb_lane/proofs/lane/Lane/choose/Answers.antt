-- For `Lane::choose` of src/choose.rt: looks at a version, and copies the domains of a CPU in it; None where
-- the lane does not vouch for the version yet, since it has not read its `pub`.
use Rattle.lb_journal.specs.contracts.journal.Journal.{the_row}
use Rattle.lb_lane.specs.Lanes.{LaneIs}
use Rattle.lb_lane.proofs.Choosing.{has_cpu, sees_versions, chosen_of}
use Rattle.lb_lane.proofs.lane.Lane.choose.Goals as goal

pub look_on-requires-clause-has : goal.look_on-requires-clause-has
look_on-requires-clause-has g c =
    let n = g.N.Names in
    let i = c.self.inside in
    let l : LaneIs =
    record { side = i.side; looker = i.looker; rows = i.rows; vouched = i.vouched; turned = i.turned; domains = i.domains } in
    has_cpu n.header n.board g.N.Versions.versions the_row.coded l c.args.cpu c.self.invariant c.requires

pub invariant_of-self : goal.invariant_of-self
invariant_of-self g c =
    let n = g.N.Names in
    let i = c.self.inside in
    let l : LaneIs =
    record { side = i.side; looker = i.looker; rows = i.rows; vouched = i.vouched; turned = i.turned; domains = i.domains } in
    sees_versions n.header n.board g.N.Versions.versions the_row.coded l c.look_on.new.looker c.self.invariant
    c.look_on.ensures.book
    c.look_on.ensures.later

pub returns-clause-chosen : goal.returns-clause-chosen
returns-clause-chosen g c =
    let n = g.N.Names in
    let i = c.self.inside in
    let e = c.look_on.ensures in
    let l : LaneIs =
    record { side = i.side; looker = i.looker; rows = i.rows; vouched = i.vouched; turned = i.turned; domains = i.domains } in
    chosen_of n.header n.board g.N.Versions.versions the_row.coded (record l { looker = c.look_on.new.looker }) c.args.cpu
    c.look_on.result
    (sees_versions n.header n.board g.N.Versions.versions the_row.coded l c.look_on.new.looker c.self.invariant e.book e.later)
    c.requires e.copy e.last e.vouched e.cpu
