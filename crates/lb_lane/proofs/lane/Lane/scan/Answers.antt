-- For `Lane::scan` of src/scan.rt: scans after a tick's turn: reads a figure of each CPU of the widest
-- domain, and draws the scan above their tickets.
use Rattle.std.proofs.Common.{rules, [], sym, subst}
use Rattle.lb_journal.specs.contracts.journal.Journal.{the_row}
use Rattle.lb_lane.specs.Lanes.{LaneIs}
use Rattle.lb_lane.specs.Scans.{ScanAsks, scan_of}
use Rattle.lb_lane.proofs.Drawing.{kept}
use Rattle.lb_lane.proofs.Refusing.{still}
use Rattle.lb_lane.proofs.Scanning.{may_scan, scan_adds}
use Rattle.lb_lane.proofs.lane.Lane.scan.Goals as goal

pub scan_at-requires-clause-may : goal.scan_at-requires-clause-may
scan_at-requires-clause-may g c =
    let n = g.N.Names in
    let i = c.self.inside in
    let l : LaneIs =
    record { side = i.side; looker = i.looker; rows = i.rows; vouched = i.vouched; turned = i.turned; domains = i.domains } in
    may_scan n.header n.board g.N.Versions.versions the_row.coded l c.self.invariant c.keeps.ensures.named
    (subst (ScanAsks n.header) (sym c.self.view_is) c.requires) c.spans_lie_inside.ensures

pub invariant_of-self : goal.invariant_of-self
invariant_of-self g c =
    let n = g.N.Names in
    let i = c.self.inside in
    let l : LaneIs =
    record { side = i.side; looker = i.looker; rows = i.rows; vouched = i.vouched; turned = i.turned; domains = i.domains } in
    still n.header n.board g.N.Versions.versions the_row.coded l c.scan_at.new.side c.saw_stays.ensures c.uses_stay.ensures
    c.self.invariant (search rules)

pub invariant_of-self-2 : goal.invariant_of-self-2
invariant_of-self-2 g c =
    let n = g.N.Names in
    let i = c.self.inside in
    let l : LaneIs =
    record { side = i.side; looker = i.looker; rows = i.rows; vouched = i.vouched; turned = i.turned; domains = i.domains } in
    let asks : ScanAsks n.header l = subst (ScanAsks n.header) (sym c.self.view_is) c.requires in
    let may = may_scan n.header n.board g.N.Versions.versions the_row.coded l c.self.invariant c.keeps.ensures.named asks
    c.spans_lie_inside.ensures in
    let x = c.in_ok-target.ensures.ok in
    kept n.header n.board g.N.Versions.versions the_row.coded l (record l { side = c.scan_at.new.side }) (scan_of x.drew.figs) []
    x.drew.figs x.drew.ticket c.saw_stays.ensures c.self.invariant x.drew.drew
    (scan_adds n.header n.board g.N.Versions.versions the_row.coded l c.scan_at.new.side c.in_ok-target.target c.self.invariant
    asks.due may.named x)
