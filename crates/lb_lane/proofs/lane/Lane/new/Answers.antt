-- For `Lane::new` of src/making.rt: a lane before its first row: its side drew nothing and has seen a figure
-- of each CPU, its looker has seen version 1, which is the header's, and the rows are its own.
use Rattle.std.proofs.Common.{List, sym, subst}
use Rattle.lb_domain.specs.declared.domain.Domain.{Domain}
use Rattle.lb_journal.specs.contracts.journal.Journal.{the_row}
use Rattle.lb_lane.specs.Lanes.{LaneKeeps}
use Rattle.lb_lane.proofs.Opening.{new_lane}
use Rattle.lb_lane.proofs.lane.Lane.new.Goals as goal

pub invariant_of-result : goal.invariant_of-result
invariant_of-result g c =
    let n = g.N.Names in
    let r = c.requires in
    subst
    (λ (ds : List Domain).
    LaneKeeps n.header n.board g.N.Versions.versions the_row.coded
    (record { side = c.args.side; looker = c.args.looker; rows = c.args.rows; vouched = 1; turned = 0; domains = ds }))
    (sym c.new.ensures)
    (new_lane n.header n.board g.N.Versions.versions the_row.coded c.args.side c.args.looker c.args.rows r.machine.0 r.machine.1
    r.side.0 r.side.1 r.seen r.looker.0 r.looker.1 r.rows.0 r.rows.1 r.short)
