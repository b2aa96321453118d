-- For `new_lane` of src/start.rt: a lane before any entry.
use Rattle.std.proofs.Common.{◌≡◌, ℕ, All, ap, sym, subst}
use Rattle.lb_cell.specs.Cells.{LaneIs as SideIs}
use Rattle.lb_cpu.proofs.Starting.{declared_rows}
use Rattle.lb_cpu.proofs.start.new_lane.Goals as goal

pub new-requires-clause-rows : goal.new-requires-clause-rows
new-requires-clause-rows g c = (
  subst (λ (n : ℕ). All (λ r. r.lane ≡ n) c.args.rows) (sym (ap (λ (s : SideIs). s.number) c.new-side.ensures))
      c.requires.rows.owned,
  declared_rows g.N.Names.header c.args.rows c.requires.rows.accepted,
)
