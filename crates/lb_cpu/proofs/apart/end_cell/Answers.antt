-- For `end_cell` of src/apart.rt: the cell of a CPU, out of its lock.
use Rattle.lb_cpu.proofs.Parting.{left_cell}
use Rattle.lb_cpu.proofs.apart.end_cell.Goals as goal

pub returns : goal.returns
returns g c =
    let n = g.N.Names in
    left_cell n.header n.book n.board c.into_inner-cell.result c.args.cpu c.end.result.0 c.end.result.1 c.end.result.2
    c.end.ensures.queue c.end.ensures.log c.end.ensures.kept c.wait_until_it_is_of.ensures
