-- For `land_at` of src/landing.rt: the tasks of the lane's hand land at a queue.
use Rattle.lb_journal.specs.contracts.journal.Journal.{the_row}
use Rattle.lb_cpu.proofs.There.{drew_there}
use Rattle.lb_cpu.proofs.landing.land_at.Goals as goal

pub returns : goal.returns
returns g c =
    let n = g.N.Names in
    let l = c.args.lane.now in
    let x = c.land in
    let f = c.follow.ensures in
    drew_there n.header n.book n.board the_row.coded l x.new.self c.follow.new.self l.side.course.to _ c.args.cell.now x.new.cell
    c.keeps.ensures c.requires.here x.ensures.drew x.ensures.rest f.same f.read f.rest
