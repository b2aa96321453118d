-- For `Cpus::take_up` of src/command.rt: takes up the row, which is the lane's next.
use Rattle.lb_journal.specs.contracts.journal.Journal.{the_row}
use Rattle.lb_cpu.proofs.InService.{service_if}
use Rattle.lb_cpu.proofs.cpus.Cpus.take_up.Goals as goal

pub returns-clause-service : goal.returns-clause-service
returns-clause-service g c =
    let n = g.N.Names in
    service_if c.row.result n.header n.board g.N.Versions.versions the_row.coded c.args.lane.now c.row.new.self c.args.row.now
    c.keeps.ensures c.requires.next c.row.ensures.ok
