-- For `Cpus::command` of src/command.rt: serves the lane's next row, and answers what the queue answered.
use Rattle.lb_journal.specs.contracts.journal.Journal.{the_row}
use Rattle.lb_cpu.proofs.InService.{commanded_if}
use Rattle.lb_cpu.proofs.cpus.Cpus.command.Goals as goal

pub returns-clause-ok : goal.returns-clause-ok
returns-clause-ok g c =
    let n = g.N.Names in
    commanded_if c.serve.result n.header n.book n.board g.N.Versions.versions the_row.coded c.args.lane.now c.take_up.new.lane
    c.serve.new.lane c.args.row.now c.requires.next c.in_ok-take_up.ensures.took c.serve.ensures.ok
