-- For `target_at` of src/serving.rt: where the tasks go that are due to leave the queue.
use Rattle.std.proofs.Common.{rules, ◌≡◌, ◌∙◌, None, refl, sym}
use Rattle.lb_journal.specs.contracts.journal.Journal.{the_row}
use Rattle.lb_cpu.proofs.There.{saw_there}
use Rattle.lb_cpu.proofs.serving.target_at.Goals as goal

pub returns-clause-none : goal.returns-clause-none
returns-clause-none g c =
    let n = g.N.Names in
    let cell = c.args.cell.now in
    let e = c.follow.ensures in
    let none : c.out_due.result ≡ None = search rules in
    record {
      saw =
          saw_there n.header n.book n.board the_row.coded c.args.lane.now c.follow.new.self cell.log.writer.cpu cell
          c.keeps.ensures
          refl e.same e.read e.rest;
      none = sym c.out_due.ensures ∙ none;
    }
