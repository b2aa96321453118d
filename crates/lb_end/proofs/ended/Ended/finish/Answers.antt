-- For `Ended::finish` of src/finish.rt: serves every pending stop request, CPUs rising and tasks rising, by
-- `out stop` and `in`, and draws the `end` of lane 0. It answers the CPUs whose active request is unserved.
use Rattle.std.proofs.Common.{ap, refl}
use Rattle.lb_journal.specs.declared.journal.Journal.{the_code}
use Rattle.lb_journal.specs.contracts.journal.Left.{the_row}
use Rattle.lb_end.specs.Drawing.{first_course, first_ticket}
use Rattle.lb_end.proofs.Finishing.{finished}
use Rattle.lb_end.proofs.ended.Ended.finish.Goals as goal

pub returns-clause-finished : goal.returns-clause-finished
returns-clause-finished g c =
    let e3 = c.reserve.new.self in
    finished g.N.Names.header c.args.self.now c.lead.new.self c.serve_all.new.self e3 c.end.new.self (first_course e3)
    (first_course c.end.new.self) (first_ticket e3) c.unserved-unserved.result c.lead.ensures.lists
    c.in_ok-serve_all.ensures.on c.reserve.ensures.lists c.end.ensures.drew c.closing_starts.ensures c.closing_goes_on.ensures
    c.closes_now.ensures g.N.Names.book the_code the_row.coded c.keeps.ensures c.keeps-2.ensures c.keeps-3.ensures
    c.requires.open c.lead.ensures.above c.lead.ensures.others c.in_ok-serve_all.ensures.none c.reserve.ensures.nexts
    (ap first_ticket c.reserve.ensures.same) c.reserve.ensures.others c.unserved-unserved.ensures refl
