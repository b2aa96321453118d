-- For `read_one` of src/figures.rt: a figure of one CPU.
use Rattle.lb_lane.proofs.figures.read_one.Goals as goal

pub returns-clause-sees : goal.returns-clause-sees
returns-clause-sees g c =
    let e = c.read-fig.ensures in (
      record { seat = e.same.0; course = e.same.1; number = e.same.2; ticket = e.known.0; landing = e.known.1 },
      c.look_sees_more.ensures c.args.side.now.known.reader c.read-fig.new.self.known.reader c.args.cpu e.others e.later,
    )
