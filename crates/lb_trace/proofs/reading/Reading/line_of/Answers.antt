-- For `Reading::line_of` of src/reading.rt: takes a line by its kind, whose place and number of fields are
-- right.
use Rattle.std.proofs.Common.{refl}
use Rattle.csv.specs.Records.{fields_of}
use Rattle.lb_trace.specs.declared.kind.LineKind.TheVariants as kinds
use Rattle.lb_trace.specs.Tests.{value_tests}
use Rattle.lb_trace.proofs.TickFacts.{keeps_above}
use Rattle.lb_trace.proofs.reading.Reading.line_of.Goals as goal

pub returns-in-Version-clause-step : goal.returns-in-Version-clause-step
unfolding value_tests
returns-in-Version-clause-step c = rw c.in-Version.is refl

pub returns-in-Cpu-clause-ticked : goal.returns-in-Cpu-clause-ticked
returns-in-Cpu-clause-ticked c = keeps_above kinds.Cpu
    (fields_of c.args.fields.now) c.args.self.now c.cpu_line.new.self c.args.ticked.now c.cpu_line.result
    refl c.requires.ticked c.cpu_line.ensures

pub returns-in-Dist-clause-ticked : goal.returns-in-Dist-clause-ticked
returns-in-Dist-clause-ticked c = keeps_above kinds.Dist
    (fields_of c.args.fields.now) c.args.self.now c.dist_line.new.self c.args.ticked.now c.dist_line.result
    refl c.requires.ticked c.dist_line.ensures

pub returns-in-Parts-clause-ticked : goal.returns-in-Parts-clause-ticked
returns-in-Parts-clause-ticked c = keeps_above kinds.Parts
    (fields_of c.args.fields.now) c.args.self.now c.parts_line.new.self c.args.ticked.now c.parts_line.result
    refl c.requires.ticked c.parts_line.ensures

pub returns-in-Lanes-clause-ticked : goal.returns-in-Lanes-clause-ticked
returns-in-Lanes-clause-ticked c = keeps_above kinds.Lanes
    (fields_of c.args.fields.now) c.args.self.now c.lanes_line.new.self c.args.ticked.now c.lanes_line.result
    refl c.requires.ticked c.lanes_line.ensures

pub returns-in-Task-clause-ticked : goal.returns-in-Task-clause-ticked
returns-in-Task-clause-ticked c = keeps_above kinds.Task
    (fields_of c.args.fields.now) c.args.self.now c.task_line.new.self c.args.ticked.now c.task_line.result
    refl c.requires.ticked c.task_line.ensures
