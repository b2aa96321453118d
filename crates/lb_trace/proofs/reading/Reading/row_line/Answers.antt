-- For `Reading::row_line` of src/reading.rt: takes a row, whose place and number of fields are right.
use Rattle.std.proofs.Common.{refl}
use Rattle.csv.specs.Records.{fields_of}
use Rattle.lb_trace.specs.declared.kind.RowKind.TheVariants as rows
use Rattle.lb_trace.proofs.TickFacts.{keeps_beside}
use Rattle.lb_trace.proofs.reading.Reading.row_line.Goals as goal

pub returns-in-Wake-clause-ticked : goal.returns-in-Wake-clause-ticked
returns-in-Wake-clause-ticked c = keeps_beside rows.Wake
    (fields_of c.args.fields.now) c.args.self.now c.wake_line.new.self c.args.ticked.now c.wake_line.result
    (λ cpu. refl) c.requires.ticked c.wake_line.ensures

pub returns-in-Sleep-clause-ticked : goal.returns-in-Sleep-clause-ticked
returns-in-Sleep-clause-ticked c = keeps_beside rows.Sleep
    (fields_of c.args.fields.now) c.args.self.now c.sleep_line.new.self c.args.ticked.now c.sleep_line.result
    (λ cpu. refl) c.requires.ticked c.sleep_line.ensures

pub returns-in-Exit-clause-ticked : goal.returns-in-Exit-clause-ticked
returns-in-Exit-clause-ticked c = keeps_beside rows.Exit
    (fields_of c.args.fields.now) c.args.self.now c.exit_line.new.self c.args.ticked.now c.exit_line.result
    (λ cpu. refl) c.requires.ticked c.exit_line.ensures

pub returns-in-Mask-clause-ticked : goal.returns-in-Mask-clause-ticked
returns-in-Mask-clause-ticked c = keeps_beside rows.Mask
    (fields_of c.args.fields.now) c.args.self.now c.mask_line.new.self c.args.ticked.now c.mask_line.result
    (λ cpu. refl) c.requires.ticked c.mask_line.ensures

pub returns-in-Nice-clause-ticked : goal.returns-in-Nice-clause-ticked
returns-in-Nice-clause-ticked c = keeps_beside rows.Nice
    (fields_of c.args.fields.now) c.args.self.now c.nice_line.new.self c.args.ticked.now c.nice_line.result
    (λ cpu. refl) c.requires.ticked c.nice_line.ensures

pub returns-in-Rebuild-clause-ticked : goal.returns-in-Rebuild-clause-ticked
returns-in-Rebuild-clause-ticked c = keeps_beside rows.Rebuild
    (fields_of c.args.fields.now) c.args.self.now c.rebuild_line.new.self c.args.ticked.now c.rebuild_line.result
    (λ cpu. refl) c.requires.ticked c.rebuild_line.ensures
