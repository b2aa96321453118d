-- For `Reading::dist_line` of src/header_lines.rt: takes a `dist` line, or answers its code.
use Rattle.lb_trace.proofs.DistanceFacts.{in_range_with}
use Rattle.csv.specs.Records.{fields_of}
use Rattle.lb_trace.proofs.reading.Reading.dist_line.Goals as goal

pub is_nested-requires-clause-distances : goal.is_nested-requires-clause-distances
is_nested-requires-clause-distances c =
    let read = rw c.in-Some.is at c.in_ok-distances.ensures in
    rw (c.as_slice-table.ensures, c.in_ok-push.ensures.ok, read.1)
    (in_range_with c.args.self.now.distances (fields_of c.args.fields.now) c.requires.sound.machine.distances read.0)
