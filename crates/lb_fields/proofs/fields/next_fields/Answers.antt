-- For `next_fields` of src/fields.rt: reads the fields of the next line into `row`: the pieces of the line
-- between its commas, one more than it has commas, of which some may be empty.
use Rattle.std.proofs.Common.{inl, ◌∙◌}
use Rattle.lb_fields.proofs.LineFacts.{takes_line}
use Rattle.lb_fields.proofs.fields.next_fields.Goals as goal
use Rattle.lb_fields.proofs.fields.next_fields.Goals.{in-Ok, in-Err}

pub returns : goal.returns
returns c tail stands = elim c.match-read_byte_record.branch [
  | in-Ok w ↦
      let read = c.read_byte_record.ensures in
      let reads = (rw w.in-Ok.is at read.reads) stands.trim stands.ready in
      let took = takes_line c.args.reader.now c.read_byte_record.new.self w.in-Ok.field-0 _ c.args.line.now tail
      c.requires.full c.requires.plain stands reads in
      rw w.result-is (
        took.0,
        record {
          config = reads.2 ∙ stands.config;
          flexible = (rw w.in-Ok.is at read.flexible) ∙ stands.flexible;
          trim = reads.3 ∙ stands.trim;
          ready = inl ((rw w.in-Ok.is at read.ready) stands.trim);
          state = took.1;
          source = took.2;
        },
      )
  | in-Err w ↦ rw w.result-is tt
]
