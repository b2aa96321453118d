-- For `spans_part_and_grow` of src/laws.rt: at each level the spans part the machine's CPUs: a CPU is in its
-- own, and the CPUs of a span have that span.
use Rattle.lb_levels.proofs.Together.{in_span_to, span_own, span_same, span_grow}
use Rattle.lb_levels.specs.Spans.{level_at}
use Rattle.lb_levels.proofs.laws.spans_part_and_grow.Goals as goal

pub returns : goal.returns
returns c cpus table can = record {
  within = λ level cpu k there. (in_span_to cpus table (level_at table level) cpu k there).0;
  own = span_own cpus table can.some can.few can.good;
  same = span_same cpus table can.some can.few can.good;
  grow = span_grow cpus table can.some can.few can.good;
}
