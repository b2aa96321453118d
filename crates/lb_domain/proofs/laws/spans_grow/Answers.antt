-- For `spans_grow` of src/laws.rt: from position to position the span grows: it has every CPU that it had
-- below, and others.
use Rattle.lb_domain.proofs.Growing.{domains_grow}
use Rattle.lb_domain.proofs.laws.spans_grow.Goals as goal

pub returns : goal.returns
returns c cpus table parts can cpu in_cpus lower upper lt within =
    domains_grow cpus table parts (record { few = can.few; spans = c.spans_part_and_grow.ensures cpus table can }) cpu
    lower upper in_cpus lt within
