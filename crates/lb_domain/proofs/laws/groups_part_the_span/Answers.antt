-- For `groups_part_the_span` of src/laws.rt: the groups of a domain part its span: no two share a CPU, and
-- together they are the span.
use Rattle.lb_domain.proofs.Growing.{domains_parted}
use Rattle.lb_domain.proofs.laws.groups_part_the_span.Goals as goal

pub returns : goal.returns
returns c cpus table parts can cpu in_cpus position within =
    domains_parted cpus table parts (record { few = can.few; spans = c.spans_part_and_grow.ensures cpus table can })
    cpu position in_cpus within
