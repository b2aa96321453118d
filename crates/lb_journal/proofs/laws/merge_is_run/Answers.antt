-- For `merge_is_run` of src/laws.rt: the entries of the lists of a closed ticket book, put in the order of
-- their tickets, are a legal history, where the lists meet the premises: their items carry one header, which
-- is that of an accepted trace; the figures and masks that they carry are those of earlier entries; each CPU
-- is ticked by one lane; the closing entries come last and find every lane at rest, as the queues then ask
-- for them; and one of them lacks a quote only where lane 0 drew nothing before it.
use Rattle.lb_journal.proofs.Bridge.{merge_is_run}
use Rattle.lb_journal.proofs.laws.merge_is_run.Goals as goal

pub returns : goal.returns
returns c = merge_is_run c.placed.ensures
