-- For `texts_read_once` of src/laws.rt: a text reads as a history, or some line of it is the first that is no
-- line of a history at its place; never both.
use Rattle.lb_read.proofs.Refusals.{read_once, read_or_bad, none_is_bad, one_is_first}
use Rattle.lb_read.proofs.laws.texts_read_once.Goals as goal

pub returns-clause-once : goal.returns-clause-once
returns-clause-once c = read_once

pub returns-clause-either : goal.returns-clause-either
returns-clause-either c = read_or_bad

pub returns-clause-apart : goal.returns-clause-apart
returns-clause-apart c = none_is_bad

pub returns-clause-first : goal.returns-clause-first
returns-clause-first c = one_is_first
