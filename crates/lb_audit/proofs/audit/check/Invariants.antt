-- The loops of `check` of src/audit.rt: whether a history that was read from a text is legal, or its first
-- fault (docs/rules/legality.md).
use Rattle.std.proofs.Common.{◌≡◌, ◌+◌, drop}
use Rattle.lb_audit.specs.Verdict.{verdict_of}
use Rattle.lb_audit.proofs.Steps.{verdict_from}
use Rattle.lb_audit.proofs.audit.check.Given as goal

-- the verdict on the entries that are left is the verdict on all
abbrev pub invariant-loop-written : goal.invariant-loop-written
invariant-loop-written l = record {
  place : l.ticket ≡ l.written-index + 1;
  left : verdict_from l.ticket (drop l.written-index l.read.entries) l.state ≡ verdict_of l.read;
}
