-- What the rule `stage` says of an entry that keeps it: its lane and its CPU are declared, it is its owner's,
-- and the form of its lane's course draws its kind. For callers too.
-- For the lemmas of `Calls` and `Drawing`, and so for the laws `calls_may_be_made`, `next_entries` and others; cited
-- by `lb_judge` too.
use Rattle.std.proofs.Common.{◌≡◌, ℕ, ◌<◌, true, false, not, length, ltb}
use Rattle.std.proofs.lemmas.Bool.{and_parts, or_parts, ltb-true, not-false}
use Rattle.lb_core.specs.declared.entry.Entry.{Entry}
use Rattle.lb_core.specs.declared.entry.Owner.TheVariants.{Queue}
use Rattle.lb_core.specs.declared.entry.What.{What}
use Rattle.lb_core.specs.declared.rule.Rule.TheVariants.{Stage}
use Rattle.lb_core.specs.Stage.{draws, queue_due, is_owner, stage_allows}
use Rattle.lb_core.specs.Elsewhere.{is_undeclared_owner, stage_at_rest, stage_of_use}
use Rattle.lb_core.specs.Machine.{MachineState, course_at, owned_queue, sight}
use Rattle.lb_core.specs.Step.{breaks}
use Rattle.lb_core.proofs.Placing.{entry}

pub record IsStaged (m : MachineState) (e : Entry) : Type 0 where
  pub lane : e.lane < length m.courses
  pub owner_there : is_undeclared_owner m e.owner ≡ false
  pub owner : is_owner e.what e.lane (queue_due (course_at m.courses e.lane).form (course_at m.courses e.lane)) e.owner ≡ true
  pub drawn : draws (course_at m.courses e.lane).form m.header (course_at m.courses e.lane) (owned_queue e.owner m)
      e.lane e.what ≡ true
  pub at_rest : stage_at_rest (course_at m.courses e.lane).form m e.owner e.what ≡ false
  pub used : stage_of_use m (course_at m.courses e.lane) e.what ≡ false

pub staged : (m : MachineState) (e : Entry) → breaks m e Stage ≡ false → IsStaged m e
unfolding stage_allows sight
staged m e h =
    let p = or_parts (not (stage_allows (sight m e) e)) _ h in
    let lets = and_parts _ _ (not-false (stage_allows (sight m e) e) p.0) in
    let away = or_parts _ _ p.1 in
    let there = or_parts _ _ away.0 in
    let declared = or_parts (not (ltb e.lane (length m.courses))) _ there.0 in
    record {
      lane = ltb-true e.lane (length m.courses) (not-false _ declared.0);
      owner_there = declared.1;
      owner = lets.0;
      drawn = lets.1;
      at_rest = there.1;
      used = away.1;
    }

pub staged_cpu : (m : MachineState) (cpu lane prev : ℕ) (w : What)
    → breaks m (entry (Queue cpu) lane prev w) Stage ≡ false → cpu < length m.queues
staged_cpu m cpu lane prev w h = ltb-true cpu (length m.queues)
    (not-false _ (staged m (entry (Queue cpu) lane prev w) h).owner_there)
