-- For `decision_is_the_choice` of src/laws.rt: the decision is around one choice: the busiest group is the
-- first of the greatest, and the source queue is the least CPU among those with the greatest value.
use Rattle.lb_imbalance.proofs.Chosen.{Laws, is_decision, only_decision}
use Rattle.lb_imbalance.proofs.laws.decision_is_the_choice.Goals as goal

pub returns : goal.returns
returns c =
    let laws : Laws = record {
      group_found = c.busiest_group.ensures.found;
      group_unique = c.busiest_group.ensures.unique;
      source_found = c.source_queue.ensures.found;
      source_unique = c.source_queue.ensures.unique;
    } in
    record { holds = is_decision laws; unique = only_decision laws }
