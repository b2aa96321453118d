-- How the decision of a look is read.
-- Cited by the contracts of `decision_in` and `pull_in`.
use Rattle.std.specs.Prelude.{ℕ, List, Option}
use Rattle.lb_base.specs.declared.view.MoveKind.{MoveKind}
use Rattle.lb_read.specs.declared.kinds.DecisionKind.{DecisionKind}
use Rattle.std.specs.Option.{option_map}
use Rattle.lb_imbalance.specs.declared.decision.Decision.{Decision}
use Rattle.lb_imbalance.specs.declared.decision.Decision.TheVariants as decisions
use Rattle.lb_read.specs.declared.kinds.DecisionKind.TheVariants as decision_kinds
use Rattle.lb_read.specs.Exact.{take_field, next_to, if_none_left, whole, named}
use Rattle.lb_read.specs.Words.{move_words}
use Rattle.lb_read.specs.Fields.{short_in, long_in}

abbrev pub pull_from : (ℕ × MoveKind) × ℕ → Decision
pull_from p = decisions.Pull p.0.0 p.0.1 p.1

unfoldable pub decision_in : DecisionKind → List (List ℕ) → Option Decision
decision_in decision_kinds.NotMine fields = if_none_left decisions.NotMine fields
decision_in decision_kinds.Balanced fields = if_none_left decisions.Balanced fields
decision_in decision_kinds.Pull fields =
    option_map pull_from
    (whole (next_to (next_to (take_field short_in) (take_field (named move_words))) (take_field long_in)) fields)
