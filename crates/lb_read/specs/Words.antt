-- The words that stand in entries, each beside what it says: why a turn is made, what a pull is to even
-- out, what a queue answers, why tasks leave it, and how a position ends.
-- Cited by the contracts of `turn_named`, `move_named`, `reply_named` and others.
use Rattle.std.specs.Prelude.{ℕ, List, [], ◌∷◌, codes}
use Rattle.lb_base.specs.declared.shape.Kind.{Kind}
use Rattle.lb_base.specs.declared.shape.Kind.TheVariants as kinds
use Rattle.lb_base.specs.declared.view.MoveKind.{MoveKind}
use Rattle.lb_base.specs.declared.view.MoveKind.TheVariants as moves
use Rattle.lb_queue.specs.declared.answers.Reply.{Reply}
use Rattle.lb_queue.specs.declared.answers.Reply.TheVariants as replies
use Rattle.lb_queue.specs.declared.answers.AskReply.{AskReply}
use Rattle.lb_queue.specs.declared.answers.AskReply.TheVariants as requests
use Rattle.lb_queue.specs.declared.answers.OutCause.{OutCause}
use Rattle.lb_queue.specs.declared.answers.OutCause.TheVariants as causes
use Rattle.lb_core.specs.declared.entry.OutcomeWord.{OutcomeWord}
use Rattle.lb_core.specs.declared.entry.OutcomeWord.TheVariants as outcomes

abbrev pub turn_words : List (List ℕ × Kind)
turn_words = (codes "tick", kinds.Tick) ∷ (codes "idle", kinds.Idle) ∷ (codes "nohz", kinds.Nohz) ∷ []

abbrev pub move_words : List (List ℕ × MoveKind)
move_words = (codes "load", moves.Load) ∷ (codes "util", moves.Util) ∷ (codes "tasks", moves.Tasks) ∷ []

-- `nothere` is no word of a history
abbrev pub reply_words : List (List ℕ × Reply)
reply_words =
    (codes "done", replies.Done)
    ∷ (codes "already", replies.Already)
    ∷ (codes "gone", replies.Gone)
    ∷ (codes "badmask", replies.BadMask)
    ∷ []

abbrev pub request_words : List (List ℕ × AskReply)
request_words = (codes "new", requests.New) ∷ (codes "old", requests.Old) ∷ []

abbrev pub cause_words : List (List ℕ × OutCause)
cause_words =
    (codes "wake", causes.Wake)
    ∷ (codes "stop", causes.Stop)
    ∷ (codes "pull", causes.Pull)
    ∷ (codes "push", causes.Push)
    ∷ []

abbrev pub outcome_words : List (List ℕ × OutcomeWord)
outcome_words =
    (codes "notmine", outcomes.NotMine)
    ∷ (codes "balanced", outcomes.Balanced)
    ∷ (codes "moved", outcomes.Moved)
    ∷ (codes "pinned", outcomes.Pinned)
    ∷ (codes "failed", outcomes.Failed)
    ∷ (codes "asking", outcomes.Asking)
    ∷ []
