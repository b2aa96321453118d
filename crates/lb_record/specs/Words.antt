-- The words that stand in entries: why a turn is made, what a pull is to even out, what a queue
-- answers, why tasks leave it, and how a position ends (docs/rules/history-text.md).
-- Cited by the contracts of `turn_word`, `move_word`, `reply_word` and others; also by `lb_read`.
use Rattle.std.specs.Prelude.{ℕ, List, codes}
use Rattle.lb_base.specs.declared.shape.Kind.{Kind}
use Rattle.lb_base.specs.declared.shape.Kind.TheVariants as kinds
use Rattle.lb_base.specs.declared.view.MoveKind.{MoveKind}
use Rattle.lb_base.specs.declared.view.MoveKind.TheVariants as moves
use Rattle.lb_queue.specs.declared.answers.Reply.{Reply}
use Rattle.lb_queue.specs.declared.answers.Reply.TheVariants as replies
use Rattle.lb_queue.specs.declared.answers.AskReply.{AskReply}
use Rattle.lb_queue.specs.declared.answers.AskReply.TheVariants as requests
use Rattle.lb_queue.specs.declared.answers.OutCause.{OutCause}
use Rattle.lb_queue.specs.declared.answers.OutCause.TheVariants as causes
use Rattle.lb_core.specs.declared.entry.OutcomeWord.{OutcomeWord}
use Rattle.lb_core.specs.declared.entry.OutcomeWord.TheVariants as outcomes

abbrev pub turn_word : Kind → List ℕ
turn_word kinds.Tick = codes "tick"
turn_word kinds.Idle = codes "idle"
turn_word kinds.Nohz = codes "nohz"

abbrev pub move_word : MoveKind → List ℕ
move_word moves.Load = codes "load"
move_word moves.Util = codes "util"
move_word moves.Tasks = codes "tasks"

-- `nothere` stands in no legal history
abbrev pub reply_word : Reply → List ℕ
reply_word replies.Done = codes "done"
reply_word replies.Already = codes "already"
reply_word replies.NotHere = codes "nothere"
reply_word replies.Gone = codes "gone"
reply_word replies.BadMask = codes "badmask"

abbrev pub request_word : AskReply → List ℕ
request_word requests.New = codes "new"
request_word requests.Old = codes "old"

abbrev pub cause_word : OutCause → List ℕ
cause_word causes.Wake = codes "wake"
cause_word causes.Stop = codes "stop"
cause_word causes.Pull = codes "pull"
cause_word causes.Push = codes "push"

abbrev pub outcome_word : OutcomeWord → List ℕ
outcome_word outcomes.NotMine = codes "notmine"
outcome_word outcomes.Balanced = codes "balanced"
outcome_word outcomes.Moved = codes "moved"
outcome_word outcomes.Pinned = codes "pinned"
outcome_word outcomes.Failed = codes "failed"
outcome_word outcomes.Asking = codes "asking"
