-- Equality of the plain values that entries are made of, as tests that can be computed: lists of
-- numbers, owners, kinds of turns, replies, causes, outcomes, decisions, masks and places.
-- For the definitions of `Elsewhere`, `Passes` and others, and so for the laws `permitted`, `placed` and others;
-- cited by `lb_cell`, `lb_end` and other crates.
use Rattle.std.specs.Prelude.{ℕ, ◌==◌, Bool, true, false, ◌&&◌, Option, Some, None, List, [], ◌∷◌}
use Rattle.lb_base.specs.declared.mask.Mask.{Mask}
use Rattle.lb_base.specs.declared.shape.Kind.{Kind}
use Rattle.lb_base.specs.declared.shape.Kind.TheVariants.{Tick, Idle, Nohz}
use Rattle.lb_base.specs.declared.view.MoveKind.{MoveKind}
use Rattle.lb_base.specs.declared.view.MoveKind.TheVariants.{Load, Util, Tasks}
use Rattle.lb_imbalance.specs.declared.decision.Decision.{Decision}
use Rattle.lb_imbalance.specs.declared.decision.Decision.TheVariants.{NotMine, Balanced, Pull}
use Rattle.lb_queue.specs.declared.answers.Reply.{Reply}
use Rattle.lb_queue.specs.declared.answers.Reply.TheVariants.{Done, Already, NotHere, Gone, BadMask}
use Rattle.lb_queue.specs.declared.answers.AskReply.{AskReply}
use Rattle.lb_queue.specs.declared.answers.AskReply.TheVariants.{New, Old}
use Rattle.lb_queue.specs.declared.answers.OutCause.{OutCause}
use Rattle.lb_queue.specs.declared.answers.OutCause.TheVariants.{Wake as WakeOut, Stop as StopOut, Pull as PullOut, Push as PushOut}
use Rattle.lb_core.specs.declared.entry.Owner.{Owner}
use Rattle.lb_core.specs.declared.entry.Owner.TheVariants.{Publisher, Lane, Queue}
use Rattle.lb_core.specs.declared.entry.OutcomeWord.{OutcomeWord}
use Rattle.lb_core.specs.declared.entry.OutcomeWord.TheVariants.{NotMine as NotMineWord, Balanced as BalancedWord, Moved as MovedWord, Pinned as PinnedWord, Failed as FailedWord, Asking as AskingWord}
use Rattle.lb_core.specs.declared.place.Place.{Place}
use Rattle.lb_core.specs.declared.place.Place.TheVariants.{Awake as AwakeAt, Asleep as AsleepAt, Gone as GoneAt, Hand as HandOf}

abbrev pub same_numbers : List ℕ → List ℕ → Bool
same_numbers [] [] = true
same_numbers (x ∷ xs) (y ∷ ys) = (x == y) && same_numbers xs ys
same_numbers xs ys = false

abbrev pub same_number : Option ℕ → Option ℕ → Bool
same_number None None = true
same_number (Some a) (Some b) = a == b
same_number a b = false

abbrev pub same_mask : Mask → Mask → Bool
same_mask a b = a.bits == b.bits

abbrev pub same_owner : Owner → Owner → Bool
same_owner Publisher Publisher = true
same_owner (Lane a) (Lane b) = a == b
same_owner (Queue a) (Queue b) = a == b
same_owner a b = false

abbrev pub same_kind : Kind → Kind → Bool
same_kind Tick Tick = true
same_kind Idle Idle = true
same_kind Nohz Nohz = true
same_kind a b = false

abbrev pub same_reply : Reply → Reply → Bool
same_reply Done Done = true
same_reply Already Already = true
same_reply NotHere NotHere = true
same_reply Gone Gone = true
same_reply BadMask BadMask = true
same_reply a b = false

abbrev pub same_ask : AskReply → AskReply → Bool
same_ask New New = true
same_ask Old Old = true
same_ask a b = false

abbrev pub same_cause : OutCause → OutCause → Bool
same_cause WakeOut WakeOut = true
same_cause StopOut StopOut = true
same_cause PullOut PullOut = true
same_cause PushOut PushOut = true
same_cause a b = false

abbrev pub same_word : OutcomeWord → OutcomeWord → Bool
same_word NotMineWord NotMineWord = true
same_word BalancedWord BalancedWord = true
same_word MovedWord MovedWord = true
same_word PinnedWord PinnedWord = true
same_word FailedWord FailedWord = true
same_word AskingWord AskingWord = true
same_word a b = false

abbrev pub same_move : MoveKind → MoveKind → Bool
same_move Load Load = true
same_move Util Util = true
same_move Tasks Tasks = true
same_move a b = false

abbrev pub same_decision : Decision → Decision → Bool
same_decision NotMine NotMine = true
same_decision Balanced Balanced = true
same_decision (Pull s k i) (Pull t l j) = (s == t) && same_move k l && (i == j)
same_decision a b = false

abbrev pub same_place : Place → Place → Bool
same_place (AwakeAt a) (AwakeAt b) = a == b
same_place (AsleepAt a) (AsleepAt b) = a == b
same_place (GoneAt a) (GoneAt b) = a == b
same_place (HandOf a) (HandOf b) = a == b
same_place a b = false
