-- Where a test says that two values are equal, they are; and of a value and itself it says so. For callers too.
-- For the lemmas of `Choosing`, `Excluded` and other files, and so for the laws `one_serial_history`, `permitted` and
-- others; cited by `lb_cell`, `lb_end` and other crates too.
use Rattle.std.proofs.Common.{◌≡◌, ◌==◌, ℕ, true, ◌&&◌, eqb, List, [], ◌∷◌, Option, Some, None, refl, ap, arith}
use Rattle.std.proofs.lemmas.Bool.{and_from, and_parts, eqb-true}
use Rattle.lb_base.specs.declared.mask.Mask.{Mask}
use Rattle.lb_base.specs.declared.shape.Kind.{Kind}
use Rattle.lb_base.specs.declared.shape.Kind.TheVariants.{Tick as TickTurn, Idle, Nohz}
use Rattle.lb_base.specs.declared.view.MoveKind.{MoveKind}
use Rattle.lb_base.specs.declared.view.MoveKind.TheVariants.{Load, Util, Tasks}
use Rattle.lb_imbalance.specs.declared.decision.Decision.{Decision}
use Rattle.lb_imbalance.specs.declared.decision.Decision.TheVariants.{NotMine, Balanced, Pull}
use Rattle.lb_queue.specs.declared.answers.AskReply.{AskReply}
use Rattle.lb_queue.specs.declared.answers.AskReply.TheVariants.{New, Old}
use Rattle.lb_queue.specs.declared.answers.OutCause.{OutCause}
use Rattle.lb_queue.specs.declared.answers.OutCause.TheVariants.{Wake as WakeOut, Stop as StopOut, Pull as PullOut, Push as PushOut}
use Rattle.lb_core.specs.declared.entry.OutcomeWord.{OutcomeWord}
use Rattle.lb_core.specs.declared.entry.OutcomeWord.TheVariants.{NotMine as NotMineWord, Balanced as BalancedWord, Moved as MovedWord, Pinned as PinnedWord, Failed as FailedWord, Asking as AskingWord}
use Rattle.lb_core.specs.declared.entry.Owner.{Owner}
use Rattle.lb_core.specs.declared.entry.Owner.TheVariants.{Publisher, Lane, Queue}
use Rattle.lb_core.specs.Same.{same_numbers, same_number, same_mask, same_owner, same_kind, same_ask, same_cause, same_word, same_move, same_decision}
use Rattle.lb_queue.specs.declared.answers.Reply.{Reply}
use Rattle.lb_queue.specs.declared.answers.Reply.TheVariants.{Done as DoneReply, Already, NotHere, Gone, BadMask}
use Rattle.lb_core.specs.Same.{same_reply}

pub mask_is : (a b : Mask) → same_mask a b ≡ true → a ≡ b
mask_is a b h = let e : a.bits ≡ b.bits = eqb-true a.bits b.bits h in ap (λ (x : ℕ). let m : Mask = record { bits = x } in m) e

pub lane_is : (o : Owner) (lane : ℕ) → same_owner o (Lane lane) ≡ true → o ≡ Lane lane
lane_is (Lane l) lane h = ap Lane (eqb-true l lane h)
lane_is o lane h = absurd (let k : ⊥ = cc in k)

pub queue_is : (o : Owner) (cpu : ℕ) → same_owner o (Queue cpu) ≡ true → o ≡ Queue cpu
queue_is (Queue u) cpu h = ap Queue (eqb-true u cpu h)
queue_is o cpu h = absurd (let k : ⊥ = cc in k)

pub publisher_is : (o : Owner) → same_owner o Publisher ≡ true → o ≡ Publisher
publisher_is Publisher h = refl
publisher_is o h = absurd (let k : ⊥ = cc in k)

pub kind_is : (a b : Kind) → same_kind a b ≡ true → a ≡ b
kind_is TickTurn TickTurn h = refl
kind_is Idle Idle h = refl
kind_is Nohz Nohz h = refl
kind_is a b h = absurd (let k : ⊥ = cc in k)

pub ask_is : (a b : AskReply) → same_ask a b ≡ true → a ≡ b
ask_is New New h = refl
ask_is Old Old h = refl
ask_is a b h = absurd (let k : ⊥ = cc in k)

pub cause_is : (a b : OutCause) → same_cause a b ≡ true → a ≡ b
cause_is WakeOut WakeOut h = refl
cause_is StopOut StopOut h = refl
cause_is PullOut PullOut h = refl
cause_is PushOut PushOut h = refl
cause_is a b h = absurd (let k : ⊥ = cc in k)

pub word_is : (a b : OutcomeWord) → same_word a b ≡ true → a ≡ b
word_is NotMineWord NotMineWord h = refl
word_is BalancedWord BalancedWord h = refl
word_is MovedWord MovedWord h = refl
word_is PinnedWord PinnedWord h = refl
word_is FailedWord FailedWord h = refl
word_is AskingWord AskingWord h = refl
word_is a b h = absurd (let k : ⊥ = cc in k)

move_is : (a b : MoveKind) → same_move a b ≡ true → a ≡ b
move_is Load Load h = refl
move_is Util Util h = refl
move_is Tasks Tasks h = refl
move_is a b h = absurd (let k : ⊥ = cc in k)

pub decision_is : (a b : Decision) → same_decision a b ≡ true → a ≡ b
decision_is NotMine NotMine h = refl
decision_is Balanced Balanced h = refl
decision_is (Pull s k i) (Pull t l j) h =
    let p = and_parts ((eqb s t) && same_move k l) (eqb i j) h in
    let r = and_parts (eqb s t) (same_move k l) p.0 in
    let a = eqb-true s t r.0 in
    let b = move_is k l r.1 in
    let c = eqb-true i j p.1 in
    cc
decision_is a b h = absurd (let k : ⊥ = cc in k)

pub number_is : (a b : Option ℕ) → same_number a b ≡ true → a ≡ b
number_is None None h = refl
number_is (Some a) (Some b) h = ap (λ (x : ℕ). Some x) (eqb-true a b h)
number_is a b h = absurd (let k : ⊥ = cc in k)

pub numbers_same : (xs ys : List ℕ) → same_numbers xs ys ≡ true → xs ≡ ys
numbers_same [] [] h = refl
numbers_same (x ∷ xs) (y ∷ ys) h = let p = and_parts (x == y) (same_numbers xs ys) h in let a = eqb-true x y p.0 in
    let b = numbers_same xs ys p.1 in cc
numbers_same xs ys h = absurd (let k : ⊥ = cc in k)

pub reply_is : (r s : Reply) → same_reply r s ≡ true → r ≡ s
reply_is DoneReply DoneReply h = refl
reply_is Already Already h = refl
reply_is NotHere NotHere h = refl
reply_is Gone Gone h = refl
reply_is BadMask BadMask h = refl
reply_is r s h = absurd (let k : ⊥ = cc in k)

-- ---- a value and itself
pub equal_itself : (n : ℕ) → eqb n n ≡ true
equal_itself n = grind arith

pub mask_itself : (m : Mask) → same_mask m m ≡ true
mask_itself m = equal_itself m.bits

pub numbers_itself : (xs : List ℕ) → same_numbers xs xs ≡ true
numbers_itself [] = refl
numbers_itself (x ∷ xs) = and_from (x == x) _ (equal_itself x) (numbers_itself xs)

pub number_itself : (o : Option ℕ) → same_number o o ≡ true
number_itself None = refl
number_itself (Some x) = equal_itself x

pub kind_itself : (k : Kind) → same_kind k k ≡ true
kind_itself TickTurn = refl
kind_itself Idle = refl
kind_itself Nohz = refl

pub reply_itself : (r : Reply) → same_reply r r ≡ true
reply_itself DoneReply = refl
reply_itself Already = refl
reply_itself NotHere = refl
reply_itself Gone = refl
reply_itself BadMask = refl

pub ask_itself : (r : AskReply) → same_ask r r ≡ true
ask_itself New = refl
ask_itself Old = refl

pub cause_itself : (c : OutCause) → same_cause c c ≡ true
cause_itself WakeOut = refl
cause_itself StopOut = refl
cause_itself PullOut = refl
cause_itself PushOut = refl

pub word_itself : (w : OutcomeWord) → same_word w w ≡ true
word_itself NotMineWord = refl
word_itself BalancedWord = refl
word_itself MovedWord = refl
word_itself PinnedWord = refl
word_itself FailedWord = refl
word_itself AskingWord = refl

move_itself : (k : MoveKind) → same_move k k ≡ true
move_itself Load = refl
move_itself Util = refl
move_itself Tasks = refl

pub decision_itself : (d : Decision) → same_decision d d ≡ true
decision_itself NotMine = refl
decision_itself Balanced = refl
decision_itself (Pull s k i) = and_from _ (i == i) (and_from (s == s) _ (equal_itself s) (move_itself k)) (equal_itself i)
