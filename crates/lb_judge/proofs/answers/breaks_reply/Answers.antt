-- For `breaks_reply` of src/answers.rt: whether the entry breaks the rule `reply`.
use Rattle.std.proofs.Common.{◌≡◌, refl, sym, ◌∙◌, ap, ◌==◌, ◌+◌, ℕ, Bool, not, false}
use denote.Enum.Bare.{sameb}
use Rattle.lb_queue.specs.contracts.answers.Reply.{the_type}
use Rattle.lb_queue.specs.declared.answers.Reply.{Reply}
use Rattle.lb_queue.specs.declared.answers.Reply.TheVariants.{Done, Already, NotHere, Gone, BadMask}
use Rattle.lb_core.specs.Same.{same_reply}
use Rattle.lb_judge.proofs.Replied.{did_breaks}
use Rattle.lb_judge.proofs.Staged.{has_queue, pub_breaks}
use Rattle.lb_judge.proofs.answers.breaks_reply.Goals.{then-leaves_instead, else-leaves_instead}
use Rattle.lb_judge.proofs.answers.breaks_reply.Goals as goal

pub queue_of-requires : goal.queue_of-requires
queue_of-requires c = has_queue c.args.engine.now.machine c.args.entry.now _ c.requires.stage c.in-Did.is refl

pub queue_of-requires-in-Turn : goal.queue_of-requires-in-Turn
queue_of-requires-in-Turn c = has_queue c.args.engine.now.machine c.args.entry.now _ c.requires.stage c.in-Turn.is refl

pub queue_of-requires-in-Shut : goal.queue_of-requires-in-Shut
queue_of-requires-in-Shut c = has_queue c.args.engine.now.machine c.args.entry.now _ c.requires.stage c.in-Shut.is refl

pub queue_of-requires-in-Ask : goal.queue_of-requires-in-Ask
queue_of-requires-in-Ask c = has_queue c.args.engine.now.machine c.args.entry.now _ c.requires.stage c.in-Ask.is refl

pub queue_of-requires-in-Kick : goal.queue_of-requires-in-Kick
queue_of-requires-in-Kick c = has_queue c.args.engine.now.machine c.args.entry.now _ c.requires.stage c.in-Kick.is refl

pub returns-in-Pub : goal.returns-in-Pub
returns-in-Pub c =
    ap (λ (b : Bool). not b) (c.is_next.ensures ∙ ap (λ (n : ℕ). c.in-Pub.version == n + 1) c.version.ensures)
    ∙ sym (pub_breaks c.args.engine.now.machine c.args.entry.now _ c.requires.ready c.requires.stage c.in-Pub.is)

same_is : (a b : Reply) → sameb the_type a b ≡ same_reply a b
same_is Done Done = refl
same_is Already Already = refl
same_is NotHere NotHere = refl
same_is Gone Gone = refl
same_is BadMask BadMask = refl
same_is a b = refl

pub returns-else-eq : goal.returns-else-eq
returns-else-eq c = elim c.if-leaves_instead.branch [
  | then-leaves_instead w ↦ absurd (let e = sym w.if-leaves_instead.true ∙ sym w.value-is ∙ c.if-eq.false in let y : ⊥ = cc in y)
  | else-leaves_instead w ↦
      let m = c.args.engine.now.machine in
      let e = c.args.entry.now in
      let q = has_queue m e _ c.requires.stage c.in-Did.is refl in
      let here : same_reply c.in-Did.reply NotHere ≡ false =
      sym (same_is c.in-Did.reply NotHere) ∙ sym w.eq.ensures ∙ sym w.value-is ∙ c.if-eq.false in
      let leaves = sym c.leaves_instead.ensures ∙ w.if-leaves_instead.false in
      c.ne.ensures ∙ ap (λ (b : Bool). not b) (same_is c.in-Did.reply c.reply_due.result)
      ∙ did_breaks m e _ _ c.requires.stage c.requires.place c.in-Did.is q
      (rw (← c.course-course.ensures, ← c.queue_of.ensures) leaves) here (rw (← c.course-course.ensures) c.reply_due.ensures)
]
