-- What the rules `stage` and `place` say of a reply: the owner's queue is where the task of the command is.
-- For `breaks_reply`.
use Rattle.std.proofs.Common.{◌≡◌, ℕ, Bool, true, false, not, ◌||◌, Option, Some, None, refl, sym, ◌∙◌, ap, subst}
use Rattle.std.proofs.lemmas.Bool.{eqb-true, not-false}
use Rattle.lb_queue.specs.Queue.{QueueState}
use Rattle.lb_queue.specs.declared.answers.Reply.{Reply}
use Rattle.lb_queue.specs.declared.answers.Reply.TheVariants.{NotHere}
use Rattle.lb_trace.specs.declared.trace.Header.{Header}
use Rattle.lb_core.specs.declared.course.Course.{Course}
use Rattle.lb_core.specs.declared.course.Form.{Form}
use Rattle.lb_core.specs.declared.course.Form.TheVariants.{Asked}
use Rattle.lb_core.specs.declared.entry.Entry.{Entry}
use Rattle.lb_core.specs.declared.entry.Owner.{Owner}
use Rattle.lb_core.specs.declared.entry.Owner.TheVariants.{Queue}
use Rattle.lb_core.specs.declared.entry.What.{What}
use Rattle.lb_core.specs.declared.entry.What.TheVariants.{Did}
use Rattle.lb_core.specs.declared.place.Place.{Place}
use Rattle.lb_core.specs.declared.place.Place.TheVariants.{Awake as AwakeAt, Asleep as AsleepAt, Gone as GoneAt, Hand as HandOf}
use Rattle.lb_core.specs.declared.rule.Rule.TheVariants.{Stage, Place as PlaceRule, Reply as ReplyRule}
use Rattle.lb_core.specs.Course.{task_of}
use Rattle.lb_core.specs.Same.{same_reply}
use Rattle.lb_core.specs.Stage.{draws}
use Rattle.lb_core.specs.Rules.{leaves_instead, breaks_reply}
use Rattle.lb_core.specs.QueueAfter.{answer_to}
use Rattle.lb_core.specs.Machine.{MachineState, course_at, queue_at, owned_queue, place_at, sight}
use Rattle.lb_core.specs.Elsewhere.{is_at, task_elsewhere, answered_elsewhere}
use Rattle.lb_core.specs.Step.{breaks}
use Rattle.lb_ready.specs.Next.{cpu_of_place}
use Rattle.lb_ready.proofs.Staging.{staged}
use Rattle.lb_due.specs.Owners.{HasQueue}
use Rattle.lb_due.specs.Replies.{AnswersAt, StandsAt}

asked : (f : Form) (h : Header) (c : Course) (q : QueueState) (lane : ℕ) (r : Reply) → draws f h c q lane (Did r) ≡ true
    → f ≡ Asked
unfolding draws
asked Asked h c q lane r d = refl
asked f h c q lane r d = absurd (let y : ⊥ = cc in y)

stands_at : (p : Place) (cpu : ℕ) → is_at p (Queue cpu) ≡ true → cpu_of_place p ≡ Some cpu
stands_at (AwakeAt u) cpu h = ap (λ (k : ℕ). Some k) (sym (eqb-true cpu u h))
stands_at (AsleepAt u) cpu h = ap (λ (k : ℕ). Some k) (sym (eqb-true cpu u h))
stands_at (GoneAt u) cpu h = ap (λ (k : ℕ). Some k) (sym (eqb-true cpu u h))
stands_at (HandOf l) cpu h = absurd (let y : ⊥ = cc in y)

task_stands : (t : Option ℕ) (m : MachineState) (cpu : ℕ) → task_elsewhere t m (Queue cpu) ≡ false → StandsAt t m cpu
task_stands None m cpu h = tt
task_stands (Some t) m cpu h = stands_at (place_at m t) cpu (not-false _ h)

answers_at : (m : MachineState) (e : Entry) (r : Reply) (cpu : ℕ) → breaks m e Stage ≡ false
    → breaks m e PlaceRule ≡ false → e.what ≡ Did r → e.owner ≡ Queue cpu →
    AnswersAt (course_at m.courses e.lane).command m cpu
answers_at m e r cpu h p i o =
    let c = course_at m.courses e.lane in
    let d = subst (λ (w : What). draws c.form m.header c (owned_queue e.owner m) e.lane w ≡ true) i (staged m e h).drawn in
    let f = asked c.form m.header c (owned_queue e.owner m) e.lane r d in
    let a = subst (λ (w : What). answered_elsewhere c.form c m e.owner w ≡ false) i p in
    let b = subst (λ (g : Form). answered_elsewhere g c m e.owner (Did r) ≡ false) f a in
    task_stands (task_of c.command) m cpu (subst (λ (x : Owner). task_elsewhere (task_of c.command) m x ≡ false) o b)

or_false : (b : Bool) → (b || false) ≡ b
or_false true = refl
or_false false = refl

wrong_reply : (a b c : Bool) → a ≡ false → b ≡ false → (a || b || c) ≡ c
wrong_reply a b c x y = rw (x, y) refl

-- so the reply is wrong where it is not the one that is due there
pub did_breaks : (m : MachineState) (e : Entry) (r due : Reply) → breaks m e Stage ≡ false
    → breaks m e PlaceRule ≡ false → e.what ≡ Did r → HasQueue m e.owner →
    leaves_instead (course_at m.courses e.lane).command (owned_queue e.owner m) ≡ false → same_reply r NotHere ≡ false →
    ((cpu at : ℕ) → AnswersAt (course_at m.courses e.lane).command m cpu
    → due ≡ (answer_to (course_at m.courses e.lane).command at (queue_at m.queues cpu)).0) →
    not (same_reply r due) ≡ breaks m e ReplyRule
unfolding sight
did_breaks m e r due h p i q leaves here is_due = by_owner e.owner refl q
  where
    by_owner : (o : Owner) → e.owner ≡ o → HasQueue m o → not (same_reply r due) ≡ breaks m e ReplyRule
    by_owner (Queue cpu) o q =
        let c = course_at m.courses e.lane in
        let k : due ≡ (answer_to c.command c.at (owned_queue e.owner m)).0 =
        is_due cpu c.at (answers_at m e r cpu h p i o) ∙ ap
        (λ (x : Owner). (answer_to c.command c.at (owned_queue x m)).0) (sym o) in
        ap (λ (x : Reply). not (same_reply r x)) k
        ∙ sym (or_false (breaks_reply (sight m e) e.what) ∙ ap (λ (w : What). breaks_reply (sight m e) w) i ∙
        wrong_reply _ _ _ leaves here)
    by_owner o k q = absurd q
