-- Whether another `out` is said than the one that is due.
-- For `breaks_pick`.
use Rattle.std.proofs.Common.{not, ◌||◌, ◌≡◌, ℕ, ◌==◌, Bool, true, false, Option, Some, None, List, refl, sym, ◌∙◌, ap}
use Rattle.lb_queue.specs.Tasks.{ids}
use Rattle.lb_queue.specs.declared.answers.OutCause.{OutCause}
use Rattle.lb_core.specs.declared.entry.Entry.{Entry}
use Rattle.lb_core.specs.declared.entry.What.{What}
use Rattle.lb_core.specs.declared.entry.What.TheVariants.{Out as SaysOut}
use Rattle.lb_core.specs.declared.rule.Rule.TheVariants.{Pick}
use Rattle.lb_core.specs.Same.{same_cause, same_numbers}
use Rattle.lb_core.specs.Rules.{is_other_out, breaks_pick}
use Rattle.lb_core.specs.Machine.{MachineState, course_at, owned_queue, sight}
use Rattle.lb_core.specs.Step.{breaks}
use Rattle.lb_due.specs.declared.leaving.Out.{Out}
use Rattle.lb_core.specs.Leaving.{Leaving, leaving, out_by}
use Rattle.lb_due.specs.Outs.{out_due}

-- whether another `out` is said than the one that is due
pub other_than : (o : Option Leaving) (due : Out) (cause : OutCause) (to : ℕ) (list : List ℕ) → Some due ≡ out_due o →
    is_other_out o cause to list ≡ (not (same_cause cause due.cause) || not (to == due.to) || not (same_numbers list due.ids))
other_than None due cause to list e = absurd (let y : ⊥ = cc in y)
other_than (Some l) due cause to list e =
    let d : due ≡ record { cause = l.cause; to = l.to; ids = ids l.hand } = cc in
    sym (ap (λ (x : Out). not (same_cause cause x.cause) || not (to == x.to) || not (same_numbers list x.ids)) d)

or_false : (b : Bool) → (b || false) ≡ b
or_false true = refl
or_false false = refl

pub pick_breaks : (m : MachineState) (e : Entry) (due : Out) (cause : OutCause) (to : ℕ) (list : List ℕ)
    → e.what ≡ SaysOut cause to list →
    Some due ≡ out_due (out_by (course_at m.courses e.lane).form m.header (course_at m.courses e.lane) (owned_queue e.owner m)) →
    breaks m e Pick ≡ (not (same_cause cause due.cause) || not (to == due.to) || not (same_numbers list due.ids))
unfolding sight leaving
pick_breaks m e due cause to list i o =
    or_false (breaks_pick (sight m e) e.what) ∙ ap (λ (w : What). breaks_pick (sight m e) w) i
    ∙ other_than (out_by (course_at m.courses e.lane).form m.header (course_at m.courses e.lane)
    (owned_queue e.owner m)) due cause to list o
