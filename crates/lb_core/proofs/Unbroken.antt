-- An entry that may be added breaks no rule. For callers too: so rule by rule, here and elsewhere.
-- For the lemmas of `Agreeing`, `AtWork` and other files, and so for the laws `choices`, `one_serial_history` and
-- others; cited by `lb_draw`, `lb_ready` and other crates too.
use Rattle.std.proofs.Common.{◌≡◌, Bool, true, false, cond, Option, Some, None, refl}
use Rattle.std.proofs.lemmas.Bool.{or_parts}
use Rattle.lb_core.specs.declared.rule.Rule.{Rule}
use Rattle.lb_core.specs.declared.rule.Rule.TheVariants.{Ticket, Prev, Stage, Row as RowRule, Place as PlaceRule, Reply as ReplyRule, Version, Figure, Decision as DecisionRule, Pick, Flight, Counters as CountersRule, Owed, End as EndRule}
use Rattle.lb_core.specs.declared.entry.Entry.{Entry}
use Rattle.lb_core.specs.Rules.{breaks_here}
use Rattle.lb_core.specs.Machine.{MachineState, sight}
use Rattle.lb_core.specs.Elsewhere.{breaks_elsewhere}
use Rattle.lb_core.specs.Step.{breaks, first_broken}

passed : {A : Type 0} (b : Bool) (r : A) (rest : Option A) → cond b (Some r) rest ≡ None → (b ≡ false) × (rest ≡ None)
passed true r rest h = absurd (let k : ⊥ = cc in k)
passed false r rest h = (refl, h)

-- an entry that may be added breaks no rule
pub unbroken : (m : MachineState) (e : Entry) → first_broken m e ≡ None → (r : Rule) → breaks m e r ≡ false
unfolding first_broken
unbroken m e h r =
    let p1 = passed (breaks m e Prev) Prev _ h in
    let p2 = passed (breaks m e Stage) Stage _ p1.1 in
    let p3 = passed (breaks m e RowRule) RowRule _ p2.1 in
    let p4 = passed (breaks m e PlaceRule) PlaceRule _ p3.1 in
    let p5 = passed (breaks m e ReplyRule) ReplyRule _ p4.1 in
    let p6 = passed (breaks m e Version) Version _ p5.1 in
    let p7 = passed (breaks m e Figure) Figure _ p6.1 in
    let p8 = passed (breaks m e DecisionRule) DecisionRule _ p7.1 in
    let p9 = passed (breaks m e Pick) Pick _ p8.1 in
    let p10 = passed (breaks m e Flight) Flight _ p9.1 in
    let p11 = passed (breaks m e CountersRule) CountersRule _ p10.1 in
    let p12 = passed (breaks m e Owed) Owed _ p11.1 in
    let p13 = passed (breaks m e EndRule) EndRule _ p12.1 in
    elim r as (λ x. breaks m e x ≡ false) [
      | Ticket ↦ refl
      | Prev ↦ p1.0
      | Stage ↦ p2.0
      | RowRule ↦ p3.0
      | PlaceRule ↦ p4.0
      | ReplyRule ↦ p5.0
      | Version ↦ p6.0
      | Figure ↦ p7.0
      | DecisionRule ↦ p8.0
      | Pick ↦ p9.0
      | Flight ↦ p10.0
      | CountersRule ↦ p11.0
      | Owed ↦ p12.0
      | EndRule ↦ p13.0
    ]

pub unbroken_here : (m : MachineState) (e : Entry) → first_broken m e ≡ None → (r : Rule) → breaks_here r (sight m e) e ≡ false
unbroken_here m e h r = (or_parts (breaks_here r (sight m e) e) (breaks_elsewhere r m e) (unbroken m e h r)).0

pub unbroken_elsewhere : (m : MachineState) (e : Entry) → first_broken m e ≡ None → (r : Rule) → breaks_elsewhere r m e ≡ false
unbroken_elsewhere m e h r = (or_parts (breaks_here r (sight m e) e) (breaks_elsewhere r m e) (unbroken m e h r)).1
