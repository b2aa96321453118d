-- What the users of a ticket book conclude from its calls.
-- Cited by the laws `learnt_is_known`, `facts_stay` and `lists_rise`.
use Rattle.std.specs.Prelude.{◌≡◌, ℕ, ◌<◌, List, [], ◌∷◌, ◌++◌, All}
use Rattle.lb_ticket.specs.declared.item.Drawn.{Drawn}
use Rattle.lb_ticket.specs.declared.view.Fact.{Fact}
use Rattle.lb_ticket.specs.Tickets.{Meaning, Rises, Closes}
use Rattle.lb_ticket.specs.Facts.{HasFact, FactsBelow, without_fact}

-- the fact of a note that was learnt is known, and its ticket is below the next one
abbrev pub LearntIsKnown : Type 0
LearntIsKnown =
    (known : List Fact) (f : Fact) (next : ℕ) → FactsBelow next (known ++ f ∷ []) →
    HasFact f (known ++ f ∷ []) × (f.ticket < next)

-- a fact stays with a seat as more are learnt, and as others are quoted or noted
abbrev pub FactsStay : Type 0
FactsStay =
    (f : Fact) (facts more : List Fact) (k : ℕ) → HasFact f facts →
    HasFact f (facts ++ more) × ((f.ticket ≡ k → ⊥) → HasFact f (without_fact k facts))

-- on each list of a closed book the tickets rise, from 1 or more
abbrev pub ListsRise : {I L : Type 0} → Meaning I L → Type 0
ListsRise {I = I} m = (lists : List (List (Drawn I))) → Closes m lists → All (λ ds. Rises 0 ds) lists
