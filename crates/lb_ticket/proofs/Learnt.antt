-- The last of the facts that are known, and those that stay.
-- For the laws `learnt_is_known`, `facts_stay`, `lists_rise` and `note_is_of_one`.
use Rattle.std.proofs.Common.{All, ◌≡◌, ◌+◌, inl, inr, ℕ, ◌<◌, Bool, true, false, eqb, ne_eqb, List, [], ◌∷◌, ◌++◌, length, refl, arith, sym, ap, ◌∙◌}
use Rattle.std.specs.Prelude.{if◌then◌else◌}
use Rattle.std.proofs.lemmas.List.Elements.{All-nil, All-cons}
use Rattle.lb_ticket.specs.declared.item.Drawn.{Drawn}
use Rattle.lb_ticket.specs.declared.view.Fact.{Fact}
use Rattle.lb_ticket.specs.Tickets.{Meaning, Rises, ListsFit}
use Rattle.lb_ticket.specs.Facts.{HasFact, FactsBelow, without_fact}
use Rattle.lb_ticket.specs.Laws.{FactsStay, LearntIsKnown, ListsRise}
use Rattle.lb_ticket.proofs.Members.{has_either}

last_known : (known : List Fact) (f : Fact) → HasFact f (known ++ f ∷ [])
last_known [] f = inl refl
last_known (x ∷ known) f = inr (last_known known f)

last_below : (next : ℕ) (known : List Fact) (f : Fact) → FactsBelow next (known ++ f ∷ []) → f.ticket < next
last_below next [] f below = below.0
last_below next (x ∷ known) f below = last_below next known f below.1

pub learnt_is_known : LearntIsKnown
learnt_is_known known f next below = (last_known known f, last_below next known f below)

kept_with : (f : Fact) (facts more : List Fact) → HasFact f facts → HasFact f (facts ++ more)
kept_with f facts more h = has_either facts more f (inl h)

kept_without : (f : Fact) (facts : List Fact) (k : ℕ) → (f.ticket ≡ k → ⊥) → HasFact f facts →
    HasFact f (without_fact k facts)
kept_without f [] k n h = absurd h
kept_without f (x ∷ facts) k n (inl e) =
    let c : eqb k x.ticket ≡ false = ne_eqb k x.ticket (λ q. n (ap (λ (y : Fact). y.ticket) (sym e) ∙ sym q)) in
    rw c (inl e)
kept_without f (x ∷ facts) k n (inr h) = one (eqb k x.ticket) (kept_without f facts k n h)
  where
    one : (b : Bool) → HasFact f (without_fact k facts) →
        HasFact f (if b then without_fact k facts else x ∷ without_fact k facts)
    one true p = p
    one false p = inr p

pub facts_stay : FactsStay
facts_stay f facts more k h = (kept_with f facts more h, λ n. kept_without f facts k n h)

pub one_fact : (facts : List Fact) → length facts ≡ 1 → (f : Fact) × (facts ≡ f ∷ [])
one_fact [] e = absurd (omega arith)
one_fact (f ∷ []) e = (f, refl)
one_fact (f ∷ g ∷ facts) e = absurd (omega arith)

module _ {I L : Type 0} (m : Meaning I L) where
  all_rise : (log : List I) (k : ℕ) (lists : List (List (Drawn I))) → ListsFit m log k lists →
      All (λ ds. Rises 0 ds) lists
  all_rise log k [] fit = All-nil (λ ds. Rises 0 ds)
  all_rise log k (ds ∷ lists) fit = All-cons (λ ds. Rises 0 ds) ds lists fit.0.rises (all_rise log (k + 1) lists fit.2)

  pub lists_rise : ListsRise m
  lists_rise lists book = all_rise book.log 0 lists book.lists_fit
