-- What a lane holds of its last entry is what its next entry quotes.
-- For `draw_noted`; cited by `lb_end` too.
use Rattle.std.proofs.Common.{ℕ, ◌≡◌, Bool, true, false, eqb, List, ◌++◌, Option, Some, None, if◌then◌else◌, refl, sym, subst, ◌∙◌, inl, inr}
use base.Stored.{Coded}
use Rattle.atomic_table.specs.Seated.{TableId}
use Rattle.lb_ticket.specs.declared.view.Fact.{Fact}
use Rattle.lb_ticket.specs.Seats.{NoteIs}
use Rattle.lb_ticket.specs.Tickets.{Among}
use Rattle.lb_ticket.specs.Facts.{QuoteIsKnown}
use Rattle.lb_ticket.proofs.Members.{has_either}
use Rattle.lb_journal.specs.Journal.{Journal, Left, quote_of, meaning_of_journal}
use Rattle.lb_cell.specs.LastEntries.{IsLast, facts_of, fact_left}

quoted_or : (code : Coded Left) (j : Journal) (known : List Fact) (prev : ℕ) (b : Bool)
    → Among (fact_left code j.entry.lane j.course prev) known
    → QuoteIsKnown meaning_of_journal code known j
    (if b then None else Some (prev, record { course = j.course; lane = j.entry.lane }))
quoted_or code j known prev true h = tt
quoted_or code j known prev false h = h

pub quote_known : (table : TableId) (code : Coded Left) (cpus t : ℕ) (j : Journal) (note : Option NoteIs)
    → IsLast table code cpus j.entry.lane j.course t note → j.entry.prev ≡ t → (old known : List Fact)
    → known ≡ old ++ facts_of note → QuoteIsKnown meaning_of_journal code known j (quote_of j)
quote_known table code cpus t j None h prev old known is =
    subst
    (λ (p : ℕ). QuoteIsKnown meaning_of_journal code known j
    (if eqb p 0 then None else Some (p, record { course = j.course; lane = j.entry.lane })))
    (sym (prev ∙ h.0)) tt
quote_known table code cpus t j (Some n) h prev old known is =
    let fact : ℕ → Fact = fact_left code j.entry.lane j.course in
    let there : Among (fact t) known =
    subst (Among (fact t)) (sym is) (has_either old n.facts (fact t) (inr (subst (Among (fact t)) (sym h.2) (inl refl)))) in
    quoted_or code j known j.entry.prev (eqb j.entry.prev 0) (subst (λ p. Among (fact p) known) (sym prev) there)
