-- The verdict by steps: what is found at the first place, or else what is found from the next one on. It is
-- the first of what is found of tickets and of entries.
-- For `check`.
use Rattle.std.proofs.Common.{◌≡◌, ℕ, ◌+◌, ◌==◌, ◌≤◌, ◌<◌, Bool, true, false, if◌then◌else◌, Option, Some, None, List, [], ◌∷◌, refl, ◌∙◌, ap, arith}
use Rattle.std.proofs.lemmas.Bool.{lt-ltb, le-ltb}
use Rattle.lb_core.specs.declared.entry.Entry.{Entry}
use Rattle.lb_core.specs.declared.rule.Rule.{Rule}
use Rattle.lb_core.specs.declared.rule.Rule.TheVariants.{Ticket as TicketRule, End as EndRule}
use Rattle.lb_core.specs.Machine.{MachineState, start}
use Rattle.lb_core.specs.Step.{first_broken, after}
use Rattle.lb_core.specs.Legal.{Fault, or_later, missing_end, fault_from}
use Rattle.lb_read.specs.declared.written.WrittenEntry.{WrittenEntry}
use Rattle.lb_read.specs.declared.written.Read.{Read}
use Rattle.lb_audit.specs.declared.verdict.Verdict.{Verdict}
use Rattle.lb_audit.specs.declared.verdict.Verdict.TheVariants.{Legal, Illegal}
use Rattle.lb_audit.specs.Verdict.{entries_of, broken_at, wrong_ticket, first_of, verdict_of}

-- ---- by steps
-- the rule that is broken at a place, or else what is found later
abbrev pub or_else : Option Rule → ℕ → Verdict → Verdict
or_else None place later = later
or_else (Some rule) place later = Illegal place rule

-- where no entry is left
abbrev pub at_end : Bool → ℕ → Verdict
at_end true place = Legal
at_end false place = Illegal place EndRule

-- the verdict on the entries from this place on
abbrev pub verdict_from : ℕ → List WrittenEntry → MachineState → Verdict
verdict_from place [] m = at_end m.ended place
verdict_from place (w ∷ written) m =
    or_else (broken_at m place w) place (verdict_from (place + 1) written (after m w.entry))

-- ---- what is found stands where one looks, or later
ticket_stands : (place : ℕ) (written : List WrittenEntry) (p : ℕ) → wrong_ticket place written ≡ Some p → place ≤ p
ticket_stands place [] p e = absurd (let y : ⊥ = cc in y)
ticket_stands place (w ∷ written) p e = by_test (w.ticket == place) (ticket_stands (place + 1) written p) e
  where
    by_test : (b : Bool) → (wrong_ticket (place + 1) written ≡ Some p → place + 1 ≤ p)
        → (if b then wrong_ticket (place + 1) written else Some place) ≡ Some p → place ≤ p
    by_test true later e = let k = later e in omega arith
    by_test false later e = let same : place ≡ p = cc in omega arith

fault_stands : (place : ℕ) (entries : List Entry) (m : MachineState) (f : Fault) → fault_from place entries m ≡ Some f
    → place ≤ f.ticket
fault_stands place [] m f e = by_end m.ended e
  where
    by_end : (b : Bool) → missing_end b place ≡ Some f → place ≤ f.ticket
    by_end true e = absurd (let y : ⊥ = cc in y)
    by_end false e =
        let here : Fault = record { ticket = place; rule = EndRule } in
        let same : here ≡ f = cc in
        let k : place ≡ f.ticket = ap (λ (x : Fault). x.ticket) same in
        omega arith
fault_stands place (e ∷ entries) m f k = by_rule (first_broken m e) (fault_stands (place + 1) entries (after m e) f) k
  where
    by_rule : (x : Option Rule) → (fault_from (place + 1) entries (after m e) ≡ Some f → place + 1 ≤ f.ticket)
        → or_later x place (fault_from (place + 1) entries (after m e)) ≡ Some f → place ≤ f.ticket
    by_rule None later k = let s = later k in omega arith
    by_rule (Some rule) later k =
        let here : Fault = record { ticket = place; rule = rule } in
        let same : here ≡ f = cc in
        let s : place ≡ f.ticket = ap (λ (x : Fault). x.ticket) same in
        omega arith

-- ---- both give one verdict
-- at one place, where what is found later stands later
one_step : (place : ℕ) (b : Bool) (x : Option Rule) (t : Option ℕ) (f : Option Fault)
    → ((p : ℕ) → t ≡ Some p → place + 1 ≤ p) → ((g : Fault) → f ≡ Some g → place + 1 ≤ g.ticket)
    → first_of (if b then t else Some place) (or_later x place f)
    ≡ or_else (if b then x else Some TicketRule) place (first_of t f)
one_step place true None t f later_t later_f = refl
one_step place true (Some rule) None f later_t later_f = refl
one_step place true (Some rule) (Some p) f later_t later_f =
    let k = later_t p refl in
    let lt : place < p = omega arith in
    rw (lt-ltb place p lt) refl
one_step place false None t None later_t later_f = refl
one_step place false None t (Some g) later_t later_f =
    let k = later_f g refl in
    let le : place ≤ g.ticket = omega arith in
    rw (le-ltb g.ticket place le) refl
one_step place false (Some rule) t f later_t later_f =
    let le : place ≤ place = omega arith in
    rw (le-ltb place place le) refl

by_steps : (place : ℕ) (written : List WrittenEntry) (m : MachineState)
    → first_of (wrong_ticket place written) (fault_from place (entries_of written) m) ≡ verdict_from place written m
by_steps place [] m = by_end m.ended
  where
    by_end : (b : Bool) → first_of None (missing_end b place) ≡ at_end b place
    by_end true = refl
    by_end false = refl
by_steps place (w ∷ written) m =
    one_step place (w.ticket == place) (first_broken m w.entry) (wrong_ticket (place + 1) written)
    (fault_from (place + 1) (entries_of written) (after m w.entry))
    (ticket_stands (place + 1) written)
    (fault_stands (place + 1) (entries_of written) (after m w.entry))
    ∙ ap (or_else (broken_at m place w) place) (by_steps (place + 1) written (after m w.entry))

-- so for all that was read
pub steps : (read : Read) → verdict_of read ≡ verdict_from 1 read.entries (start read.header)
unfolding verdict_of
steps read = by_steps 1 read.entries (start read.header)
