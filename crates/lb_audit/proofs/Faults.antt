-- What the verdict by steps says: legal exactly of the legal histories whose tickets are their places, and a
-- place and a rule exactly where they are the first fault. So each law of verdicts.
-- For the law `verdicts_are_exact`.
use Rattle.std.proofs.Common.{◌≡◌, ℕ, ◌+◌, ◌==◌, Bool, true, false, if◌then◌else◌, Option, Some, None, List, [], ◌∷◌, ◌++◌, length, refl, sym, ◌∙◌, ap, subst, arith}
use Rattle.std.proofs.lemmas.Bool.{eqb-true, eq-eqb}
use Rattle.lb_core.specs.declared.entry.Entry.{Entry}
use Rattle.lb_core.specs.declared.rule.Rule.{Rule}
use Rattle.lb_core.specs.declared.rule.Rule.TheVariants.{Ticket as TicketRule, End as EndRule}
use Rattle.lb_core.specs.Machine.{MachineState, start}
use Rattle.lb_core.specs.Step.{first_broken, after}
use Rattle.lb_core.specs.Legal.{run, MayFollow, IsLegalHistory}
use Rattle.lb_read.specs.declared.written.WrittenEntry.{WrittenEntry}
use Rattle.lb_read.specs.declared.written.Read.{Read}
use Rattle.lb_read.specs.Written.{written_from, as_read}
use Rattle.lb_audit.specs.declared.verdict.Verdict.{Verdict}
use Rattle.lb_audit.specs.declared.verdict.Verdict.TheVariants.{Legal, Illegal}
use Rattle.lb_audit.specs.Verdict.{entries_of, IsLegal, broken_at, IsBroken, IsFirstFault, verdict_of}
use Rattle.lb_audit.specs.Laws.{LegalExactly, FaultExactly, OwnVerdict}
use Rattle.lb_audit.proofs.Steps.{or_else, at_end, verdict_from, steps}

-- ---- one entry
-- an entry that breaks nothing has its place as its ticket, and may be added
unbroken : (m : MachineState) (place : ℕ) (w : WrittenEntry) → broken_at m place w ≡ None
    → (w.ticket ≡ place) × (first_broken m w.entry ≡ None)
unbroken m place w e = by_test (w.ticket == place) refl e
  where
    by_test : (b : Bool) → (w.ticket == place) ≡ b → (if b then first_broken m w.entry else Some TicketRule) ≡ None
        → (w.ticket ≡ place) × (first_broken m w.entry ≡ None)
    by_test true k e = (eqb-true w.ticket place k, e)
    by_test false k e = absurd (let y : ⊥ = cc in y)

breaks_none : (m : MachineState) (place : ℕ) (w : WrittenEntry) → w.ticket ≡ place → first_broken m w.entry ≡ None
    → broken_at m place w ≡ None
breaks_none m place w own may = rw (eq-eqb w.ticket place own) may

-- a list that begins with such an entry
with_ticket : (place : ℕ) (w : WrittenEntry) (written more : List WrittenEntry) → w.ticket ≡ place → written ≡ more
    → w ∷ written ≡ record { ticket = place; entry = w.entry } ∷ more
with_ticket place w written more own rest =
    let ticketed : ℕ → WrittenEntry = λ t. record { ticket = t; entry = w.entry } in
    let same : w ≡ ticketed place = ap ticketed own in
    cc

has_ticket : (place : ℕ) (w : WrittenEntry) (written more : List WrittenEntry)
    → w ∷ written ≡ record { ticket = place; entry = w.entry } ∷ more → (w.ticket ≡ place) × (written ≡ more)
has_ticket place w written more e =
    let first : WrittenEntry = record { ticket = place; entry = w.entry } in
    let whole : w ∷ written ≡ first ∷ more = e in
    let same : w ≡ first = cc in
    (ap (λ (x : WrittenEntry). x.ticket) same, let rest : written ≡ more = cc in rest)

-- ---- legal
record LegalFrom (place : ℕ) (written : List WrittenEntry) (m : MachineState) : Type 0 where
  pub tickets : written ≡ written_from place (entries_of written)
  pub front : MayFollow (entries_of written) m
  pub ended : (run (entries_of written) m).ended ≡ true

none_found : (x : Option Rule) (place : ℕ) (later : Verdict) → or_else x place later ≡ Legal → (x ≡ None) × (later ≡ Legal)
none_found None place later e = (refl, e)
none_found (Some rule) place later e = absurd (let y : ⊥ = cc in y)

is_legal : (place : ℕ) (written : List WrittenEntry) (m : MachineState) → verdict_from place written m ≡ Legal
    → LegalFrom place written m
is_legal place [] m e = record { tickets = refl; front = tt; ended = by_end m.ended e }
  where
    by_end : (b : Bool) → at_end b place ≡ Legal → b ≡ true
    by_end true e = refl
    by_end false e = absurd (let y : ⊥ = cc in y)
is_legal place (w ∷ written) m e =
    let n = none_found (broken_at m place w) place (verdict_from (place + 1) written (after m w.entry)) e in
    let u = unbroken m place w n.0 in
    let k = is_legal (place + 1) written (after m w.entry) n.1 in
    record {
      tickets = with_ticket place w written _ u.0 k.tickets;
      front = (u.1, k.front);
      ended = k.ended;
    }

said_legal : (place : ℕ) (written : List WrittenEntry) (m : MachineState) → LegalFrom place written m
    → verdict_from place written m ≡ Legal
said_legal place [] m k = ap (λ (b : Bool). at_end b place) k.ended
said_legal place (w ∷ written) m k =
    let t = has_ticket place w written _ k.tickets in
    let later = verdict_from (place + 1) written (after m w.entry) in
    ap (λ (x : Option Rule). or_else x place later) (breaks_none m place w t.0 k.front.0)
    ∙ said_legal (place + 1) written (after m w.entry) (record { tickets = t.1; front = k.front.1; ended = k.ended })

-- ---- the first fault
record FaultFrom (place : ℕ) (written : List WrittenEntry) (m : MachineState) (ticket : ℕ) (rule : Rule) : Type 0 where
  pub before : List WrittenEntry
  pub later : List WrittenEntry
  pub entries : written ≡ before ++ later
  pub behind : ticket ≡ length before + place
  pub tickets : before ≡ written_from place (entries_of before)
  pub front : MayFollow (entries_of before) m
  pub broken : IsBroken (run (entries_of before) m) ticket later rule

same_place : (p t : ℕ) (x r : Rule) → Illegal p x ≡ Illegal t r → (p ≡ t) × (x ≡ r)
same_place p t x r e = (let k : p ≡ t = cc in k, let k : x ≡ r = cc in k)

-- it is found at the first entry, or later
fault_found : (place : ℕ) (w : WrittenEntry) (written : List WrittenEntry) (m : MachineState) (t : ℕ) (r : Rule)
    → (verdict_from (place + 1) written (after m w.entry) ≡ Illegal t r → FaultFrom (place + 1) written (after m w.entry) t r)
    → (x : Option Rule) → broken_at m place w ≡ x
    → or_else x place (verdict_from (place + 1) written (after m w.entry)) ≡ Illegal t r → FaultFrom place (w ∷ written) m t r
fault_found place w written m t r later None b e =
    let k = later e in
    let u = unbroken m place w b in
    let behind = k.behind in
    record {
      before = w ∷ k.before;
      later = k.later;
      entries = ap (λ (xs : List WrittenEntry). w ∷ xs) k.entries;
      behind = omega arith;
      tickets = with_ticket place w k.before _ u.0 k.tickets;
      front = (u.1, k.front);
      broken = k.broken;
    }
fault_found place w written m t r later (Some rule) b e =
    let s = same_place place t rule r e in
    let placed = s.0 in
    record {
      before = [];
      later = w ∷ written;
      entries = refl;
      behind = omega arith;
      tickets = refl;
      front = tt;
      broken = subst (λ (n : ℕ). broken_at m n w ≡ Some r) s.0 (b ∙ ap (λ (x : Rule). Some x) s.1);
    }

has_fault : (place : ℕ) (written : List WrittenEntry) (m : MachineState) (t : ℕ) (r : Rule)
    → verdict_from place written m ≡ Illegal t r → FaultFrom place written m t r
has_fault place [] m t r e =
    let k = by_end m.ended refl e in
    let placed = k.1 in
    record {
      before = [];
      later = [];
      entries = refl;
      behind = omega arith;
      tickets = refl;
      front = tt;
      broken = (k.0, k.2);
    }
  where
    by_end : (b : Bool) → m.ended ≡ b → at_end b place ≡ Illegal t r → (m.ended ≡ false) × (place ≡ t) × (r ≡ EndRule)
    by_end true over e = absurd (let y : ⊥ = cc in y)
    by_end false over e = let s = same_place place t EndRule r e in (over, s.0, sym s.1)
has_fault place (w ∷ written) m t r e = fault_found place w written m t r (has_fault (place + 1) written (after m w.entry) t r)
    (broken_at m place w) refl e

fault_named : (before later : List WrittenEntry) (place : ℕ) (m : MachineState) (t : ℕ) (r : Rule)
    → t ≡ length before + place → before ≡ written_from place (entries_of before) → MayFollow (entries_of before) m
    → IsBroken (run (entries_of before) m) t later r → verdict_from place (before ++ later) m ≡ Illegal t r
fault_named [] [] place m t r behind tickets front broken =
    let placed : place ≡ t = omega arith in
    ap (λ (b : Bool). at_end b place) broken.0
    ∙ ap (λ (n : ℕ). Illegal n EndRule) placed
    ∙ ap (λ (x : Rule). Illegal t x) (sym broken.1)
fault_named [] (w ∷ later) place m t r behind tickets front broken =
    let placed : t ≡ place = omega arith in
    let here = subst (λ (n : ℕ). broken_at m n w ≡ Some r) placed broken in
    let rest = verdict_from (place + 1) later (after m w.entry) in
    ap (λ (x : Option Rule). or_else x place rest) here ∙ ap (λ (n : ℕ). Illegal n r) (sym placed)
fault_named (w ∷ before) later place m t r behind tickets front broken =
    let k = has_ticket place w before _ tickets in
    let rest = verdict_from (place + 1) (before ++ later) (after m w.entry) in
    let next : t ≡ length before + (place + 1) = omega arith in
    ap (λ (x : Option Rule). or_else x place rest) (breaks_none m place w k.0 front.0)
    ∙ fault_named before later (place + 1) (after m w.entry) t r next k.1 front.1 broken

-- ---- the laws
pub legal_exactly : LegalExactly
legal_exactly read = (to, from)
  where
    to : verdict_of read ≡ Legal → IsLegal read
    to e =
        let k = is_legal 1 read.entries (start read.header) (sym (steps read) ∙ e) in
        let read_of : List WrittenEntry → Read = λ ws. record { header = read.header; entries = ws } in
        record { tickets = ap read_of k.tickets; legal = (k.front, k.ended) }

    from : IsLegal read → verdict_of read ≡ Legal
    from k = steps read ∙ said_legal 1 read.entries (start read.header)
        (record { tickets = ap (λ (x : Read). x.entries) k.tickets; front = k.legal.0; ended = k.legal.1 })

pub fault_exactly : FaultExactly
fault_exactly read place rule = (to, from)
  where
    to : verdict_of read ≡ Illegal place rule → IsFirstFault read place rule
    to e =
        let k = has_fault 1 read.entries (start read.header) place rule (sym (steps read) ∙ e) in
        record {
          before = k.before;
          later = k.later;
          entries = k.entries;
          behind = k.behind;
          tickets = k.tickets;
          front = k.front;
          broken = k.broken;
        }

    from : IsFirstFault read place rule → verdict_of read ≡ Illegal place rule
    from k = steps read
        ∙ ap (λ (ws : List WrittenEntry). verdict_from 1 ws (start read.header)) k.entries
        ∙ fault_named k.before k.later 1 (start read.header) place rule k.behind k.tickets k.front k.broken

entries_own : (place : ℕ) (entries : List Entry) → entries_of (written_from place entries) ≡ entries
entries_own place [] = refl
entries_own place (e ∷ entries) = ap (λ (es : List Entry). e ∷ es) (entries_own (place + 1) entries)

pub own_verdict : OwnVerdict
own_verdict h = (to, from)
  where
    own : entries_of (written_from 1 h.entries) ≡ h.entries
    own = entries_own 1 h.entries

    to : verdict_of (as_read h) ≡ Legal → IsLegalHistory h.header h.entries
    to e = subst (λ (es : List Entry). IsLegalHistory h.header es) own ((legal_exactly (as_read h)).0 e).legal

    from : IsLegalHistory h.header h.entries → verdict_of (as_read h) ≡ Legal
    from k =
        let read_of : List Entry → Read = λ es. as_read (record { header = h.header; entries = es }) in
        (legal_exactly (as_read h)).1 (record {
          tickets = ap read_of (sym own);
          legal = subst (λ (es : List Entry). IsLegalHistory h.header es) (sym own) k;
        })
