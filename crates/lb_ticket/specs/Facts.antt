-- What a seat, a note or a reader knows of entries, by the codes of what they leave and of the entries
-- themselves: a note then names no type of item. A fact is of one entry: its ticket, its lane and what it
-- leaves. A seat holds the facts of entries that it drew and did not note (fresh) and of notes that it learnt
-- and did not quote (known), and it holds what it read of other seats' lists.
-- Cited by the law `seat_is_below`, and `Book::close`, `Seat::draw` and others; also by `lb_cell`, `lb_cpu` and other
-- crates.
use Rattle.std.specs.Prelude.{◌≡◌, ℕ, ◌<◌, ◌==◌, List, [], ◌∷◌, if◌then◌else◌, Option, Some, None, All}
use base.Stored.{Coded}
use Rattle.lb_ticket.specs.declared.item.Drawn.{Drawn}
use Rattle.lb_ticket.specs.declared.view.Held.{Held}
use Rattle.lb_ticket.specs.declared.view.Fact.{Fact}
use Rattle.lb_ticket.specs.Tickets.{Meaning, Among, InLists, quoted_by}

-- ---- facts
-- the facts of the ticket k, and those of others
abbrev pub only_facts : ℕ → List Fact → List Fact
only_facts k [] = []
only_facts k (f ∷ fs) = if k == f.ticket then f ∷ only_facts k fs else only_facts k fs

abbrev pub without_fact : ℕ → List Fact → List Fact
without_fact k [] = []
without_fact k (f ∷ fs) = if k == f.ticket then without_fact k fs else f ∷ without_fact k fs

-- the fact is the only one of its ticket
abbrev pub IsOnlyFact : Fact → List Fact → Type 0
IsOnlyFact f fs = only_facts f.ticket fs ≡ f ∷ []

abbrev pub HasFact : Fact → List Fact → Type 0
HasFact f fs = Among f fs

abbrev pub FactsBelow : ℕ → List Fact → Type 0
FactsBelow n [] = Unit {0}
FactsBelow n (f ∷ fs) = (f.ticket < n) × FactsBelow n fs

module _ {I L : Type 0} (m : Meaning I L) (left : Coded L) where
  abbrev pub fact_of : Drawn I → Fact
  fact_of d = record { ticket = d.ticket; lane = m.lane d.item; left = left.code (m.leaves d.item) }

  -- of an item that was drawn at a ticket
  abbrev pub fact_at : ℕ → I → Fact
  fact_at ticket i = fact_of (record { ticket = ticket; item = i })

  -- what the item quotes is known
  abbrev pub QuoteIsKnown : List Fact → I → Option (ℕ × L) → Type 0
  QuoteIsKnown known i None = Unit {0}
  QuoteIsKnown known i (Some q) = HasFact (record { ticket = q.0; lane = m.lane i; left = left.code q.1 }) known

  -- the fact is of an entry of the lists, whose ticket no entry quotes
  pub record IsUnquoted (lists : List (List (Drawn I))) (f : Fact) : Type 0 where
    pub entry : Drawn I
    pub there : InLists entry lists
    pub fact : fact_of entry ≡ f
    pub unquoted : (e : Drawn I) → InLists e lists → quoted_by (m.quote e.item) ≡ f.ticket → ⊥

  abbrev pub AllUnquoted : List Fact → List (List (Drawn I)) → Type 0
  AllUnquoted facts lists = (f : Fact) → HasFact f facts → IsUnquoted lists f

-- ---- entries that were read
abbrev pub HeldBelow : ℕ → List Held → Type 0
HeldBelow n read = All (λ h. h.ticket < n) read

module _ {I : Type 0} (code : Coded I) where
  abbrev pub held_of : Drawn I → Held
  held_of d = record { ticket = d.ticket; item = code.code d.item }

  -- the entry was read, and its ticket is below this one
  pub record HasRead (read : List Held) (ticket : ℕ) (d : Drawn I) : Type 0 where
    pub read_it : Among (held_of d) read
    pub before : d.ticket < ticket

  -- what was read is an entry of the lists
  pub record IsDrawn (lists : List (List (Drawn I))) (h : Held) : Type 0 where
    pub entry : Drawn I
    pub there : InLists entry lists
    pub held : held_of entry ≡ h

  abbrev pub AllDrawn : List Held → List (List (Drawn I)) → Type 0
  AllDrawn read lists = (h : Held) → Among h read → IsDrawn lists h
