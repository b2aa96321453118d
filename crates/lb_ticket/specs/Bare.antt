-- The views of seats and notes as the rule of the table has them: with codes in place of items, so that a
-- note names no type of item. For each kind of step on the ticket word there is what it does to the views:
-- a seat is made, a ticket is drawn or noted, a note is learnt, a list is told, the word is loaded, a seat is
-- taken in at the end.
-- Cited by the contracts of `draw_as`, `note_as`, `tell` and others.
use Rattle.std.specs.Prelude.{◌≡◌, ℕ, ◌+◌, ◌-◌, ◌<◌, ◌≤◌, ◌^◌, List, [], ◌∷◌, ◌++◌, length, map, max}
use base.Stored.{Coded}
use Rattle.lb_ticket.specs.declared.item.Drawn.{Drawn}
use Rattle.lb_ticket.specs.declared.view.View.{View}
use Rattle.lb_ticket.specs.declared.view.Column.{Column}
use Rattle.lb_ticket.specs.declared.view.Held.{Held}
use Rattle.lb_ticket.specs.declared.view.Fact.{Fact}
use Rattle.lb_ticket.specs.declared.view.BareColumn.{BareColumn}
use Rattle.lb_ticket.specs.declared.view.Bare.{Bare}
use Rattle.lb_ticket.specs.Tickets.{Meaning, pair, quoted_by, AllBelow}
use Rattle.lb_ticket.specs.Facts.{only_facts, IsOnlyFact, without_fact, FactsBelow, fact_of, QuoteIsKnown, HeldBelow, held_of}
use Rattle.lb_ticket.specs.Kept.{Kept}

-- the view of one who owns nothing and knows nothing
abbrev pub bare_spent : Bare
bare_spent = record { made = 0; vacant = 0; columns = []; fresh = []; known = []; read = []; seen = 0 }

-- ---- a seat is made, of the view that has all shares
abbrev pub bare_root : ℕ → ℕ → Bare
bare_root made vacant = record bare_spent { made = made; vacant = vacant }

abbrev pub bare_opening : ℕ → Bare
bare_opening owners = bare_root 0 owners

abbrev pub bare_cut_left : Bare → Bare
bare_cut_left v = record v { made = v.made + 1; vacant = v.vacant - 1 }

abbrev pub bare_cut_right : Bare → Bare
bare_cut_right v = record bare_spent { columns = record { owner = v.made; drawn = [] } ∷ [] }

-- all seats are made
abbrev pub IsBareRoot : Bare × List (ℕ × Unit {0}) → Type 0
IsBareRoot me = (me.0.columns ≡ []) × (me.0.vacant ≡ 0) × (me.1 ≡ [])

-- ---- a seat is taken in at the end
abbrev pub bare_both : Bare → Bare → Bare
bare_both v w = record v {
  columns = w.columns ++ v.columns;
  fresh = v.fresh ++ w.fresh;
  known = v.known ++ w.known;
  read = v.read ++ w.read;
}

-- ---- a ticket is noted
abbrev pub bare_note : List Fact → Bare
bare_note fs = record bare_spent { known = fs }

abbrev pub bare_note_left : ℕ → Bare → Bare
bare_note_left k v = record v { fresh = without_fact k v.fresh }

abbrev pub bare_note_right : ℕ → Bare → Bare
bare_note_right k v = bare_note (only_facts k v.fresh)

-- a note is of one ticket
abbrev pub IsBareNote : Bare × List (ℕ × Unit {0}) → Type 0
IsBareNote me =
    (me.0.columns ≡ []) × (me.0.vacant ≡ 0) × (me.0.fresh ≡ []) × (length me.0.known ≡ 1) × (me.1 ≡ [])
    × (me.0.read ≡ [])

-- ---- a list is told
abbrev pub first_held : List BareColumn → List Held
first_held [] = []
first_held (c ∷ cs) = c.drawn

-- what another reads of a seat: what it drew, and what it saw
abbrev pub bare_told : Bare → Bare
bare_told v = record bare_spent { read = first_held v.columns; seen = v.seen }

-- ---- a note is learnt, or what another tells is read
abbrev pub bare_learnt : Bare → Bare → Bare
bare_learnt v w = record v { known = v.known ++ w.known; read = v.read ++ w.read; seen = max v.seen w.seen }

-- ---- the word is loaded: it is above all that the view knows
abbrev pub bare_marked : Bare → ℕ → Bare
bare_marked v n = record v { seen = n }

abbrev pub BareMarks : Bare → ℕ → Bare → Type 0
BareMarks v n w = (w ≡ bare_marked v n) × (v.seen ≤ n) × FactsBelow n v.known × HeldBelow n v.read

-- what a seat drew, holds and has read is below its next ticket
abbrev pub IsBareBelow : {I : Type 0} → List (Drawn I) → Bare → Type 0
IsBareBelow ds v =
    AllBelow v.seen ds × FactsBelow v.seen v.fresh × FactsBelow v.seen v.known × HeldBelow v.seen v.read

module _ {I : Type 0} (code : Coded I) where
  abbrev pub column_of : Column I → BareColumn
  column_of c = record { owner = c.owner; drawn = map (held_of code) c.drawn }

  -- the view of the seat of an owner that drew these
  abbrev pub HasBareList : ℕ → List (Drawn I) → Bare × List (ℕ × Unit {0}) → Type 0
  HasBareList owner ds me =
      (me.0.columns ≡ record { owner = owner; drawn = map (held_of code) ds } ∷ []) × (me.0.vacant ≡ 0) × (me.1 ≡ [])

  -- lists, as those of the owners from k on
  abbrev pub bare_columns_of : ℕ → List (List (Drawn I)) → List BareColumn
  bare_columns_of k [] = []
  bare_columns_of k (ds ∷ rest) = record { owner = k; drawn = map (held_of code) ds } ∷ bare_columns_of (k + 1) rest

module _ {I L : Type 0} (m : Meaning I L) (code : Coded I) (left : Coded L) where
  -- ---- a ticket is drawn
  pub record BareMayDraw (v : Bare) (i : I) : Type 0 where
    pub owner : ℕ
    pub drawn : List (Drawn I)
    pub is : v.columns ≡ record { owner = owner; drawn = map (held_of code) drawn } ∷ []
    pub owned : m.owner i ≡ owner
    pub fits : m.fits (map pair drawn) i
    pub short : length drawn + 1 < 2 ^ 40
    pub quote : QuoteIsKnown m left v.known i (m.quote i)

  abbrev pub bare_drew_at : Bare → I → ℕ → List BareColumn → Bare
  bare_drew_at v i n [] = v
  bare_drew_at v i n (c ∷ cs) =
      let d : Drawn I = record { ticket = n; item = i } in
      record v {
        columns = record { owner = c.owner; drawn = c.drawn ++ held_of code d ∷ [] } ∷ cs;
        fresh = v.fresh ++ fact_of m left d ∷ [];
        known = without_fact (quoted_by (m.quote i)) v.known;
        seen = n + 1;
      }

  abbrev pub bare_drew : Bare → I → ℕ → Bare
  bare_drew v i n = bare_drew_at v i n v.columns

  -- an item was drawn at the ticket n, which is not below what was seen, and of which nothing was fresh
  abbrev pub BareDraws : List I → Bare → ℕ → Bare → Type 0
  BareDraws [] v n w = Unit {0}
  BareDraws (i ∷ is) v n w =
      let d : Drawn I = record { ticket = n; item = i } in
      (w ≡ bare_drew v i n) × (v.seen ≤ n)
      × IsOnlyFact (fact_of m left d) (v.fresh ++ fact_of m left d ∷ [])
      × (0 < n)

  -- ---- the rule
  abbrev pub erase : View I → Bare
  erase v = record {
    made = v.made;
    vacant = v.vacant;
    columns = map (column_of code) v.columns;
    fresh = map (fact_of m left) v.fresh;
    known = map (fact_of m left) v.known;
    read = map (held_of code) v.read;
    seen = v.seen;
  }

  -- there are views that have these codes and keep the rule
  abbrev pub BareKept : ℕ → List ℕ → List Bare → Type 0
  BareKept owners words bares = (views : List (View I)) × (bares ≡ map erase views) × Kept m owners words views
