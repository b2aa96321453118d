-- What each kind of step does to a view, where the view has the items themselves. The views of `specs/Bare`
-- are these, with codes in place of the items.
-- For the lemmas of `BareKeeping`, `Closing` and other files, and so for `Book::close`, `Book::new` and others.
use Rattle.std.specs.Prelude.{max, ◌≡◌, ℕ, ◌+◌, ◌-◌, ◌<◌, ◌≤◌, ◌==◌, ◌^◌, List, [], ◌∷◌, ◌++◌, length, if◌then◌else◌, Option, Some, None, map}
use Rattle.lb_ticket.specs.declared.item.Drawn.{Drawn}
use Rattle.lb_ticket.specs.declared.view.View.{View}
use Rattle.lb_ticket.specs.declared.view.Column.{Column}
use Rattle.lb_ticket.specs.Tickets.{Meaning, Has, AllBelow, pair, quoted_by}

module _ {I : Type 0} where
  -- the entries with the ticket k, and the others
  abbrev pub only : ℕ → List (Drawn I) → List (Drawn I)
  only k [] = []
  only k (d ∷ ds) = if k == d.ticket then d ∷ only k ds else only k ds

  abbrev pub without : ℕ → List (Drawn I) → List (Drawn I)
  without k [] = []
  without k (d ∷ ds) = if k == d.ticket then without k ds else d ∷ without k ds

  -- what the seat drew
  abbrev pub first_drawn : List (Column I) → List (Drawn I)
  first_drawn [] = []
  first_drawn (c ∷ cs) = c.drawn

  -- the view of one who owns nothing and knows nothing
  abbrev pub spent_view : View I
  spent_view = record { made = 0; vacant = 0; columns = []; fresh = []; known = []; read = []; seen = 0 }

  -- a seat is made, of the view that has all shares
  abbrev pub root_view : ℕ → ℕ → View I
  root_view made vacant = record spent_view { made = made; vacant = vacant }

  abbrev pub opening_view : ℕ → View I
  opening_view owners = root_view 0 owners

  abbrev pub seat_cut_left : View I → View I
  seat_cut_left v = record v { made = v.made + 1; vacant = v.vacant - 1 }

  abbrev pub seat_cut_right : View I → View I
  seat_cut_right v = record spent_view { columns = record { owner = v.made; drawn = [] } ∷ [] }

  -- a seat is taken in at the end
  abbrev pub both_of : View I → View I → View I
  both_of v w = record v {
    columns = w.columns ++ v.columns;
    fresh = v.fresh ++ w.fresh;
    known = v.known ++ w.known;
    read = v.read ++ w.read;
  }

  -- a ticket is noted
  abbrev pub note_left : ℕ → View I → View I
  note_left k v = record v { fresh = without k v.fresh }

  abbrev pub note_right : ℕ → View I → View I
  note_right k v = record spent_view { known = only k v.fresh }

  -- what another reads of a seat: what it drew, and what it saw
  abbrev pub told_view : View I → View I
  told_view v = record spent_view { read = first_drawn v.columns; seen = v.seen }

  -- a note is learnt, or what another tells is read
  abbrev pub learnt : View I → View I → View I
  learnt v w = record v { known = v.known ++ w.known; read = v.read ++ w.read; seen = max v.seen w.seen }

  -- the word is loaded
  abbrev pub marked : View I → ℕ → View I
  marked v n = record v { seen = n }

  abbrev pub Marks : View I → ℕ → View I → Type 0
  Marks v n w = (w ≡ marked v n) × (v.seen ≤ n) × AllBelow n v.known × AllBelow n v.read

  -- lists, as those of the owners from k on
  abbrev pub columns_of : ℕ → List (List (Drawn I)) → List (Column I)
  columns_of k [] = []
  columns_of k (ds ∷ rest) = record { owner = k; drawn = ds } ∷ columns_of (k + 1) rest

module _ {I L : Type 0} (m : Meaning I L) where
  -- what the item quotes is known
  abbrev pub QuoteKnown : List (Drawn I) → I → Option (ℕ × L) → Type 0
  QuoteKnown known i None = Unit {0}
  QuoteKnown known i (Some q) =
      (d : Drawn I) × Has d known × (d.ticket ≡ q.0) × (m.leaves d.item ≡ q.1) × (m.lane d.item ≡ m.lane i)

  -- an item may be drawn
  pub record MayDraw (v : View I) (i : I) : Type 0 where
    pub owner : ℕ
    pub drawn : List (Drawn I)
    pub is : v.columns ≡ record { owner = owner; drawn = drawn } ∷ []
    pub owned : m.owner i ≡ owner
    pub fits : m.fits (map pair drawn) i
    pub short : length drawn + 1 < 2 ^ 40
    pub quote : QuoteKnown v.known i (m.quote i)

  -- a draw of the item, at the ticket n
  abbrev pub drew_at : View I → I → ℕ → List (Column I) → View I
  drew_at v i n [] = v
  drew_at v i n (c ∷ cs) =
      let d : Drawn I = record { ticket = n; item = i } in
      record v {
        columns = record { owner = c.owner; drawn = c.drawn ++ d ∷ [] } ∷ cs;
        fresh = v.fresh ++ d ∷ [];
        known = without (quoted_by (m.quote i)) v.known;
        seen = n + 1;
      }

  abbrev pub drew : View I → I → ℕ → View I
  drew v i n = drew_at v i n v.columns
