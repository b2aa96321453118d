-- The rule of the ticket word, over the views of all seats and notes. There is a log, the items in the order
-- of their tickets, and the word is one above its length. Each ticket stands in the column of one view; and it
-- is fresh with its drawer, known to one seat or note, or quoted, and only one of these. So whatever a
-- view holds stays true as the log grows.
-- For the definitions of `Bare`, and so for `draw_as`, `note_as` and others.
use Rattle.std.specs.Prelude.{◌≡◌, ℕ, ◌+◌, ◌<◌, ◌≤◌, ◌^◌, List, [], ◌∷◌, length}
use mathlib.Core.Option.{some}
use lib.ListN.{get_elem?}
use Rattle.lb_ticket.specs.declared.view.View.{View}
use Rattle.lb_ticket.specs.declared.view.Column.{Column}
use Rattle.lb_ticket.specs.Tickets.{Meaning, total, once, times, AllStand, IsOwners, AllQuote, quotes_of}

module _ {I : Type 0} where
  -- how often the ticket x stands in a column, and in columns
  abbrev pub times_in : ℕ → Column I → ℕ
  times_in x c = times x c.drawn

  abbrev pub times_all : ℕ → List (Column I) → ℕ
  times_all x cs = total (times_in x) cs

  abbrev pub size : Column I → ℕ
  size c = length c.drawn

module _ {I L : Type 0} (m : Meaning I L) where
  -- the list of an owner
  pub record FitsColumn (log : List I) (c : Column I) : Type 0 where
    pub is : IsOwners m c.owner c.drawn
    pub stand : AllStand log c.drawn
    pub short : length c.drawn < 2 ^ 40

  abbrev pub FitColumns : List I → List (Column I) → Type 0
  FitColumns log [] = Unit {0}
  FitColumns log (c ∷ cs) = FitsColumn log c × FitColumns log cs

  -- all that a view holds was drawn
  pub record FitsView (log : List I) (v : View I) : Type 0 where
    pub columns : FitColumns log v.columns
    pub fresh : AllStand log v.fresh
    pub known : AllStand log v.known
    pub read : AllStand log v.read
    pub seen : v.seen ≤ length log + 1

  -- the owners that a view stands for: those without a seat so far, and its columns
  abbrev pub shares : View I → ℕ
  shares v = v.vacant + length v.columns

  -- `few`, `owned`, `count` and `short` keep the word from wrapping
  pub record Kept (owners : ℕ) (words : List ℕ) (views : List (View I)) : Type 0 where
    pub log : List I
    pub word : words ≡ (length log + 1) ∷ []
    pub few : owners ≤ 4096
    pub owned : total shares views ≡ owners
    pub count : total (λ v. total size v.columns) views ≡ length log
    pub drawn : (x : ℕ) → total (λ v. times_all x v.columns) views ≡ once x (length log)
    pub unspent : (x : ℕ) → 0 < x →
        quotes_of m x log + total (λ v. times x v.fresh + times x v.known) views ≡ once x (length log)
    pub quotes : AllQuote m [] log
    pub views_fit : (j : ℕ) (v : View I) → get_elem? views j ≡ some v → FitsView log v
