-- What the lists of a ticket book say when it is closed: every ticket stands once, lists rise, each item fits
-- those before it on its list, and each quote names an earlier entry of its lane, with what that left. Of an
-- item they read its owner, its lane, its quote and what it leaves, and of what it leaves only which one it is.
-- Cited by the law `seat_is_below`, and `Book::close`, `Seat::draw` and others; also by `lb_cell`, `lb_cpu` and other
-- crates.
use Rattle.std.specs.Prelude.{◌≡◌, ℕ, zero, suc, ◌+◌, ◌<◌, ◌≤◌, ◌==◌, List, [], ◌∷◌, ◌++◌, length, if◌then◌else◌, Option, Some, None, ◌⊎◌, All}
use mathlib.Core.Option.{some}
use lib.ListN.{get_elem?}
use Rattle.lb_ticket.specs.declared.item.Drawn.{Drawn}

-- ---- in general
-- it stands in the list
abbrev pub Among : {A : Type 0} → A → List A → Type 0
Among x [] = ⊥
Among x (y ∷ ys) = (y ≡ x) ⊎ Among x ys

-- ---- items
-- what an item means: `fits` judges it by what its owner drew before, with the tickets
pub record Meaning (I L : Type 0) : Type 1 where
  pub owner : I → ℕ
  pub lane : I → ℕ
  pub quote : I → Option (ℕ × L)
  pub leaves : I → L
  pub fits : List (ℕ × I) → I → Type 0

-- ---- tickets
abbrev pub total : {A : Type 0} → (A → ℕ) → List A → ℕ
total f [] = 0
total f (x ∷ xs) = f x + total f xs

-- the ticket of a quote
abbrev pub ticket_of : {L : Type 0} → Option (ℕ × L) → Option ℕ
ticket_of None = None
ticket_of (Some q) = Some q.0

-- the ticket that is quoted, or 0: no entry has that one
abbrev pub quoted_by : {L : Type 0} → Option (ℕ × L) → ℕ
quoted_by None = 0
quoted_by (Some q) = q.0

-- 1 where the numbers are one, and else 0
abbrev pub same : ℕ → ℕ → ℕ
same x y = if x == y then 1 else 0

-- 1 where x is one of the numbers from 1 to n
abbrev pub once : ℕ → ℕ → ℕ
once x zero = 0
once x (suc n) = same x (suc n) + once x n

module _ {I : Type 0} where
  abbrev pub hit : ℕ → Drawn I → ℕ
  hit x d = same x d.ticket

  -- how often the ticket x stands here
  abbrev pub times : ℕ → List (Drawn I) → ℕ
  times x ds = total (hit x) ds

  -- the item d was drawn at its ticket
  abbrev pub Stands : List I → Drawn I → Type 0
  Stands log d = (k : ℕ) × (d.ticket ≡ suc k) × (get_elem? log k ≡ some d.item)

  abbrev pub AllStand : List I → List (Drawn I) → Type 0
  AllStand log [] = Unit {0}
  AllStand log (d ∷ ds) = Stands log d × AllStand log ds

  -- tickets rise, from one above b on
  abbrev pub Rises : ℕ → List (Drawn I) → Type 0
  Rises b [] = Unit {0}
  Rises b (d ∷ ds) = (b < d.ticket) × Rises d.ticket ds

  abbrev pub pair : Drawn I → ℕ × I
  pair d = (d.ticket, d.item)

  abbrev pub Has : Drawn I → List (Drawn I) → Type 0
  Has d ds = Among d ds

  -- the entry stands in one of the lists
  abbrev pub InLists : Drawn I → List (List (Drawn I)) → Type 0
  InLists d [] = ⊥
  InLists d (ds ∷ rest) = Has d ds ⊎ InLists d rest

  abbrev pub AllBelow : ℕ → List (Drawn I) → Type 0
  AllBelow n ds = All (λ d. d.ticket < n) ds

module _ {I L : Type 0} (m : Meaning I L) where
  -- each item fits those before it
  abbrev pub FitsAfter : List (ℕ × I) → List (Drawn I) → Type 0
  FitsAfter before [] = Unit {0}
  FitsAfter before (d ∷ ds) = m.fits before d.item × FitsAfter (before ++ pair d ∷ []) ds

  abbrev pub AllOwned : ℕ → List (Drawn I) → Type 0
  AllOwned owner [] = Unit {0}
  AllOwned owner (d ∷ ds) = (m.owner d.item ≡ owner) × AllOwned owner ds

  -- what holds of the list of an owner
  pub record IsOwners (owner : ℕ) (ds : List (Drawn I)) : Type 0 where
    pub rises : Rises 0 ds
    pub fits : FitsAfter [] ds
    pub owned : AllOwned owner ds

  abbrev pub quote_hit : ℕ → I → ℕ
  quote_hit x i = same x (quoted_by (m.quote i))

  -- how often the ticket x is quoted
  abbrev pub quotes_of : ℕ → List I → ℕ
  quotes_of x log = total (quote_hit x) log

  -- the quoted entry stands in the log, is of the lane, and left that
  abbrev pub QuoteFits : List I → I → Option (ℕ × L) → Type 0
  QuoteFits log i None = Unit {0}
  QuoteFits log i (Some q) =
      (j : I) × Stands log (record { ticket = q.0; item = j }) × (m.leaves j ≡ q.1) × (m.lane j ≡ m.lane i)

  -- each item of the log quotes an earlier one
  abbrev pub AllQuote : List I → List I → Type 0
  AllQuote before [] = Unit {0}
  AllQuote before (i ∷ is) = QuoteFits before i (m.quote i) × AllQuote (before ++ i ∷ []) is

  abbrev pub ListsFit : List I → ℕ → List (List (Drawn I)) → Type 0
  ListsFit log k [] = Unit {0}
  ListsFit log k (ds ∷ rest) = IsOwners k ds × AllStand log ds × ListsFit log (k + 1) rest

  -- what a closed book's lists have. The log is the items in the order of their tickets
  pub record Closes (lists : List (List (Drawn I))) : Type 0 where
    pub log : List I
    pub count : total (λ (ds : List (Drawn I)). length ds) lists ≡ length log
    pub each_once : (x : ℕ) → total (times x) lists ≡ once x (length log)
    pub lists_fit : ListsFit log 0 lists
    pub quotes : AllQuote [] log
    pub quoted_once : (x : ℕ) → 0 < x → quotes_of x log ≤ 1

  -- the quoted entry stands in the lists at a smaller ticket, is of the lane, and left that
  abbrev pub QuotesOne : List (List (Drawn I)) → Drawn I → Option (ℕ × L) → Type 0
  QuotesOne lists d None = Unit {0}
  QuotesOne lists d (Some q) =
      (e : Drawn I) × InLists e lists × (e.ticket ≡ q.0) × (e.ticket < d.ticket) × (m.leaves e.item ≡ q.1)
      × (m.lane e.item ≡ m.lane d.item)

  -- each quote names an earlier entry, and no two name the same
  pub record QuotesHold (lists : List (List (Drawn I))) : Type 0 where
    pub each : (d : Drawn I) → InLists d lists → QuotesOne lists d (m.quote d.item)
    pub apart : (d e : Drawn I) → InLists d lists → InLists e lists → 0 < quoted_by (m.quote d.item) →
        quoted_by (m.quote d.item) ≡ quoted_by (m.quote e.item) → d.ticket ≡ e.ticket
