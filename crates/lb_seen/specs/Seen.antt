-- The rule of a shared value that stands for a list which only grows. One holder writes the list and has seen all of
-- it; each other holder has seen a beginning, and may have been told a longer one. Said of lists of any items A and
-- of values of any type T, by what it is for a value to stand for a list (`ends`).
-- What contracts see of the type `Telling`; cited by `lb_board`.
use Rattle.std.specs.Prelude.{◌≡◌, ℕ, true, false, List, [], ◌∷◌, ◌++◌}
use mathlib.Core.List.{IsPrefix}
use mathlib.Core.Option.{some}
use lib.ListN.{get_elem?}
use Rattle.lb_seen.specs.declared.view.View.{View}

module _ {A : Type 0} where
  -- ---- views
  abbrev pub reader : List A → View A
  reader xs = record { writes = false; seen = xs; told = [] }

  abbrev pub writer : List A → View A
  writer xs = record { writes = true; seen = xs; told = [] }

  -- what w has seen is told to v, which takes it in as it looks next
  abbrev pub informed : View A → View A → View A
  informed v w = record { writes = v.writes; seen = v.seen; told = w.seen }

  -- ---- the rule
  -- what holder number `by` knows of the list, which holder number `seat` writes
  abbrev pub Fits : ℕ → List A → ℕ → View A → Type 0
  Fits seat log by v = IsPrefix v.seen log × IsPrefix v.told log × (v.writes ≡ true → (by ≡ seat) × (v.seen ≡ log))

  -- the value x stands for a list that all views fit
  abbrev pub Kept : {T : Type 0} → (T → List A → Type 0) → T → List (View A) → Type 0
  Kept ends x views = (seat : ℕ) × (log : List A) × ends x log
      × ((by : ℕ) (v : View A) → get_elem? views by ≡ some v → Fits seat log by v)

  -- ---- steps: from the view v and the value x to the value y and the view w
  -- a look finds a value that stands for all that is seen now: not less than was seen or told
  abbrev pub Looks : {T : Type 0} → (T → List A → Type 0) → View A → T → T → View A → Type 0
  Looks ends v x y w = (w.writes ≡ v.writes) × IsPrefix v.seen w.seen × IsPrefix v.told w.seen × ends y w.seen
      × (v.writes ≡ true → w.seen ≡ v.seen)

  -- the writer adds an item to all that there was
  abbrev pub Adds : {T : Type 0} → (T → A) → View A → T → T → View A → Type 0
  Adds item v x y w = w ≡ writer (v.seen ++ item y ∷ [])
