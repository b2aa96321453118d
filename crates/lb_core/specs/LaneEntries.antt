-- What a list of entries says of one lane: its next entry, those that come before and after that, and
-- what the lane said last.
-- For the definitions of `Passes` and `Replies`, and so for the laws `permitted` and `replies`.
use Rattle.std.specs.Prelude.{ℕ, ◌==◌, if◌then◌else◌, Option, Some, None, List, [], ◌∷◌}
use Rattle.lb_base.specs.declared.shape.Kind.{Kind}
use Rattle.lb_core.specs.declared.entry.What.{What}
use Rattle.lb_core.specs.declared.entry.What.TheVariants.{Row, Adopt}
use Rattle.lb_core.specs.declared.entry.Entry.{Entry}

-- ---- what comes
-- the next entry of a lane
abbrev pub next_of : ℕ → List Entry → Option Entry
next_of lane [] = None
next_of lane (e ∷ es) = if e.lane == lane then Some e else next_of lane es

-- the entries before the next one of a lane
abbrev pub until : ℕ → List Entry → List Entry
until lane [] = []
until lane (e ∷ es) = if e.lane == lane then [] else e ∷ until lane es

-- the entries after the next one of a lane
abbrev pub beyond : ℕ → List Entry → List Entry
beyond lane [] = []
beyond lane (e ∷ es) = if e.lane == lane then es else beyond lane es

-- ---- what was said last
-- the last of what entries of a lane say, where `earlier` was said before them
abbrev pub last_said : {A : Type 0} → (What → A → A) → ℕ → A → List Entry → A
last_said says lane earlier [] = earlier
last_said says lane earlier (e ∷ es) = last_said says lane (if e.lane == lane then says e.what earlier else earlier) es

abbrev pub row_or : What → ℕ × ℕ → ℕ × ℕ
row_or (Row n at command) earlier = (n, at)
row_or w earlier = earlier

-- the number and the moment of the last row of a lane, or 0
abbrev pub last_row : ℕ → List Entry → ℕ × ℕ
last_row lane es = last_said row_or lane (0, 0) es

-- what a `use` takes up
pub record Use : Type 0 where
  pub version : ℕ
  pub kind : Kind
  pub cpu : ℕ

abbrev pub use_or : What → Option Use → Option Use
use_or (Adopt v kind cpu) earlier = Some (record { version = v; kind = kind; cpu = cpu })
use_or w earlier = earlier

-- the last `use` of a lane, if there is one
abbrev pub last_use : ℕ → List Entry → Option Use
last_use lane es = last_said use_or lane None es
