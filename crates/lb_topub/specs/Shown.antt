-- The rule of the value that lookers look at: whose versions they are. It serves the crate's own bodies.
-- Cited by the contracts of `show`, `of`, `new_looker` and others.
use Rattle.std.specs.Prelude.{ℕ, ◌≡◌, List, Option, Some, IfSome}
use mathlib.Core.Option.{some}
use lib.ListN.{get_elem?}
use Rattle.logbook.specs.Pages.{Book}
use Rattle.lb_topub.specs.Versions.{VersionsSeen}

-- what a holder knows, if it knows it, is of this book
abbrev pub MayKnow : Book → Option VersionsSeen → Type 0
MayKnow b v = IfSome v (λ k. k.book ≡ b)

-- it knows
abbrev pub Knows : Book → Option VersionsSeen → Type 0
Knows b v = (k : VersionsSeen) × (v ≡ Some k) × (k.book ≡ b)

abbrev pub AllOf : Book → List (Option VersionsSeen) → Type 0
AllOf b views = (by : ℕ) (v : Option VersionsSeen) → get_elem? views by ≡ some v → MayKnow b v

-- the view v becomes w at a value that shows y
abbrev pub finds : Option VersionsSeen → VersionsSeen → Option VersionsSeen → Type 0
finds v y w = (w ≡ Some y) × MayKnow y.book v
