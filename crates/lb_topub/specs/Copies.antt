-- What the two copies show once they have taken in what is pending. It serves the crate's own bodies.
-- Cited by the contracts of `turn` and `settle`.
use Rattle.std.specs.Prelude.{List, fold}
use Rattle.lb_topub.specs.Versions.{VersionsSeen}
use Rattle.lb_topub.specs.declared.shown.Shown.{Shown}

-- the last of these, or what is shown now where there is none
abbrev pub last_of : VersionsSeen → List Shown → VersionsSeen
last_of now pending = fold (λ _ next. next.known) now pending
