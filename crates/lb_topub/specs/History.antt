-- The rule of the list of versions, and what the step that adds one tells. It serves the crate's own bodies.
-- Cited by the contracts of `Known::open`, `Known::with` and `Known::add`.
use Rattle.std.specs.Prelude.{ℕ, ◌≡◌, ◌==◌, true, List, [], ◌∷◌, ◌++◌, length, MatchBool}
use Rattle.logbook.specs.Pages.{Cell, Step, View, Book, Named}
use Rattle.lb_domain.specs.Topologies.{DomainsWithin}

-- the first word is the length of the list. A book has two words, of which this one leaves the second at 0
pub record IsKept (cells : List Cell) (log : List DomainsWithin) : Type 0 where
  pub words : cells ≡ (length log, true) ∷ (0, true) ∷ []

abbrev pub head_of : Book → Named
head_of b = record { tracked = true; key = 0; book = b }

-- the version was added to all that was known; or the list was longer, and was seen
abbrev pub Adds : Step DomainsWithin → View DomainsWithin ℕ → ℕ → View DomainsWithin ℕ → Type 0
Adds s v found w = MatchBool (found == s.old) (w.0 ≡ v.0 ++ s.ask ∷ []) (length w.0 ≡ found)
