-- A list of values, each beside its id, from front to back: what stands there, and what each call
-- leaves of it. No id stands in it twice.
use Rattle.std.specs.Prelude.{◌≢◌, ◌==◌, ℕ, not, List, [], ◌∷◌, ◌++◌, filter, map, Option, Some, None, if◌then◌else◌}

module _ {X : Type 0} where
  -- the value of an id
  abbrev pub value_of : ℕ → List (ℕ × X) → Option X
  value_of id [] = None
  value_of id (n ∷ rest) = if n.0 == id then Some n.1 else value_of id rest

  -- an id is not there
  abbrev pub Lacks : ℕ → List (ℕ × X) → Type 0
  Lacks id [] = Unit {0}
  Lacks id (n ∷ rest) = (n.0 ≢ id) × Lacks id rest

  -- no id stands there twice
  abbrev pub AreDistinct : List (ℕ × X) → Type 0
  AreDistinct [] = Unit {0}
  AreDistinct (n ∷ rest) = Lacks n.0 rest × AreDistinct rest

  -- the values of all other ids
  abbrev pub without : ℕ → List (ℕ × X) → List (ℕ × X)
  without id nodes = filter (λ n. not (n.0 == id)) nodes

  -- the value of an id first, and then all others as they stand
  abbrev pub fronted : ℕ → List (ℕ × X) → List (ℕ × X)
  fronted id nodes = filter (λ n. n.0 == id) nodes ++ without id nodes

  -- another value at an id
  abbrev pub with_value : ℕ → X → List (ℕ × X) → List (ℕ × X)
  with_value id value nodes = map (λ n. if n.0 == id then (n.0, value) else n) nodes

  -- the last id of a list that follows this one
  abbrev pub last_from : Option ℕ → List (ℕ × X) → Option ℕ
  last_from before [] = before
  last_from before (n ∷ rest) = last_from (Some n.0) rest

  -- the last id, which is the back
  abbrev pub last_id : List (ℕ × X) → Option ℕ
  last_id nodes = last_from None nodes

  -- the id just before an id, in a list that follows this one
  abbrev pub before_from : Option ℕ → ℕ → List (ℕ × X) → Option ℕ
  before_from before id [] = None
  before_from before id (n ∷ rest) = if n.0 == id then before else before_from (Some n.0) id rest

  -- the id just before an id, which is the next one towards the front
  abbrev pub id_before : ℕ → List (ℕ × X) → Option ℕ
  id_before id nodes = before_from None id nodes
