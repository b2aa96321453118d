-- How a list keeps its values: by the keys of their nodes, which are found by id. No public contract
-- cites this.
use Rattle.std.specs.Prelude.{◌≡◌, ◌≤◌, ℕ, List, map}
use Rattle.lb_base.specs.Room.{WithRoom}
use Rattle.lb_links.specs.Lists.{value_of, AreDistinct}

module _ {T : Type 0} where
  -- the ids with their values, without the keys
  abbrev pub named : List (ℕ × (ℕ × T)) → List (ℕ × T)
  named cells = map (λ c. c.1) cells

  -- the ids with their keys
  abbrev pub keyed : List (ℕ × (ℕ × T)) → List (ℕ × ℕ)
  keyed cells = map (λ c. (c.1.0, c.0)) cells

  -- each id is found at its node, no id stands twice, and there is room for the spare values
  pub record IsFound (chain : WithRoom (ℕ × (ℕ × T))) (places : WithRoom (ℕ × ℕ)) (spare : ℕ) : Type 0 where
    pub found : (id : ℕ) → value_of id places.items ≡ value_of id (keyed chain.items)
    pub distinct : AreDistinct (named chain.items)
    pub nodes : spare ≤ chain.spare
    pub ids : spare ≤ places.spare
