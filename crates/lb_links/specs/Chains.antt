-- Nodes in a slab that make a list: each has the keys of its neighbours. No public contract cites this.
use Rattle.std.specs.Prelude.{◌≡◌, ◌≢◌, ℕ, zero, suc, List, [], ◌∷◌, ◌++◌, length, Option, Some, None}
use Rattle.slab.specs.Slab.{Slab, get, slab_len}
use Rattle.lb_links.specs.declared.node.Node.{Node}
use Rattle.lb_links.specs.declared.node.Ends.{Ends}
use Rattle.lb_links.specs.Lists.{last_from, AreDistinct}

module _ {X : Type 0} where
  -- the value of a node
  abbrev pub value_in : Option (Node X) → Option X
  value_in None = None
  value_in (Some n) = Some n.value

  -- the value that stands under a key
  abbrev pub stored : Slab (Node X) → ℕ → Option X
  stored s key = value_in (get s key)

  -- the first key of a list that is followed by this one
  abbrev pub first_of : List (ℕ × X) → Option ℕ → Option ℕ
  first_of [] after = after
  first_of (n ∷ rest) after = Some n.0

  -- the nodes of these keys have these values, each is the neighbour of the next, and outside of them
  -- stand the keys before and after
  abbrev pub Linked : Slab (Node X) → Option ℕ → List (ℕ × X) → Option ℕ → Type 0
  Linked s before [] after = Unit {0}
  Linked s before (n ∷ rest) after =
      (get s n.0 ≡ Some (record { value = n.1; before = before; after = first_of rest after })) × Linked s (Some n.0) rest after

  -- a node, and then the list that it leads to
  abbrev pub walked : ℕ → Option (Node X) → (Option ℕ → List (ℕ × X)) → List (ℕ × X)
  walked key None later = []
  walked key (Some n) later = (key, n.value) ∷ later n.after

  -- so many keys with their values, from one key towards the back
  abbrev pub walk : Slab (Node X) → ℕ → Option ℕ → List (ℕ × X)
  walk s zero at = []
  walk s (suc more) None = []
  walk s (suc more) (Some key) = walked key (get s key) (walk s more)

  -- the node of a key is changed, and no other
  pub record Rewrites (f : Node X → Node X) (old new : Slab (Node X)) (key : ℕ) : Type 0 where
    pub changed : (n : Node X) → get old key ≡ Some n → get new key ≡ Some (f n)
    pub others : (other : ℕ) → other ≢ key → get new other ≡ get old other
    pub stays : (other : ℕ) → stored new other ≡ stored old other
    pub len : slab_len new ≡ slab_len old
    pub capacity : new.capacity ≡ old.capacity

  -- as many nodes, with the same values
  pub record Keeps (old new : Slab (Node X)) : Type 0 where
    pub stays : (key : ℕ) → stored new key ≡ stored old key
    pub len : slab_len new ≡ slab_len old
    pub capacity : new.capacity ≡ old.capacity

  -- these keys with their values are a list from end to end
  pub record IsChain (s : Slab (Node X)) (ends : Ends) (cells : List (ℕ × X)) : Type 0 where
    pub linked : Linked s None cells None
    pub distinct : AreDistinct cells
    pub front : ends.front ≡ first_of cells None
    pub back : ends.back ≡ last_from None cells

  -- two parts of a list, with a gap between them
  pub record IsGap (s : Slab (Node X)) (ends : Ends) (before after : Option ℕ) (xs ys : List (ℕ × X)) : Type 0 where
    pub left_after : Option ℕ
    pub left : Linked s None xs left_after
    pub right_before : Option ℕ
    pub right : Linked s right_before ys None
    pub distinct : AreDistinct (xs ++ ys)
    pub is_before : before ≡ last_from None xs
    pub is_after : after ≡ first_of ys None
    pub other_front : Option ℕ
    pub front : ends.front ≡ first_of xs other_front
    pub other_back : Option ℕ
    pub back : ends.back ≡ last_from other_back ys

  -- all nodes are those of a list
  pub record IsHeld (s : Slab (Node X)) (ends : Ends) : Type 0 where
    pub cells : List (ℕ × X)
    pub chain : IsChain s ends cells
    pub count : slab_len s ≡ length cells
