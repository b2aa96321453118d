-- Slabs whose nodes are those of one list, and a key that is found in it.
use Rattle.std.proofs.Common.{◌≡◌, ◌≢◌, ℕ, suc, ◌+◌, ◌-◌, ◌≤◌, List, [], ◌∷◌, ◌++◌, length, Option, Some, None, IsSome, refl, sym, ap, ◌∙◌, subst, arith}
use Rattle.slab.specs.Slab.{Slab, get, slab_len, ContainsKey, Updates, with_value as put}
use Rattle.lb_base.specs.Room.{WithRoom}
use Rattle.lb_links.specs.declared.node.Node.{Node}
use Rattle.lb_links.specs.declared.node.Ends.{Ends}
use Rattle.lb_links.specs.Lists.{value_of, Lacks, AreDistinct, last_from, id_before, without, fronted, with_value}
use Rattle.lb_links.specs.Chains.{first_of, Linked, walk, stored, value_in, IsChain, IsHeld}
use Rattle.lb_links.proofs.Splits.{distinct_replaced, cut_at, some_is, middle_lacks_right, value_at, before_at, without_at, fronted_at, with_value_at}
use Rattle.lb_links.proofs.Chained.{first_append, last_append, node_stored, walk_is, elsewhere, at_others, linked_left, linked_right, linked_join}

pub room_less : (room room2 len len2 spare : ℕ) → room2 ≡ room → len2 ≡ len + 1 → room - len ≡ spare → room2 - len2 ≡ spare - 1
room_less room room2 len len2 spare a b c = omega arith

pub room_more : (room room2 len len2 spare : ℕ) → room2 ≡ room → len2 + 1 ≡ len → len2 + 1 ≤ room2 → room - len ≡ spare
    → room2 - len2 ≡ spare + 1
room_more room room2 len len2 spare a b c d = omega arith

pub room_same : (room room2 len len2 spare : ℕ) → room2 ≡ room → len2 ≡ len → room - len ≡ spare → room2 - len2 ≡ spare
room_same room room2 len len2 spare a b c = omega arith

pub one_less : (len2 len1 len n : ℕ) → len2 + 1 ≡ len1 → len1 ≡ len → len ≡ suc n → len2 ≡ n
one_less len2 len1 len n a b c = omega arith

module _ {X : Type 0} where
  pub items_are : (s : Slab (Node X)) (ends : Ends) (cells : List (ℕ × X)) → IsChain s ends cells
      → slab_len s ≡ length cells → walk s (slab_len s) ends.front ≡ cells
  items_are s ends cells h count =
      ap (λ n. walk s n ends.front) count ∙ ap (walk s (length cells)) h.front ∙ walk_is s None cells h.linked

  pub held_items : (s : Slab (Node X)) (ends : Ends) (h : IsHeld s ends) → walk s (slab_len s) ends.front ≡ h.cells
  held_items s ends h = items_are s ends h.cells h.chain h.count

  pub same_nodes : (s s2 : Slab (Node X)) (ends : Ends) → ((k : ℕ) → get s2 k ≡ get s k) → slab_len s2 ≡ slab_len s
      → IsHeld s ends → IsHeld s2 ends
  same_nodes s s2 ends same len h = record {
    cells = h.cells;
    chain = record {
      linked = elsewhere s s2 None (λ k _. same k) None h.cells None (λ key e. absurd (let z : ⊥ = cc in z)) h.chain.linked;
      distinct = h.chain.distinct;
      front = h.chain.front;
      back = h.chain.back;
    };
    count = len ∙ h.count;
  }

  -- a key that the list lacks may get another node
  pub chain_stays : (s s2 : Slab (Node X)) (ends : Ends) (cells : List (ℕ × X)) (key : ℕ)
      → ((k : ℕ) → k ≢ key → get s2 k ≡ get s k) → Lacks key cells → IsChain s ends cells → IsChain s2 ends cells
  chain_stays s s2 ends cells key others lacks h = record {
    linked = at_others s s2 key others None cells None lacks h.linked;
    distinct = h.distinct;
    front = h.front;
    back = h.back;
  }

  -- a key without a node is not in the list
  pub vacant_lacks : (s : Slab (Node X)) (key : ℕ) (before : Option ℕ) (cells : List (ℕ × X)) (after : Option ℕ)
      → get s key ≡ None → Linked s before cells after → Lacks key cells
  vacant_lacks s key before [] after none h = tt
  vacant_lacks s key before (n ∷ rest) after none h = (
    λ e. (let made = sym none ∙ ap (get s) (sym e) ∙ h.0 in let z : ⊥ = cc in z),
    vacant_lacks s key (Some n.0) rest after none h.1,
  )

  -- ---- a key of the list
  pub record Found (s : Slab (Node X)) (ends : Ends) (key : ℕ) (items : List (ℕ × X)) : Type 0 where
    pub value : X
    pub left : List (ℕ × X)
    pub right : List (ℕ × X)
    pub is : items ≡ left ++ (key, value) ∷ right
    pub chain : IsChain s ends (left ++ (key, value) ∷ right)
    pub count : slab_len s ≡ suc (length (left ++ right))
    pub node : get s key ≡ Some (record { value = value; before = last_from None left; after = first_of right None })
    pub lacks_left : Lacks key left
    pub lacks_right : Lacks key right

  one_more : (xs ys : List (ℕ × X)) (n : ℕ × X) → length (xs ++ n ∷ ys) ≡ suc (length (xs ++ ys))
  one_more [] ys n = refl
  one_more (m ∷ xs) ys n = ap suc (one_more xs ys n)

  pub found_at : (s : Slab (Node X)) (ends : Ends) (key : ℕ) (items : List (ℕ × X)) → IsHeld s ends
      → walk s (slab_len s) ends.front ≡ items → IsSome (value_of key items) → Found s ends key items
  found_at s ends key items h are there =
      let x = some_is (value_of key items) there in
      let cut = cut_at key items x.0 x.1 in
      let e : h.cells ≡ cut.left ++ (key, x.0) ∷ cut.right = sym (held_items s ends h) ∙ are ∙ cut.is in
      let chain = subst (λ l. IsChain s ends l) e h.chain in
      record {
        value = x.0;
        left = cut.left;
        right = cut.right;
        is = cut.is;
        chain = chain;
        count = h.count ∙ ap length e ∙ one_more cut.left cut.right (key, x.0);
        node = (linked_right s None cut.left ((key, x.0) ∷ cut.right) None chain.linked).0;
        lacks_left = cut.lacks;
        lacks_right = middle_lacks_right cut.left cut.right (key, x.0) chain.distinct;
      }

  -- another value in a node
  pub value_set : (s s2 : Slab (Node X)) (ends : Ends) (key : ℕ) (x w : X) (xs ys : List (ℕ × X)) (n : Node X)
      → get s key ≡ Some n → get s2 key ≡ Some (record n { value = w }) → ((k : ℕ) → k ≢ key → get s2 k ≡ get s k)
      → Lacks key xs → Lacks key ys → AreDistinct (xs ++ (key, w) ∷ ys) → ends.front ≡ first_of (xs ++ (key, w) ∷ ys) None
      → ends.back ≡ last_from None (xs ++ (key, w) ∷ ys) → Linked s None (xs ++ (key, x) ∷ ys) None
      → IsChain s2 ends (xs ++ (key, w) ∷ ys)
  value_set s s2 ends key x w xs ys n found changed others left right distinct front back h =
      let after = linked_right s None xs ((key, x) ∷ ys) None h in
      let made : Some n ≡ Some (record { value = x; before = last_from None xs; after = first_of ys None }) = sym found
      ∙ after.0 in
      let is : n ≡ record { value = x; before = last_from None xs; after = first_of ys None } = cc in
      record {
        linked = linked_join s2 None xs ((key, w) ∷ ys) None
            (at_others s s2 key others None xs (Some key) left (linked_left s None xs ((key, x) ∷ ys) None h)) (
              changed ∙ ap (λ (m : Node X). Some (record m { value = w })) is,
              at_others s s2 key others (Some key) ys None right after.1,
            );
        distinct = distinct;
        front = front;
        back = back;
      }

  -- ---- what the clauses say
  pub contains_found : (s : Slab (Node X)) (ends : Ends) (key : ℕ) (items : List (ℕ × X)) → Found s ends key items
      → ContainsKey s key
  contains_found s ends key items f = rw f.node refl

  pub found_value : (s : Slab (Node X)) (ends : Ends) (key : ℕ) (items : List (ℕ × X)) (n : Node X)
      → (f : Found s ends key items) → get s key ≡ Some n → value_of key items ≡ Some n.value
  found_value s ends key items n f here =
      let made = sym here ∙ f.node in
      let same : n.value ≡ f.value = cc in
      ap (value_of key) f.is ∙ value_at key f.value f.left f.right f.lacks_left ∙ ap Some (sym same)

  pub found_before : (s : Slab (Node X)) (ends : Ends) (key : ℕ) (items : List (ℕ × X)) (n : Node X)
      → (f : Found s ends key items) → get s key ≡ Some n → n.before ≡ id_before key items
  found_before s ends key items n f here =
      let made = sym here ∙ f.node in
      let same : n.before ≡ last_from None f.left = cc in
      same ∙ sym (ap (id_before key) f.is ∙ before_at None key f.value f.left f.right f.lacks_left)

  pub contains_stored : (s : Slab (Node X)) (key : ℕ) (x : X) → stored s key ≡ Some x → ContainsKey s key
  contains_stored s key x e = let n = node_stored (get s key) x e in rw n.1 refl

  -- the list and its room, as contracts see them
  pub listed : (s : Slab (Node X)) (ends : Ends) (cells items : List (ℕ × X)) (spare : ℕ) → IsChain s ends cells
      → slab_len s ≡ length cells → cells ≡ items → s.capacity - slab_len s ≡ spare
      → ◌≡◌ {A = WithRoom (ℕ × X)} (record { items = walk s (slab_len s) ends.front; spare = s.capacity - slab_len s })
      (record { items = items; spare = spare })
  listed s ends cells items spare h count e room =
      let is = items_are s ends cells h count ∙ e in λ i. record { items = is i; spare = room i }

  -- ---- a value comes first
  pub pushed : (s s1 s2 : Slab (Node X)) (ends ends2 : Ends) (key : ℕ) (value : X) → get s key ≡ None
      → Updates s s1 key (Some (record { value = value; before = None; after = None }))
      → ((cells : List (ℕ × X)) (x : X) → IsChain s1 ends cells → Lacks key cells → stored s1 key ≡ Some x
      → IsChain s2 ends2 ((key, x) ∷ cells)) → (h : IsHeld s ends) → IsChain s2 ends2 ((key, value) ∷ h.cells)
  pushed s s1 s2 ends ends2 key value none put leads h =
      let lacks = vacant_lacks s key None h.cells None none h.chain.linked in
      leads h.cells value (chain_stays s s1 ends h.cells key put.others lacks h.chain) lacks (ap value_in put.changed)

  -- ---- what the edits leave, as the definitions say it
  pub found_is : (s : Slab (Node X)) (ends : Ends) (key : ℕ) (items : List (ℕ × X)) → (f : Found s ends key items)
      → value_of key items ≡ Some f.value
  found_is s ends key items f = ap (value_of key) f.is ∙ value_at key f.value f.left f.right f.lacks_left

  pub found_without : (s : Slab (Node X)) (ends : Ends) (key : ℕ) (items : List (ℕ × X)) → (f : Found s ends key items)
      → f.left ++ f.right ≡ without key items
  found_without s ends key items f =
      sym (ap (without key) f.is ∙ without_at key f.value f.left f.right f.lacks_left f.lacks_right)

  pub found_fronted : (s : Slab (Node X)) (ends : Ends) (key : ℕ) (items : List (ℕ × X)) → (f : Found s ends key items)
      → (key, f.value) ∷ (f.left ++ f.right) ≡ fronted key items
  found_fronted s ends key items f =
      sym (ap (fronted key) f.is ∙ fronted_at key f.value f.left f.right f.lacks_left f.lacks_right)

  pub found_with : (s : Slab (Node X)) (ends : Ends) (key : ℕ) (w : X) (items : List (ℕ × X)) → (f : Found s ends key items)
      → f.left ++ (key, w) ∷ f.right ≡ with_value key w items
  found_with s ends key w items f =
      sym (ap (with_value key w) f.is ∙ with_value_at key f.value w f.left f.right f.lacks_left f.lacks_right)

  pub found_set : (s s2 : Slab (Node X)) (ends : Ends) (key : ℕ) (w : X) (items : List (ℕ × X))
      → (f : Found s ends key items) → ((n : Node X) → get s key ≡ Some n → get s2 key ≡ Some (record n { value = w }))
      → ((k : ℕ) → k ≢ key → get s2 k ≡ get s k) → IsChain s2 ends (f.left ++ (key, w) ∷ f.right)
  found_set s s2 ends key w items f changed others =
      let old = (key, f.value) ∷ f.right in
      let new = (key, w) ∷ f.right in
      value_set s s2 ends key f.value w f.left f.right _ f.node (changed _ f.node) others f.lacks_left f.lacks_right
      (distinct_replaced f.left f.right key f.value w f.chain.distinct)
      (f.chain.front ∙ first_append f.left old None ∙ sym (first_append f.left new None))
      (f.chain.back ∙ last_append None f.left old ∙ sym (last_append None f.left new)) f.chain.linked

  pub found_count : (s : Slab (Node X)) (ends : Ends) (key : ℕ) (w : X) (items : List (ℕ × X))
      → (f : Found s ends key items) → slab_len s ≡ length (f.left ++ (key, w) ∷ f.right)
  found_count s ends key w items f = f.count ∙ sym (one_more f.left f.right (key, w))
