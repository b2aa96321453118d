-- Nodes that are linked, as the links change.
use Rattle.std.proofs.Common.{◌≡◌, ◌≢◌, ℕ, List, [], ◌∷◌, ◌++◌, length, Option, Some, None, refl, sym, ap, ◌∙◌, subst}
use Rattle.slab.specs.Slab.{Slab, get}
use Rattle.lb_links.specs.declared.node.Node.{Node}
use Rattle.lb_links.specs.declared.node.Ends.{Ends}
use Rattle.lb_links.specs.Lists.{Lacks, AreDistinct, last_from}
use Rattle.lb_links.specs.Chains.{first_of, Linked, walk, walked, stored, value_in, Rewrites, IsGap, IsChain}
use Rattle.lb_links.proofs.Splits.{distinct_closed, middle_lacks_left}

module _ {X : Type 0} where
  pub first_append : (xs ys : List (ℕ × X)) (after : Option ℕ) → first_of (xs ++ ys) after ≡ first_of xs (first_of ys after)
  first_append [] ys after = refl
  first_append (n ∷ xs) ys after = refl

  pub last_append : (before : Option ℕ) (xs ys : List (ℕ × X)) → last_from before (xs ++ ys) ≡ last_from (last_from before xs) ys
  last_append before [] ys = refl
  last_append before (n ∷ xs) ys = last_append (Some n.0) xs ys

  -- what the walk along the links finds
  pub walk_is : (s : Slab (Node X)) (before : Option ℕ) (cells : List (ℕ × X)) → Linked s before cells None
      → walk s (length cells) (first_of cells None) ≡ cells
  walk_is s before [] h = refl
  walk_is s before (n ∷ rest) h =
      ap (λ o. walked n.0 o (walk s (length rest))) h.0 ∙ ap (λ l. n ∷ l) (walk_is s (Some n.0) rest h.1)

  pub linked_left : (s : Slab (Node X)) (before : Option ℕ) (xs ys : List (ℕ × X)) (after : Option ℕ)
      → Linked s before (xs ++ ys) after → Linked s before xs (first_of ys after)
  linked_left s before [] ys after h = tt
  linked_left s before (n ∷ xs) ys after h = (
    h.0 ∙ ap (λ q. Some (record { value = n.1; before = before; after = q })) (first_append xs ys after),
    linked_left s (Some n.0) xs ys after h.1,
  )

  pub linked_right : (s : Slab (Node X)) (before : Option ℕ) (xs ys : List (ℕ × X)) (after : Option ℕ)
      → Linked s before (xs ++ ys) after → Linked s (last_from before xs) ys after
  linked_right s before [] ys after h = h
  linked_right s before (n ∷ xs) ys after h = linked_right s (Some n.0) xs ys after h.1

  pub linked_join : (s : Slab (Node X)) (before : Option ℕ) (xs ys : List (ℕ × X)) (after : Option ℕ)
      → Linked s before xs (first_of ys after) → Linked s (last_from before xs) ys after → Linked s before (xs ++ ys) after
  linked_join s before [] ys after h k = k
  linked_join s before (n ∷ xs) ys after h k = (
    h.0 ∙ ap (λ q. Some (record { value = n.1; before = before; after = q })) (sym (first_append xs ys after)),
    linked_join s (Some n.0) xs ys after h.1 k,
  )

  -- ---- changes elsewhere
  pub elsewhere : (s s2 : Slab (Node X)) (at : Option ℕ) → ((k : ℕ) → at ≢ Some k → get s2 k ≡ get s k)
      → (before : Option ℕ) (cells : List (ℕ × X)) (after : Option ℕ) → ((key : ℕ) → at ≡ Some key → Lacks key cells)
      → Linked s before cells after → Linked s2 before cells after
  elsewhere s s2 at others before [] after lacks h = tt
  elsewhere s s2 at others before (n ∷ rest) after lacks h = (
    others n.0 (λ e. (lacks n.0 e).0 refl) ∙ h.0,
    elsewhere s s2 at others (Some n.0) rest after (λ key e. (lacks key e).1) h.1,
  )

  pub at_others : (s s2 : Slab (Node X)) (key : ℕ) → ((k : ℕ) → k ≢ key → get s2 k ≡ get s k)
      → (before : Option ℕ) (cells : List (ℕ × X)) (after : Option ℕ) → Lacks key cells → Linked s before cells after
      → Linked s2 before cells after
  at_others s s2 key others before [] after lacks h = tt
  at_others s s2 key others before (n ∷ rest) after lacks h =
      (others n.0 lacks.0 ∙ h.0, at_others s s2 key others (Some n.0) rest after lacks.1 h.1)

  -- ---- the last node gets another neighbour
  pub last_differs : (id key : ℕ) (m : ℕ × X) (rest : List (ℕ × X)) → last_from (Some m.0) rest ≡ Some key
      → Lacks id (m ∷ rest) → id ≢ key
  last_differs id key m [] e lacks = λ same. lacks.0 (let k : m.0 ≡ key = cc in k ∙ sym same)
  last_differs id key m (k ∷ rest) e lacks = last_differs id key k rest e lacks.1

  pub some_last : (k : ℕ) (rest : List (ℕ × X)) → None ≡ last_from (Some k) rest → ⊥
  some_last k [] e = let z : ⊥ = cc in z
  some_last k (n ∷ rest) e = some_last n.0 rest e

  relink_after : (s s2 : Slab (Node X)) (key : ℕ) (after : Option ℕ) → Rewrites (λ n. record n { after = after }) s s2 key
      → (before : Option ℕ) (n : ℕ × X) (rest : List (ℕ × X)) (other : Option ℕ) → last_from (Some n.0) rest ≡ Some key
      → AreDistinct (n ∷ rest) → Linked s before (n ∷ rest) other → Linked s2 before (n ∷ rest) after
  relink_after s s2 key after w before n [] other e distinct h =
      let k : n.0 ≡ key = cc in
      (ap (get s2) k ∙ w.changed (record { value = n.1; before = before; after = other }) (ap (get s) (sym k) ∙ h.0), tt)
  relink_after s s2 key after w before n (m ∷ rest) other e distinct h = (
    w.others n.0 (last_differs n.0 key m rest e distinct.0) ∙ h.0,
    relink_after s s2 key after w (Some n.0) m rest other e distinct.1 h.1,
  )

  pub left_at_node : (s s2 : Slab (Node X)) (key : ℕ) (after front : Option ℕ)
      → Rewrites (λ n. record n { after = after }) s s2 key → (xs : List (ℕ × X)) (a0 a1 : Option ℕ)
      → Some key ≡ last_from None xs → Linked s None xs a0 → AreDistinct xs → front ≡ first_of xs a1
      → Linked s2 None xs after × (front ≡ first_of xs after)
  left_at_node s s2 key after front w [] a0 a1 e h distinct f = absurd (let z : ⊥ = cc in z)
  left_at_node s s2 key after front w (n ∷ rest) a0 a1 e h distinct f =
      (relink_after s s2 key after w None n rest a0 (sym e) distinct h, f)

  pub left_at_end : (s : Slab (Node X)) (after : Option ℕ) (xs : List (ℕ × X)) → None ≡ last_from None xs
      → Linked s None xs after × (after ≡ first_of xs after)
  left_at_end s after [] e = (tt, refl)
  left_at_end s after (n ∷ rest) e = absurd (some_last n.0 rest e)

  -- ---- the first node gets another neighbour
  pub right_at_node : (s s2 : Slab (Node X)) (key : ℕ) (before back : Option ℕ)
      → Rewrites (λ n. record n { before = before }) s s2 key → (ys : List (ℕ × X)) (b0 b1 : Option ℕ)
      → Some key ≡ first_of ys None → Linked s b0 ys None → AreDistinct ys → back ≡ last_from b1 ys
      → Linked s2 before ys None × (back ≡ last_from before ys)
  right_at_node s s2 key before back w [] b0 b1 e h distinct f = absurd (let z : ⊥ = cc in z)
  right_at_node s s2 key before back w (n ∷ rest) b0 b1 e h distinct f =
      let k : n.0 ≡ key = cc in (
        (
          ap (get s2) k ∙ w.changed (record { value = n.1; before = b0; after = first_of rest None }) (ap (get s) (sym k) ∙ h.0),
          at_others s s2 key w.others (Some n.0) rest None (subst (λ (q : ℕ). Lacks q rest) k distinct.0) h.1,
        ),
        f,
      )

  pub right_at_end : (s : Slab (Node X)) (before : Option ℕ) (ys : List (ℕ × X)) → None ≡ first_of ys None
      → Linked s before ys None × (before ≡ last_from before ys)
  right_at_end s before [] e = (tt, refl)
  right_at_end s before (n ∷ rest) e = absurd (let z : ⊥ = cc in z)

  -- ---- two parts become one
  left_lacks_first : (xs ys : List (ℕ × X)) → AreDistinct (xs ++ ys) → (key : ℕ) → first_of ys None ≡ Some key → Lacks key xs
  left_lacks_first xs [] distinct key e = absurd (let z : ⊥ = cc in z)
  left_lacks_first xs (n ∷ ys) distinct key e =
      let k : n.0 ≡ key = cc in subst (λ (q : ℕ). Lacks q xs) k (middle_lacks_left xs ys n distinct)

  last_of_some : (n : ℕ × X) (xs ys : List (ℕ × X)) → AreDistinct (n ∷ (xs ++ ys)) → (key : ℕ)
      → last_from (Some n.0) xs ≡ Some key → Lacks key ys
  last_of_some n [] ys distinct key e = let k : n.0 ≡ key = cc in subst (λ (q : ℕ). Lacks q ys) k distinct.0
  last_of_some n (m ∷ xs) ys distinct key e = last_of_some m xs ys distinct.1 key e

  right_lacks_last : (xs ys : List (ℕ × X)) → AreDistinct (xs ++ ys) → (key : ℕ) → last_from None xs ≡ Some key → Lacks key ys
  right_lacks_last [] ys distinct key e = absurd (let z : ⊥ = cc in z)
  right_lacks_last (n ∷ xs) ys distinct key e = last_of_some n xs ys distinct key e

  -- what the first step leaves of the right part
  pub right_stays : (s s1 : Slab (Node X)) (before : Option ℕ) (xs ys : List (ℕ × X)) (b0 : Option ℕ)
      → ((k : ℕ) → before ≢ Some k → get s1 k ≡ get s k) → AreDistinct (xs ++ ys) → before ≡ last_from None xs
      → Linked s b0 ys None → Linked s1 b0 ys None
  right_stays s s1 before xs ys b0 others distinct is h =
      elsewhere s s1 before others b0 ys None (λ key e. right_lacks_last xs ys distinct key (sym is ∙ e)) h

  -- what both steps make of the two parts
  pub closed : (s1 s2 : Slab (Node X)) (e2 : Ends) (before after : Option ℕ) (xs ys : List (ℕ × X))
      → ((k : ℕ) → after ≢ Some k → get s2 k ≡ get s1 k) → AreDistinct (xs ++ ys) → before ≡ last_from None xs
      → after ≡ first_of ys None → Linked s1 None xs after → e2.front ≡ first_of xs after → Linked s2 before ys None
      → e2.back ≡ last_from before ys → IsChain s2 e2 (xs ++ ys)
  closed s1 s2 e2 before after xs ys others distinct is_before is_after left front right back =
      let kept = elsewhere s1 s2 after others None xs after
      (λ key e. left_lacks_first xs ys distinct key (sym is_after ∙ e)) left in
      record {
        linked = linked_join s2 None xs ys None (subst (λ (q : Option ℕ). Linked s2 None xs q) is_after kept)
            (subst (λ (q : Option ℕ). Linked s2 q ys None) is_before right);
        distinct = distinct;
        front = front ∙ ap (first_of xs) is_after ∙ sym (first_append xs ys None);
        back = back ∙ ap (λ q. last_from q ys) is_before ∙ sym (last_append None xs ys);
      }

  -- ---- a node leaves, and a node comes first
  pub gap_of : (s : Slab (Node X)) (ends : Ends) (key : ℕ) (x : X) (n : Node X) (xs ys : List (ℕ × X)) → get s key ≡ Some n
      → IsChain s ends (xs ++ (key, x) ∷ ys) → IsGap s ends n.before n.after xs ys
  gap_of s ends key x n xs ys found h =
      let right = linked_right s None xs ((key, x) ∷ ys) None h.linked in
      let made : Some n ≡ Some (record { value = x; before = last_from None xs; after = first_of ys None }) = sym found
      ∙ right.0 in
      let is : n ≡ record { value = x; before = last_from None xs; after = first_of ys None } = cc in
      record {
        left_after = Some key;
        left = linked_left s None xs ((key, x) ∷ ys) None h.linked;
        right_before = Some key;
        right = right.1;
        distinct = distinct_closed xs ys (key, x) h.distinct;
        is_before = ap (λ m. m.before) is;
        is_after = ap (λ m. m.after) is;
        other_front = Some key;
        front = h.front ∙ first_append xs ((key, x) ∷ ys) None;
        other_back = Some key;
        back = h.back ∙ last_append None xs ((key, x) ∷ ys);
      }

  pub not_missing : (s : Slab (Node X)) (ends : Ends) (key : ℕ) (x : X) (xs ys : List (ℕ × X)) → get s key ≡ None
      → IsChain s ends (xs ++ (key, x) ∷ ys) → ⊥
  not_missing s ends key x xs ys none h =
      let right = linked_right s None xs ((key, x) ∷ ys) None h.linked in
      let made = sym none ∙ right.0 in let z : ⊥ = cc in z

  pub node_stored : (o : Option (Node X)) (x : X) → value_in o ≡ Some x → (n : Node X) × (o ≡ Some n) × (n.value ≡ x)
  node_stored None x e = absurd (let z : ⊥ = cc in z)
  node_stored (Some n) x e = (n, refl, (let k : n.value ≡ x = cc in k))

  pub gap_before : (s s1 : Slab (Node X)) (old ends : Ends) (key : ℕ) (x : X) (cells : List (ℕ × X))
      → Rewrites (λ n. record n { before = None }) s s1 key → ends.front ≡ Some key → ends.back ≡ old.back
      → IsChain s old cells → Lacks key cells → stored s key ≡ Some x → IsGap s1 ends (Some key) old.front ((key, x) ∷ []) cells
  gap_before s s1 old ends key x cells w front back h lacks value =
      let node = node_stored (get s key) x value in
      record {
        left_after = node.0.after;
        left = (w.changed node.0 node.1 ∙ ap (λ v. Some (record { value = v; before = None; after = node.0.after })) node.2, tt);
        right_before = None;
        right = at_others s s1 key w.others None cells None lacks h.linked;
        distinct = (lacks, h.distinct);
        is_before = refl;
        is_after = h.front;
        other_front = None;
        front = front;
        other_back = None;
        back = back ∙ h.back;
      }
