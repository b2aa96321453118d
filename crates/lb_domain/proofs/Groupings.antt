-- How the CPUs of a span fall into groups: each CPU is in its own, the CPUs of a group have that
-- group, and it lies in the span. So the groups in ring order part the span.
-- For the lemmas of `CutSpans` and `Growing`, and so for the laws `groups_part_the_span` and `spans_grow`.
use Rattle.std.proofs.Common.{◌≡◌, ℕ, zero, suc, ◌+◌, ◌<◌, ◌≤◌, leb, ltb, Bool, true, false, ◌&&◌, ◌||◌, List, [], ◌∷◌, ◌++◌, map, Option, Some, None, refl, sym, ◌∙◌, ap, subst, arith, inl, inr}
use Rattle.std.specs.Prelude.{filter, unwrap_or}
use Rattle.std.specs.List.{range_with_len, slice_index_or, list_all, list_any}
use Rattle.std.proofs.lemmas.Bool.{cases_Bool, cases_eq, cases_lt, both_ways, and_parts, and_from, or_cases, eqb-true, eq-eqb, lt-ltb, ltb-true, lt-leb, le-leb, leb-true, false_from_ne_true}
use Rattle.std.proofs.lemmas.List.{map-append}
use Rattle.std.proofs.lemmas.List.Folds.{list_all-append, list_any-append}
use Rattle.lb_base.specs.declared.mask.Mask.{Mask}
use Rattle.lb_base.specs.Mask.{has, members, members_below, no_cpus}
use Rattle.lb_base.specs.Sets.{least, are_apart, are_disjoint}
use Rattle.lb_base.proofs.Ranges.{found_at, nothing_found}
use Rattle.lb_base.proofs.Sets.{apart_from}
use Rattle.lb_domain.specs.Domains.{is_first, firsts, groups_of}
use Rattle.lb_domain.proofs.Filters.{filter-filter}

pub record IsGrouping (group : ℕ → Mask) (span : Mask) : Type 0 where
  pub small : (k : ℕ) → has span k ≡ true → k < 64
  pub own : (k : ℕ) → has span k ≡ true → has (group k) k ≡ true
  pub same : (k j : ℕ) → has span k ≡ true → has (group k) j ≡ true → group j ≡ group k
  pub inside : (k j : ℕ) → has span k ≡ true → has (group k) j ≡ true → has span j ≡ true

-- ---- the first CPU of a group

is_least : (m : Mask) (k : ℕ) → is_first (least m) k ≡ true → least m ≡ Some k
is_least m k first = least_is (least m) first
  where
    least_is : (o : Option ℕ) → is_first o k ≡ true → o ≡ Some k
    least_is None first = absurd (cc)
    least_is (Some f) first = ap (λ (n : ℕ). Some n) (eqb-true f k first)

none_there : (m : Mask) (k : ℕ) → k < 64 → least m ≡ None → has m k ≡ false
unfolding least
none_there m k small e = nothing_found (has m) 64 e k small

is_there : (m : Mask) (f : ℕ) → least m ≡ Some f → has m f ≡ true
unfolding least
is_there m f e = (found_at (has m) 64 f e).1

least_there : (m : Mask) (k : ℕ) → k < 64 → has m k ≡ true → (f : ℕ) × (least m ≡ Some f) × (has m f ≡ true)
least_there m k small there = from_cases (least m) refl
  where
    from_cases : (o : Option ℕ) → least m ≡ o → (f : ℕ) × (least m ≡ Some f) × (has m f ≡ true)
    from_cases None e = absurd (both_ways (has m k) (none_there m k small e) there)
    from_cases (Some f) e = (f, e, is_there m f e)

-- a CPU of the span that is the first of its group
pub leads : (ℕ → Mask) → Mask → ℕ → Bool
leads group span k = has span k && is_first (least (group k)) k

-- the first CPU of a CPU's group
record IsLeader (group : ℕ → Mask) (span : Mask) (cpu f : ℕ) : Type 0 where
  least_is : least (group cpu) ≡ Some f
  same : group f ≡ group cpu
  small : f < 64
  leading : leads group span f ≡ true

leader : (group : ℕ → Mask) (span : Mask) (cpu : ℕ) → IsGrouping group span → has span cpu ≡ true
    → (f : ℕ) × IsLeader group span cpu f
unfolding leads
leader group span cpu g there =
    let at = least_there (group cpu) cpu (g.small cpu there) (g.own cpu there) in
    let f = at.0 in
    let same : group f ≡ group cpu = g.same cpu f there at.2 in
    let in_span : has span f ≡ true = g.inside cpu f there at.2 in
    let first : is_first (least (group f)) f ≡ true =
    ap (λ (m : Mask). is_first (least m) f) same ∙ ap (λ (o : Option ℕ). is_first o f) at.1 ∙ eq-eqb f f refl in
    (f, record { least_is = at.1; same = same; small = g.small f in_span; leading = and_from _ _ in_span first })

-- the groups of two leaders have no CPU in common
leaders_apart : (group : ℕ → Mask) (span : Mask) → IsGrouping group span → (i j : ℕ) → leads group span i ≡ true
    → leads group span j ≡ true → (i ≡ j → ⊥) → are_apart (group i) (group j) ≡ true
unfolding leads
leaders_apart group span g i j lead_i lead_j differ =
    let of_i = and_parts (has span i) (is_first (least (group i)) i) lead_i in
    let of_j = and_parts (has span j) (is_first (least (group j)) j) lead_j in
    apart_from (group i) (group j) (λ k small in_i. false_from_ne_true _ (λ in_j.
    let same : group i ≡ group j = sym (g.same i k of_i.0 in_i) ∙ g.same j k of_j.0 in_j in
    let e : Some i ≡ Some j = sym (is_least (group i) i of_i.1) ∙ ap least same ∙ is_least (group j) j of_j.1 in
    let level : i ≡ j = cc in
    differ level))

-- ---- lists of groups

all_mapped : (f : ℕ → Mask) (q : Mask → Bool) (p : ℕ → Bool) (a n : ℕ)
    → ((k : ℕ) → a ≤ k → k < a + n → p k ≡ true → q (f k) ≡ true) → list_all q (map f (filter p (range_with_len a n))) ≡ true
all_mapped f q p a zero each = refl
all_mapped f q p a (suc n) each =
    let rest = all_mapped f q p (a + 1) n (λ k lo hi. each k (omega (arith, lo)) (omega (arith, hi))) in
    elim (cases_Bool (p a)) [
      | inl passes ↦ rw passes (and_from _ _ (each a (omega arith) (omega arith) passes) rest)
      | inr fails ↦ rw fails rest
    ]

disjoint_mapped : (f : ℕ → Mask) (p : ℕ → Bool) (a n : ℕ)
    → ((i j : ℕ) → i < j → p i ≡ true → p j ≡ true → are_apart (f i) (f j) ≡ true)
    → are_disjoint (map f (filter p (range_with_len a n))) ≡ true
disjoint_mapped f p a zero apart = refl
disjoint_mapped f p a (suc n) apart =
    let rest = disjoint_mapped f p (a + 1) n apart in
    elim (cases_Bool (p a)) [
      | inl passes ↦ rw passes (and_from _ _
          (all_mapped f (are_apart (f a)) p (a + 1) n (λ k lo hi there. apart a k (omega (arith, lo)) passes there)) rest)
      | inr fails ↦ rw fails rest
    ]

disjoint_append : (xs ys : List Mask) → are_disjoint xs ≡ true → are_disjoint ys ≡ true
    → list_all (λ x. list_all (are_apart x) ys) xs ≡ true → are_disjoint (xs ++ ys) ≡ true
disjoint_append [] ys left right across = right
disjoint_append (x ∷ xs) ys left right across =
    let of_left = and_parts (list_all (are_apart x) xs) (are_disjoint xs) left in
    let of_across = and_parts (list_all (are_apart x) ys) (list_all (λ x. list_all (are_apart x) ys) xs) across in
    and_from _ _ (list_all-append (are_apart x) xs ys ∙ and_from _ _ of_left.0 of_across.0)
    (disjoint_append xs ys of_left.1 right of_across.1)

-- the first that passes comes first
head_mapped : (f : ℕ → Mask) (p : ℕ → Bool) (a n c : ℕ) (rest : List Mask) → a ≤ c → c < a + n → p c ≡ true
    → ((k : ℕ) → k < c → p k ≡ false) → slice_index_or (map f (filter p (range_with_len a n)) ++ rest) 0 no_cpus ≡ f c
head_mapped f p a zero c rest lo hi passes before = absurd (omega (arith, lo, hi))
head_mapped f p a (suc n) c rest lo hi passes before =
    elim (cases_eq a c) [
      | inl same ↦ rw (ap p same ∙ passes) (ap f same)
      | inr other ↦ rw (before a (omega (arith, lo, other)))
          (head_mapped f p (a + 1) n c rest (omega (arith, lo, other)) (omega (arith, hi)) passes before)
    ]

any_mapped : (f : ℕ → Mask) (q : Mask → Bool) (p : ℕ → Bool) (a n c : ℕ) → a ≤ c → c < a + n → p c ≡ true
    → q (f c) ≡ true → list_any q (map f (filter p (range_with_len a n))) ≡ true
any_mapped f q p a zero c lo hi passes there = absurd (omega (arith, lo, hi))
any_mapped f q p a (suc n) c lo hi passes there =
    elim (cases_eq a c) [
      | inl same ↦ rw (ap p same ∙ passes) (rw (ap (λ (k : ℕ). q (f k)) same ∙ there) refl)
      | inr other ↦
          let rest = any_mapped f q p (a + 1) n c (omega (arith, lo, other)) (omega (arith, hi)) passes there in
          elim (cases_Bool (p a)) [
            | inl here ↦ rw here (rw rest (or_true (q (f a))))
            | inr fails ↦ rw fails rest
          ]
    ]
  where
    or_true : (b : Bool) → (b || true) ≡ true
    or_true true = refl
    or_true false = refl

some_mapped : (f : ℕ → Mask) (q : Mask → Bool) (p : ℕ → Bool) (a n : ℕ)
    → list_any q (map f (filter p (range_with_len a n))) ≡ true → (c : ℕ) × (p c ≡ true) × (q (f c) ≡ true)
some_mapped f q p a zero any = absurd (cc)
some_mapped f q p a (suc n) any =
    elim (cases_Bool (p a)) [
      | inl here ↦ elim (cases_Bool (q (f a))) [
        | inl there ↦ (a, here, there)
        | inr absent ↦ some_mapped f q p (a + 1) n (sym (rw here (rw absent refl)) ∙ any)
      ]
      | inr fails ↦ some_mapped f q p (a + 1) n (sym (rw fails refl) ∙ any)
    ]

-- ---- the ring

-- the leaders that pass a further test
leading : (ℕ → Mask) → Mask → (ℕ → Bool) → List Mask
leading group span test = map group (filter (λ k. leads group span k && test k) (range_with_len 0 64))

ring_parts : (group : ℕ → Mask) (span : Mask) (cpu f : ℕ) → least (group cpu) ≡ Some f
    → groups_of group span cpu ≡ leading group span (leb f) ++ leading group span (λ k. ltb k f)
unfolding firsts members members_below leading leads
ring_parts group span cpu f own =
    let lead : ℕ → Bool = λ k. is_first (least (group k)) k in
    let all = range_with_len 0 64 in
    let kept : (test : ℕ → Bool) → filter test (filter lead (filter (has span) all)) ≡ filter
    (λ k. (has span k && lead k) && test k) all =
    λ test. ap (filter test) (filter-filter (has span) lead all) ∙ filter-filter (λ k. has span k && lead k) test all in
    ap (λ (o : Option ℕ). map group (filter (leb (unwrap_or o 0)) (filter lead (filter (has span) all)) ++ filter
    (λ k. ltb k (unwrap_or o 0)) (filter lead (filter (has span) all)))) own
    ∙ map-append group (filter (leb f) (filter lead (filter (has span) all)))
    (filter (λ k. ltb k f) (filter lead (filter (has span) all)))
    ∙ ap (λ (ks : List ℕ). map group ks ++ map group (filter (λ k. ltb k f) (filter lead (filter (has span) all)))) (kept (leb f))
    ∙ ap (λ (ks : List ℕ). map group (filter (λ k. (has span k && lead k) && leb f k) all) ++ map group ks) (kept (λ k. ltb k f))

same_answers : (x y : Bool) → (x ≡ true → y ≡ true) → (y ≡ true → x ≡ true) → x ≡ y
same_answers true y there back = sym (there refl)
same_answers false true there back = back refl
same_answers false false there back = refl

-- what the groups of a CPU's domain with this span keep to
pub record ArePart (group : ℕ → Mask) (span : Mask) (cpu : ℕ) (groups : List Mask) : Type 0 where
  pub own : has (slice_index_or groups 0 no_cpus) cpu ≡ true
  pub apart : are_disjoint groups ≡ true
  pub whole : (k : ℕ) → has span k ≡ list_any (λ m. has m k) groups

leads_within : (group : ℕ → Mask) (span : Mask) (k : ℕ) → leads group span k ≡ true → has span k ≡ true
unfolding leads
leads_within group span k lead = (and_parts (has span k) (is_first (least (group k)) k) lead).0

parted : (group : ℕ → Mask) (span : Mask) (cpu f : ℕ) → IsGrouping group span → has span cpu ≡ true
    → IsLeader group span cpu f → ArePart group span cpu (leading group span (leb f) ++ leading group span (λ k. ltb k f))
unfolding leading
parted group span cpu f g there at =
    let from : ℕ → Bool = λ k. leads group span k && leb f k in
    let below : ℕ → Bool = λ k. leads group span k && ltb k f in
    let later = map group (filter from (range_with_len 0 64)) in
    let earlier = map group (filter below (range_with_len 0 64)) in
    let lead : (test : ℕ → Bool) (k : ℕ) → (leads group span k && test k) ≡ true → leads group span k ≡ true =
    λ test k e. (and_parts (leads group span k) (test k) e).0 in
    record {
      own = ap (λ (m : Mask). has m cpu)
          (head_mapped group from 0 64 f earlier (omega arith) (omega (arith, at.small))
          (and_from _ _ at.leading (le-leb f f (omega arith)))
          (λ k lt. rw (lt-leb f k lt) (and_false (leads group span k)))
          ∙ at.same) ∙ g.own cpu there;
      apart = disjoint_append later earlier
          (disjoint_mapped group from 0 64
          (λ i j lt of_i of_j. leaders_apart group span g i j (lead (leb f) i of_i) (lead (leb f) j of_j)
          (λ e. absurd (omega (arith, lt, e)))))
          (disjoint_mapped group below 0 64
          (λ i j lt of_i of_j. leaders_apart group span g i j (lead (λ k. ltb k f) i of_i)
          (lead (λ k. ltb k f) j of_j) (λ e. absurd (omega (arith, lt, e)))))
          (all_mapped group (λ m. list_all (are_apart m) earlier) from 0 64 (λ i lo hi of_i.
          all_mapped group (are_apart (group i)) below 0 64 (λ j lo_j hi_j of_j.
          leaders_apart group span g i j (lead (leb f) i of_i) (lead (λ k. ltb k f) j of_j)
          (λ e. absurd (omega (
            arith,
            e,
            leb-true f i (and_parts (leads group span i) (leb f i) of_i).1,
            ltb-true j f
                (and_parts (leads group span j) (ltb j f) of_j).1,
          ))))));
      whole = λ k. same_answers _ _
          (λ in_span.
          let first = leader group span k g in_span in
          let in_group : has (group first.0) k ≡ true = ap (λ (m : Mask). has m k) first.1.same ∙ g.own k in_span in
          list_any-append (λ m. has m k) later earlier
          ∙ elim (cases_lt first.0 f) [
            | inl lt ↦ or_right _ _ (any_mapped group (λ m. has m k) below 0 64 first.0 (omega arith)
                (omega (arith, first.1.small)) (and_from _ _ first.1.leading (lt-ltb first.0 f lt)) in_group)
            | inr ge ↦ or_left _ _ (any_mapped group (λ m. has m k) from 0 64 first.0 (omega arith)
                (omega (arith, first.1.small)) (and_from _ _ first.1.leading (le-leb f first.0 ge)) in_group)
          ])
          (λ any. elim (or_cases _ _ (sym (list_any-append (λ m. has m k) later earlier) ∙ any)) [
            | inl left ↦ let in_one = some_mapped group (λ m. has m k) from 0 64 left in
                member k in_one.0 (lead (leb f) in_one.0 in_one.1) in_one.2
            | inr right ↦ let in_one = some_mapped group (λ m. has m k) below 0 64 right in
                member k in_one.0 (lead (λ k. ltb k f) in_one.0 in_one.1) in_one.2
          ]);
    }
  where
    or_left : (x y : Bool) → x ≡ true → (x || y) ≡ true
    or_left true y there = refl
    or_left false y there = absurd (cc)

    or_right : (x y : Bool) → y ≡ true → (x || y) ≡ true
    or_right true y there = refl
    or_right false y there = there

    and_false : (b : Bool) → (b && false) ≡ false
    and_false true = refl
    and_false false = refl

    member : (k c : ℕ) → leads group span c ≡ true → has (group c) k ≡ true → has span k ≡ true
    member k c leads_here in_group = g.inside c k (leads_within group span c leads_here) in_group

pub groups_part : (group : ℕ → Mask) (span : Mask) (cpu : ℕ) → IsGrouping group span → has span cpu ≡ true
    → ArePart group span cpu (groups_of group span cpu)
groups_part group span cpu g there =
    let at = leader group span cpu g there in
    subst (ArePart group span cpu) (sym (ring_parts group span cpu at.0 at.1.least_is)) (parted group span cpu at.0 g there at.1)
