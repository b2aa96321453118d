-- Why a machine has few levels: in a table without a fault, the distance from a node to another is
-- at most the greater of two that lead there. So the nodes fall into classes that are within a
-- distance of one another, and each level above the nodes joins some of them.
-- For the law `levels_are_few`, and `Machine::levels`.
use Rattle.std.proofs.Common.{◌≡◌, ℕ, zero, suc, ◌+◌, ◌<◌, ◌≤◌, max, eqb, leb, ltb, Bool, true, false, ◌&&◌, ◌||◌, not, List, [], ◌∷◌, length, take, get_or, None, refl, sym, ◌∙◌, ap, arith, inl, inr}
use Rattle.std.specs.Prelude.{filter}
use Rattle.std.specs.List.{range_with_len, list_all, list_any}
use Rattle.std.proofs.lemmas.Bool.{cases_Bool, cases_eq, cases_lt, cases_order, both_ways, and_parts, or_cases, or_parts, and_cases, not-true, not-false, ltb-true, ltb-false, leb-true, leb-false, le-leb, lt-ltb, eqb-true, eqb-false, eq-eqb, false_from_ne_true}
use Rattle.std.proofs.lemmas.List.Folds.{list_any_at, Any-from_list_any}
use Rattle.std.proofs.lemmas.List.Sums.{length-filter, count_by-le-length}
use Rattle.std.proofs.lemmas.List.FromFn.{length-range_with_len}
use Rattle.std.proofs.lemmas.List.{get_or_default, length-map}
use Rattle.lb_base.proofs.Ranges.{all_at, all_of, nothing_found, find-filter, one_passes}
use Rattle.lb_base.specs.declared.shape.LevelName.TheVariants.{Numa}
use Rattle.lb_levels.specs.declared.cpu_row.CpuRow.{CpuRow}
use Rattle.lb_levels.specs.declared.limits.TheConstants.{MAX_LEVELS}
use Rattle.lb_levels.specs.Rows.{nodes_in_range, distances_at, distance, own_distance, is_entry, distances_of, is_within, is_inside, is_apart, are_nested, is_nested_at, first_not_nested, is_bad_entry, is_bad_distance, IsSquare}
use Rattle.lb_levels.specs.Faults.{nodes_of, first_bad_row, fault_of}
use Rattle.lb_levels.specs.Spans.{is_far, levels_of}
use Rattle.lb_levels.proofs.Tables.{bad_row_is}
use Rattle.lb_levels.proofs.FaultOrder.{good, fits_length, fits_square}
use Rattle.lb_levels.proofs.Nodes.{some_nodes, few_nodes}

-- what the distances of a machine keep
pub record IsMetric (table : List (List ℕ)) : Type 0 where
  pub own : (a : ℕ) → a < length table → distance table a a ≡ own_distance table
  pub other : (a b : ℕ) → a < length table → b < length table → (a ≡ b → ⊥) → own_distance table < distance table a b
  pub both : (a b : ℕ) → a < length table → b < length table → distance table a b ≡ distance table b a
  pub through : (a b c : ℕ) → a < length table → b < length table → c < length table → distance table a b < 256
      → distance table b c < 256 → distance table a c ≤ max (distance table a b) (distance table b c)

-- ---- from row to row

record IsGoodEntry (table : List (List ℕ)) (a b : ℕ) : Type 0 where
  same : b ≡ a → distance table a a ≡ own_distance table
  greater : (b ≡ a → ⊥) → own_distance table < distance table a b
  back : b < a → distance table a b ≡ distance table b a

good_entry : (table : List (List ℕ)) (a b : ℕ) → is_bad_entry table a b ≡ false → IsGoodEntry table a b
good_entry table a b fine =
    let outer = or_parts _ _ fine in
    let inner = or_parts _ _ outer.0 in
    record {
      same = λ e. elim (and_cases _ _ inner.0) [
        | inl no_same ↦ absurd (eqb-false b a no_same e)
        | inr level ↦ eqb-true _ _ (not-false _ level)
      ];
      greater = λ e. elim (and_cases _ _ inner.1) [
        | inl no_other ↦ absurd (e (eqb-true b a (not-false _ no_other)))
        | inr above ↦ leb-false _ _ above
      ];
      back = λ lt. elim (and_cases _ _ outer.1) [
        | inl no_before ↦ absurd (both_ways (ltb b a) no_before (lt-ltb b a lt))
        | inr level ↦ eqb-true _ _ (not-false _ level)
      ];
    }

entries : (table : List (List ℕ)) → IsSquare table → first_bad_row table ≡ None → (a b : ℕ) → a < length table
    → b < length table → IsGoodEntry table a b
unfolding first_bad_row
entries table square fine a b in_a in_b =
    let row : list_any (is_bad_entry table a) (range_with_len 0 (length table)) ≡ false =
    sym (bad_row_is table a square in_a)
    ∙ nothing_found (λ a. is_bad_distance (take a table) (distances_at table a)) (length table) fine a in_a in
    good_entry table a b (false_from_ne_true _
    (λ bad. both_ways _ row (sym (one_passes (is_bad_entry table a) (length table) b in_b bad))))

symmetric : (table : List (List ℕ)) → ((a b : ℕ) → a < length table → b < length table → IsGoodEntry table a b)
    → (a b : ℕ) → a < length table → b < length table → distance table a b ≡ distance table b a
symmetric table fine a b in_a in_b =
    elim (cases_order a b) [
      | inl same ↦ ap (λ (x : ℕ). distance table x b) same ∙ ap (λ (x : ℕ). distance table b x) (sym same)
      | inr other ↦ elim other [
        | inl before ↦ sym ((fine b a in_b in_a).back before)
        | inr after ↦ (fine a b in_a in_b).back after
      ]
    ]

-- ---- through a third node

entry_there : (table : List (List ℕ)) (a b : ℕ) → a < length table → b < length (distances_at table a)
    → is_entry table (distance table a b) ≡ true
entry_there table a b in_a in_b =
    let none : List ℕ = [] in
    list_any_at (λ row. list_any (λ e. eqb e (distance table a b)) row) table a none in_a
    (list_any_at (λ e. eqb e (distance table a b)) (distances_at table a) b 0 in_b
    (eq-eqb (distance table a b) (distance table a b) refl))

nested_at : (table : List (List ℕ)) → first_not_nested table ≡ None → (d : ℕ) → d < 256 → is_entry table d ≡ true
    → is_nested_at table d ≡ true
unfolding first_not_nested distances_of
nested_at table fine d small there =
    let all = nothing_found (λ d. is_entry table d && not (is_nested_at table d)) 256
    (sym (find-filter (is_entry table) (λ d. not (is_nested_at table d)) (range_with_len 0 256)) ∙ fine) d small in
    elim (and_cases _ _ all) [
      | inl absent ↦ absurd (both_ways _ absent there)
      | inr nested ↦ not-false _ nested
    ]

pair_nested : (table : List (List ℕ)) (d a b : ℕ) → is_nested_at table d ≡ true → a < length table → b < length table
    → are_nested table d a b ≡ true
unfolding is_nested_at
pair_nested table d a b nested in_a in_b =
    all_at (are_nested table d a) 0 (length table)
    (all_at (λ a. list_all (are_nested table d a) (range_with_len 0 (length table))) 0 (length table) nested a
    (omega arith) (omega (arith, in_a)))
    b (omega arith) (omega (arith, in_b))

reached : (table : List (List ℕ)) (d a b c : ℕ) → are_nested table d a b ≡ true → b < length table → c < length table
    → distance table a b ≤ d → distance table b b ≤ d → distance table b c ≤ d → distance table a c ≤ d
unfolding is_inside is_apart
reached table d a b c nested in_b in_c ab bb bc =
    elim (or_cases (is_inside table d a b && is_inside table d b a) (is_apart table d a b) nested) [
      | inl same ↦
          let inside = all_at (λ k. not (is_within table d b k) || is_within table d a k) 0 (length table)
          (and_parts (is_inside table d a b) (is_inside table d b a) same).1 c (omega arith) (omega (arith, in_c)) in
          elim (or_cases (not (is_within table d b c)) (is_within table d a c) inside) [
            | inl out ↦ absurd (both_ways (is_within table d b c) (not-true _ out) (le-leb _ _ bc))
            | inr within ↦ leb-true _ _ within
          ]
      | inr apart ↦
          let out = all_at (λ k. not (is_within table d a k && is_within table d b k)) 0 (length table) apart b
          (omega arith) (omega (arith, in_b)) in
          elim (and_cases (is_within table d a b) (is_within table d b b) (not-true _ out)) [
            | inl not_a ↦ absurd (both_ways _ not_a (le-leb _ _ ab))
            | inr not_b ↦ absurd (both_ways _ not_b (le-leb _ _ bb))
          ]
    ]

pub metric : (cpus : List CpuRow) (table : List (List ℕ)) → 0 < length cpus → fault_of cpus table ≡ None → IsMetric table
metric cpus table some fine =
    let none = good cpus table fine in
    let square = fits_square (nodes_of cpus) table (some_nodes cpus some) none.fits in
    let each = entries table square none.good_rows in
    let least : (a b : ℕ) → a < length table → b < length table → own_distance table ≤ distance table a b =
    λ a b in_a in_b. elim (cases_eq b a) [
      | inl same ↦ let e : distance table a b ≡ own_distance table =
          ap (distance table a) same ∙ (each a b in_a in_b).same same in omega (arith, e)
      | inr other ↦ omega (arith, (each a b in_a in_b).greater other)
    ] in
    let meets : (d a b c : ℕ) → d < 256 → is_entry table d ≡ true → a < length table → b < length table
    → c < length table → distance table a b ≤ d → distance table b c ≤ d → distance table a c ≤ d =
    λ d a b c small there in_a in_b in_c ab bc.
    reached table d a b c (pair_nested table d a b (nested_at table none.nested d small there) in_a in_b) in_b in_c ab
    (omega (arith, (each b b in_b in_b).same refl, least a b in_a in_b, ab)) bc in
    record {
      own = λ a in_a. (each a a in_a in_a).same refl;
      other = λ a b in_a in_b differ. (each a b in_a in_b).greater (λ e. differ (sym e));
      both = symmetric table each;
      through = λ a b c in_a in_b in_c small_ab small_bc. elim (cases_lt (distance table a b) (distance table b c)) [
        | inl lt ↦ omega (
          arith,
          meets (distance table b c) a b c small_bc
              (entry_there table b c in_b (omega (arith, square b in_b, in_c))) in_a in_b in_c (omega (arith, lt)) (omega arith),
        )
        | inr ge ↦ omega (
          arith,
          meets (distance table a b) a b c small_ab
              (entry_there table a b in_a (omega (arith, square a in_a, in_b))) in_a in_b in_c (omega arith) ge,
        )
      ];
    }

-- ---- the first nodes of the classes

-- node x is the first of the nodes that are nearer to one another than d
leads : List (List ℕ) → ℕ → ℕ → Bool
leads table d x = list_all (λ y. leb d (distance table x y)) (range_with_len 0 x)

leaders : List (List ℕ) → ℕ → List ℕ
leaders table d = filter (leads table d) (range_with_len 0 (length table))

leads_from : (table : List (List ℕ)) (d x : ℕ) → ((y : ℕ) → y < x → d ≤ distance table x y) → leads table d x ≡ true
unfolding leads
leads_from table d x far = all_of (λ y. leb d (distance table x y)) 0 x (λ y lo hi. le-leb _ _ (far y (omega (arith, hi))))

leads_at : (table : List (List ℕ)) (d x : ℕ) → leads table d x ≡ true → (y : ℕ) → y < x → d ≤ distance table x y
unfolding leads
leads_at table d x leads y lt = leb-true _ _
    (all_at (λ y. leb d (distance table x y)) 0 x leads y (omega arith) (omega (arith, lt)))

leads_still : (table : List (List ℕ)) (d x : ℕ) → leads table (d + 1) x ≡ true → leads table d x ≡ true
leads_still table d x leads = leads_from table d x (λ y lt. omega (arith, leads_at table (d + 1) x leads y lt))

no_more : (p q : ℕ → Bool) (a n : ℕ) → ((k : ℕ) → q k ≡ true → p k ≡ true)
    → length (filter q (range_with_len a n)) ≤ length (filter p (range_with_len a n))
no_more p q a zero inside = omega arith
no_more p q a (suc n) inside =
    let rest = no_more p q (a + 1) n inside in
    elim (cases_Bool (q a)) [
      | inl yes_q ↦ rw (yes_q, inside a yes_q) (omega (arith, rest))
      | inr no_q ↦ rw no_q (elim (cases_Bool (p a)) [ inl yes_p ↦ rw yes_p (omega (arith, rest)) | inr no_p ↦ rw no_p rest ])
    ]

fewer : (p q : ℕ → Bool) (a n k : ℕ) → ((k : ℕ) → q k ≡ true → p k ≡ true) → a ≤ k → k < a + n → p k ≡ true
    → q k ≡ false → length (filter q (range_with_len a n)) < length (filter p (range_with_len a n))
fewer p q a zero k inside lo hi yes_p no_q = absurd (omega (arith, lo, hi))
fewer p q a (suc n) k inside lo hi yes_p no_q =
    elim (cases_eq a k) [
      | inl same ↦ rw (ap q same ∙ no_q, ap p same ∙ yes_p) (omega (arith, no_more p q (a + 1) n inside))
      | inr other ↦
          let rest = fewer p q (a + 1) n k inside (omega (arith, lo, other)) (omega (arith, hi)) yes_p no_q in
          elim (cases_Bool (q a)) [
            | inl in_q ↦ rw (in_q, inside a in_q) (omega (arith, rest))
            | inr no_a ↦ rw no_a (elim (cases_Bool (p a))
                [ inl yes_a ↦ rw yes_a (omega (arith, rest)) | inr no_p ↦ rw no_p rest ])
          ]
    ]

-- the least number that passes, where n does
least_below : (p : ℕ → Bool) (m a n : ℕ) → a + m ≡ n → p n ≡ true → ((k : ℕ) → k < a → p k ≡ false)
    → (l : ℕ) × (l ≤ n) × (p l ≡ true) × ((k : ℕ) → k < l → p k ≡ false)
least_below p zero a n e here before = let same : a ≡ n = omega (arith, e) in
    (n, omega arith, here, λ k lt. before k (omega (arith, lt, same)))
least_below p (suc m) a n e here before =
    elim (cases_Bool (p a)) [
      | inl passes ↦ (a, omega (arith, e), passes, before)
      | inr fails ↦ least_below p m (a + 1) n (omega (arith, e)) here
          (λ k lt. elim (cases_eq k a) [ inl same ↦ ap p same ∙ fails | inr other ↦ before k (omega (arith, lt, other)) ])
    ]

-- l is the first node that is nearer to x than d
record IsLeader (table : List (List ℕ)) (d x l : ℕ) : Type 0 where
  within : l ≤ x
  near : distance table x l < d
  first : (y : ℕ) → y < l → d ≤ distance table x y

leader : (table : List (List ℕ)) (d x : ℕ) → distance table x x < d → (l : ℕ) × IsLeader table d x l
leader table d x self =
    let at = least_below (λ y. ltb (distance table x y) d) x zero x (omega arith) (lt-ltb _ _ self)
    (λ k lt. absurd (omega (arith, lt))) in (
      at.0,
      record {
        within = at.1;
        near = ltb-true _ _ at.2;
        first = λ y lt. ltb-false _ _ (at.3 y lt);
      },
    )

-- it leads its class
leader_leads : (table : List (List ℕ)) → IsMetric table → (d x l : ℕ) → d < 256 → x < length table
    → IsLeader table d x l → leads table d l ≡ true
leader_leads table m d x l small in_x at =
    leads_from table d l (λ y lt. elim (cases_lt (distance table l y) d) [
      | inl near ↦
          let xy = m.through x l y in_x (omega (arith, in_x, at.within)) (omega (arith, in_x, at.within, lt))
          (omega (arith, at.near, small)) (omega (arith, near, small)) in
          absurd (omega (arith, xy, at.near, near, at.first y lt))
      | inr far ↦ far
    ])

-- where two nodes are at distance d, the later of their leaders does not lead at d + 1
later_leader : (table : List (List ℕ)) → IsMetric table → (d x y k l : ℕ) → d < 256 → x < length table
    → y < length table → distance table x y ≡ d → IsLeader table d x k → IsLeader table d y l → k < l
    → leads table (d + 1) l ≡ false
later_leader table m d x y k l small in_x in_y apart at_k at_l before =
    let in_k : k < length table = omega (arith, in_x, at_k.within) in
    let in_l : l < length table = omega (arith, in_y, at_l.within) in
    let kx : distance table k x < d = omega (arith, m.both k x in_k in_x, at_k.near) in
    let ky : distance table k y ≤ d = omega
    (arith, m.through k x y in_k in_x in_y (omega (arith, kx, small)) (omega (arith, apart, small)), kx, apart) in
    let kl : distance table k l ≤ d = omega
    (arith, m.through k y l in_k in_y in_l (omega (arith, ky, small)) (omega (arith, at_l.near, small)), ky, at_l.near) in
    let lk : distance table l k ≤ d = omega (arith, m.both l k in_l in_k, kl) in
    false_from_ne_true _ (λ leads. absurd (omega (arith, leads_at table (d + 1) l leads k before, lk)))

-- a distance at which some nodes are joins classes
joins : (table : List (List ℕ)) → IsMetric table → (d x y : ℕ) → d < 256 → own_distance table < d → x < length table
    → y < length table → distance table x y ≡ d → length (leaders table (d + 1)) < length (leaders table d)
unfolding leaders
joins table m d x y small above in_x in_y apart =
    let at_x = leader table d x (omega (arith, m.own x in_x, above)) in
    let at_y = leader table d y (omega (arith, m.own y in_y, above)) in
    let k = at_x.0 in
    let l = at_y.0 in
    let in_k : k < length table = omega (arith, in_x, at_x.1.within) in
    let in_l : l < length table = omega (arith, in_y, at_y.1.within) in
    elim (cases_order k l) [
      | inl same ↦
          let yk : distance table y k < d = omega (arith, ap (distance table y) same, at_y.1.near) in
          let ky : distance table k y < d = omega (arith, m.both k y in_k in_y, yk) in
          let xy = m.through x k y in_x in_k in_y (omega (arith, at_x.1.near, small)) (omega (arith, ky, small)) in
          absurd (omega (arith, xy, at_x.1.near, ky, apart))
      | inr other ↦ elim other [
        | inl before ↦ fewer (leads table d) (leads table (d + 1)) 0 (length table) l (leads_still table d)
            (omega arith) (omega (arith, in_l))
            (leader_leads table m d y l small in_y at_y.1)
            (later_leader table m d x y k l small in_x in_y apart at_x.1 at_y.1 before)
        | inr after ↦ fewer (leads table d) (leads table (d + 1)) 0 (length table) k (leads_still table d)
            (omega arith) (omega (arith, in_k))
            (leader_leads table m d x k small in_x at_x.1)
            (later_leader table m d y x l k small in_y in_x (m.both y x in_y in_x ∙ apart) at_y.1 at_x.1 after)
      ]
    ]

-- ---- the levels above the nodes

-- nodes at a distance that the table has
record IsEntry (table : List (List ℕ)) (d : ℕ) : Type 0 where
  from : ℕ
  to : ℕ
  in_from : from < length table
  in_to : to < length (distances_at table from)
  is : distance table from to ≡ d

entry_of : (table : List (List ℕ)) (d : ℕ) → is_entry table d ≡ true → IsEntry table d
entry_of table d there =
    let none : List ℕ = [] in
    let row = Any-from_list_any (λ row. list_any (λ e. eqb e d) row) table there in
    let row_is : distances_at table row.0 ≡ row.1 = get_or_default table row.0 none row.1 row.2 ∙ row.3 in
    let at = Any-from_list_any (λ e. eqb e d) row.1 row.4 in
    record {
      from = row.0;
      to = at.0;
      in_from = row.2;
      in_to = omega (arith, ap length row_is, at.2);
      is = ap (λ (r : List ℕ). get_or r at.0 0) row_is ∙ get_or_default row.1 at.0 0 at.1 at.2 ∙ at.3 ∙ eqb-true _ _ at.4;
    }

far_from : (table : List (List ℕ)) → IsSquare table → IsMetric table → (m a : ℕ) → a + m ≤ 256
    → length (filter (is_far table) (range_with_len a m)) + length (leaders table (a + m)) ≤ length (leaders table a)
unfolding leaders
far_from table square metric zero a fits = ap_le
    (let e : a + zero ≡ a = omega arith in ap (λ (d : ℕ). length (leaders table d)) e)
  where
    ap_le : {x y : ℕ} → x ≡ y → 0 + x ≤ y
    ap_le e = omega (arith, e)
far_from table square metric (suc m) a fits =
    let rest = far_from table square metric m (a + 1) (omega (arith, fits)) in
    let same : length (leaders table ((a + 1) + m)) ≡ length (leaders table (a + suc m)) =
    let e : (a + 1) + m ≡ a + suc m = omega arith in ap (λ (d : ℕ). length (leaders table d)) e in
    let fall : length (leaders table (a + 1)) ≤ length (leaders table a) =
    no_more (leads table a) (leads table (a + 1)) 0 (length table) (leads_still table a) in
    elim (cases_Bool (is_far table a)) [
      | inl far ↦
          let both = and_parts _ _ far in
          let at = entry_of table a both.1 in
          let strict = joins table metric a at.from at.to (omega (arith, fits)) (ltb-true _ _ both.0) at.in_from
          (omega (arith, at.in_to, square at.from at.in_from)) at.is in
          rw far (omega (arith, rest, same, strict))
      | inr not_far ↦ rw not_far (omega (arith, rest, same, fall))
    ]

few_leaders : (table : List (List ℕ)) (d : ℕ) → length (leaders table d) ≤ length table
unfolding leaders
few_leaders table d = omega (
  arith,
  length-filter (leads table d)
      (range_with_len 0 (length table)),
  count_by-le-length (leads table d)
      (range_with_len 0 (length table)),
  length-range_with_len 0 (length table),
)

a_leader : (table : List (List ℕ)) (d : ℕ) → 0 < length table → 0 < length (leaders table d)
unfolding leaders leads
a_leader [] d some = absurd (omega (arith, some))
a_leader (row ∷ rows) d some = omega arith

-- at most one level for each node but the first
pub few_far : (cpus : List CpuRow) (table : List (List ℕ)) → 0 < length cpus → fault_of cpus table ≡ None
    → length (filter (is_far table) (range_with_len 0 256)) + 1 ≤ length table
few_far cpus table some fine =
    let none = good cpus table fine in
    let nodes = some_nodes cpus some in
    let whole = fits_length (nodes_of cpus) table nodes none.fits in
    omega (
      arith,
      far_from table (fits_square (nodes_of cpus) table nodes none.fits)
          (metric cpus table some fine) 256 0 (omega arith),
      few_leaders table 0,
      a_leader table 256 (omega (arith, whole, nodes)),
    )

pub few_levels : (cpus : List CpuRow) (table : List (List ℕ)) → 0 < length cpus → fault_of cpus table ≡ None
    → length (levels_of table) ≤ length table + 2
unfolding levels_of
few_levels cpus table some fine =
    omega (arith, few_far cpus table some fine, length-map (filter (is_far table) (range_with_len 0 256)) (λ d. Numa d))

pub most_levels : (cpus : List CpuRow) (table : List (List ℕ)) → 0 < length cpus → fault_of cpus table ≡ None
    → nodes_in_range cpus ≡ true → length (levels_of table) ≤ MAX_LEVELS
most_levels cpus table some fine nodes =
    omega (
      arith,
      few_levels cpus table some fine,
      few_nodes cpus nodes,
      fits_length (nodes_of cpus) table
          (some_nodes cpus some) (good cpus table fine).fits,
    )
