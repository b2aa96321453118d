-- What the CPUs of a machine without a fault share: at each level a relation that parts them, and
-- more from level to level.
-- For the law `spans_part_and_grow`.
use Rattle.std.proofs.Common.{◌≡◌, ℕ, zero, suc, ◌+◌, ◌<◌, ◌≤◌, ltb, Bool, true, false, ◌&&◌, List, [], ◌∷◌, length, map, take, get_or, None, refl, sym, ◌∙◌, ap, subst, arith, inl, inr}
use Rattle.std.specs.Prelude.{filter}
use Rattle.std.specs.List.{range_with_len}
use Rattle.std.proofs.lemmas.Bool.{cases_Bool, cases_order, both_ways, and_parts, and_from, and_cases, or_parts, not-false, leb-true, le-leb, lt-ltb, ltb-true, eqb-true, eqb-false, eq-eqb, false_from_ne_true}
use Rattle.std.proofs.lemmas.List.{get_or-take, get_or-map, length-map, length-take-le}
use Rattle.std.proofs.lemmas.List.Folds.{list_any_at}
use Rattle.std.proofs.lemmas.List.FromFn.{get_or-range_with_len, length-range_with_len}
use Rattle.std.proofs.lemmas.List.Kept.{AllPairs-filter}
use Rattle.lb_base.specs.declared.shape.LevelName.{LevelName}
use Rattle.lb_base.specs.declared.shape.LevelName.TheVariants.{Smt, Mc, Pkg, Numa}
use Rattle.lb_base.specs.Mask.{has, IsSubset}
use Rattle.lb_base.proofs.Members.{same_mask}
use Rattle.lb_base.proofs.Sets.{mask_where_has}
use Rattle.lb_levels.specs.declared.cpu_row.CpuRow.{CpuRow}
use Rattle.lb_levels.specs.Rows.{row_at, no_row, clashes, cpu_clashes, distance, own_distance}
use Rattle.lb_levels.specs.Faults.{first_clash, fault_of}
use Rattle.lb_levels.specs.Spans.{is_far, levels_of, level_at, shares, span_of}
use Rattle.lb_base.proofs.Ranges.{nothing_found}
use Rattle.lb_levels.proofs.FaultOrder.{good, fits_nodes}
use Rattle.lb_levels.proofs.Depth.{IsMetric, metric}

-- ---- cores within caches, caches within nodes

record IsBuilt (cpus : List CpuRow) : Type 0 where
  cores : (a b : ℕ) → a < length cpus → b < length cpus → (row_at cpus a).core ≡ (row_at cpus b).core
      → (row_at cpus a).cache ≡ (row_at cpus b).cache
  caches : (a b : ℕ) → a < length cpus → b < length cpus → (row_at cpus a).cache ≡ (row_at cpus b).cache
      → (row_at cpus a).node ≡ (row_at cpus b).node

no_clash : (cpus : List CpuRow) → first_clash cpus ≡ None → (a b : ℕ) → a < b → b < length cpus
    → clashes (row_at cpus a) (row_at cpus b) ≡ false
unfolding first_clash cpu_clashes
no_clash cpus fine a b lt in_b =
    let row = nothing_found (λ k. cpu_clashes (take k cpus) (row_at cpus k)) (length cpus) fine b in_b in
    let in_front : a < length (take b cpus) = omega (arith, lt, length-take-le b cpus (omega (arith, in_b))) in
    let same : get_or (take b cpus) a no_row ≡ row_at cpus a = get_or-take b cpus a no_row lt in
    false_from_ne_true _ (λ clash.
    both_ways _ row (list_any_at (λ other. clashes other (row_at cpus b)) (take b cpus) a no_row in_front
    (ap (λ (r : CpuRow). clashes r (row_at cpus b)) same ∙ clash)))

apart_cores : (a b : CpuRow) → clashes a b ≡ false → a.core ≡ b.core → a.cache ≡ b.cache
apart_cores a b fine same =
    elim (and_cases _ _ (or_parts _ _ fine).0) [
      | inl other ↦ absurd (eqb-false _ _ other same)
      | inr both ↦ eqb-true _ _ (and_parts _ _ (not-false _ both)).0
    ]

apart_caches : (a b : CpuRow) → clashes a b ≡ false → a.cache ≡ b.cache → a.node ≡ b.node
apart_caches a b fine same =
    elim (and_cases _ _ (or_parts _ _ fine).1) [
      | inl other ↦ absurd (eqb-false _ _ other same)
      | inr both ↦ eqb-true _ _ (not-false _ both)
    ]

built : (cpus : List CpuRow) → first_clash cpus ≡ None → IsBuilt cpus
built cpus fine = record {
  cores = λ a b in_a in_b same. elim (cases_order a b) [
    | inl e ↦ ap (λ (k : ℕ). (row_at cpus k).cache) e
    | inr other ↦ elim other [
      | inl before ↦ apart_cores (row_at cpus a) (row_at cpus b) (no_clash cpus fine a b before in_b) same
      | inr after ↦ sym (apart_cores (row_at cpus b) (row_at cpus a) (no_clash cpus fine b a after in_a) (sym same))
    ]
  ];
  caches = λ a b in_a in_b same. elim (cases_order a b) [
    | inl e ↦ ap (λ (k : ℕ). (row_at cpus k).node) e
    | inr other ↦ elim other [
      | inl before ↦ apart_caches (row_at cpus a) (row_at cpus b) (no_clash cpus fine a b before in_b) same
      | inr after ↦ sym (apart_caches (row_at cpus b) (row_at cpus a) (no_clash cpus fine b a after in_a) (sym same))
    ]
  ];
}

-- ---- the distance of a level

filter_passes : (p : ℕ → Bool) (xs : List ℕ) (i d : ℕ) → i < length (filter p xs) → p (get_or (filter p xs) i d) ≡ true
filter_passes p [] i d lt = absurd (omega (arith, lt))
filter_passes p (x ∷ xs) i d lt =
    elim (cases_Bool (p x)) [
      | inl passes ↦ rw passes (at_cons passes (λ k. filter_passes p xs k d) i (rw passes at lt))
      | inr fails ↦ rw fails (filter_passes p xs i d (rw fails at lt))
    ]
  where
    at_cons : p x ≡ true → ((k : ℕ) → k < length (filter p xs) → p (get_or (filter p xs) k d) ≡ true) → (i : ℕ)
        → i < length (x ∷ filter p xs) → p (get_or (x ∷ filter p xs) i d) ≡ true
    at_cons passes rest zero lt = passes
    at_cons passes rest (suc i) lt = rest i (omega (arith, lt))

filter_below : (p : ℕ → Bool) (a n i d : ℕ) → i < length (filter p (range_with_len a n))
    → get_or (filter p (range_with_len a n)) i d < a + n
filter_below p a zero i d lt = absurd (omega (arith, lt))
filter_below p a (suc n) i d lt =
    elim (cases_Bool (p a)) [
      | inl passes ↦ rw passes (at_cons (λ k. filter_below p (a + 1) n k d) i (rw passes at lt))
      | inr fails ↦ rw fails (omega (arith, filter_below p (a + 1) n i d (rw fails at lt)))
    ]
  where
    at_cons : ((k : ℕ) → k < length (filter p (range_with_len (a + 1) n))
        → get_or (filter p (range_with_len (a + 1) n)) k d < a + 1 + n) → (i : ℕ)
        → i < length (a ∷ filter p (range_with_len (a + 1) n)) → get_or (a ∷ filter p (range_with_len (a + 1) n)) i d < a + suc n
    at_cons rest zero lt = omega arith
    at_cons rest (suc i) lt = omega (arith, rest i (omega (arith, lt)))

-- the distances above the least, rising
far : List (List ℕ) → List ℕ
far table = filter (is_far table) (range_with_len 0 256)

far_rise : (table : List (List ℕ)) (i j : ℕ) → i < j → j < length (far table) → get_or (far table) i 0 < get_or (far table) j 0
unfolding far
far_rise table i j lt within =
    AllPairs-filter (λ (a b : ℕ). a < b) (is_far table) (range_with_len 0 256)
    (λ i j d before in_range.
    let end : j < 256 = omega (arith, in_range, length-range_with_len 0 256) in
    omega (arith, get_or-range_with_len 0 256 i d (omega (arith, before, end)), get_or-range_with_len 0 256 j d end, before))
    i j 0 lt within

-- a level that a machine may have
abbrev pub IsLevel : List (List ℕ) → LevelName → Type 0
IsLevel table Smt = Unit {0}
IsLevel table Mc = Unit {0}
IsLevel table Pkg = Unit {0}
IsLevel table (Numa d) = (own_distance table < d) × (d < 256)

levels_are : (table : List (List ℕ)) → levels_of table ≡ Smt ∷ Mc ∷ Pkg ∷ map (λ d. Numa d) (far table)
unfolding levels_of far
levels_are table = refl

level_of : (table : List (List ℕ)) (i : ℕ) → level_at table i ≡ get_or (Smt ∷ Mc ∷ Pkg ∷ map (λ d. Numa d) (far table)) i Smt
level_of table i = ap (λ (ls : List LevelName). get_or ls i Smt) (levels_are table)

far_length : (table : List (List ℕ)) → length (levels_of table) ≡ 3 + length (far table)
far_length table = ap length (levels_are table) ∙ omega (arith, length-map (far table) (λ d. Numa d))

numa_at : (table : List (List ℕ)) (i : ℕ) → i < length (far table) → level_at table (suc (suc (suc i))) ≡ Numa
    (get_or (far table) i 0)
numa_at table i lt = level_of table (suc (suc (suc i))) ∙ get_or-map (λ d. Numa d) (far table) i 0 Smt lt

far_is : (table : List (List ℕ)) (i : ℕ) → i < length (far table) → IsLevel table (Numa (get_or (far table) i 0))
unfolding far
far_is table i lt =
    let passes = and_parts _ _ (filter_passes (is_far table) (range_with_len 0 256) i 0 lt) in
    (ltb-true _ _ passes.0, filter_below (is_far table) 0 256 i 0 lt)

pub level_is : (table : List (List ℕ)) (i : ℕ) → i < length (levels_of table) → IsLevel table (level_at table i)
level_is table zero lt = subst (IsLevel table) (sym (level_of table zero)) tt
level_is table (suc zero) lt = subst (IsLevel table) (sym (level_of table (suc zero))) tt
level_is table (suc (suc zero)) lt = subst (IsLevel table) (sym (level_of table (suc (suc zero)))) tt
level_is table (suc (suc (suc i))) lt =
    let within : i < length (far table) = omega (arith, lt, far_length table) in
    subst (IsLevel table) (sym (numa_at table i within)) (far_is table i within)

-- ---- what CPUs share

-- the facts of a machine that sharing rests on
record IsSound (cpus : List CpuRow) (table : List (List ℕ)) : Type 0 where
  built : IsBuilt cpus
  metric : IsMetric table
  nodes : (k : ℕ) → k < length cpus → (row_at cpus k).node < length table

sound : (cpus : List CpuRow) (table : List (List ℕ)) → 0 < length cpus → fault_of cpus table ≡ None → IsSound cpus table
sound cpus table some fine =
    let none = good cpus table fine in
    record {
      built = built cpus none.no_clash;
      metric = metric cpus table some fine;
      nodes = fits_nodes cpus table some
          none.fits;
    }

shares_self : (cpus : List CpuRow) (table : List (List ℕ)) → IsSound cpus table → (level : LevelName)
    → IsLevel table level → (a : ℕ) → a < length cpus → shares table level (row_at cpus a) (row_at cpus a) ≡ true
shares_self cpus table s Smt is a in_a = eq-eqb _ _ refl
shares_self cpus table s Mc is a in_a = eq-eqb _ _ refl
shares_self cpus table s Pkg is a in_a = eq-eqb _ _ refl
shares_self cpus table s (Numa d) is a in_a = le-leb _ _ (omega (arith, s.metric.own (row_at cpus a).node (s.nodes a in_a), is.0))

shares_back : (cpus : List CpuRow) (table : List (List ℕ)) → IsSound cpus table → (level : LevelName) → (a b : ℕ)
    → a < length cpus → b < length cpus → shares table level (row_at cpus a) (row_at cpus b) ≡ true
    → shares table level (row_at cpus b) (row_at cpus a) ≡ true
shares_back cpus table s Smt a b in_a in_b ab = eq-eqb _ _ (sym (eqb-true _ _ ab))
shares_back cpus table s Mc a b in_a in_b ab = eq-eqb _ _ (sym (eqb-true _ _ ab))
shares_back cpus table s Pkg a b in_a in_b ab = eq-eqb _ _ (sym (eqb-true _ _ ab))
shares_back cpus table s (Numa d) a b in_a in_b ab =
    le-leb _ _ (omega (
      arith,
      s.metric.both (row_at cpus b).node (row_at cpus a).node (s.nodes b in_b) (s.nodes a in_a),
      leb-true _ _ ab,
    ))

shares_chain : (cpus : List CpuRow) (table : List (List ℕ)) → IsSound cpus table → (level : LevelName)
    → IsLevel table level → (a b k : ℕ) → a < length cpus → b < length cpus → k < length cpus
    → shares table level (row_at cpus a) (row_at cpus b) ≡ true
    → shares table level (row_at cpus b) (row_at cpus k) ≡ true → shares table level (row_at cpus a) (row_at cpus k) ≡ true
shares_chain cpus table s Smt is a b k in_a in_b in_k ab bk = eq-eqb _ _ (eqb-true _ _ ab ∙ eqb-true _ _ bk)
shares_chain cpus table s Mc is a b k in_a in_b in_k ab bk = eq-eqb _ _ (eqb-true _ _ ab ∙ eqb-true _ _ bk)
shares_chain cpus table s Pkg is a b k in_a in_b in_k ab bk = eq-eqb _ _ (eqb-true _ _ ab ∙ eqb-true _ _ bk)
shares_chain cpus table s (Numa d) is a b k in_a in_b in_k ab bk =
    let near : distance table (row_at cpus a).node (row_at cpus b).node ≤ d = leb-true _ _ ab in
    let next : distance table (row_at cpus b).node (row_at cpus k).node ≤ d = leb-true _ _ bk in
    le-leb _ _ (omega (
      arith,
      near,
      next,
      s.metric.through (row_at cpus a).node (row_at cpus b).node
          (row_at cpus k).node (s.nodes a in_a) (s.nodes b in_b) (s.nodes k in_k) (omega (arith, near, is.1))
          (omega (arith, next, is.1)),
    ))

node_within : (cpus : List CpuRow) (table : List (List ℕ)) → IsSound cpus table → (d a b : ℕ) → own_distance table < d
    → a < length cpus → b < length cpus → (row_at cpus a).node ≡ (row_at cpus b).node
    → shares table (Numa d) (row_at cpus a) (row_at cpus b) ≡ true
node_within cpus table s d a b above in_a in_b same =
    le-leb _ _ (omega (
      arith,
      s.metric.own (row_at cpus a).node (s.nodes a in_a),
      ap
          (distance table (row_at cpus a).node) same,
      above,
    ))

-- the CPUs a and b share what the level stands for
abbrev Sharing : List CpuRow → List (List ℕ) → ℕ → ℕ → LevelName → Type 0
Sharing cpus table a b level = shares table level (row_at cpus a) (row_at cpus b) ≡ true

-- the levels, with the distances apart
abbrev known : List (List ℕ) → ℕ → LevelName
known table i = get_or (Smt ∷ Mc ∷ Pkg ∷ map (λ d. Numa d) (far table)) i Smt

-- CPUs of one node share each level above the nodes
share_above : (cpus : List CpuRow) (table : List (List ℕ)) → IsSound cpus table → (a b j : ℕ) → a < length cpus
    → b < length cpus → (row_at cpus a).node ≡ (row_at cpus b).node → j < length (far table)
    → Sharing cpus table a b (known table (suc (suc (suc j))))
share_above cpus table s a b j in_a in_b same within =
    subst (Sharing cpus table a b) (sym (get_or-map (λ d. Numa d) (far table) j 0 Smt within))
    (node_within cpus table s (get_or (far table) j 0) a b (far_is table j within).0 in_a in_b same)

core_node : (cpus : List CpuRow) → IsBuilt cpus → (a b : ℕ) → a < length cpus → b < length cpus
    → (row_at cpus a).core ≡ (row_at cpus b).core → (row_at cpus a).node ≡ (row_at cpus b).node
core_node cpus m a b in_a in_b same = m.caches a b in_a in_b (m.cores a b in_a in_b same)

-- what CPUs share at one level they share at the next but one, and so on
known_more : (cpus : List CpuRow) (table : List (List ℕ)) → IsSound cpus table → (a b : ℕ) → a < length cpus
    → b < length cpus → (lower upper : ℕ) → lower < upper → upper < 3 + length (far table)
    → Sharing cpus table a b (known table lower) → Sharing cpus table a b (known table upper)
known_more cpus table s a b in_a in_b zero zero lt in_levels ab = absurd (omega (arith, lt))
known_more cpus table s a b in_a in_b zero (suc zero) lt in_levels ab = eq-eqb _ _ (s.built.cores a b in_a in_b (eqb-true _ _ ab))
known_more cpus table s a b in_a in_b zero (suc (suc zero)) lt in_levels ab =
    eq-eqb _ _ (core_node cpus s.built a b in_a in_b (eqb-true _ _ ab))
known_more cpus table s a b in_a in_b zero (suc (suc (suc j))) lt in_levels ab =
    share_above cpus table s a b j in_a in_b (core_node cpus s.built a b in_a in_b (eqb-true _ _ ab)) (omega (arith, in_levels))
known_more cpus table s a b in_a in_b (suc zero) zero lt in_levels ab = absurd (omega (arith, lt))
known_more cpus table s a b in_a in_b (suc zero) (suc zero) lt in_levels ab = absurd (omega (arith, lt))
known_more cpus table s a b in_a in_b (suc zero) (suc (suc zero)) lt in_levels ab =
    eq-eqb _ _ (s.built.caches a b in_a in_b (eqb-true _ _ ab))
known_more cpus table s a b in_a in_b (suc zero) (suc (suc (suc j))) lt in_levels ab =
    share_above cpus table s a b j in_a in_b (s.built.caches a b in_a in_b (eqb-true _ _ ab)) (omega (arith, in_levels))
known_more cpus table s a b in_a in_b (suc (suc zero)) zero lt in_levels ab = absurd (omega (arith, lt))
known_more cpus table s a b in_a in_b (suc (suc zero)) (suc zero) lt in_levels ab = absurd (omega (arith, lt))
known_more cpus table s a b in_a in_b (suc (suc zero)) (suc (suc zero)) lt in_levels ab = absurd (omega (arith, lt))
known_more cpus table s a b in_a in_b (suc (suc zero)) (suc (suc (suc j))) lt in_levels ab =
    share_above cpus table s a b j in_a in_b (eqb-true _ _ ab) (omega (arith, in_levels))
known_more cpus table s a b in_a in_b (suc (suc (suc i))) zero lt in_levels ab = absurd (omega (arith, lt))
known_more cpus table s a b in_a in_b (suc (suc (suc i))) (suc zero) lt in_levels ab = absurd (omega (arith, lt))
known_more cpus table s a b in_a in_b (suc (suc (suc i))) (suc (suc zero)) lt in_levels ab = absurd (omega (arith, lt))
known_more cpus table s a b in_a in_b (suc (suc (suc i))) (suc (suc (suc j))) lt in_levels ab =
    let within : j < length (far table) = omega (arith, in_levels) in
    let lower : i < length (far table) = omega (arith, within, lt) in
    let near : distance table (row_at cpus a).node (row_at cpus b).node ≤ get_or (far table) i 0 =
    leb-true _ _ (subst (Sharing cpus table a b) (get_or-map (λ d. Numa d) (far table) i 0 Smt lower) ab) in
    subst (Sharing cpus table a b) (sym (get_or-map (λ d. Numa d) (far table) j 0 Smt within))
    (le-leb _ _ (omega (arith, near, far_rise table i j (omega (arith, lt)) within)))

shares_more : (cpus : List CpuRow) (table : List (List ℕ)) → IsSound cpus table → (lower upper : ℕ) → lower < upper
    → upper < length (levels_of table) → (a b : ℕ) → a < length cpus → b < length cpus
    → Sharing cpus table a b (level_at table lower) → Sharing cpus table a b (level_at table upper)
shares_more cpus table s lower upper lt in_levels a b in_a in_b ab =
    subst (Sharing cpus table a b) (sym (level_of table upper))
    (known_more cpus table s a b in_a in_b lower upper lt (omega (arith, in_levels, far_length table))
    (subst (Sharing cpus table a b) (level_of table lower) ab))

-- ---- spans

pub in_span_from : (cpus : List CpuRow) (table : List (List ℕ)) (level : LevelName) (cpu k : ℕ) → length cpus ≤ 64
    → k < length cpus → shares table level (row_at cpus cpu) (row_at cpus k) ≡ true → has (span_of cpus table level cpu) k ≡ true
unfolding span_of
in_span_from cpus table level cpu k few in_k together =
    mask_where_has (λ k. ltb k (length cpus) && shares table level (row_at cpus cpu) (row_at cpus k)) k
    ∙ and_from _ _ (lt-ltb k 64 (omega (arith, in_k, few))) (and_from _ _ (lt-ltb k (length cpus) in_k) together)

pub in_span_to : (cpus : List CpuRow) (table : List (List ℕ)) (level : LevelName) (cpu k : ℕ)
    → has (span_of cpus table level cpu) k ≡ true
    → (k < length cpus) × (shares table level (row_at cpus cpu) (row_at cpus k) ≡ true)
unfolding span_of
in_span_to cpus table level cpu k there =
    let parts = and_parts _ _ (and_parts _ _
    (sym (mask_where_has (λ k. ltb k (length cpus) && shares table level (row_at cpus cpu) (row_at cpus k)) k) ∙ there)).1 in
    (ltb-true _ _ parts.0, parts.1)

pub span_own : (cpus : List CpuRow) (table : List (List ℕ)) → 0 < length cpus → length cpus ≤ 64
    → fault_of cpus table ≡ None → (level cpu : ℕ) → level < length (levels_of table) → cpu < length cpus
    → has (span_of cpus table (level_at table level) cpu) cpu ≡ true
span_own cpus table some few fine level cpu in_levels in_cpu =
    in_span_from cpus table (level_at table level) cpu cpu few in_cpu
    (shares_self cpus table (sound cpus table some fine) (level_at table level) (level_is table level in_levels) cpu in_cpu)

same_answers : (x y : Bool) → (x ≡ true → y ≡ true) → (y ≡ true → x ≡ true) → x ≡ y
same_answers true y there back = sym (there refl)
same_answers false true there back = back refl
same_answers false false there back = refl

pub span_same : (cpus : List CpuRow) (table : List (List ℕ)) → 0 < length cpus → length cpus ≤ 64
    → fault_of cpus table ≡ None → (level cpu k : ℕ) → level < length (levels_of table) → cpu < length cpus
    → has (span_of cpus table (level_at table level) cpu) k ≡ true
    → span_of cpus table (level_at table level) k ≡ span_of cpus table (level_at table level) cpu
span_same cpus table some few fine level cpu k in_levels in_cpu there =
    let s = sound cpus table some fine in
    let name = level_at table level in
    let is = level_is table level in_levels in
    let at = in_span_to cpus table name cpu k there in
    let back = shares_back cpus table s name cpu k in_cpu at.0 at.1 in
    same_mask (span_of cpus table name k) (span_of cpus table name cpu) (λ i. same_answers _ _
    (λ of_k. let to = in_span_to cpus table name k i of_k in
    in_span_from cpus table name cpu i few to.0 (shares_chain cpus table s name is cpu k i in_cpu at.0 to.0 at.1 to.1))
    (λ of_cpu. let to = in_span_to cpus table name cpu i of_cpu in
    in_span_from cpus table name k i few to.0 (shares_chain cpus table s name is k cpu i at.0 in_cpu to.0 back to.1)))

pub span_grow : (cpus : List CpuRow) (table : List (List ℕ)) → 0 < length cpus → length cpus ≤ 64
    → fault_of cpus table ≡ None → (lower upper cpu : ℕ) → lower < upper → upper < length (levels_of table)
    → cpu < length cpus → IsSubset (span_of cpus table (level_at table lower) cpu) (span_of cpus table (level_at table upper) cpu)
span_grow cpus table some few fine lower upper cpu lt in_levels in_cpu k there =
    let at = in_span_to cpus table (level_at table lower) cpu k there in
    in_span_from cpus table (level_at table upper) cpu k few at.0
    (shares_more cpus table (sound cpus table some fine) lower upper lt in_levels cpu k in_cpu at.0 at.1)
