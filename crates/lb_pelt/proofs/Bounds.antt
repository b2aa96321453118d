-- A sum with what a stretch of time adds to it stays below its bound.
-- For `advance`.
use Rattle.std.proofs.Common.{◌≡◌, ℕ, ◌+◌, ◌-◌, ◌*◌, ◌/◌, ◌%◌, ◌<◌, ◌≤◌, eqb, arith, inl, inr}
use Rattle.std.proofs.lemmas.Bool.{cases_eq, eq-eqb, ne_eqb, cond-true, cond-false}
use Rattle.lb_pelt.specs.Decay.{decayed}
use Rattle.lb_pelt.specs.Signal.{kept, contribution}
use Rattle.lb_pelt.proofs.Decays.{decayed_sum, decayed_mono, decayed_times, room}

-- ---- inside one period
kept_none : (p v : ℕ) → p ≡ 0 → kept p v ≡ v
kept_none p v e = cond-true (eqb p 0) v _ (eq-eqb p 0 e)

kept_some : (p v : ℕ) → (p ≡ 0 → ⊥) → kept p v ≡ decayed v p
kept_some p v n = cond-false (eqb p 0) v _ (ne_eqb p 0 n)

pub contribution_inside : (part e : ℕ) → (part + e) / 1024 ≡ 0 → contribution part e ≡ e
contribution_inside part e z = cond-true (eqb ((part + e) / 1024) 0) e _ (eq-eqb _ 0 z)

pub contribution_across : (part e : ℕ) → ((part + e) / 1024 ≡ 0 → ⊥)
    → contribution part e ≡ decayed (1024 - part) ((part + e) / 1024) +
    (47742 - decayed 47742 ((part + e) / 1024) - 1024) + (part + e) % 1024
contribution_across part e n = cond-false (eqb ((part + e) / 1024) 0) e _ (ne_eqb _ 0 n)

-- ---- a sum stays in its bounds
pub load_fits : (part e v : ℕ) → part < 1024 → v ≤ 46718 + part
    → kept ((part + e) / 1024) v + contribution part e ≤ 46718 + (part + e) % 1024
load_fits part e v small fits =
    let p = (part + e) / 1024 in
    elim (cases_eq p 0) [
      | inl z ↦ rw (kept_none p v z, contribution_inside part e z) (omega arith)
      | inr n ↦
          let some : 0 < p = omega arith in
          let both = decayed_sum v (1024 - part) p in
          let whole : decayed (v + (1024 - part)) p ≤ decayed 47742 p = decayed_mono _ _ p (omega arith) in
          let period = (room p some).period in
          rw (kept_some p v n, contribution_across part e n) (omega arith)
    ]

pub sum_fits : (part e v : ℕ) → part < 1024 → v ≤ 1024 * (46718 + part) + 49152
    → kept ((part + e) / 1024) v + 1024 * contribution part e ≤ 1024 * (46718 + (part + e) % 1024) + 49152
sum_fits part e v small fits =
    let p = (part + e) / 1024 in
    elim (cases_eq p 0) [
      | inl z ↦ rw (kept_none p v z, contribution_inside part e z) (omega arith)
      | inr n ↦
          let some : 0 < p = omega arith in
          let rest = decayed_times 1024 (1024 - part) p in
          let both = decayed_sum v (1024 * (1024 - part)) p in
          let whole : decayed (v + 1024 * (1024 - part)) p ≤ decayed (1024 * 47742 + 49152) p = decayed_mono _ _ p
          (omega arith) in
          let r = room p some in
          rw (kept_some p v n, contribution_across part e n) (omega arith)
    ]
