-- The entries of a lane are one chain by their quotes: each quotes the last one before it.
-- For the lemmas of `Agreement`, `Ending` and other files, and so for the laws `known_rest`, `rows_are_own` and
-- others.
use Rattle.std.proofs.Common.{◌≡◌, ℕ, zero, suc, ◌<◌, ◌≤◌, refl, sym, ◌∙◌, arith, subst, inl, inr}
use Rattle.std.proofs.lemmas.Bool.{cases_eq, cases_lt}

-- what a closed book says of the tickets up to n, by the lane and the quote of each
pub record Quotes (lane quote : ℕ → ℕ) (n : ℕ) : Type 0 where
  pub earlier : (t : ℕ) → 1 ≤ t → t ≤ n → 0 < quote t → quote t < t
  pub same : (t : ℕ) → 1 ≤ t → t ≤ n → 0 < quote t → lane (quote t) ≡ lane t
  pub once : (s t : ℕ) → 1 ≤ s → s ≤ n → 1 ≤ t → t ≤ n → 0 < quote s → quote s ≡ quote t → s ≡ t
  pub begins : (s t : ℕ) → 1 ≤ t → t ≤ n → quote t ≡ 0 → 1 ≤ s → s < t → lane s ≡ lane t → ⊥

-- b is the last ticket of the lane up to t, or 0, and each earlier one of the lane is quoted by then
pub record IsLast (lane quote : ℕ → ℕ) (l t b : ℕ) : Type 0 where
  pub within : b ≤ t
  pub own : 0 < b → lane b ≡ l
  pub none : (s : ℕ) → b < s → s ≤ t → lane s ≡ l → ⊥
  pub quoted : (s : ℕ) → 1 ≤ s → s < b → lane s ≡ l → (r : ℕ) × (1 ≤ r) × (r ≤ t) × (quote r ≡ s)

module _ (lane quote : ℕ → ℕ) where
  pub last_start : (l : ℕ) → IsLast lane quote l 0 0
  last_start l = record {
    within = omega arith;
    own = λ h. absurd (omega arith);
    none = λ s lt le h. absurd (omega arith);
    quoted = λ s one lt h. absurd (omega arith);
  }

  -- so the next entry of the lane quotes it
  pub quotes_last : (n t b : ℕ) → Quotes lane quote n → suc t ≤ n → IsLast lane quote (lane (suc t)) t b →
      quote (suc t) ≡ b
  quotes_last n t b q le last = elim (cases_eq (quote (suc t)) 0) [
    | inl z ↦ elim (cases_eq b 0) [
      | inl y ↦ z ∙ sym y
      | inr y ↦ absurd
          (q.begins b (suc t) (omega arith) le z (omega arith) (let w = last.within in omega arith)
          (last.own (omega arith)))
    ]
    | inr nz ↦
        let p : 0 < quote (suc t) = omega arith in
        let e = q.earlier (suc t) (omega arith) le p in
        let s = q.same (suc t) (omega arith) le p in
        elim (cases_lt (quote (suc t)) b) [
          | inl lt ↦ absurd
              (let r = last.quoted (quote (suc t)) (omega arith) lt s in
              let w = r.2 in
              let k = q.once (suc t) r.0 (omega arith) le r.1 (omega arith) p (sym r.3) in
              omega arith)
          | inr ge ↦ elim (cases_eq (quote (suc t)) b) [
            | inl eq ↦ eq
            | inr ne ↦ absurd (last.none (quote (suc t)) (omega arith) (omega arith) s)
          ]
        ]
  ]

  -- and is the last one from then on
  pub last_own : (n t b l : ℕ) → Quotes lane quote n → suc t ≤ n → lane (suc t) ≡ l → IsLast lane quote l t b →
      quote (suc t) ≡ b → IsLast lane quote l (suc t) (suc t)
  last_own n t b l q le own last quotes = record {
    within = omega arith;
    own = λ h. own;
    none = λ s lt le' h. absurd (omega arith);
    quoted = λ s one lt h. elim (cases_lt s b) [
      | inl lt' ↦ let r = last.quoted s one lt' h in (r.0, r.1, let w = r.2 in omega arith, r.3)
      | inr ge ↦ elim (cases_eq s b) [
        | inl eq ↦ (suc t, omega arith, omega arith, quotes ∙ sym eq)
        | inr ne ↦ absurd (last.none s (omega arith) (omega arith) h)
      ]
    ];
  }

  -- an entry of another lane changes nothing
  pub last_other : (t b l : ℕ) → (lane (suc t) ≡ l → ⊥) → IsLast lane quote l t b → IsLast lane quote l (suc t) b
  last_other t b l ne last = record {
    within = let w = last.within in omega arith;
    own = last.own;
    none = λ s lt le h. elim (cases_eq s (suc t)) [
      | inl eq ↦ ne (subst (λ (x : ℕ). lane x ≡ l) eq h)
      | inr other ↦ last.none s lt (omega arith) h
    ];
    quoted = λ s one lt h. let r = last.quoted s one lt h in (r.0, r.1, let w = r.2 in omega arith, r.3);
  }

  -- each lane has a last entry
  pub last_at : (n : ℕ) → Quotes lane quote n → (t l : ℕ) → t ≤ n → (b : ℕ) × IsLast lane quote l t b
  last_at n q zero l le = (0, last_start l)
  last_at n q (suc t) l le =
      let r = last_at n q t l (omega arith) in
      elim (cases_eq (lane (suc t)) l) [
        | inl e ↦ (
          suc t,
          last_own n t r.0 l q le e r.1
              (quotes_last n t r.0 q le (subst (λ (x : ℕ). IsLast lane quote x t r.0) (sym e) r.1)),
        )
        | inr ne ↦ (r.0, last_other t r.0 l ne r.1)
      ]

  -- an entry that is not the last of its lane is quoted
  pub is_quoted : (n s t : ℕ) → Quotes lane quote n → 1 ≤ s → s < t → t ≤ n → lane s ≡ lane t →
      (r : ℕ) × (1 ≤ r) × (r ≤ t) × (quote r ≡ s)
  is_quoted n s t q one lt le e =
      let l = last_at n q t (lane t) le in
      let w = l.1.within in
      let b : l.0 ≡ t = elim (cases_eq l.0 t) [
        | inl y ↦ y
        | inr ne ↦ absurd (l.1.none t (omega arith) (omega arith) refl)
      ] in
      l.1.quoted s one (omega arith) e
