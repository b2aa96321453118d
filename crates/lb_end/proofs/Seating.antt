-- Seats by the numbers of their owners, and one of them changed.
-- For `follow` and `Ended::reserve`.
use Rattle.std.proofs.Common.{ℕ, zero, suc, ◌≡◌, ◌+◌, ◌-◌, ◌<◌, ◌≤◌, List, [], ◌∷◌, ◌++◌, Some, length, map, get_or, set, refl, sym, subst, ap, ◌∙◌, ◌⊎◌, arith, inl, inr}
use Rattle.std.specs.Prelude.{slice_get}
use Rattle.std.proofs.lemmas.Bool.{cases_lt, cases_eq}
use Rattle.std.proofs.lemmas.List.{set-append_left, set-append_right, set-get_or, length-set, get_or-set_same, get_or-set_other, get_or-append_right, get_or_append_left}
use Rattle.std.proofs.lemmas.Option.{slice_get-get_or, slice_get_past, slice_get_within}
use base.Stored.{Coded}
use Rattle.atomic_table.specs.Seated.{TableId}
use Rattle.lb_ticket.specs.Seats.{KeepsList, Numbered, SeatIs}
use Rattle.lb_ticket.specs.Facts.{held_of}
use Rattle.lb_ticket.specs.Tickets.{AllBelow}
use Rattle.lb_journal.specs.Journal.{Journal}
use Rattle.lb_end.specs.Seats.{Followed}

-- ---- one of a list is changed
module _ {A : Type 0} (xs : List A) (i : ℕ) (y : A) where
  pub changed_at : i < length xs → slice_get (set xs i y) i ≡ Some y
  changed_at lt =
      slice_get-get_or (set xs i y) i y (subst (λ (n : ℕ). i < n) (sym (length-set xs i y)) lt)
      ∙ ap Some (get_or-set_same xs i y y lt)

  pub kept_at : (j : ℕ) → (j ≡ i → ⊥) → slice_get (set xs i y) j ≡ slice_get xs j
  kept_at j other = elim (cases_lt j (length xs)) [
    | inl lt ↦
        slice_get-get_or (set xs i y) j y (subst (λ (n : ℕ). j < n) (sym (length-set xs i y)) lt)
        ∙ (ap Some (get_or-set_other xs i j y y other) ∙ sym (slice_get-get_or xs j y lt))
    | inr ge ↦
        slice_get_past (set xs i y) j (subst (λ (n : ℕ). n ≤ j) (sym (length-set xs i y)) ge) ∙ sym (slice_get_past xs j ge)
  ]

  -- what stands somewhere now is the changed one, or stood there
  pub changed_or_kept : (j : ℕ) (z : A) → slice_get (set xs i y) j ≡ Some z
      → ((j ≡ i) × (z ≡ y)) ⊎ ((j ≡ i → ⊥) × (slice_get xs j ≡ Some z))
  changed_or_kept j z e = elim (cases_eq j i) [
    | inl same ↦
        let lt : i < length xs =
        subst (λ (n : ℕ). n < length xs) same
        (subst (λ (n : ℕ). j < n) (length-set xs i y) (slice_get_within (set xs i y) j z e)) in
        inl (same, cc (sym (subst (λ (n : ℕ). slice_get (set xs i y) n ≡ Some z) same e) ∙ changed_at lt))
    | inr other ↦ inr (other, sym (kept_at j other) ∙ e)
  ]

-- ---- numbers
pub numbered_at : (t : TableId) (k : ℕ) (ss : List (SeatIs Journal)) (j : ℕ) (d : SeatIs Journal) → Numbered t k ss
    → j < length ss → ((get_or ss j d).table ≡ t) × ((get_or ss j d).number ≡ k + j)
numbered_at t k [] j d n lt = absurd (omega arith)
numbered_at t k (s ∷ ss) zero d n lt = (n.0, n.1 ∙ omega arith)
numbered_at t k (s ∷ ss) (suc j) d n lt =
    let r = numbered_at t (k + 1) ss j d n.2 (omega arith) in
    (r.0, r.1 ∙ omega arith)

pub numbered_set : (t : TableId) (k : ℕ) (ss : List (SeatIs Journal)) (j : ℕ) (s' : SeatIs Journal) → Numbered t k ss
    → s'.table ≡ t → s'.number ≡ k + j → Numbered t k (set ss j s')
numbered_set t k [] j s' n table number = tt
numbered_set t k (s ∷ ss) zero s' n table number = (table, number ∙ omega arith, n.2)
numbered_set t k (s ∷ ss) (suc j) s' n table number =
    (n.0, n.1, numbered_set t (k + 1) ss j s' n.2 table (number ∙ omega arith))

pub other_below : (a b : ℕ) → b ≤ a → (a ≡ b → ⊥) → b < a
other_below a b le apart = elim (cases_lt b a) [
  | inl lt ↦ lt
  | inr ge ↦ absurd (apart (omega (arith, le, ge)))
]

-- ---- two parts
module _ {A : Type 0} (ss low high : List A) (n : ℕ) (whole : low ++ high ≡ ss) (long : length low ≡ n) where
  pub in_low : (a : ℕ) (d : A) → a < n → get_or low a d ≡ get_or ss a d
  in_low a d lt =
      sym (get_or_append_left low high d a (omega (arith, long, lt))) ∙ ap (λ (l : List A). get_or l a d) whole

  pub in_high : (b : ℕ) (d : A) → get_or high b d ≡ get_or ss (n + b) d
  in_high b d =
      ap (λ (i : ℕ). get_or high i d) (omega arith) ∙ sym (get_or-append_right low high n (n + b) d long (omega arith))
      ∙ ap (λ (l : List A). get_or l (n + b) d) whole

  pub set_low : (a : ℕ) (x y d : A) → a < n → y ≡ get_or high 0 d → set low a x ++ set high 0 y ≡ set ss a x
  set_low a x y d lt same =
      ap (λ (z : A). set low a x ++ set high 0 z) same
      ∙ ap (λ (l : List A). set low a x ++ l) (set-get_or high 0 d)
      ∙ sym (set-append_left low high a x (omega (arith, long, lt)))
      ∙ ap (λ (l : List A). set l a x) whole

  pub set_high : (b : ℕ) (x y d : A) → y ≡ get_or low b d → set low b y ++ set high 0 x ≡ set ss n x
  set_high b x y d same =
      ap (λ (z : A). set low b z ++ set high 0 x) same
      ∙ ap (λ (l : List A). l ++ set high 0 x) (set-get_or low b d)
      ∙ ap (λ (i : ℕ). low ++ set high i x) (omega arith)
      ∙ sym (set-append_right low high n n x long (omega arith))
      ∙ ap (λ (l : List A). set l n x) whole

-- ---- one follows another
pub followed : (code : Coded Journal) (a b : ℕ) (ss ss' : List (SeatIs Journal)) (s o s' d f : SeatIs Journal)
    → a < length ss → b < length ss → s ≡ get_or ss a d → o ≡ get_or ss b f → ss' ≡ set ss a s' → KeepsList s s'
    → s'.read ≡ s.read ++ map (held_of code) o.list → (s'.fresh ≡ s.fresh) × (s'.known ≡ s.known) → AllBelow s'.next o.list
    → (s.next ≤ s'.next) × (o.next ≤ s'.next) → Followed code a b ss ss'
followed code a b ss ss' s o s' d f la lb es eo now same read view below later = record {
  seat = s;
  other = o;
  seat' = s';
  here = slice_get-get_or ss a d la ∙ ap Some (sym es);
  there = slice_get-get_or ss b f lb ∙ ap Some (sym eo);
  now = now;
  same = same;
  read = read;
  view = view;
  below = below;
  later = later;
}
