-- A text whose first line is plain does not begin with a byte order mark.
-- For `start`.
use Rattle.std.proofs.Common.{◌≡◌, ℕ, true, List, [], ◌∷◌, inl, inr, refl, sym, ap, subst}
use Rattle.std.specs.Prelude.{slice_index_or, ◌==◌}
use Rattle.std.specs.List.{onto_first}
use Rattle.std.proofs.lemmas.Bool.{cases_Bool, eqb-true}
use Rattle.csv.specs.Reading.{strip_bom}
use Rattle.lb_fields.specs.Pieces.{pieces, is_plain}

no_mark_first : (ps lines : List (List ℕ)) (line : List ℕ) → onto_first 0xEF ps ≡ line ∷ lines → is_plain line ≡ true → ⊥
no_mark_first [] lines line cut plain =
    let same : (0xEF ∷ []) ≡ line = ap (λ (l : List (List ℕ)). slice_index_or l 0 []) cut in
    cc (subst (λ (l : List ℕ). is_plain l ≡ true) (sym same) plain)
no_mark_first (p ∷ ps) lines line cut plain =
    let same : (0xEF ∷ p) ≡ line = ap (λ (l : List (List ℕ)). slice_index_or l 0 []) cut in
    cc (subst (λ (l : List ℕ). is_plain l ≡ true) (sym same) plain)

pub no_mark : (text line : List ℕ) (lines : List (List ℕ)) → pieces 10 text ≡ line ∷ lines → is_plain line ≡ true
    → strip_bom text ≡ text
unfolding strip_bom
no_mark [] line lines cut plain = refl
no_mark (a ∷ []) line lines cut plain = refl
no_mark (a ∷ b ∷ []) line lines cut plain = refl
no_mark (a ∷ b ∷ c ∷ rest) line lines cut plain = elim (cases_Bool (a == 0xEF)) [
  | inl same ↦ absurd (no_mark_first (pieces 10 (b ∷ c ∷ rest)) lines line
      (subst (λ (z : ℕ). pieces 10 (z ∷ b ∷ c ∷ rest) ≡ line ∷ lines) (eqb-true a 0xEF same) cut) plain)
  | inr other ↦ rw other refl
]
