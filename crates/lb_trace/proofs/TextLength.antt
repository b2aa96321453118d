-- The length of a text: past the limit it is refused as a whole, and no line is longer than its text.
-- For the lemmas of `AcceptedFacts` and `FirstBadLaws`, and so for the laws `accepted` and `first_bad`.
use Rattle.std.proofs.Common.{◌≡◌, ℕ, ◌+◌, ◌<◌, ◌≤◌, true, nat_le, ◌==◌, List, [], ◌∷◌, length, Ok, Err, refl, arith, inl, inr}
use Rattle.std.specs.Prelude.{Result}
use Rattle.std.specs.List.{list_all, onto_first}
use Rattle.std.proofs.lemmas.Bool.{cases_Bool, and_parts, and_from, le-leb, lt-leb, leb-true, cond-true, cond-false}
use Rattle.std.proofs.lemmas.List.Splits.{length-slice_split}
use Rattle.lb_fields.specs.Pieces.{pieces}
use Rattle.lb_trace.specs.declared.trace.TheConstants.{MAX_BYTES}
use Rattle.lb_trace.specs.declared.trace.Code.{Code}
use Rattle.lb_trace.specs.declared.trace.Code.TheVariants as bad
use Rattle.lb_trace.specs.Grammar.{◌>>=◌, lines_from, nothing_read, trace_of, reading_of}
use Rattle.lb_trace.specs.FirstBad.{lines_of}
use Rattle.lb_trace.proofs.SoundLists.{all_also}

-- a refusal, of whatever is read
abbrev pub refused : {A : Type 0} → ℕ × Code → Result A (ℕ × Code)
refused p = Err p

pub read_within : (text : List ℕ) → length text ≤ MAX_BYTES
    → reading_of text ≡ (lines_from nothing_read (lines_of text) >>= λ r. Ok (trace_of r))
unfolding reading_of
read_within text le = cond-true _ _ _ (le-leb _ _ le)

pub read_past : (text : List ℕ) → MAX_BYTES < length text → reading_of text ≡ refused (0, bad.TooLong)
unfolding reading_of
read_past text lt = cond-false _ _ _ (lt-leb _ _ lt)

pub some_line : (mark : ℕ) (text : List ℕ) → 0 < length (pieces mark text)
some_line mark text = omega (arith, length-slice_split (λ byte. byte == mark) text)

onto_short : (byte most : ℕ) (ps : List (List ℕ)) → 0 < most
    → list_all (λ part. nat_le (length part + 1) most) ps ≡ true → list_all (λ part. nat_le (length part) most)
    (onto_first byte ps) ≡ true
onto_short byte most [] some short = and_from _ _ (le-leb 1 most some) refl
onto_short byte most (p ∷ ps) some short =
    let each = and_parts _ _ short in
    let first = leb-true (length p + 1) most each.0 in
    and_from _ _ (le-leb (length (byte ∷ p)) most (omega (arith, first)))
    (all_also (λ part. nat_le (length part + 1) most) (λ part. nat_le (length part) most) ps
    (λ part le. let room = leb-true (length part + 1) most le in le-leb (length part) most (omega (arith, room))) each.1)

pub short_lines : (mark : ℕ) (text : List ℕ) → list_all (λ part. nat_le (length part) (length text)) (pieces mark text) ≡ true
short_lines mark [] = refl
short_lines mark (byte ∷ text) =
    let rest : list_all (λ part. nat_le (length part + 1) (length (byte ∷ text))) (pieces mark text) ≡ true =
    all_also (λ part. nat_le (length part) (length text)) _ (pieces mark text)
    (λ part le. let room = leb-true (length part) (length text) le in
    le-leb (length part + 1) (length (byte ∷ text)) (omega (arith, room))) (short_lines mark text) in
    elim (cases_Bool (byte == mark)) [
      | inl same ↦ rw same (and_from _ _ (le-leb 0 (length (byte ∷ text)) (omega arith))
          (all_also _ (λ part. nat_le (length part) (length (byte ∷ text))) (pieces mark text)
          (λ part le. let room = leb-true (length part + 1) (length (byte ∷ text)) le in
          le-leb (length part) (length (byte ∷ text)) (omega (arith, room))) rest))
      | inr other ↦ rw other (onto_short byte (length (byte ∷ text)) (pieces mark text) (omega arith) rest)
    ]
