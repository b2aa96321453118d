-- The text of a history, cut at its line feeds, and the line of an entry, cut at its spaces.
-- For the lemmas of `Spelled`, and so for the laws `has_its_lines` and `has_its_fields`; cited by `lb_read` too.
use Rattle.std.proofs.Common.{◌≡◌, ℕ, eqb, List, [], ◌∷◌, ◌++◌, refl, ap, ◌∙◌, append_assoc, arith}
use Rattle.std.specs.List.{slice_split}
use Rattle.std.proofs.lemmas.List.{append-nil}
use Rattle.std.proofs.lemmas.List.Splits.{slice_split_none, slice_split_at}
use Rattle.std.proofs.lemmas.Bool.{eq-eqb}
use Rattle.lb_text.specs.Lines.{joined, marked, lines_text}
use Rattle.lb_record.proofs.Bytes.{EachOver, free}

-- lines that have no line feed
pub cut_lines : (lines : List (List ℕ)) → EachOver 10 lines → slice_split (λ b. eqb b 10) (lines_text lines) ≡ lines ++ [] ∷ []
cut_lines [] e = refl
cut_lines (line ∷ lines) e =
    ap (slice_split (λ b. eqb b 10)) (append_assoc line (10 ∷ []) (lines_text lines))
    ∙ slice_split_at (λ b. eqb b 10) line 10 (lines_text lines) (free 10 10 line (omega arith) e.0) refl
    ∙ ap (λ (rest : List (List ℕ)). line ∷ rest) (cut_lines lines e.1)

-- fields that have no mark
pub cut_fields : (mark : ℕ) (field : List ℕ) (fields : List (List ℕ)) → EachOver mark (field ∷ fields)
    → slice_split (λ b. eqb b mark) (joined mark (field ∷ fields)) ≡ field ∷ fields
cut_fields mark field [] e = ap (slice_split (λ b. eqb b mark)) (append-nil field)
    ∙ slice_split_none (λ b. eqb b mark) field (free mark mark field (omega arith) e.0)
cut_fields mark field (next ∷ fields) e =
    slice_split_at (λ b. eqb b mark) field mark (next ++ marked mark fields) (free mark mark field (omega arith) e.0)
    (eq-eqb mark mark refl)
    ∙ ap (λ (rest : List (List ℕ)). field ∷ rest) (cut_fields mark next fields e.1)
