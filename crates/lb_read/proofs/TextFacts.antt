-- Reading the lines of a text one after the other.
-- For `entries_in` and `read_lines`.
use Rattle.std.proofs.Common.{◌≡◌, ℕ, ◌+◌, true, false, eqb, cond, List, [], ◌∷◌, ◌++◌, length, Some, None, Result, Ok, Err, refl, sym, ap, ◌∙◌, append_assoc, arith}
use Rattle.std.proofs.lemmas.List.{append-nil}
use Rattle.std.proofs.lemmas.List.Splits.{length-slice_split}
use Rattle.lb_read.specs.declared.written.WrittenEntry.{WrittenEntry}
use Rattle.lb_read.specs.Entries.{line_in}
use Rattle.std.specs.Str.{bytes_eq}
use Rattle.lb_trace.specs.declared.trace.Header.{Header}
use Rattle.lb_read.specs.Texts.{lines_of, onto_entries, entry_then, entries_in, version_line, line_after, head_behind, header_in, read_from, read_after, read_behind, read_lines, read_of}

-- the entries so far, and those of the lines that are left
abbrev pub found_onto : List WrittenEntry → Result (List WrittenEntry) ℕ → Result (List WrittenEntry) ℕ
found_onto found (Ok ws) = Ok (found ++ ws)
found_onto found (Err n) = Err n

unfoldable pub entries_onto : List WrittenEntry → ℕ → List (List ℕ) → Result (List WrittenEntry) ℕ
entries_onto found n lines = found_onto found (entries_in n lines)

onto_more : (found : List WrittenEntry) (w : WrittenEntry) (rest : Result (List WrittenEntry) ℕ)
    → found_onto found (onto_entries w rest) ≡ found_onto (found ++ w ∷ []) rest
onto_more found w (Ok ws) = ap Ok (sym (append_assoc found (w ∷ []) ws))
onto_more found w (Err n) = refl

no_more : (n : ℕ) (line : List ℕ) (lines : List (List ℕ)) → (lines ≡ [] → ⊥)
    → entries_in n (line ∷ lines) ≡ entry_then n (line_in line) (entries_in (n + 1) lines)
unfolding entries_in
no_more n line [] some = absurd (some refl)
no_more n line (next ∷ more) some = refl

pub some_lines : (text : List ℕ) → lines_of text ≡ [] → ⊥
some_lines text e =
    let len : length (lines_of text) ≡ 0 = ap length e in omega (arith, len, length-slice_split (λ b. eqb b 10) text)

pub entry_some : (found : List WrittenEntry) (n : ℕ) (text line rest : List ℕ) (w : WrittenEntry)
    → lines_of text ≡ line ∷ lines_of rest → line_in line ≡ Some w
    → entries_onto found n (lines_of text) ≡ entries_onto (found ++ w ∷ []) (n + 1) (lines_of rest)
unfolding entries_onto
entry_some found n text line rest w cut e =
    ap (λ lines. found_onto found (entries_in n lines)) cut
    ∙ ap (found_onto found)
    (no_more n line (lines_of rest) (some_lines rest) ∙ ap (λ o. entry_then n o (entries_in (n + 1) (lines_of rest))) e)
    ∙ onto_more found w (entries_in (n + 1) (lines_of rest))

pub entry_none : (found : List WrittenEntry) (n : ℕ) (text line rest : List ℕ) → lines_of text ≡ line ∷ lines_of rest
    → line_in line ≡ None
    → entries_onto found n (lines_of text) ≡ Err n
unfolding entries_onto
entry_none found n text line rest cut e =
    ap (λ lines. found_onto found (entries_in n lines)) cut
    ∙ ap (found_onto found)
    (no_more n line (lines_of rest) (some_lines rest) ∙ ap (λ o. entry_then n o (entries_in (n + 1) (lines_of rest))) e)

pub entries_end : (found : List WrittenEntry) (n : ℕ) (text : List ℕ) → lines_of text ≡ text ∷ [] → eqb (length text) 0 ≡ true
    → entries_onto found n (lines_of text) ≡ Ok found
unfolding entries_onto entries_in
entries_end found n text cut e =
    ap (λ lines. found_onto found (entries_in n lines)) cut ∙ ap (λ v. found_onto found (cond v (Ok []) (Err n))) e
    ∙ ap Ok (append-nil found)

pub entries_cut : (found : List WrittenEntry) (n : ℕ) (text : List ℕ) → lines_of text ≡ text ∷ [] → eqb (length text) 0 ≡ false
    → entries_onto found n (lines_of text) ≡ Err n
unfolding entries_onto entries_in
entries_cut found n text cut e =
    ap (λ lines. found_onto found (entries_in n lines)) cut ∙ ap (λ v. found_onto found (cond v (Ok []) (Err n))) e

pub entries_start : (n : ℕ) (lines : List (List ℕ)) → entries_onto [] n lines ≡ entries_in n lines
unfolding entries_onto
entries_start n lines = onto_none (entries_in n lines)
  where
    onto_none : (given : Result (List WrittenEntry) ℕ) → found_onto [] given ≡ given
    onto_none (Ok ws) = refl
    onto_none (Err n) = refl

-- ---- the whole text
pub lines_behind : (line : List ℕ) (lines : List (List ℕ)) → (lines ≡ [] → ⊥)
    → read_lines (line ∷ lines) ≡ cond (bytes_eq line version_line) (read_behind lines) (Err 1)
unfolding read_lines
lines_behind line [] some = absurd (some refl)
lines_behind line (next ∷ more) some = refl

pub read_none : (text : List ℕ) → lines_of text ≡ text ∷ [] → read_of text ≡ Err 1
unfolding read_lines
read_none text cut = ap read_lines cut

pub read_other : (text line rest : List ℕ) → lines_of text ≡ line ∷ lines_of rest → bytes_eq line version_line ≡ false
    → read_of text ≡ Err 1
read_other text line rest cut other =
    ap read_lines cut ∙ lines_behind line (lines_of rest) (some_lines rest)
    ∙ ap (λ b. cond b (read_behind (lines_of rest)) (Err 1)) other

version_first : (text line rest : List ℕ) → lines_of text ≡ line ∷ lines_of rest → bytes_eq line version_line ≡ true
    → read_of text ≡ read_behind (lines_of rest)
version_first text line rest cut same =
    ap read_lines cut ∙ lines_behind line (lines_of rest) (some_lines rest)
    ∙ ap (λ b. cond b (read_behind (lines_of rest)) (Err 1)) same

pub read_bad_header : (text line rest : List ℕ) (n : ℕ) → lines_of text ≡ line ∷ lines_of rest → bytes_eq line version_line ≡ true
    → header_in (head_behind (lines_of rest)) ≡ Err n → read_of text ≡ Err n
unfolding read_behind
read_bad_header text line rest n cut same bad =
    version_first text line rest cut same ∙ ap (read_after (head_behind (lines_of rest))) bad

pub behind_header : (text line rest left : List ℕ) (header : Header) (first : ℕ) → lines_of text ≡ line ∷ lines_of rest
    → bytes_eq line version_line ≡ true
    → header_in (head_behind (lines_of rest)) ≡ Ok header → first ≡ line_after (head_behind (lines_of rest)).bodies
    → lines_of left ≡ (head_behind (lines_of rest)).rest
    → read_of text ≡ read_from header (entries_in first (lines_of left))
unfolding read_behind
behind_header text line rest left header first cut same good first_is left_is =
    version_first text line rest cut same ∙ ap (read_after (head_behind (lines_of rest))) good
    ∙ ap (λ n. read_from header (entries_in n (head_behind (lines_of rest)).rest)) (sym first_is)
    ∙ ap (λ ls. read_from header (entries_in first ls)) (sym left_is)
