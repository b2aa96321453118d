-- The text of a drawn trace reads as that trace, and its moments are small.
-- For the laws `are_accepted` and `moments_are_small`.
use Rattle.std.proofs.Common.{◌≡◌, ℕ, zero, suc, ◌+◌, ◌*◌, ◌≤◌, true, eqb, ltb, leb, List, [], ◌∷◌, ◌++◌, map, length, refl, sym, ◌∙◌, length-append, arith}
use Rattle.std.specs.List.{list_all, slice_split}
use Rattle.std.proofs.lemmas.Bool.{and_from, lt-ltb, le-leb}
use Rattle.std.proofs.lemmas.Grind.{flat_map-append}
use Rattle.std.proofs.lemmas.List.Folds.{list_all-append}
use Rattle.lb_trace.specs.declared.trace.TheConstants.{MAX_BYTES}
use Rattle.lb_trace.specs.Grammar.{trace_of, reading_of}
use Rattle.lb_trace.specs.declared.trace.Row.{Row}
use Rattle.lb_generator.specs.Generator.{row_drawn, rows_from}
use Rattle.lb_text.specs.Lines.{lines_text}
use Rattle.lb_generator.specs.Text.{header_lines, row_line, text_drawn}
use Rattle.lb_generator.specs.Laws.{AreAccepted, MomentsAreSmall}
use Rattle.lb_generator.proofs.Fields.{is_short_line, cut_lines, lines_length}
use Rattle.lb_generator.proofs.HeaderLines.{header_read, header_short, header_count, rows_count}
use Rattle.lb_generator.proofs.RowLines.{rows_read, rows_short, rows_length}

pub accepted : AreAccepted
unfolding reading_of trace_of text_drawn
accepted number rows few =
    let ours = map row_line (rows_from rows 0 number) in
    let whole = header_lines ++ ours in
    let text : lines_text header_lines ++ lines_text ours ≡ lines_text whole =
    sym (flat_map-append (λ (l : List ℕ). l ++ 10 ∷ []) header_lines ours) in
    let short : list_all is_short_line whole ≡ true =
    list_all-append is_short_line header_lines ours ∙ and_from _ _ header_short (rows_short rows 0 number (omega (arith, few))) in
    let size = lines_length whole short in
    let count = length-append header_lines ours in
    let head = header_count in
    let tail = rows_length rows 0 number in
    let fits : leb (length (lines_text whole)) MAX_BYTES ≡ true =
    le-leb (length (lines_text whole)) MAX_BYTES (omega (arith, size, count, head, tail, few)) in
    let parted : slice_split (λ b. eqb b 10) (lines_text whole) ≡ whole ++ [] ∷ [] = cut_lines whole short in
    let read = header_read ours ∙ rows_read rows 221 0 number [] (omega arith) (omega (arith, few)) refl refl in
    rw (text, fits, parted, read, rows_count) refl

-- ---- moments
all_small : (count r x : ℕ) → r + count ≤ 100000 → list_all (λ (row : Row). ltb row.at 5000000000) (rows_from count r x) ≡ true
unfolding rows_from row_drawn
all_small zero r x few = refl
all_small (suc k) r x few =
    and_from _ _ (lt-ltb (50000 * r) 5000000000 (omega (arith, few))) (all_small k (r + 1) _ (omega (arith, few)))

pub small : MomentsAreSmall
small number rows few = all_small rows 0 number (omega (arith, few))
