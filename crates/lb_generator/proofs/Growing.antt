-- The lines of a drawn trace, one more at a time.
-- For `put_tasks`, `put_header`, `put_rows` and `put_cpus`.
use Rattle.std.proofs.Common.{◌≡◌, ℕ, suc, ◌+◌, ◌-◌, ◌<◌, ◌≤◌, List, [], ◌∷◌, ◌++◌, map, refl, sym, ap, ◌∙◌, arith, append_assoc}
use Rattle.std.specs.Prelude.{codes}
use Rattle.std.specs.Fmt.{digits}
use Rattle.std.proofs.lemmas.Grind.{flat_map-append}
use Rattle.std.proofs.lemmas.List.{append-nil}
use Rattle.lb_base.proofs.Ranges.{map_range_more}
use Rattle.lb_levels.specs.declared.cpu_row.CpuRow.{CpuRow}
use Rattle.lb_trace.specs.declared.trace.Row.{Row}
use Rattle.lb_trace.specs.declared.trace.TaskRow.{TaskRow}
use Rattle.lb_generator.specs.Generator.{cpu_at, task_at, row_drawn, rows_from}
use Rattle.lb_text.specs.Lines.{lines_text}
use Rattle.lb_generator.specs.Text.{cpu_line, task_line, lanes_line, cpu_lines, task_lines, distances_lines, header_lines, row_line}

push_line : (lines : List (List ℕ)) (line : List ℕ) → lines_text (lines ++ line ∷ []) ≡ lines_text lines ++ (line ++ 10 ∷ [])
push_line lines line =
    flat_map-append (λ (l : List ℕ). l ++ 10 ∷ []) lines (line ∷ [])
    ∙ ap (λ (t : List ℕ). lines_text lines ++ t) (append-nil (line ++ 10 ∷ []))

-- ---- the header
pub no_cpu_lines : lines_text (cpu_lines 0) ≡ []
unfolding cpu_lines
no_cpu_lines = refl

pub more_cpu_lines : (n : ℕ) (cpu : CpuRow) → cpu ≡ cpu_at n
    → lines_text (cpu_lines (n + 1)) ≡ lines_text (cpu_lines n) ++ (cpu_line n cpu ++ 10 ∷ [])
unfolding cpu_lines
more_cpu_lines n cpu e =
    ap lines_text (map_range_more (λ i. cpu_line i (cpu_at i)) n) ∙ push_line (cpu_lines n) (cpu_line n (cpu_at n))
    ∙ ap (λ (c : CpuRow). lines_text (cpu_lines n) ++ (cpu_line n c ++ 10 ∷ [])) (sym e)

pub no_task_lines : lines_text (task_lines 0) ≡ []
unfolding task_lines
no_task_lines = refl

pub more_task_lines : (n : ℕ) (task : TaskRow) → task ≡ task_at n
    → lines_text (task_lines (n + 1)) ≡ lines_text (task_lines n) ++ (task_line n task ++ 10 ∷ [])
unfolding task_lines
more_task_lines n task e =
    ap lines_text (map_range_more (λ i. task_line i (task_at i)) n) ∙ push_line (task_lines n) (task_line n (task_at n))
    ∙ ap (λ (t : TaskRow). lines_text (task_lines n) ++ (task_line n t ++ 10 ∷ [])) (sym e)

pub header_text : lines_text header_lines
    ≡ (codes "lbtrace,1\n" ++ lines_text (cpu_lines 16))
    ++ (codes "dist,10,20\ndist,20,10\nlanes,4\n" ++ lines_text (task_lines 200))
unfolding header_lines digits
header_text = flat_map-append (λ (l : List ℕ). l ++ 10 ∷ []) (codes "lbtrace,1" ∷ cpu_lines 16)
    (distances_lines ++ (lanes_line 4 ∷ task_lines 200))

-- ---- rows
no_row : (n r x : ℕ) → n ≡ 0 → rows_from n r x ≡ []
unfolding rows_from
no_row n r x e = ap (λ (k : ℕ). rows_from k r x) e

-- no row is left
pub rows_end : (rows r x : ℕ) → rows ≤ r → lines_text (map row_line (rows_from (rows - r) r x)) ≡ []
rows_end rows r x le = ap (λ (rs : List Row). lines_text (map row_line rs)) (no_row (rows - r) r x (omega (arith, le)))

one_row : (n m r x : ℕ) → n ≡ suc m → rows_from n r x ≡ (row_drawn r x).value ∷ rows_from m (r + 1) (row_drawn r x).state
unfolding rows_from
one_row n m r x e = ap (λ (k : ℕ). rows_from k r x) e

-- the next of the rows that are left
pub next_row : (rows r x : ℕ) → r < rows → (row : Row) (state : ℕ) → (row_drawn r x).value ≡ row → (row_drawn r x).state ≡ state
    → lines_text (map row_line (rows_from (rows - r) r x))
    ≡ (row_line row ++ 10 ∷ []) ++ lines_text (map row_line (rows_from (rows - (r + 1)) (r + 1) state))
next_row rows r x lt row state e f =
    let m = rows - (r + 1) in
    ap (λ (rs : List Row). lines_text (map row_line rs)) (one_row (rows - r) m r x (omega (arith, lt)))
    ∙ ap (λ (w : Row). (row_line w ++ 10 ∷ []) ++ lines_text (map row_line (rows_from m (r + 1) (row_drawn r x).state))) e
    ∙ ap (λ (y : ℕ). (row_line row ++ 10 ∷ []) ++ lines_text (map row_line (rows_from m (r + 1) y))) f

-- ---- a text with a piece more
-- in front of what is left
pub one_less : (old new whole left rest piece : List ℕ) → new ≡ old ++ piece → left ≡ piece ++ rest → old ++ left ≡ whole
    → new ++ rest ≡ whole
one_less old new whole left rest piece e f g =
    ap (λ (t : List ℕ). t ++ rest) e ∙ append_assoc old piece rest ∙ ap (λ (t : List ℕ). old ++ t) (sym f) ∙ g

-- behind what is there
pub one_more : (old new front lines more piece : List ℕ) → new ≡ old ++ piece → old ≡ front ++ lines → more ≡ lines ++ piece
    → new ≡ front ++ more
one_more old new front lines more piece e f g =
    e ∙ ap (λ (t : List ℕ). t ++ piece) f ∙ append_assoc front lines piece ∙ ap (λ (t : List ℕ). front ++ t) (sym g)

pub five_parts : (a b c d e : List ℕ) → (((a ++ b) ++ c) ++ d) ++ e ≡ a ++ ((b ++ c) ++ (d ++ e))
five_parts a b c d e = simp append_assoc
