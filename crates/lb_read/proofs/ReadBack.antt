-- The text of a history reads as the history.
-- For the law `histories_read_back`.
use Rattle.std.proofs.Common.{◌≡◌, ℕ, ◌+◌, ◌&&◌, List, [], ◌∷◌, ◌++◌, map, refl, sym, ap, subst, ◌∙◌}
use Rattle.std.specs.List.{list_all}
use Rattle.lb_core.specs.declared.entry.Entry.{Entry}
use Rattle.lb_core.specs.declared.history.History.{History}
use Rattle.lb_core.specs.Ranges.{entry_fits, fit_from}
use Rattle.lb_text.specs.Lines.{lines_text, numbered}
use Rattle.lb_record.specs.Header.{header_lines}
use Rattle.lb_record.specs.Entries.{entry_line}
use Rattle.lb_record.specs.History.{history_lines, history_text, text_of}
use Rattle.lb_read.specs.declared.written.WrittenEntry.{WrittenEntry}
use Rattle.lb_read.specs.declared.written.Read.{Read}
use Rattle.lb_read.specs.Written.{written_line, written_fits, written_from, as_read}
use Rattle.lb_read.specs.Whole.{ReadsAs}
use Rattle.lb_read.specs.Laws.{ReadBack, AreOwn}
use Rattle.lb_read.proofs.Refusals.{read_once}

written_lines : (n : ℕ) (es : List Entry) → numbered entry_line n es ≡ map written_line (written_from n es)
written_lines n [] = refl
written_lines n (e ∷ es) = ap (λ ls. entry_line n e ∷ ls) (written_lines (n + 1) es)

written_fit : (n : ℕ) (es : List Entry) → list_all written_fits (written_from n es) ≡ fit_from n es
written_fit n [] = refl
written_fit n (e ∷ es) = ap (λ b. entry_fits n e && b) (written_fit (n + 1) es)

text_is : (h : History) → text_of h ≡ lines_text (header_lines h.header ++ map written_line (written_from 1 h.entries))
unfolding history_lines history_text
text_is h = ap (λ ls. lines_text (header_lines h.header ++ ls)) (written_lines 1 h.entries)

pub read_back : ReadBack
read_back h a = record { header = a.header; entries = written_fit 1 h.entries ∙ a.entries; text_is = text_is h }

-- a history out of what was read
abbrev history_of : Read → History
history_of read = record { header = read.header; entries = map (λ (w : WrittenEntry). w.entry) read.entries }

entries_back : (n : ℕ) (es : List Entry) → map (λ (w : WrittenEntry). w.entry) (written_from n es) ≡ es
entries_back n [] = refl
entries_back n (e ∷ es) = ap (λ rest. e ∷ rest) (entries_back (n + 1) es)

history_back : (h : History) → history_of (as_read h) ≡ h
history_back h =
    ap (λ (es : List Entry). let g : History = record { header = h.header; entries = es } in g) (entries_back 1 h.entries)

pub are_own : AreOwn
are_own a b of_a of_b same =
    let read =
    read_once (text_of a) (as_read a) (as_read b) (read_back a of_a)
    (subst (λ text. ReadsAs text (as_read b)) (sym same) (read_back b of_b)) in
    sym (history_back a) ∙ ap history_of read ∙ history_back b
