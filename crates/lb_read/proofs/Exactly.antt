-- A line is read exactly, and what was read has one text.
-- For the law `lines_read_exactly`.
use Rattle.std.proofs.Common.{◌≡◌, ℕ, List, Some, sym, ◌∙◌, subst}
use Rattle.lb_read.specs.Entries.{line_in}
use Rattle.lb_read.specs.Laws.{LinesReadExactly, OneText}
use Rattle.lb_read.proofs.KindsExact.{line_exact}

pub lines_read_exactly : LinesReadExactly
lines_read_exactly line w =
    (λ e. line_exact.sound line w e, λ h. subst (λ (x : List ℕ). line_in x ≡ Some w) (sym h.0) (line_exact.complete w h.1))

pub one_text : OneText
one_text a b read x y = x.text_is ∙ sym y.text_is
