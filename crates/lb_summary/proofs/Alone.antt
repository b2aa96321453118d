-- The summary of a history that is its end alone.
-- For the law `end_alone`.
use Rattle.std.proofs.Common.{refl}
use Rattle.std.specs.Fmt.{digits}
use Rattle.lb_summary.specs.Laws.{EndAlone}
use Rattle.lb_summary.specs.Summary.{summary_of}
use Rattle.lb_summary.specs.Text.{count_line, pulled_text, text_of, summary_text}

pub end_alone : EndAlone
unfolding summary_text text_of pulled_text count_line summary_of digits
end_alone h unserved = refl
