-- The text of a summary: eight lines, each with what is counted and how many there are.
-- Cited by the contracts of `summary_text`, `put_count`, `put_pulled` and `put_summary`; also by `lb`.
use Rattle.std.specs.Prelude.{ℕ, List, [], ◌∷◌, ◌++◌, codes, decimal}
use Rattle.lb_text.specs.declared.marks.TheConstants.{LINE_FEED}
use Rattle.lb_core.specs.declared.history.History.{History}
use Rattle.lb_summary.specs.declared.summary.Summary.{Summary}
use Rattle.lb_summary.specs.Summary.{steps_of, summary_of}

-- a line: a name, a space and a number
unfoldable pub count_line : List ℕ → ℕ → List ℕ
count_line name count = name ++ codes " " ++ decimal count ++ LINE_FEED ∷ []

-- the lines of what was pulled, level by level
unfoldable pub pulled_text : Summary → List ℕ
pulled_text s =
    count_line (codes "pulled SMT") s.pulled_smt ++ count_line (codes "pulled MC") s.pulled_mc
    ++ count_line (codes "pulled PKG") s.pulled_pkg
    ++ count_line (codes "pulled NUMA") s.pulled_numa

unfoldable pub text_of : Summary → List ℕ
text_of s =
    count_line (codes "rows") s.rows ++ count_line (codes "entries") s.entries ++ pulled_text s
    ++ count_line (codes "pushed") s.pushed
    ++ count_line (codes "stopped") s.stopped

-- the text of the summary of a history
unfoldable pub summary_text : History → List ℕ
summary_text history = text_of (summary_of (steps_of history))
