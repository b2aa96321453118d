-- For `texts_may_be_judged` of src/laws.rt: what a text reads as may be judged: its header is that of an
-- accepted trace, and what its entries say is in range.
use Rattle.std.proofs.Common.{◌≡◌, ℕ, Result, Ok, Err, refl, subst}
use Rattle.lb_trace.specs.declared.trace.Code.{Code}
use Rattle.lb_trace.specs.declared.trace.Header.{Header}
use Rattle.lb_trace.specs.declared.trace.Trace.{Trace}
use Rattle.lb_trace.specs.Accepted.{IsHeader, IsTrace}
use Rattle.lb_trace.specs.Grammar.{reading_of}
use Rattle.lb_read.specs.Texts.{trace_text}
use Rattle.lb_read.specs.Whole.{trace_lines, IsTraceOf}
use Rattle.lb_audit.proofs.laws.texts_may_be_judged.Goals as goal

-- the header of an accepted trace
is_header : (h : Header) (r : Result Trace (ℕ × Code)) → ((t : Trace) → r ≡ Ok t → IsTrace t) → IsTraceOf h r → IsHeader h
is_header h (Ok trace) accepts same = subst IsHeader same.0 (accepts trace refl).header
is_header h (Err bad) accepts same = absurd same

pub returns : goal.returns
returns c text read reads =
    let lines = trace_text (trace_lines read.header) in
    (is_header read.header (reading_of lines) (c.accepted.ensures lines) reads.header, reads.entries)
