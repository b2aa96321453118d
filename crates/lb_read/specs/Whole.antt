-- What it says that a text reads as a history, by texts alone: it is the text of a header and of entries
-- with their tickets; the header's lines without `= ` are, behind `lbtrace,1`, an accepted trace without
-- rows, and that trace has this header; and what each entry says is in range.
-- Cited by the contract of `read_history`; also by `lb` and `lb_audit`.
use Rattle.std.specs.Prelude.{◌≡◌, ℕ, true, List, [], ◌++◌, drop, map, Result, Ok, Err}
use Rattle.std.specs.List.{list_all}
use Rattle.lb_trace.specs.declared.trace.Code.{Code}
use Rattle.lb_trace.specs.declared.trace.Header.{Header}
use Rattle.lb_trace.specs.declared.trace.Trace.{Trace}
use Rattle.lb_trace.specs.Grammar.{reading_of}
use Rattle.lb_text.specs.Lines.{lines_text}
use Rattle.lb_record.specs.Header.{header_lines}
use Rattle.lb_read.specs.declared.written.Read.{Read}
use Rattle.lb_read.specs.Written.{written_line, written_fits}
use Rattle.lb_read.specs.Texts.{trace_text}

-- the lines of a header as those of a trace
abbrev pub trace_lines : Header → List (List ℕ)
trace_lines header = map (λ line. drop 2 line) (drop 1 (header_lines header))

-- what was read is a trace of this header, without rows
abbrev pub IsTraceOf : Header → Result Trace (ℕ × Code) → Type 0
IsTraceOf header (Ok trace) = (trace.header ≡ header) × (trace.rows ≡ [])
IsTraceOf header (Err bad) = ⊥

-- the lines of the header are an accepted trace that says this header
abbrev pub IsDeclared : Header → Type 0
IsDeclared header = IsTraceOf header (reading_of (trace_text (trace_lines header)))

-- the text reads as this history
pub record ReadsAs (text : List ℕ) (read : Read) : Type 0 where
  pub header : IsDeclared read.header
  pub entries : list_all written_fits read.entries ≡ true
  pub text_is : text ≡ lines_text (header_lines read.header ++ map written_line read.entries)
