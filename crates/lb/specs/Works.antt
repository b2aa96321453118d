-- What each work does with its input: its status, where that could be read and there is memory, and what
-- it writes where it is done. `step`, `run` and `topo` read a trace, `check` reads a history, and `gen` and
-- `sum` read nothing.
-- Cited by the contracts of `once`, `input_of`, `top` and others.
use Rattle.std.specs.Prelude.{◌≡◌, ◌⊎◌, ℕ, ◌<◌, ◌≤◌, Bool, true, false, List, [], ◌∷◌, ◌++◌, length, codes, Result, Ok, Err, Option, Some, None, IfSome}
use Rattle.std.specs.Io.KnownBytes.{IsAtEnd}
use Rattle.std.specs.Fmt.{decimal}
use Rattle.lb_trace.specs.declared.trace.TheConstants.{MAX_BYTES}
use Rattle.lb_trace.specs.declared.trace.Code.{Code}
use Rattle.lb_trace.specs.declared.trace.Code.TheVariants.{TooLong, BadLine}
use Rattle.lb_trace.specs.declared.trace.Trace.{Trace}
use Rattle.lb_trace.specs.Grammar.{reading_of}
use Rattle.lb_core.specs.declared.history.History.{History}
use Rattle.lb_core.specs.OfTrace.{IsHistoryOf}
use Rattle.lb_core.specs.Serial.{IsSerialHistory}
use Rattle.lb_record.specs.declared.history.TheConstants.{MAX_HISTORY_BYTES}
use Rattle.lb_record.specs.History.{text_of}
use Rattle.lb_read.specs.declared.written.Read.{Read}
use Rattle.lb_read.specs.Texts.{lines_of}
use Rattle.lb_read.specs.Whole.{ReadsAs}
use Rattle.lb_read.specs.FirstBad.{IsFirstBadLine}
use Rattle.lb_audit.specs.declared.verdict.Verdict.{Verdict}
use Rattle.lb_audit.specs.declared.verdict.Verdict.TheVariants as verdict
use Rattle.lb_audit.specs.Verdict.{verdict_of}
use Rattle.lb_topo.specs.Text.{topology_text}
use Rattle.lb_generator.specs.Generator.{trace_drawn}
use Rattle.lb_generator.specs.Text.{text_drawn}
use Rattle.lb_summary.specs.Text.{summary_text}
use Rattle.lb_words.specs.declared.work.Work.{Work}
use Rattle.lb_words.specs.declared.work.Work.TheVariants.{Step, Run, Topo, Check, Gen, Sum}
use Rattle.lb.specs.declared.status.Status.{Status}
use Rattle.lb.specs.declared.status.Status.TheVariants as status
use Rattle.lb.specs.Invocation.{Stream, IsUntouched, HadFault}

-- ---- who does a work
-- the work that is asked for, where one thread does it: the lanes of `run` wait for one another
abbrev pub on_one_thread : Option Work → Option Work
on_one_thread None = None
on_one_thread (Some Run) = None
on_one_thread (Some work) = Some work

-- ---- what a work reads
-- the work reads its source
abbrev pub reads : Work → Bool
reads (Gen number rows) = false
reads (Sum number rows) = false
reads work = true

-- the words ask for a work that reads its source
abbrev pub reads_source : Option Work → Bool
reads_source None = false
reads_source (Some work) = reads work

-- the longest input that a work reads, in bytes
abbrev pub limit : Work → ℕ
limit Check = MAX_HISTORY_BYTES
limit (Gen number rows) = 0
limit (Sum number rows) = 0
limit work = MAX_BYTES

-- P holds of the input of the work: what its source told, or nothing where the work reads nothing
abbrev pub OfInput : Work → Stream → (List ℕ → Type 0) → Type 0
OfInput (Gen number rows) source P = P []
OfInput (Sum number rows) source P = P []
OfInput work source P = IfSome source.before P

-- these bytes are that input
abbrev pub IsInput : Work → Stream → List ℕ → Type 0
IsInput (Gen number rows) source input = input ≡ []
IsInput (Sum number rows) source input = input ≡ []
IsInput work source input = source.before ≡ Some input

-- the source was read to its end by a work that reads it
abbrev pub WasRead : Work → Stream → Type 0
WasRead (Gen number rows) source = IsUntouched source
WasRead (Sum number rows) source = IsUntouched source
WasRead work source = IsAtEnd source.after

-- ---- the status of a work
-- by what a text reads as: a trace, or its first bad line and that line's code
abbrev pub status_of_reading : Result Trace (ℕ × Code) → Status
status_of_reading (Ok trace) = status.Done
status_of_reading (Err bad) = status.Refused bad.0 bad.1

-- by what is said of a history
abbrev pub status_of_verdict : Verdict → Status
status_of_verdict verdict.Legal = status.Done
status_of_verdict (verdict.Illegal ticket rule) = status.Illegal ticket rule

-- a text that reads as a history is judged
pub record IsJudged (input : List ℕ) (end : Status) : Type 0 where
  pub read : Read
  pub reads : ReadsAs input read
  pub judged : end ≡ status_of_verdict (verdict_of read)

-- any other text has a first bad line
pub record IsBad (input : List ℕ) (end : Status) : Type 0 where
  pub line : ℕ
  pub bad : IsFirstBadLine (lines_of input) line
  pub refused : end ≡ status.Refused line BadLine

abbrev pub IsStatusOfHistory : List ℕ → Status → Type 0
IsStatusOfHistory input end =
    ((MAX_HISTORY_BYTES < length input) × (end ≡ status.Refused 0 TooLong))
    ⊎ ((length input ≤ MAX_HISTORY_BYTES) × (IsJudged input end ⊎ IsBad input end))

abbrev pub IsStatusOf : Work → List ℕ → Status → Type 0
IsStatusOf Step input end = end ≡ status_of_reading (reading_of input)
IsStatusOf Run input end = end ≡ status_of_reading (reading_of input)
IsStatusOf Topo input end = end ≡ status_of_reading (reading_of input)
IsStatusOf Check input end = IsStatusOfHistory input end
IsStatusOf (Gen number rows) input end = end ≡ status.Done
IsStatusOf (Sum number rows) input end = end ≡ status.Done

-- the status says what is wrong with the input
abbrev pub NamesFault : Status → Type 0
NamesFault (status.Refused line code) = Unit {0}
NamesFault (status.Illegal ticket rule) = Unit {0}
NamesFault end = ⊥

-- the work fails with this status before anything could be written
abbrev pub Fails : Work → Stream → Status → Type 0
Fails work source status.ReadFault = (reads work ≡ true) × HadFault source
Fails work source status.NoMemory = Unit {0}
Fails work source end = NamesFault end × OfInput work source (λ input. IsStatusOf work input end)

-- ---- what a work writes
-- what `check` writes of a legal history with so many entries
abbrev pub legal_text : ℕ → List ℕ
legal_text entries = codes "legal " ++ (decimal entries ++ 10 ∷ [])

-- the text of the serial history of a trace
abbrev pub IsSerialText : Trace → List ℕ → Type 0
IsSerialText t text = (h : History) × IsSerialHistory t h × (text ≡ text_of h)

-- the text of a legal history of a trace, whichever its lanes made
abbrev pub IsHistoryText : Trace → List ℕ → Type 0
IsHistoryText t text = (h : History) × IsHistoryOf t h × (text ≡ text_of h)

-- the summary of the serial history of a trace
abbrev pub IsSummary : Trace → List ℕ → Type 0
IsSummary t text = (h : History) × IsSerialHistory t h × (text ≡ summary_text h)

-- what the work writes for its input, where it is done
abbrev pub IsOutput : Work → List ℕ → List ℕ → Type 0
IsOutput Step input output = (t : Trace) × (reading_of input ≡ Ok t) × IsSerialText t output
IsOutput Run input output = (t : Trace) × (reading_of input ≡ Ok t) × IsHistoryText t output
IsOutput Topo input output = (t : Trace) × (reading_of input ≡ Ok t) × (output ≡ topology_text t)
IsOutput Check input output = (read : Read) × ReadsAs input read × (output ≡ legal_text (length read.entries))
IsOutput (Gen number rows) input output = output ≡ text_drawn number rows
IsOutput (Sum number rows) input output = IsSummary (trace_drawn number rows) output

-- the work is done with its input, and has this to write
abbrev pub IsDone : Work → List ℕ → List ℕ → Type 0
IsDone work input output = IsStatusOf work input status.Done × IsOutput work input output

-- the same of what its source told
abbrev pub HasOutput : Work → Stream → List ℕ → Type 0
HasOutput work source output = WasRead work source × OfInput work source (λ input. IsDone work input output)
