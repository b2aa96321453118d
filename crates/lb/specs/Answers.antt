-- Definitions: what each status of the program says of its work, its source and its sinks, that is what was
-- read and written, and what was told to the error sink.
use Rattle.std.specs.Prelude.{◌≡◌, ◌⊎◌, ℕ, List, [], ◌∷◌, ◌++◌, codes, Some, None}
use Rattle.std.specs.declared.option.Option.{Option}
use Rattle.std.specs.Fmt.{decimal}
use Rattle.lb_trace.specs.Codes.{code_word}
use Rattle.lb_core.specs.Names.{name_of}
use Rattle.lb_words.specs.declared.work.Work.{Work}
use Rattle.lb.specs.declared.status.Status.{Status}
use Rattle.lb.specs.declared.status.Status.TheVariants as status
use Rattle.lb.specs.Invocation.{Stream, Invocation, IsUntouched, HadFault, HadNoFault, Took, TookPrefix}
use Rattle.lb.specs.Works.{IsInput, IsStatusOf, NamesFault, Fails, HasOutput}

-- ---- statuses
-- the exit status
abbrev pub status_number : Status → ℕ
status_number status.Done = 0
status_number status.ReadFault = 1
status_number status.Usage = 2
status_number (status.Refused line code) = 3
status_number status.WriteFault = 4
status_number status.NoMemory = 5
status_number (status.Illegal ticket rule) = 6

-- what is written to the error sink
abbrev pub status_text : Status → List ℕ
status_text status.Done = []
status_text status.ReadFault = codes "lb: read fault\n"
status_text status.Usage = codes "lb: usage\n"
status_text (status.Refused line code) = codes "lb: line " ++ (decimal line ++ (codes ": " ++ (code_word code ++ 10 ∷ [])))
status_text status.WriteFault = codes "lb: write fault\n"
status_text status.NoMemory = codes "lb: no memory\n"
status_text (status.Illegal ticket rule) = codes "lb: ticket " ++ (decimal ticket ++ (codes ": " ++ (name_of rule ++ 10 ∷ [])))

-- ---- the work
-- a work is asked for, and P holds of it
abbrev pub OfWork : Option Work → (Work → Type 0) → Type 0
OfWork asked P = (work : Work) × (asked ≡ Some work) × P work

-- no work is asked for, or it fails with this status before anything could be written
abbrev pub FailsCall : Status → Option Work → Stream → Type 0
FailsCall status.Usage asked source = (asked ≡ None) × IsUntouched source
FailsCall status.NoMemory asked source = Unit {0}
FailsCall end asked source = OfWork asked (λ work. Fails work source end)

-- the work that is asked for is done, and has this to write
abbrev pub WorkHas : Option Work → Stream → List ℕ → Type 0
WorkHas asked source output = OfWork asked (λ work. HasOutput work source output)

-- what a status says before it is reported
abbrev pub Says : Status → Invocation → Type 0
Says status.Done c = (output : List ℕ) × WorkHas c.work c.source output × Took c.out output × HadNoFault c.out
Says status.WriteFault c = HadFault c.out × ((output : List ℕ) × WorkHas c.work c.source output × TookPrefix c.out output)
Says end c = FailsCall end c.work c.source × IsUntouched c.out

-- the status stands before anything is written to the out sink
abbrev pub IsBeforeWriting : Status → Type 0
IsBeforeWriting status.Done = ⊥
IsBeforeWriting status.WriteFault = ⊥
IsBeforeWriting s = Unit {0}

-- ---- the report
-- the error sink took the whole text of the status, and none of its calls failed
abbrev pub Told : Status → Stream → Type 0
Told s error = Took error (status_text s) × HadNoFault error

-- a call of the error sink failed: it took a prefix of the text of the status, and nothing after it
abbrev pub ToldPrefix : Status → Stream → Type 0
ToldPrefix s error = (s ≡ status.Done → ⊥) × TookPrefix error (status_text s) × HadFault error

-- a status was to be told, and this one stands then
abbrev pub Tells : Status → Status → Stream → Type 0
Tells was now error = ((now ≡ was) × Told was error) ⊎ ((now ≡ status.WriteFault) × ToldPrefix was error)

-- the same, where want of memory may be told in place of what is wrong with the input, since the text
-- of that needs memory
abbrev pub Reports : Status → Status → Stream → Type 0
Reports was now error = Tells was now error ⊎ (NamesFault was × Tells status.NoMemory now error)

-- ---- the whole call
-- A status says what the work did, and was told whole. A write fault is the work's own, or stands in
-- place of the status `was` that the work ended with and that could not be told whole.
abbrev pub Answers : Status → Invocation → Stream → Type 0
Answers status.WriteFault c error = (Says status.WriteFault c × Told status.WriteFault error) ⊎ ((was : Status) × Says was c × ToldPrefix was error)
Answers s c error = Says s c × Told s error

-- where nothing failed, the status is that of the work on its input, or want of memory
abbrev pub Completes : Status → Invocation → Stream → Type 0
Completes s c error =
    (work : Work) (input : List ℕ) (end : Status)
    → c.work ≡ Some work → IsInput work c.source input → IsStatusOf work input end
    → (HadFault c.source → ⊥) → (HadFault c.out → ⊥) → (HadFault error → ⊥)
    → (s ≡ end) ⊎ (s ≡ status.NoMemory)
