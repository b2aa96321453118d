-- Where the work of `step` is done, what was written is the text of the trace's one serial history, and where
-- that of `run` is, the text of a history of the trace.
-- For `once`, `run` and `top`.
use Rattle.std.proofs.Common.{◌≡◌, ℕ, List, Option, Some, None, Ok, sym, ◌∙◌, subst}
use Rattle.std.specs.Prelude.{IfSome}
use Rattle.lb_core.specs.declared.history.History.{History}
use Rattle.lb_core.specs.Serial.{OneSerialHistory}
use Rattle.lb_trace.specs.declared.trace.Trace.{Trace}
use Rattle.lb_trace.specs.Grammar.{reading_of}
use Rattle.lb_record.specs.History.{text_of}
use Rattle.lb_words.specs.declared.work.Work.{Work}
use Rattle.lb_words.specs.declared.work.Work.TheVariants.{Step, Run}
use Rattle.lb.specs.declared.status.Status.{Status}
use Rattle.lb.specs.declared.status.Status.TheVariants as status
use Rattle.lb.specs.Invocation.{Stream, Invocation, Took}
use Rattle.lb.specs.Works.{IsDone, HasOutput}
use Rattle.lb.specs.Answers.{Answers}
use Rattle.lb.specs.Headline.{HistoriesAreSound, IsSoundHistory, IsTheHistory, Headline, HeadlineOfRun}

-- ---- what was written for a text
abbrev IsWritten : (Trace → History → Type 0) → Stream → List ℕ → Type 0
IsWritten P out text = (t : Trace) × (reading_of text ≡ Ok t) × ((h : History) × P t h × Took out (text_of h))

-- the work of this kind writes such a history of its trace
abbrev Writes : (Trace → History → Type 0) → Work → Type 0
Writes P work = (out : Stream) (output text : List ℕ) → Took out output → IsDone work text output → IsWritten P out text

step_writes : HistoriesAreSound → OneSerialHistory → Writes IsTheHistory Step
step_writes sound one out output text took (end, (t, is, (h, serial, same))) =
    let the : IsTheHistory t h = record {
      serial = serial;
      alone = λ other k. one t other h k serial;
      sound = sound text t h is serial.of_trace;
    } in
    (t, is, (h, the, subst (λ (bytes : List ℕ). Took out bytes) same took))

run_writes : HistoriesAreSound → Writes IsSoundHistory Run
run_writes sound out output text took (end, (t, is, (h, of_trace, same))) =
    (t, is, (h, sound text t h is of_trace, subst (λ (bytes : List ℕ). Took out bytes) same took))

-- ---- where the status is Done
of_source : (P : Trace → History → Type 0) (work : Work) → Writes P work
    → (before : Option (List ℕ)) (out : Stream) (output : List ℕ)
    → Took out output → IfSome before (λ text. IsDone work text output) → IfSome before (IsWritten P out)
of_source P work writes None out output took h = tt
of_source P work writes (Some text) out output took h = writes out output text took h

abbrev IsDoneBy : Invocation → Work → Type 0
IsDoneBy c work = (output : List ℕ) × HasOutput work c.source output × Took c.out output

-- the work that was asked for was done, and written whole
done_by : (s : Status) (c : Invocation) (error : Stream) (work : Work)
    → Answers s c error → s ≡ status.Done → c.work ≡ Some work → IsDoneBy c work
done_by status.Done c error work w is asked =
    let same : Some w.0.1.0 ≡ Some work = sym w.0.1.1 ∙ asked in
    let one : w.0.1.0 ≡ work = cc in
    (w.0.0, subst (λ (x : Work). HasOutput x c.source w.0.0) one w.0.1.2, w.0.2)
done_by status.ReadFault c error work w is asked = absurd (cc)
done_by status.Usage c error work w is asked = absurd (cc)
done_by (status.Refused line code) c error work w is asked = absurd (cc)
done_by status.WriteFault c error work w is asked = absurd (cc)
done_by status.NoMemory c error work w is asked = absurd (cc)
done_by (status.Illegal ticket rule) c error work w is asked = absurd (cc)

pub of_step : HistoriesAreSound → OneSerialHistory → (s : Status) (c : Invocation) (error : Stream)
    → Answers s c error → s ≡ status.Done → c.work ≡ Some Step → Headline c
of_step sound one s c error w is asked =
    let done : IsDoneBy c Step = done_by s c error Step w is asked in
    (done.1.0, of_source IsTheHistory Step (step_writes sound one) c.source.before c.out done.0 done.2 done.1.1)

pub of_run : HistoriesAreSound → (s : Status) (c : Invocation) (error : Stream)
    → Answers s c error → s ≡ status.Done → c.work ≡ Some Run → HeadlineOfRun c
of_run sound s c error w is asked =
    let done : IsDoneBy c Run = done_by s c error Run w is asked in
    (done.1.0, of_source IsSoundHistory Run (run_writes sound) c.source.before c.out done.0 done.2 done.1.1)

-- where no work is asked for, none is done
pub none_done : (s : Status) (c : Invocation) (error : Stream) → Answers s c error → c.work ≡ None → s ≡ status.Done → ⊥
none_done status.Done c error w none is = let asked : c.work ≡ Some w.0.1.0 = w.0.1.1 in cc
none_done status.ReadFault c error w none is = cc
none_done status.Usage c error w none is = cc
none_done (status.Refused line code) c error w none is = cc
none_done status.WriteFault c error w none is = cc
none_done status.NoMemory c error w none is = cc
none_done (status.Illegal ticket rule) c error w none is = cc
