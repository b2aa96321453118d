-- The headline: what the program wrote is the text of a history of its trace, which is legal and holds
-- each lane's rows with their replies; after each entry of it every task stands where it may, and each
-- look of it takes exactly what the rules pick; and the bytes read as this history alone. For `step` it is
-- the one serial history of the trace, for `run` the one that the lanes made.
-- Cited by the law `histories_are_sound`, and `once`, `run` and `top`.
use Rattle.std.specs.Prelude.{ℕ, ◌≡◌, true, List, ◌∷◌, ◌++◌, take, Ok, IfSome}
use Rattle.std.specs.Io.KnownBytes.{IsAtEnd}
use Rattle.lb_core.specs.declared.entry.Entry.{Entry}
use Rattle.lb_core.specs.declared.history.History.{History}
use Rattle.lb_core.specs.Machine.{start}
use Rattle.lb_core.specs.Legal.{run}
use Rattle.lb_core.specs.Ranges.{entries_fit}
use Rattle.lb_core.specs.OfTrace.{IsHistoryOf}
use Rattle.lb_core.specs.Placed.{IsPlaced}
use Rattle.lb_core.specs.Permitted.{IsPermitted}
use Rattle.lb_core.specs.Replies.{ReplyAt}
use Rattle.lb_core.specs.Passes.{PassAt}
use Rattle.lb_core.specs.Serial.{IsSerialHistory}
use Rattle.lb_trace.specs.declared.trace.Trace.{Trace}
use Rattle.lb_trace.specs.Grammar.{reading_of}
use Rattle.lb_record.specs.History.{text_of}
use Rattle.lb_read.specs.declared.written.Read.{Read}
use Rattle.lb_read.specs.Whole.{ReadsAs}
use Rattle.lb_read.specs.Written.{as_read}
use Rattle.lb.specs.Invocation.{Invocation, Took}

-- a history is one of a trace, and what holds of each that is
pub record IsSoundHistory (t : Trace) (h : History) : Type 0 where
  -- it is legal, and holds each lane's rows, each once, in order
  pub history : IsHistoryOf t h
  -- what each entry says is in the ranges of its text
  pub in_range : entries_fit h.entries ≡ true
  -- each row has its reply
  pub replied : (before later : List Entry) (e : Entry) → h.entries ≡ before ++ e ∷ later → ReplyAt h.header before e later e.what
  -- at every prefix each task stands at one place
  pub placed : (n : ℕ) → IsPlaced (run (take n h.entries) (start h.header))
  -- at every prefix each awake task may run there, or is asked to leave
  pub permitted : (n : ℕ) → IsPermitted (run (take n h.entries) (start h.header))
  -- each look takes exactly what the rules pick
  pub passes : (before later : List Entry) (e : Entry) → h.entries ≡ before ++ e ∷ later → PassAt h.header before e later e.what
  -- its text reads as it, with the places of its entries as tickets
  pub reads : ReadsAs (text_of h) (as_read h)
  -- and as nothing else
  pub only : (read : Read) → ReadsAs (text_of h) read → read ≡ as_read h

-- so is each history of a trace that was read
abbrev pub HistoriesAreSound : Type 0
HistoriesAreSound = (text : List ℕ) (t : Trace) (h : History) → reading_of text ≡ Ok t → IsHistoryOf t h → IsSoundHistory t h

-- a history is the serial one of a trace
pub record IsTheHistory (t : Trace) (h : History) : Type 0 where
  -- the rows stand in file order, each with all that follows it, over the newest versions and figures
  pub serial : IsSerialHistory t h
  -- no other history is so
  pub alone : (other : History) → IsSerialHistory t other → other ≡ h
  -- and what holds of each history of the trace
  pub sound : IsSoundHistory t h

-- the source was read to its end, and the out sink took the text of such a history of its trace
abbrev pub WroteHistory : (Trace → History → Type 0) → Invocation → Type 0
WroteHistory P c =
    IsAtEnd c.source.after
    × IfSome c.source.before (λ text. (t : Trace) × (reading_of text ≡ Ok t)
    × ((h : History) × P t h × Took c.out (text_of h)))

-- what `step` wrote
abbrev pub Headline : Invocation → Type 0
Headline c = WroteHistory IsTheHistory c

-- what `run` wrote
abbrev pub HeadlineOfRun : Invocation → Type 0
HeadlineOfRun c = WroteHistory IsSoundHistory c
