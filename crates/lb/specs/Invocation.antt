-- What a call of the program found and left: the work that it was to do, and of its source and its `out` sink the
-- bytes that they hold, where they tell them, and their counts of faults, before and after the call. Clauses name
-- the `err` sink beside it.
-- Cited by the contracts of `once`, `input_of`, `run` and others.
use Rattle.std.specs.Prelude.{◌≡◌, ℕ, List}
use Rattle.std.specs.declared.option.Option.{Option}
use Rattle.std.specs.Io.KnownBytes.{Appends}
use Rattle.lb_io.specs.Faults.{Rose}
use Rattle.lb_io.specs.Moved.{AppendsPrefix}
use Rattle.lb_words.specs.declared.work.Work.{Work}

-- ---- a source or a sink
pub record Stream : Type 0 where
  pub before : Option (List ℕ)
  pub after : Option (List ℕ)
  pub faults_before : ℕ
  pub faults_after : ℕ

-- the side of an object that holds such bytes, and counts so many faults, before and after
abbrev pub stream_of : {X : Type 0} → (X → Option (List ℕ)) → (X → ℕ) → X → X → Stream
stream_of bytes faults old new = record { before = bytes old; after = bytes new; faults_before = faults old; faults_after = faults new }

abbrev pub IsUntouched : Stream → Type 0
IsUntouched s = s.after ≡ s.before

abbrev pub HadFault : Stream → Type 0
HadFault s = Rose s.faults_before s.faults_after

abbrev pub HadNoFault : Stream → Type 0
HadNoFault s = s.faults_after ≡ s.faults_before

abbrev pub Took : Stream → List ℕ → Type 0
Took s bytes = Appends s.before s.after bytes

-- it took the first bytes, or none, and nothing else
abbrev pub TookPrefix : Stream → List ℕ → Type 0
TookPrefix s bytes = AppendsPrefix s.before s.after bytes

-- ---- a call
-- the work of a call, or None where its words ask for none that it does; what its source had left, and what its
-- out sink took
pub record Invocation : Type 0 where
  pub work : Option Work
  pub source : Stream
  pub out : Stream

abbrev pub invocation_of : Option Work → Stream → Stream → Invocation
invocation_of work source out = record { work = work; source = source; out = out }
