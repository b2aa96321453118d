-- What a call moved out of a source or into a sink, where the object tells its bytes. std's words
-- say what moves where all is moved; these speak of a part of it.
-- Cited by the contracts of `read_all`, `write_all`, `Sink::write` and `write`; also by `lb`.
use Rattle.std.specs.Prelude.{ℕ, ◌≤◌, ◌<◌, List, length, take, IfOk, Result}
use Rattle.std.specs.declared.option.Option.{Option}
use Rattle.std.specs.Io.KnownBytes.{Appends, Consumes}

-- a write answers at most the length of the piece, and at least 1 where the piece is not empty
pub record IsWriteCount {E : Type 0} (result : Result ℕ E) (piece : List ℕ) : Type 0 where
  pub most : IfOk result (λ n. n ≤ length piece)
  pub least : IfOk result (λ n. 0 < length piece → 0 < n)

-- the sink took the first bytes, or none, and nothing else
abbrev pub AppendsPrefix : Option (List ℕ) → Option (List ℕ) → List ℕ → Type 0
AppendsPrefix old new bytes = (n : ℕ) × Appends old new (take n bytes)

-- the source gave some of its first bytes, or none
abbrev pub ConsumesPrefix : Option (List ℕ) → Option (List ℕ) → Type 0
ConsumesPrefix old new = (prefix : List ℕ) × Consumes old new prefix
