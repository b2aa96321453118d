-- The source and the sink in memory, as contracts see them: the bytes, the numbers of the calls
-- that fail, and how many calls and faults there were.
-- What contracts see of the types `Source` and `Sink`.
use Rattle.std.specs.Prelude.{ℕ, List}

pub record Input : Type 0 where
  pub left : List ℕ
  pub fail_at : List ℕ
  pub calls : ℕ
  pub faults : ℕ

pub record Output : Type 0 where
  pub taken : List ℕ
  pub fail_at : List ℕ
  pub calls : ℕ
  pub faults : ℕ
