-- Sources and sinks count their faults. A count never falls, and stands still at its type's last
-- value; a call answers a failure only where the count rose in that call, and else leaves it.
-- Cited by the contracts of `read_all`, `write_all`, `Source::read` and others; also by `lb`.
use Rattle.std.specs.Prelude.{ℕ, ◌≡◌, ◌+◌, ◌-◌, ◌^◌, ◌<◌, ◌≤◌, ◌⊎◌, min, Result, OnErr, OnOk}

-- the count after one fault more
abbrev pub counted : ℕ → ℕ
counted n = min (n + 1) (2 ^ 64 - 1)

-- the count is greater than before, or stands at its last value
abbrev pub Rose : ℕ → ℕ → Type 0
Rose before now = (before < now) ⊎ (now ≡ 2 ^ 64 - 1)

-- the count has not fallen, an Err comes only where it rose, and an Ok only where it stayed
pub record CountsFaults {T E : Type 0} (before now : ℕ) (result : Result T E) : Type 0 where
  pub kept : before ≤ now
  pub rose : OnErr result (Rose before now)
  pub still : OnOk result (now ≡ before)
