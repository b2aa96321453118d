-- The load signal of a task: the sums that it keeps, how they change when it is advanced to a later
-- moment, the value that it has there, and the bounds that every signal keeps. Time is counted in
-- units of 1,024 ns and periods of 1,024 units.
-- Cited by the laws `zero_is_bounded`, `advanced_is_bounded` and `value_is_bounded`, and `advance`, `value_at` and
-- others; also by `lb_cell`, `lb_journal_rows` and other crates.
use Rattle.std.specs.Prelude.{ℕ, ◌+◌, ◌-◌, ◌*◌, ◌/◌, ◌%◌, ◌≤◌, ◌<◌, ◌==◌, if◌then◌else◌}
use Rattle.lb_pelt.specs.declared.signal.Run.{Run}
use Rattle.lb_pelt.specs.declared.signal.Run.TheVariants.{Asleep, Waiting, Running}
use Rattle.lb_pelt.specs.declared.signal.Value.{Value}
use Rattle.lb_pelt.specs.Decay.{decayed}

-- what a signal keeps
pub record Sums : Type 0 where
  pub stamp : ℕ
  pub part : ℕ
  pub load_sum : ℕ
  pub runnable_sum : ℕ
  pub util_sum : ℕ

-- the bounds that every signal keeps
pub record IsBounded (s : Sums) : Type 0 where
  pub part_small : s.part < 1024
  pub load_small : s.load_sum ≤ 46718 + s.part
  pub runnable_small : s.runnable_sum ≤ 1024 * (46718 + s.part) + 49152
  pub util_small : s.util_sum ≤ 1024 * (46718 + s.part) + 49152

-- the signal that every task begins with
abbrev pub zero_signal : Sums
zero_signal = record { stamp = 0; part = 0; load_sum = 0; runnable_sum = 0; util_sum = 0 }

-- the whole units that have passed since the stamp
abbrev pub elapsed : Sums → ℕ → ℕ
elapsed s now = (now - s.stamp) / 1024

-- what a sum keeps over p periods
abbrev pub kept : ℕ → ℕ → ℕ
kept p v = if p == 0 then v else decayed v p

-- what e units add, from a part of a period on
abbrev pub contribution : ℕ → ℕ → ℕ
contribution part e =
    let p = (part + e) / 1024 in
    if p == 0 then e else decayed (1024 - part) p + (47742 - decayed 47742 p - 1024) + (part + e) % 1024

-- what load and runnable take of a contribution
abbrev pub awake_share : Run → ℕ → ℕ
awake_share Asleep c = 0
awake_share Waiting c = c
awake_share Running c = c

-- what util takes of it
abbrev pub running_share : Run → ℕ → ℕ
running_share Asleep c = 0
running_share Waiting c = 0
running_share Running c = c

-- the signal after e units
unfoldable pub advanced_by : Sums → Run → ℕ → Sums
advanced_by s run e =
    let p = (s.part + e) / 1024 in
    let c = contribution s.part e in
    record {
      stamp = s.stamp + 1024 * e;
      part = (s.part + e) % 1024;
      load_sum = kept p s.load_sum + awake_share run c;
      runnable_sum = kept p s.runnable_sum + 1024 * awake_share run c;
      util_sum = kept p s.util_sum + 1024 * running_share run c;
    }

-- the signal at a moment
unfoldable pub advanced : Sums → Run → ℕ → Sums
advanced s run now = if elapsed s now == 0 then s else advanced_by s run (elapsed s now)

-- what a signal says at its stamp, of a task of this weight
unfoldable pub signal_value : Sums → ℕ → Value
signal_value s weight =
    let divider = 46718 + s.part in
    record { load = weight * s.load_sum / divider; runnable = s.runnable_sum / divider; util = s.util_sum / divider }

-- the bounds of a value
pub record IsWithin (weight : ℕ) (v : Value) : Type 0 where
  pub load_small : v.load ≤ weight
  pub runnable_small : v.runnable ≤ 1025
  pub util_small : v.util ≤ 1025
