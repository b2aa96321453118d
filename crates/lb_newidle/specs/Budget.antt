-- What a newly-idle turn may spend: the cost of a level, whether the turn goes on to it, and the
-- average time for which a CPU stays idle, after one more time of idleness.
-- Cited by the contracts of `next_level` and `idle_average`; also by `lb_journal_rows`, `lb_queue` and `lb_rows`.
use Rattle.std.specs.Prelude.{ℕ, ◌+◌, ◌*◌, nat_le, Bool, pos, ◌+ℤ◌, ◌-ℤ◌, int_div, unsigned_abs}
use Rattle.std.specs.Int.{int_min}
use Rattle.lb_newidle.specs.declared.TheConstants.{COST_PER_CPU, MAX_AVERAGE}

-- the cost of a level whose span has that many CPUs, in nanoseconds
abbrev pub cost_of : ℕ → ℕ
cost_of weight = COST_PER_CPU * weight

-- whether the turn goes on to a level
abbrev pub goes_on : ℕ → ℕ → ℕ → Bool
goes_on avg_idle spent weight = nat_le (spent + cost_of weight) avg_idle

-- the average after a sample: an eighth of the way to it, the quotient cut towards zero, and at most
-- a millisecond
unfoldable pub average_after : ℕ → ℕ → ℕ
average_after avg sample = unsigned_abs (int_min (pos avg +ℤ int_div (pos sample -ℤ pos avg) (pos 8)) (pos MAX_AVERAGE))
