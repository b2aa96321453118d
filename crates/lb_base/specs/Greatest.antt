-- The first of the greatest among numbered candidates that are tried in rising order: what "the
-- busiest group" and "the source queue" are. `p` says who is a candidate, `above` who is greater.
-- Cited by the law `first_of_the_greatest`; also by `lb_busiest`, `lb_journal_rows` and other crates.
use Rattle.std.specs.Prelude.{◌≡◌, ℕ, ◌<◌, Bool, true, false, not, ◌&&◌, ◌||◌, Option, MatchOption, find}
use Rattle.std.specs.List.{range_with_len, list_all}

-- of the numbers below n that pass p, b is the first of the greatest
pub record IsFirstGreatest (p : ℕ → Bool) (above : ℕ → ℕ → Bool) (n b : ℕ) : Type 0 where
  pub within : b < n
  pub passes : p b ≡ true
  pub greatest : (k : ℕ) → k < n → p k ≡ true → above k b ≡ false
  pub first : (k : ℕ) → k < b → p k ≡ true → above b k ≡ true

-- none below n passes
abbrev pub NonePasses : (ℕ → Bool) → ℕ → Type 0
NonePasses p n = (k : ℕ) → k < n → p k ≡ false

-- the answer is the first of the greatest, or none where none passes
abbrev pub Picks : (ℕ → Bool) → (ℕ → ℕ → Bool) → ℕ → Option ℕ → Type 0
Picks p above n o = MatchOption o (NonePasses p n) (λ b. IsFirstGreatest p above n b)

-- whether b is the first of the greatest
unfoldable pub is_first_greatest : (ℕ → Bool) → (ℕ → ℕ → Bool) → ℕ → ℕ → Bool
is_first_greatest p above n b =
    p b
    && list_all (λ k. not (p k) || not (above k b)) (range_with_len 0 n)
    && list_all (λ k. not (p k) || above b k) (range_with_len 0 b)

-- the first of the greatest, by trial of each number below n
unfoldable pub first_greatest : (ℕ → Bool) → (ℕ → ℕ → Bool) → ℕ → Option ℕ
first_greatest p above n = find (is_first_greatest p above n) (range_with_len 0 n)

-- `above` is an order in which some may be level
pub record IsRanking (above : ℕ → ℕ → Bool) : Type 0 where
  pub one_way : (x y : ℕ) → above x y ≡ true → above y x ≡ false
  pub chain : (x y z : ℕ) → above x y ≡ false → above y z ≡ false → above x z ≡ false
