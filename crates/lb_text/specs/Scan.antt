-- What a scan of digits knows between two bytes: the number that they spell so far, and the number
-- that one byte more makes of it.
-- Cited by the contracts of `with_digit` and `with_leading_digit`.
use Rattle.std.specs.Prelude.{◌≡◌, ℕ, ◌+◌, ◌-◌, ◌*◌, ◌<◌, ◌^◌, ◌==◌, ◌&&◌, not, nat_le, if◌then◌else◌, List, [], Option, Some, None, decimal}
use Rattle.std.specs.Char.{is_ascii_digit}
use Rattle.lb_text.specs.declared.marks.TheConstants.{ZERO}

-- the digits so far, and the number that they spell
abbrev pub Spelled : Option ℕ → List ℕ → Type 0
Spelled None text = text ≡ []
Spelled (Some n) text = (text ≡ decimal n) × (n < 2 ^ 64)

-- the number up to `most` with one byte more; no digit follows a leading 0
abbrev pub number_with : ℕ → Option ℕ → ℕ → Option ℕ
number_with most None b = if is_ascii_digit b && nat_le (b - ZERO) most then Some (b - ZERO) else None
number_with most (Some n) b =
    if is_ascii_digit b && not (n == 0) && nat_le (n * 10 + (b - ZERO)) most then Some (n * 10 + (b - ZERO)) else None
