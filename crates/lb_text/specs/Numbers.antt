-- How numbers are spelled: `0`, or decimal digits of which the first is not 0. A nice value may have
-- a minus sign before a number that is not 0.
-- Cited by the contracts of `number_within`, `number_of`, `nice_of` and others; also by `lb_generator`, `lb_read` and
-- other crates.
use Rattle.std.specs.Prelude.{ℕ, Bool, not, ◌&&◌, ◌||◌, ◌==◌, nat_le, if◌then◌else◌, List, length, slice_index, drop, Option, Some, None, is_some, ℤ, pos, neg_ℤ}
use Rattle.std.specs.Option.{option_map}
use Rattle.std.specs.Str.{all_ascii_digits}
use Rattle.std.specs.Str.Parse.{digits_value, starts_with_minus}
use Rattle.lb_text.specs.declared.marks.TheConstants.{ZERO}

-- the text is `0`, or digits of which the first is not 0
abbrev pub is_numeral : List ℕ → Bool
is_numeral text =
    not (length text == 0)
    && all_ascii_digits text
    && (length text == 1 || not (slice_index text 0 == ZERO))

-- the number from `least` to `most` that the text spells
unfoldable pub number_within : ℕ → ℕ → List ℕ → Option ℕ
number_within least most text =
    if is_numeral text && nat_le least (digits_value 10 text) && nat_le (digits_value 10 text) most
    then Some (digits_value 10 text)
    else None

-- the number up to `most` that the text spells
abbrev pub number_of : ℕ → List ℕ → Option ℕ
number_of most text = number_within 0 most text

-- the text spells a number from `least` to `most`
abbrev pub is_number : ℕ → ℕ → List ℕ → Bool
is_number least most text = is_some (number_within least most text)

-- the nice value, from -20 to 19, that the text spells
unfoldable pub nice_of : List ℕ → Option ℤ
nice_of text =
    if starts_with_minus text
    then option_map (λ n. neg_ℤ (pos n)) (number_within 1 20 (drop 1 text))
    else option_map (λ n. pos n) (number_within 0 19 text)

-- the text spells a nice value
abbrev pub is_nice : List ℕ → Bool
is_nice text = is_some (nice_of text)
