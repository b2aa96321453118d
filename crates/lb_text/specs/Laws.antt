-- Laws of the spellings: what is written is read back, what is read is a decimal number, the runs that
-- are written are as long as they can be, and a text has one first bad byte.
-- Cited by the laws `spells_decimal`, `reads_back`, `writes_runs` and others.
use Rattle.std.specs.Prelude.{◌≡◌, ℕ, ◌≤◌, ◌<◌, ◌^◌, ◌↔◌, Bool, List, Some, decimal}
use Rattle.std.specs.List.{list_any}
use Rattle.lb_base.specs.declared.mask.Mask.{Mask}
use Rattle.lb_base.specs.Mask.{has, members}
use Rattle.lb_text.specs.Numbers.{number_within}
use Rattle.lb_text.specs.Lists.{list_of, run_has}
use Rattle.lb_text.specs.Runs.{runs_of, runs_text, AreMaximal}
use Rattle.lb_text.specs.Prefixes.{IsFirstBad}

-- a text spells a number within bounds exactly where it is that number in decimal
abbrev pub SpellsDecimal : Type 0
SpellsDecimal = (least most n : ℕ) (text : List ℕ) → most < 2 ^ 64
    → (number_within least most text ≡ Some n) ↔ ((text ≡ decimal n) × (least ≤ n) × (n ≤ most))

-- a list that is written reads as its mask
abbrev pub ReadsBack : Type 0
ReadsBack = (mask : Mask) → mask.bits < 2 ^ 64 → list_of (runs_text mask) ≡ Some mask

-- the runs that are written have the CPUs of the mask, and are as long as they can be
abbrev pub WritesRuns : Type 0
WritesRuns = (mask : Mask) → mask.bits < 2 ^ 64
    → AreMaximal (runs_of (members mask)) × ((cpu : ℕ) → list_any (run_has cpu) (runs_of (members mask)) ≡ has mask cpu)

-- there is one first bad byte at most
abbrev pub HasOneFirstBad : Type 0
HasOneFirstBad = (accepts : List ℕ → Bool) (text : List ℕ) (a b : ℕ) → IsFirstBad accepts text a → IsFirstBad accepts text b → a ≡ b

-- a list names CPUs that a mask has room for
abbrev pub ListsFit : Type 0
ListsFit = (text : List ℕ) (mask : Mask) → list_of text ≡ Some mask → mask.bits < 2 ^ 64
