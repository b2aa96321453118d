-- How it is read whose an entry is, and which lane drew it: `L` and the lane; `Q`, the CPU, `@` and the
-- lane; or `P@` and the lane.
-- Cited by the contracts of `owner_in`, `publisher_in` and `queue_in`.
use Rattle.std.specs.Prelude.{ℕ, List, [], ◌∷◌, ◌==◌, Option, None, if◌then◌else◌}
use Rattle.std.specs.Option.{option_map}
use Rattle.lb_core.specs.declared.entry.Owner.{Owner}
use Rattle.lb_core.specs.declared.entry.Owner.TheVariants as owners
use Rattle.lb_read.specs.Exact.{take_field, next_to, whole, split_at}
use Rattle.lb_read.specs.Fields.{short_in}

-- the letters of owners, and the mark before the lane that drew an entry of a queue or of the publisher
abbrev pub LANE : ℕ
LANE = 76

abbrev pub QUEUE : ℕ
QUEUE = 81

abbrev pub PUBLISHER : ℕ
PUBLISHER = 80

abbrev pub AT : ℕ
AT = 64

abbrev pub lane_from : ℕ → Owner × ℕ
lane_from lane = (owners.Lane lane, lane)

abbrev pub publisher_from : ℕ → Owner × ℕ
publisher_from lane = (owners.Publisher, lane)

abbrev pub queue_from : ℕ × ℕ → Owner × ℕ
queue_from parts = (owners.Queue parts.0, parts.1)

-- behind `Q`
abbrev pub queue_in : List ℕ → Option (Owner × ℕ)
queue_in rest = option_map queue_from (split_at AT (whole (next_to (take_field short_in) (take_field short_in))) rest)

-- behind `P`
abbrev pub publisher_in : List ℕ → Option (Owner × ℕ)
publisher_in [] = None
publisher_in (mark ∷ lane) = if mark == AT then option_map publisher_from (short_in lane) else None

-- behind its letter
abbrev pub owner_behind : ℕ → List ℕ → Option (Owner × ℕ)
owner_behind letter rest =
    if letter == LANE
    then option_map lane_from (short_in rest)
    else (if letter == QUEUE
    then queue_in rest
    else (if letter == PUBLISHER then publisher_in rest else None))

unfoldable pub owner_in : List ℕ → Option (Owner × ℕ)
owner_in [] = None
owner_in (letter ∷ rest) = owner_behind letter rest
