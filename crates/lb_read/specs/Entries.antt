-- How the line of an entry is read: its ticket, its owner, the ticket of the lane's entry before it, and
-- what it says, with a space between each two fields.
-- Cited by the contracts of `entry_of` and `origin_in`.
use Rattle.std.specs.Prelude.{ℕ, List, Option}
use Rattle.std.specs.Option.{option_map}
use Rattle.lb_core.specs.declared.entry.Owner.{Owner}
use Rattle.lb_core.specs.declared.entry.What.{What}
use Rattle.lb_read.specs.declared.written.WrittenEntry.{WrittenEntry}
use Rattle.lb_text.specs.declared.marks.TheConstants.{SPACE}
use Rattle.lb_read.specs.Exact.{by_word, take_field, next_to, ending, split_at}
use Rattle.lb_read.specs.KindWords.{what_words}
use Rattle.lb_read.specs.Fields.{long_in}
use Rattle.lb_read.specs.Owners.{owner_in}
use Rattle.lb_read.specs.Kinds.{what_in}

abbrev pub entry_from : ((ℕ × (Owner × ℕ)) × ℕ) × What → WrittenEntry
entry_from p =
    record { ticket = p.0.0.0; entry = record { owner = p.0.0.1.0; lane = p.0.0.1.1; prev = p.0.1; what = p.1 } }

-- the ticket, the owner with the lane, and the ticket of the lane's entry before it
abbrev pub origin_head : List (List ℕ) → Option (((ℕ × (Owner × ℕ)) × ℕ) × List (List ℕ))
origin_head fields = next_to (next_to (take_field long_in) (take_field owner_in)) (take_field long_in) fields

unfoldable pub entry_in : List (List ℕ) → Option WrittenEntry
entry_in fields =
    option_map entry_from (ending origin_head (by_word what_words what_in) fields)

-- the entry of a line, with the ticket that is written there
unfoldable pub line_in : List ℕ → Option WrittenEntry
line_in line = split_at SPACE entry_in line
