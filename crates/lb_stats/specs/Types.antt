-- The type of a group of CPUs: how busy it is, judged by its number of tasks, its utilisation and
-- its runnable average against its capacity. The first test that holds decides.
-- Cited by the contract of `classify`.
use Rattle.std.specs.Prelude.{ℕ, ◌*◌, ◌==◌, nat_lt, Bool, not, ◌&&◌, ◌||◌, if◌then◌else◌}
use Rattle.lb_base.specs.declared.group.GroupType.{GroupType}
use Rattle.lb_base.specs.declared.group.GroupType.TheVariants.{HasSpare, FullyBusy, Imbalanced, Overloaded}

-- the utilisation, grown by the percentage, is above the capacity
abbrev pub is_used_up : ℕ → ℕ → ℕ → Bool
is_used_up cap util pct = nat_lt (cap * 100) (util * pct)

-- the utilisation, grown by the percentage, is below the capacity
abbrev pub has_room : ℕ → ℕ → ℕ → Bool
has_room cap util pct = nat_lt (util * pct) (cap * 100)

-- the runnable average is above the capacity, grown by the percentage
abbrev pub is_waiting : ℕ → ℕ → ℕ → Bool
is_waiting cap runnable pct = nat_lt (cap * pct) (runnable * 100)

-- the type, the first that holds; `marked` says that a pull below was hindered by affinity
abbrev pub type_of : ℕ → ℕ → ℕ → ℕ → ℕ → Bool → ℕ → GroupType
type_of nr weight cap util runnable marked pct =
    if weight == 0 then HasSpare else
    if nat_lt weight nr && (is_used_up cap util pct || is_waiting cap runnable pct) then Overloaded else
    if marked then Imbalanced else
    if nat_lt nr weight || (not (is_waiting cap runnable pct) && has_room cap util pct) then HasSpare else
    FullyBusy
