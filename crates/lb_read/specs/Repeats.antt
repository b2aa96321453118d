-- The lines of a history's header: behind `= ` each repeats a line of a trace that declares the machine,
-- its partition, its lanes or a task, with its lists of CPUs in their one spelling. The partition stands
-- before the lanes.
-- Cited by the contracts of `can_follow`, `parted_by`, `is_spelled` and others.
use Rattle.std.specs.Prelude.{ℕ, ◌+◌, ◌-◌, ◌==◌, nat_le, Bool, true, false, not, ◌&&◌, ◌||◌, List, [], ◌∷◌, length, take, drop, Option, Some, None, if◌then◌else◌, codes}
use Rattle.std.specs.List.{slice_split, list_all}
use Rattle.std.specs.Str.{bytes_eq}
use Rattle.lb_base.specs.declared.mask.Mask.{Mask}
use Rattle.lb_text.specs.declared.marks.TheConstants.{COMMA}
use Rattle.lb_text.specs.Lists.{list_of}
use Rattle.lb_text.specs.Runs.{list_text}

abbrev pub is_repeated : List ℕ → Bool
is_repeated line = bytes_eq (take 2 line) (codes "= ")

abbrev pub spells : List ℕ → Option Mask → Bool
spells text None = false
spells text (Some mask) = bytes_eq (list_text mask) text

-- a list of CPUs in its one spelling, an empty one is empty
unfoldable pub is_spelled : List ℕ → Bool
is_spelled text = length text == 0 || spells text (list_of text)

abbrev pub declares : Bool → List ℕ → List (List ℕ) → Bool
declares parted word fields =
    if bytes_eq word (codes "parts")
    then list_all is_spelled fields
    else (if bytes_eq word (codes "task")
    then list_all is_spelled (drop 3 fields)
    else (if bytes_eq word (codes "lanes")
    then parted
    else (bytes_eq word (codes "cpu") || bytes_eq word (codes "dist"))))

abbrev pub fields_declare : Bool → List (List ℕ) → Bool
fields_declare parted [] = false
fields_declare parted (word ∷ fields) = declares parted word fields

-- the line of a trace can be repeated, after a line `parts` or before
unfoldable pub can_repeat : Bool → List ℕ → Bool
can_repeat parted body = fields_declare parted (slice_split (λ b. b == COMMA) body)

abbrev pub fields_part : List (List ℕ) → Bool
fields_part [] = false
fields_part (word ∷ fields) = bytes_eq word (codes "parts")

-- the line of a trace is its partition
unfoldable pub is_parts : List ℕ → Bool
is_parts body = fields_part (slice_split (λ b. b == COMMA) body)

-- ---- the lines at the head that can be repeated
-- the lines of the trace, whether a line behind `= ` ends them, and the lines that are left
pub record Head : Type 0 where
  pub bodies : List (List ℕ)
  pub stopped : Bool
  pub rest : List (List ℕ)

abbrev pub none_of : Bool → List (List ℕ) → Head
none_of stopped lines = record { bodies = []; stopped = stopped; rest = lines }

abbrev pub in_head : List ℕ → Head → Head
in_head body head = record head { bodies = body ∷ head.bodies }

-- the trace of the lines is no longer than a trace may be
abbrev pub has_room : ℕ → List ℕ → Bool
has_room room body = nat_le (length body + 1) room

-- a line that begins `= ` stops them where it cannot be repeated; the text's last line, without a line
-- feed, is never one of them
unfoldable pub head_of : ℕ → Bool → List (List ℕ) → Head
head_of room parted [] = none_of false []
head_of room parted (last ∷ []) = none_of false (last ∷ [])
head_of room parted (line ∷ next ∷ more) =
    if not (is_repeated line)
    then none_of false (line ∷ next ∷ more)
    else (if can_repeat parted (drop 2 line) && has_room room (drop 2 line)
    then in_head (drop 2 line) (head_of (room - (length (drop 2 line) + 1)) (parted || is_parts (drop 2 line)) (next ∷ more))
    else none_of true (line ∷ next ∷ more))
