-- What a lane holds of its last entry: its ticket, and a note that it was drawn and what course it left.
-- Cited by the contracts of `learn_last`, `draw_noted`, `draw_at` and `Lane::end`; also by `lb_cpu`, `lb_end` and
-- `lb_lane`.
use Rattle.std.specs.Prelude.{ℕ, ◌≡◌, ◌+◌, ◌<◌, List, [], ◌∷◌, length, Option, Some, None}
use base.Stored.{Coded}
use Rattle.atomic_table.specs.Seated.{TableId}
use Rattle.lb_core.specs.declared.course.Course.{Course}
use Rattle.lb_core.specs.Course.{opening_course}
use Rattle.lb_ticket.specs.declared.view.Fact.{Fact}
use Rattle.lb_ticket.specs.Seats.{NoteIs, SeatIs}
use Rattle.lb_journal.specs.Journal.{Journal, Left}

-- the facts of a note, if there is one
abbrev pub facts_of : Option NoteIs → List Fact
facts_of None = []
facts_of (Some n) = n.facts

-- that the entry of a ticket left the lane this course
abbrev pub fact_left : Coded Left → ℕ → Course → ℕ → Fact
fact_left code lane course ticket =
    record { ticket = ticket; lane = lane; left = code.code (record { course = course; lane = lane }) }

-- the lane's last entry has the ticket, and left the course; a lane that drew nothing has ticket 0, and the opening
-- course of a machine of so many CPUs
abbrev pub IsLast : TableId → Coded Left → ℕ → ℕ → Course → ℕ → Option NoteIs → Type 0
IsLast table code cpus lane course ticket None = (ticket ≡ 0) × (course ≡ opening_course cpus)
IsLast table code cpus lane course ticket (Some n) =
    (0 < ticket) × (n.table ≡ table) × (n.facts ≡ fact_left code lane course ticket ∷ [])

-- the item quotes what the lane holds
abbrev pub Quotes : TableId → Coded Left → Journal → ℕ → Option NoteIs → Type 0
Quotes table code j ticket note =
    IsLast table code (length j.header.cpus) j.entry.lane j.course ticket note × (j.entry.prev ≡ ticket)

-- the lane holds what the item left
abbrev pub Leaves : TableId → Coded Left → Journal → ℕ → Option NoteIs → Type 0
Leaves table code j ticket note = IsLast table code (length j.header.cpus) j.entry.lane j.after ticket note

-- of a seat that drew an entry: it is the same seat, has room for one entry less, and has read nothing
abbrev pub DrewOne : SeatIs Journal → SeatIs Journal → Type 0
DrewOne s t = (t.table ≡ s.table) × (t.number ≡ s.number) × (s.spare ≡ t.spare + 1) × (t.read ≡ s.read)
