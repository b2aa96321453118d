-- What stays of a lane whole as it draws entries, for whoever calls the queues of a machine.
-- For `lb_pass` and `lb_service`.
use Rattle.std.proofs.Common.{ℕ, ◌≡◌, List, refl, sym, ◌∙◌, ap, subst}
use base.Stored.{Coded}
use Rattle.atomic_table.specs.Seated.{TableId}
use Rattle.lb_imbalance.specs.declared.decision.Decision.{Decision}
use Rattle.lb_trace.specs.declared.trace.Header.{Header}
use Rattle.lb_core.specs.declared.course.Course.{Course}
use Rattle.lb_core.specs.declared.entry.What.{What}
use Rattle.lb_core.specs.Course.{turn_domain}
use Rattle.lb_journal.specs.Journal.{Journal, names_of}
use Rattle.lb_cell.specs.Draws.{course_left}
use Rattle.lb_lane.specs.Lanes.{LaneIs}
use Rattle.lb_lane.specs.Looks.{LaneLooked, decides}
use Rattle.lb_cpu.specs.Drawn.{DrewThere}
use Rattle.lb_lane_laws.specs.Stays.{SameRows, SameTurn}
use Rattle.lb_lane_laws.proofs.Courses.{LookLeft, look_left}

-- ---- rows
pub rows_stay : (l : LaneIs) → SameRows l l
rows_stay l = record { number = refl; rows = refl; taken_up = refl }

pub rows_still : (l m n : LaneIs) → SameRows l m → SameRows m n → SameRows l n
rows_still l m n a b = record { number = b.number ∙ a.number; rows = b.rows ∙ a.rows; taken_up = b.taken_up ∙ a.taken_up }

-- a turn that stays has as many rows taken up
pub turn_rows : (c c' : Course) → SameTurn c c' → c'.rows ≡ c.rows
turn_rows c c' same = ap (λ (x : Course). x.rows) same

-- ---- an entry at a queue
pub there_course : (h : Header) (book : TableId) (board : List TableId) (code : Coded Journal) (l l' : LaneIs) (cpu : ℕ)
    (w : What) → (x : DrewThere h book board code l l' cpu w) → l'.side.course ≡ course_left h x.before l.side w
there_course h book board code l l' cpu w x = x.read.same.course ∙ x.drew.course

pub there_rows : (h : Header) (book : TableId) (board : List TableId) (code : Coded Journal) (l l' : LaneIs) (cpu : ℕ)
    (w : What) → DrewThere h book board code l l' cpu w → l'.side.course.rows ≡ l.side.course.rows → SameRows l l'
there_rows h book board code l l' cpu w x same = record {
  number = x.read.same.number ∙ x.drew.number;
  rows = x.rest.rows;
  taken_up = same;
}

-- ---- a look
pub lane_look_left : (h : Header) (n : ℕ) (l l' : LaneIs) (d : Decision) → LaneLooked h n l l' d
    → LookLeft d l.side.course l'.side.course
lane_look_left h n l l' d x =
    let c = l.side.course in
    let figs = x.looked.drew.figs in
    let here = decides (turn_domain h c) c figs in
    subst (λ (e : Decision). LookLeft e c l'.side.course) (sym x.looked.answer)
    (subst (LookLeft here c) (sym x.looked.drew.drew.course)
    (look_left h l.side c.position c.excluded (names_of figs) here figs))

pub look_rows : (h : Header) (n : ℕ) (l l' : LaneIs) (d : Decision) → LaneLooked h n l l' d → SameRows l l'
look_rows h n l l' d x = record {
  number = x.looked.drew.drew.number;
  rows = x.rest.rows;
  taken_up = turn_rows l.side.course l'.side.course (lane_look_left h n l l' d x).turn;
}
