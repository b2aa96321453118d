-- The `pub` of a version that a lane draws in the publisher's list: what it says and leaves, and what the lane and the
-- publisher's seat are after it.
-- Cited by the contract of `Lane::draw_pub`; also by `lb_lane` and `lb_service`.
use Rattle.std.specs.Prelude.{ℕ, ◌≡◌, ◌≤◌, false, [], ◌∷◌, ◌++◌, length}
use Rattle.lb_trace.specs.declared.trace.Header.{Header}
use Rattle.lb_core.specs.declared.course.Course.{Course}
use Rattle.lb_core.specs.declared.entry.Entry.{Entry}
use Rattle.lb_core.specs.declared.entry.Owner.TheVariants.{Publisher}
use Rattle.lb_core.specs.declared.entry.What.TheVariants.{Pub}
use Rattle.lb_core.specs.declared.rule.Rule.{Rule}
use Rattle.lb_core.specs.Sight.{Sight}
use Rattle.lb_core.specs.Rules.{breaks_here}
use Rattle.lb_core.specs.Machine.{no_queue}
use Rattle.lb_core.specs.CourseAfter.{course_after}
use Rattle.lb_ticket.specs.Seats.{SeatIs}
use Rattle.lb_journal.specs.Journal.{Journal}
use Rattle.lb_cell.specs.Cells.{LaneIs}
use Rattle.lb_cell.specs.LastEntries.{DrewOne}

-- what the step of the `pub` reads: of the publisher's list how many it holds
abbrev pub pub_sight : Header → Course → ℕ → Sight
pub_sight h c count = record { header = h; course = c; queue = no_queue; count = count; masks = []; figs = [] }

abbrev pub pub_entry : LaneIs → ℕ → Entry
pub_entry l version = record { owner = Publisher; lane = l.number; prev = l.known.ticket; what = Pub version }

abbrev pub pub_left : Header → LaneIs → ℕ → ℕ → Course
pub_left h l count version = course_after (pub_sight h l.course count) (pub_entry l version)

abbrev pub pub_item : Header → LaneIs → ℕ → ℕ → Journal
pub_item h l count version = record {
  header = h;
  entry = pub_entry l version;
  course = l.course;
  after = pub_left h l count version;
  masks = [];
  figs = [];
}

-- the lane may draw it: it breaks no rule
abbrev pub MayDrawPub : Header → LaneIs → ℕ → ℕ → Type 0
MayDrawPub h l count version =
    (rule : Rule) → breaks_here rule (pub_sight h l.course count) (pub_entry l version) ≡ false

-- it was drawn in the publisher's list, as it might be, and the lane holds it
pub record DrewPub (h : Header) (l l' : LaneIs) (s s' : SeatIs Journal) (version ticket : ℕ) : Type 0 where
  pub may : MayDrawPub h l (length s.list) version
  pub list : s'.list ≡ s.list ++ record { ticket = ticket; item = pub_item h l (length s.list) version } ∷ []
  pub seat : DrewOne s s'
  pub above : s.next ≤ ticket
  pub course : l'.course ≡ pub_left h l (length s.list) version
  pub held : l'.known.ticket ≡ ticket
  -- of the lane all else is as it was
  pub own : l'.seat ≡ l.seat
  pub reader : l'.known.reader ≡ l.known.reader
  pub number : l'.number ≡ l.number
  pub landing : l'.landing ≡ l.landing
