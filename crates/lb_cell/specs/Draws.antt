-- One entry of a queue, drawn by a lane: what it says and leaves, when it may be drawn, and what the queue and the lane
-- are after it.
-- Cited by the contracts of `Cell::answer`, `Cell::close`, `Cell::over` and others; also by `lb_cpu`, `lb_end` and
-- other crates.
use Rattle.std.specs.Prelude.{ℕ, ◌≡◌, ◌+◌, true, false, [], ◌∷◌, ◌++◌, Some, length, set, ◌<◌, All}
use mathlib.Core.List.{IsPrefix}
use Rattle.lb_queue.specs.Queue.{QueueState}
use Rattle.lb_queue.specs.Figures.{figure}
use Rattle.lb_trace.specs.declared.trace.Header.{Header}
use Rattle.lb_core.specs.declared.course.Course.{Course}
use Rattle.lb_core.specs.declared.course.Form.{Form}
use Rattle.lb_core.specs.declared.entry.Entry.{Entry}
use Rattle.lb_core.specs.declared.entry.Owner.TheVariants.{Queue}
use Rattle.lb_core.specs.declared.entry.What.{What}
use Rattle.lb_core.specs.declared.entry.What.TheVariants.{Turn, Shut}
use Rattle.lb_core.specs.declared.rule.Rule.{Rule}
use Rattle.lb_core.specs.Sight.{Sight}
use Rattle.lb_core.specs.Elsewhere.{is_rest}
use Rattle.lb_core.specs.Course.{turn_kind}
use Rattle.lb_core.specs.Stage.{queue_due, waits_for_push, waits_for_stop}
use Rattle.lb_core.specs.Rules.{breaks_here}
use Rattle.lb_core.specs.QueueAfter.{queue_after}
use Rattle.lb_core.specs.CourseAfter.{course_after}
use Rattle.lb_journal.specs.Journal.{Journal}
use Rattle.lb_board.specs.Board.{add_figure, see, seen_at}
use Rattle.lb_cell.specs.Kinds.{is_of_queue}
use Rattle.lb_cell.specs.Cells.{CellIs, LaneIs}

-- the cell and the lane before an entry
pub record BeforeIs : Type 0 where
  pub cell : CellIs
  pub lane : LaneIs

-- what the step of an entry of the queue reads
abbrev pub sight_at : Header → CellIs → LaneIs → Sight
sight_at h c l =
    record { header = h; course = l.course; queue = c.queue.state; count = length c.log.seat.list; masks = []; figs = [] }

-- an entry of the queue by the lane
abbrev pub entry_at : CellIs → LaneIs → What → Entry
entry_at c l what = record { owner = Queue c.log.writer.cpu; lane = l.number; prev = l.known.ticket; what = what }

-- the queue and the course that it leaves
abbrev pub queue_left : Header → CellIs → LaneIs → What → QueueState
queue_left h c l what = queue_after (sight_at h c l) (entry_at c l what)

abbrev pub course_left : Header → CellIs → LaneIs → What → Course
course_left h c l what = course_after (sight_at h c l) (entry_at c l what)

-- the entry with what its owner knows of it
abbrev pub item_at : Header → CellIs → LaneIs → What → Journal
item_at h c l what = record {
  header = h;
  entry = entry_at c l what;
  course = l.course;
  after = course_left h c l what;
  masks = [];
  figs = [];
}

-- a course whose lane has drawn the entry of this number at the queue of a CPU
abbrev pub counted_at : ℕ → ℕ → Course → Course
counted_at cpu n c = record c { named = set c.named cpu n }

-- the course is in this form, and the queue of this CPU is the one that draws
pub record IsDueAt (f : Form) (c : Course) (cpu : ℕ) : Type 0 where
  pub form : c.form ≡ f
  pub here : queue_due f c ≡ Some cpu

-- the queue may answer the lane's `use` as it is: it drew nothing since, and neither a push nor an owed stop has to come
-- first
pub record MayAnswerUse (c : CellIs) (l : LaneIs) : Type 0 where
  pub before : All (λ d. d.ticket < l.known.ticket) c.log.seat.list
  pub push : waits_for_push (turn_kind l.course) l.course c.queue.state ≡ false
  pub stop : waits_for_stop (turn_kind l.course) c.queue.state ≡ false

abbrev pub AnswersUseAt : What → CellIs → LaneIs → Type 0
AnswersUseAt (Turn positions) c l = MayAnswerUse c l
AnswersUseAt Shut c l = MayAnswerUse c l
AnswersUseAt what c l = Unit {0}

-- the lane may draw it: it is at work, and breaks no rule
pub record MayDraw (h : Header) (c : CellIs) (l : LaneIs) (what : What) : Type 0 where
  pub of_queue : is_of_queue what ≡ true
  pub at_work : is_rest l.course.form ≡ false
  pub allowed : (rule : Rule) → breaks_here rule (sight_at h c l) (entry_at c l what) ≡ false
  -- a turn is answered at once
  pub answers : AnswersUseAt what c l

-- it was drawn, as it might be: the list has grown by it, the queue has made its step, its figure was published, and the
-- lane holds the entry and was told of the figure
pub record Drew (h : Header) (c c' : CellIs) (l l' : LaneIs) (what : What) : Type 0 where
  pub may : MayDraw h c l what
  pub ticket : ℕ
  pub list : c'.log.seat.list ≡ c.log.seat.list ++ record { ticket = ticket; item = item_at h c l what } ∷ []
  pub queue : c'.queue.state ≡ queue_left h c l what
  pub writer : c'.log.writer ≡ add_figure c.log.writer (figure c'.queue.state (length c.log.seat.list + 1) ticket)
  pub course : l'.course ≡ course_left h c l what
  pub held : l'.known.ticket ≡ ticket
  pub told : IsPrefix c'.log.writer.figures (seen_at l'.known.reader c.log.writer.cpu)
  pub seen : l'.known.reader ≡ see l.known.reader c.log.writer.cpu (seen_at l'.known.reader c.log.writer.cpu)
  pub seen_more : IsPrefix (seen_at l.known.reader c.log.writer.cpu) (seen_at l'.known.reader c.log.writer.cpu)
  -- of the lane all else is as it was
  pub seat : l'.seat ≡ l.seat
  pub number : l'.number ≡ l.number

-- what is booked is as it was
abbrev pub Keeps : CellIs → CellIs → Type 0
Keeps c c' = (c'.queue.booked ≡ c.queue.booked) × (c'.room ≡ c.room)
