-- One entry of a lane's own list: what it says and leaves, when it may be drawn, and what the lane is after it.
-- Cited by the contracts of `Lane::draw`, `enter_own` and `step`; also by `lb_cpu`, `lb_lane` and other crates.
use Rattle.std.specs.Prelude.{ℕ, ◌≡◌, ◌+◌, ◌<◌, ◌≤◌, true, false, Option, Some, List, [], ◌∷◌, ◌++◌, length, All}
use Rattle.lb_base.specs.declared.mask.Mask.{Mask}
use Rattle.lb_base.specs.declared.mask.TheConstants.{MAX_CPUS}
use Rattle.lb_trace.specs.declared.trace.Command.{Command}
use Rattle.lb_trace.specs.declared.trace.Header.{Header}
use Rattle.lb_core.specs.declared.course.Course.{Course}
use Rattle.lb_core.specs.declared.entry.CpuFig.{CpuFig}
use Rattle.lb_core.specs.declared.entry.Entry.{Entry}
use Rattle.lb_core.specs.declared.entry.Owner.TheVariants.{Lane}
use Rattle.lb_core.specs.declared.entry.What.{What}
use Rattle.lb_core.specs.declared.entry.What.TheVariants.{Row, Adopt, Look, Scan}
use Rattle.lb_core.specs.declared.rule.Rule.{Rule}
use Rattle.lb_core.specs.Sight.{Sight}
use Rattle.lb_core.specs.Placed.{is_flight}
use Rattle.lb_core.specs.Rules.{breaks_here}
use Rattle.lb_core.specs.CourseAfter.{course_after}
use Rattle.lb_core.specs.Machine.{no_queue}
use Rattle.lb_journal.specs.Journal.{Journal, CarriesMasks, CarriesFigs}
use Rattle.lb_cell.specs.Kinds.{is_of_lane}
use Rattle.lb_cell.specs.LastEntries.{DrewOne}
use Rattle.lb_cell.specs.Cells.{LaneIs, IsInRange, IsQuiet}

-- what the step of an entry of a lane's own list reads, with the masks or figures that it names: no queue
abbrev pub sight_from : Header → Course → List Mask → List CpuFig → Sight
sight_from h c masks figs = record { header = h; course = c; queue = no_queue; count = 0; masks = masks; figs = figs }

abbrev pub sight_own : Header → LaneIs → List Mask → List CpuFig → Sight
sight_own h l masks figs = sight_from h l.course masks figs

abbrev pub entry_own : LaneIs → What → Entry
entry_own l what = record { owner = Lane l.number; lane = l.number; prev = l.known.ticket; what = what }

-- the course that it leaves
abbrev pub own_left : Header → LaneIs → What → List Mask → List CpuFig → Course
own_left h l what masks figs = course_after (sight_own h l masks figs) (entry_own l what)

-- the entry with what its owner knows of it
abbrev pub item_own : Header → LaneIs → What → List Mask → List CpuFig → Journal
item_own h l what masks figs = record {
  header = h;
  entry = entry_own l what;
  course = l.course;
  after = own_left h l what masks figs;
  masks = masks;
  figs = figs;
}

-- the lane may draw it
pub record MayDrawOwn (h : Header) (l : LaneIs) (what : What) (masks : List Mask) (figs : List CpuFig) : Type 0 where
  pub of_lane : is_of_lane what ≡ true
  pub allowed : (rule : Rule) → breaks_here rule (sight_own h l masks figs) (entry_own l what) ≡ false
  pub carries_masks : CarriesMasks what masks
  pub carries_figs : CarriesFigs what figs

-- what its step asks: the course has its own copy of a row's command, and a number for each CPU that is named; an entry
-- of another kind is none of a lane that serves rows
abbrev pub OwnAsks : What → Course → Option Command → Type 0
OwnAsks (Row n at command) c own = own ≡ Some command
OwnAsks (Adopt version kind cpu) c own = Unit {0}
OwnAsks (Look p x names d) c own = (c.cpu < MAX_CPUS) × All (λ f. f.cpu < length c.named) names
OwnAsks (Scan names target) c own = All (λ f. f.cpu < length c.named) names
OwnAsks what c own = ⊥

-- such a course may be that of a lane of the machine, which has no task in its hand
pub record MayFollow (h : Header) (c : Course) : Type 0 where
  pub named : length c.named ≡ length h.cpus
  pub range : IsInRange c
  pub empty_handed : is_flight c.form ≡ false
  pub quiet : IsQuiet c

-- of the seat: what else it learnt is that each further ticket is above this one
abbrev pub GoesAbove : ℕ → LaneIs → LaneIs → Type 0
GoesAbove ticket l l' = (l.seat.next ≤ ticket) × (l'.seat.next ≡ ticket + 1)

-- it was drawn, as it might be, at a ticket above all that the seat had read and marked: the list has grown by it, and the lane holds it
pub record DrewOwn (h : Header) (l l' : LaneIs) (what : What) (masks : List Mask) (figs : List CpuFig) (ticket : ℕ) : Type 0 where
  pub may : MayDrawOwn h l what masks figs
  pub list : l'.seat.list ≡ l.seat.list ++ record { ticket = ticket; item = item_own h l what masks figs } ∷ []
  pub course : l'.course ≡ own_left h l what masks figs
  pub held : l'.known.ticket ≡ ticket
  pub above : GoesAbove ticket l l'
  pub seat : DrewOne l.seat l'.seat
  -- of the lane all else is as it was
  pub reader : l'.known.reader ≡ l.known.reader
  pub number : l'.number ≡ l.number
  pub landing : l'.landing ≡ l.landing
