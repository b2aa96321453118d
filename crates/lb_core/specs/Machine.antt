-- The state of the machine after some entries: the queues with all their figures so far, the courses
-- of the lanes, the published versions, and a map from each task to its place; the opening state; and
-- what the step of an entry reads of all that.
-- For the definitions of `Choices`, `Elsewhere` and others, and so for the laws `choices`, `turns_stay_open` and
-- others; cited by `lb`, `lb_act` and other crates.
use Rattle.std.specs.Prelude.{ℕ, ◌+◌, ◌-◌, ◌==◌, Bool, false, if◌then◌else◌, Option, None, List, [], ◌∷◌, map, length, replicate}
use Rattle.std.specs.List.{slice_index_or, range_with_len}
use Rattle.lb_base.specs.declared.mask.Mask.{Mask}
use Rattle.lb_base.specs.declared.figure.Fig.{Fig}
use Rattle.lb_base.specs.Figures.{no_fig}
use Rattle.lb_queue.specs.declared.record.TaskRecord.{TaskRecord}
use Rattle.lb_queue.specs.Queue.{QueueState, empty_queue, new_task}
use Rattle.lb_queue.specs.Figures.{figure}
use Rattle.lb_trace.specs.declared.trace.Header.{Header}
use Rattle.lb_trace.specs.declared.trace.TaskRow.{TaskRow}
use Rattle.lb_core.specs.declared.course.Course.{Course}
use Rattle.lb_core.specs.declared.entry.CpuFig.{CpuFig}
use Rattle.lb_core.specs.declared.entry.FigName.{FigName}
use Rattle.lb_core.specs.declared.entry.Owner.{Owner}
use Rattle.lb_core.specs.declared.entry.Owner.TheVariants.{Publisher, Lane, Queue}
use Rattle.lb_core.specs.declared.entry.What.{What}
use Rattle.lb_core.specs.declared.entry.What.TheVariants.{Adopt, Look, Scan}
use Rattle.lb_core.specs.declared.entry.Entry.{Entry}
use Rattle.lb_core.specs.declared.place.Place.{Place}
use Rattle.lb_core.specs.declared.place.Place.TheVariants.{Asleep as AsleepAt, Hand as HandOf}
use Rattle.lb_core.specs.Course.{opening_course}
use Rattle.lb_core.specs.Sight.{Sight}

-- `ticket` is the last ticket; `versions` has the masks of each version from version 1; `queues`,
-- `figures` and `ticked` have one item for each CPU, `courses` and `last` for each lane, `places` for
-- each task. Number 0 of a queue's figures is that of its opening state. `last` has the ticket of a
-- lane's last entry, or 0; `ticked` the lane that ticked a CPU. `closing` says whether a stop was
-- served at rest, `ended` whether the end was drawn.
pub record MachineState : Type 0 where
  pub header : Header
  pub ticket : ℕ
  pub versions : List (List Mask)
  pub queues : List QueueState
  pub figures : List (List Fig)
  pub courses : List Course
  pub last : List ℕ
  pub ticked : List (Option ℕ)
  pub closing : Bool
  pub ended : Bool
  pub places : List Place

-- ---- what it has
-- stands where a CPU has no queue
abbrev pub no_queue : QueueState
no_queue = empty_queue 0 0

abbrev pub queue_at : List QueueState → ℕ → QueueState
queue_at queues cpu = slice_index_or queues cpu no_queue

-- stands where there is no such lane
abbrev pub no_course : Course
no_course = opening_course 0

abbrev pub course_at : List Course → ℕ → Course
course_at courses lane = slice_index_or courses lane no_course

-- the figures of a CPU so far, from number 0
abbrev pub figures_at : List (List Fig) → ℕ → List Fig
figures_at figures cpu = slice_index_or figures cpu []

-- how many entries a queue drew
abbrev pub entries_at : MachineState → ℕ → ℕ
entries_at m cpu = length (figures_at m.figures cpu) - 1

-- the place of a task; for an undeclared one the hand of no declared lane
abbrev pub place_at : MachineState → ℕ → Place
place_at m t = slice_index_or m.places t (HandOf (length m.courses))

-- ---- the opening state
-- the tasks at home at a CPU, of the rows of the tasks from `id` on
abbrev pub tasks_at : ℕ → ℕ → List TaskRow → List TaskRecord
tasks_at cpu id [] = []
tasks_at cpu id (row ∷ rows) = if row.home == cpu then new_task id row.nice row.mask ∷ tasks_at cpu (id + 1) rows
    else tasks_at cpu (id + 1) rows

unfoldable pub opening_queue : Header → ℕ → QueueState
opening_queue h cpu = record (empty_queue cpu (length h.cpus)) { asleep = tasks_at cpu 0 h.tasks }

unfoldable pub start : Header → MachineState
start h =
    let n = length h.cpus in
    record {
      header = h;
      ticket = 0;
      versions = h.parts ∷ [];
      queues = map (opening_queue h) (range_with_len 0 n);
      figures = map (λ cpu. figure (opening_queue h cpu) 0 0 ∷ []) (range_with_len 0 n);
      courses = replicate h.lanes (opening_course n);
      last = replicate h.lanes 0;
      ticked = replicate n None;
      closing = false;
      ended = false;
      places = map (λ row. AsleepAt row.home) h.tasks;
    }

-- ---- what the step of an entry reads
abbrev pub owned_queue : Owner → MachineState → QueueState
owned_queue (Queue cpu) m = queue_at m.queues cpu
owned_queue o m = no_queue

abbrev pub owned_count : Owner → MachineState → ℕ
owned_count (Queue cpu) m = entries_at m cpu
owned_count Publisher m = length m.versions - 1
owned_count (Lane l) m = 0

-- the masks of a published version, counted from 1
abbrev pub masks_at : MachineState → ℕ → List Mask
masks_at m v = slice_index_or m.versions (v - 1) []

abbrev pub masks_for : What → MachineState → List Mask
masks_for (Adopt v k cpu) m = masks_at m v
masks_for w m = []

-- the published figures with these names
abbrev pub figures_named : List (List Fig) → List FigName → List CpuFig
figures_named figures names = map (λ f. record { cpu = f.cpu; fig = slice_index_or (figures_at figures f.cpu) f.n no_fig }) names

abbrev pub figs_for : What → MachineState → List CpuFig
figs_for (Look p x names d) m = figures_named m.figures names
figs_for (Scan names t) m = figures_named m.figures names
figs_for w m = []

unfoldable pub sight : MachineState → Entry → Sight
sight m e =
    record {
      header = m.header;
      course = course_at m.courses e.lane;
      queue = owned_queue e.owner m;
      count = owned_count e.owner m;
      masks = masks_for e.what m;
      figs = figs_for e.what m;
    }
