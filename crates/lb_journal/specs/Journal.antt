-- What an owner of entries keeps of each: the entry with the header of its machine, the course that it
-- quotes, the course that it leaves, and the masks or figures that it names. From the list of an
-- owner alone it can be judged whether a further item fits: nothing else of the machine is read.
-- Cited by the contracts of `Journal::new`, `in_order` and `close_in_order`; also by `lb_cell`, `lb_cpu` and other
-- crates.
use Rattle.std.specs.Prelude.{ℕ, ◌≡◌, ◌+◌, ◌<◌, ◌==◌, nat_lt, Bool, true, false, ◌&&◌, if◌then◌else◌, Option, Some, None, List, [], ◌∷◌, map, length, All}
use Rattle.lb_base.specs.declared.mask.Mask.{Mask}
use Rattle.lb_queue.specs.declared.answers.OutCause.{OutCause}
use Rattle.lb_queue.specs.declared.answers.OutCause.TheVariants.{Stop as StopOut}
use Rattle.lb_queue.specs.Queue.{QueueState}
use Rattle.lb_trace.specs.declared.trace.Header.{Header}
use Rattle.lb_core.specs.declared.course.Course.{Course}
use Rattle.lb_core.specs.declared.entry.CpuFig.{CpuFig}
use Rattle.lb_core.specs.declared.entry.FigName.{FigName}
use Rattle.lb_core.specs.declared.entry.Owner.{Owner}
use Rattle.lb_core.specs.declared.entry.Owner.TheVariants.{Publisher, Lane, Queue}
use Rattle.lb_core.specs.declared.entry.What.{What}
use Rattle.lb_core.specs.declared.entry.What.TheVariants.{Adopt, Look, Scan, Out, Turn, Shut}
use Rattle.lb_core.specs.declared.entry.Entry.{Entry}
use Rattle.lb_core.specs.declared.rule.Rule.{Rule}
use Rattle.lb_core.specs.Course.{opening_course, turn_kind}
use Rattle.lb_core.specs.Sight.{Sight}
use Rattle.lb_core.specs.Stage.{waits_for_push, waits_for_stop}
use Rattle.lb_core.specs.Rules.{breaks_here}
use Rattle.lb_core.specs.QueueAfter.{queue_after}
use Rattle.lb_core.specs.CourseAfter.{course_after}
use Rattle.lb_core.specs.Machine.{no_queue, opening_queue}
use Rattle.lb_ticket.specs.Tickets.{Meaning}

-- `course` is the quoted course, or the lane's opening course where nothing is quoted, and `after` the
-- course that the entry leaves; `masks` is empty but for a `use`, `figs` but for a look or a scan
pub record Journal : Type 0 where
  pub header : Header
  pub entry : Entry
  pub course : Course
  pub after : Course
  pub masks : List Mask
  pub figs : List CpuFig

-- what an entry leaves: the course of its lane
pub record Left : Type 0 where
  pub course : Course
  pub lane : ℕ

-- ---- as an item of a ticket book
-- the number of an owner
abbrev pub number_of : Owner → ℕ
number_of Publisher = 0
number_of (Lane lane) = lane + 1
number_of (Queue cpu) = 17 + cpu

abbrev pub leaves_of : Journal → Left
leaves_of j = record { course = j.after; lane = j.entry.lane }

-- the ticket before it on its lane, with what the entry there left
abbrev pub quote_of : Journal → Option (ℕ × Left)
quote_of j = if j.entry.prev == 0 then None else Some (j.entry.prev, record { course = j.course; lane = j.entry.lane })

-- ---- what is declared
abbrev pub is_declared_owner : Header → Owner → Bool
is_declared_owner h (Queue cpu) = nat_lt cpu (length h.cpus)
is_declared_owner h owner = true

-- its lane is declared, and where it is a queue's, that queue's CPU
abbrev pub is_declared : Header → Entry → Bool
is_declared h e = nat_lt e.lane h.lanes && is_declared_owner h e.owner

-- ---- what the step of an item reads
-- where its owner's queue is `q`, and its owner drew `n` entries before
abbrev pub item_sight : QueueState → ℕ → Journal → Sight
item_sight q n j = record { header = j.header; course = j.course; queue = q; count = n; masks = j.masks; figs = j.figs }

-- the queue after one of its items
abbrev pub queue_by_item : QueueState → ℕ → Journal → QueueState
queue_by_item q n j = queue_after (item_sight q n j) j.entry

-- the queue `q`, after n of its items, once these have followed
abbrev pub replay_from : ℕ → QueueState → List (ℕ × Journal) → QueueState
replay_from n q [] = q
replay_from n q (d ∷ ds) = replay_from (n + 1) (queue_by_item q n d.1) ds

-- the queue of a CPU after these items of it
abbrev pub replay : Header → ℕ → List (ℕ × Journal) → QueueState
replay h cpu ds = replay_from 0 (opening_queue h cpu) ds

abbrev pub owned_replay : Header → Owner → List (ℕ × Journal) → QueueState
owned_replay h (Queue cpu) ds = replay h cpu ds
owned_replay h owner ds = no_queue

-- how many entries a queue drew, or how many versions the publisher published
abbrev pub counted : Owner → List (ℕ × Journal) → ℕ
counted (Lane lane) ds = 0
counted owner ds = length ds

-- what the step of an item reads, from the list of its owner alone
unfoldable pub sight_in : List (ℕ × Journal) → Journal → Sight
sight_in ds j = item_sight (owned_replay j.header j.entry.owner ds) (counted j.entry.owner ds) j

-- ---- an entry without a quote
abbrev pub is_nil : List (ℕ × Journal) → Bool
is_nil [] = true
is_nil (d ∷ ds) = false

abbrev pub is_stop : OutCause → Bool
is_stop StopOut = true
is_stop cause = false

abbrev pub is_out_stop : What → Bool
is_out_stop (Out cause to tasks) = is_stop cause
is_out_stop w = false

-- the first entry of its lane's own list, or an `out stop` of lane 0 at a queue
abbrev pub may_begin : Owner → List (ℕ × Journal) → Entry → Bool
may_begin (Lane lane) ds e = is_nil ds
may_begin (Queue cpu) ds e = (e.lane == 0) && is_out_stop e.what
may_begin Publisher ds e = false

-- the opening course stands for the quoted one
pub record Begins (ds : List (ℕ × Journal)) (j : Journal) : Type 0 where
  pub course : j.course ≡ opening_course (length j.header.cpus)
  pub allowed : may_begin j.entry.owner ds j.entry ≡ true

-- ---- what an item carries beside the entry
abbrev pub CarriesMasks : What → List Mask → Type 0
CarriesMasks (Adopt v kind cpu) masks = Unit {0}
CarriesMasks w masks = masks ≡ []

-- the names of the figures: of which CPU each is, and its number
abbrev pub names_of : List CpuFig → List FigName
names_of figs = map (λ f. record { cpu = f.cpu; n = f.fig.n }) figs

-- the figures with the names of the look or scan
abbrev pub CarriesFigs : What → List CpuFig → Type 0
CarriesFigs (Look p x names d) figs = names_of figs ≡ names
CarriesFigs (Scan names t) figs = names_of figs ≡ names
CarriesFigs w figs = figs ≡ []

-- ---- the answer of a queue to a `use`
-- no entry of the queue came since the `use`, which the queue allows as it is
pub record Answers (ds : List (ℕ × Journal)) (j : Journal) : Type 0 where
  pub before : All (λ d. d.0 < j.entry.prev) ds
  pub push : waits_for_push (turn_kind j.course) j.course (sight_in ds j).queue ≡ false
  pub stop : waits_for_stop (turn_kind j.course) (sight_in ds j).queue ≡ false

abbrev pub AnswersUse : What → List (ℕ × Journal) → Journal → Type 0
AnswersUse (Turn ps) ds j = Answers ds j
AnswersUse Shut ds j = Answers ds j
AnswersUse w ds j = Unit {0}

-- ---- an item fits the list of its owner, which holds tickets and items
pub record Fits (ds : List (ℕ × Journal)) (j : Journal) : Type 0 where
  pub header : All (λ d. d.1.header ≡ j.header) ds
  pub declared : is_declared j.header j.entry ≡ true
  pub allowed : (rule : Rule) → breaks_here rule (sight_in ds j) j.entry ≡ false
  pub after : j.after ≡ course_after (sight_in ds j) j.entry
  pub first : j.entry.prev ≡ 0 → Begins ds j
  pub masks : CarriesMasks j.entry.what j.masks
  pub figs : CarriesFigs j.entry.what j.figs
  pub turn : AnswersUse j.entry.what ds j

-- ---- what an item means
abbrev pub meaning_of_journal : Meaning Journal Left
meaning_of_journal = record {
  owner = λ j. number_of j.entry.owner;
  lane = λ j. j.entry.lane;
  quote = quote_of;
  leaves = leaves_of;
  fits = Fits;
}
