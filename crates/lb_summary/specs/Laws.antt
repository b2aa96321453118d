-- Laws of the summary: its steps are the places of the history, the level of a pull is that of a domain within
-- a published version, each task that leaves a queue counts on one line or left by a wake, and what is written
-- of a history that is its end alone.
-- Cited by the laws `steps_are_places`, `pulls_are_within`, `tasks_count_once` and `end_alone`.
use Rattle.std.specs.Prelude.{ℕ, ◌+◌, ◌≡◌, ◌<◌, ◌≤◌, true, Some, List, [], ◌∷◌, ◌++◌, length, take, slice_get, codes}
use Rattle.lb_base.specs.declared.mask.Mask.{Mask}
use Rattle.lb_queue.specs.declared.answers.OutCause.TheVariants.{Wake, Pull}
use Rattle.lb_text.specs.declared.marks.TheConstants.{LINE_FEED}
use Rattle.lb_domain.specs.declared.domain.Domain.{Domain}
use Rattle.lb_domain.specs.Domains.{domains_of}
use Rattle.lb_trace.specs.declared.trace.Header.{Header}
use Rattle.lb_core.specs.declared.course.Course.{Course}
use Rattle.lb_core.specs.Course.{domain_at}
use Rattle.lb_core.specs.declared.entry.Owner.TheVariants.{Lane}
use Rattle.lb_core.specs.declared.entry.What.TheVariants.{Out, End}
use Rattle.lb_core.specs.declared.entry.Entry.{Entry}
use Rattle.lb_core.specs.declared.history.History.{History}
use Rattle.lb_core.specs.Legal.{run, MayBeAdded, IsLegalFront}
use Rattle.lb_core.specs.Machine.{MachineState, course_at, masks_at, start}
use Rattle.lb_summary.specs.Summary.{Step, steps_of, level_balanced, leaves_for, tasks_where, summary_of}
use Rattle.lb_summary.specs.Text.{summary_text}

-- there is a step for each entry, with the machine that the entries before it lead to
abbrev pub StepsArePlaces : Type 0
StepsArePlaces =
    (h : History) → (length (steps_of h) ≡ length h.entries) × ((i : ℕ) (e : Entry) → slice_get h.entries i ≡ Some e
    → slice_get (steps_of h) i ≡ Some (record { before = run (take i h.entries) (start h.header); entry = e }))

-- the domains of the turn's CPU, within the version that the lane took up
abbrev pub domains_taken_up : MachineState → Course → List Domain
domains_taken_up m c = domains_of m.header.cpus m.header.distances (masks_at m c.version) c.cpu

-- the lane took up a published version, in which its CPU has a domain at the position in work, and the level is
-- that domain's
pub record IsWithin (m : MachineState) (lane : ℕ) (c : Course) : Type 0 where
  pub from_first : 1 ≤ c.version
  pub published : c.version ≤ length m.versions
  pub inside : c.position < length (domains_taken_up m c)
  pub level : level_balanced m lane ≡ (domain_at (domains_taken_up m c) c.position).shape.name

-- so for each pull that may come after a legal front
abbrev pub PullsAreWithin : Type 0
PullsAreWithin =
    (h : Header) (es : List Entry) (e : Entry) (to : ℕ) (ids : List ℕ) → IsLegalFront h es →
    let m = run es (start h) in
    MayBeAdded m e → e.what ≡ Out Pull to ids → IsWithin m e.lane (course_at m.courses e.lane)

-- the tasks on the six lines and those that left by a wake are all that left a queue
abbrev pub TasksCountOnce : Type 0
TasksCountOnce =
    (steps : List Step) →
    let s = summary_of steps in
    s.pulled_smt + s.pulled_mc + s.pulled_pkg + s.pulled_numa + s.pushed + s.stopped
    + tasks_where (λ x. leaves_for Wake x.entry.what) steps ≡ tasks_where (λ x. true) steps

-- lines, each with its end
abbrev pub lines : List (List ℕ) → List ℕ
lines [] = []
lines (line ∷ more) = line ++ LINE_FEED ∷ lines more

-- without rows there is the end alone
abbrev pub EndAlone : Type 0
EndAlone =
    (h : Header) (unserved : Mask) →
    let end : Entry = record { owner = Lane 0; lane = 0; prev = 0; what = End unserved } in
    summary_text (record { header = h; entries = end ∷ [] })
    ≡ lines (codes "rows 0" ∷ codes "entries 1" ∷ codes "pulled SMT 0" ∷ codes "pulled MC 0" ∷ codes "pulled PKG 0"
    ∷ codes "pulled NUMA 0" ∷ codes "pushed 0" ∷ codes "stopped 0" ∷ [])
