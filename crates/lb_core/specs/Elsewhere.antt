-- Which rules an entry breaks by the rest of the machine: what its own step does not read. These are
-- the lane's last ticket, what is declared, the other lanes and queues, the place of a task, whether a
-- version or a figure was published, the requests that are pending at queues which do not own the entry,
-- and whether a stop was served at rest or the end was drawn.
-- For the definitions of `Replies`, `Serial` and `Step`, and so for the laws `replies`, `one_serial_history` and
-- others; cited by `lb_cell`, `lb_draw` and other crates.
use Rattle.std.specs.Prelude.{ℕ, ◌==◌, nat_lt, Bool, true, false, not, ◌&&◌, ◌||◌, Option, Some, None, is_some, length, find}
use Rattle.std.specs.List.{slice_index_or, range_with_len, list_any, list_all}
use Rattle.lb_base.specs.declared.mask.Mask.{Mask}
use Rattle.lb_base.specs.Sets.{mask_where}
use Rattle.lb_queue.specs.Requests.{has_pending}
use Rattle.lb_trace.specs.declared.trace.Command.TheVariants.{Tick}
use Rattle.lb_core.specs.declared.course.Course.{Course}
use Rattle.lb_core.specs.declared.course.Form.{Form}
use Rattle.lb_core.specs.declared.course.Form.TheVariants.{Rest, Asked}
use Rattle.lb_core.specs.declared.entry.Owner.{Owner}
use Rattle.lb_core.specs.declared.entry.Owner.TheVariants.{Queue}
use Rattle.lb_core.specs.declared.entry.What.{What}
use Rattle.lb_core.specs.declared.entry.What.TheVariants.{Row, Adopt, Look, Scan, End, Did, Out}
use Rattle.lb_core.specs.declared.entry.Entry.{Entry}
use Rattle.lb_core.specs.declared.place.Place.{Place}
use Rattle.lb_core.specs.declared.place.Place.TheVariants.{Awake as AwakeAt, Asleep as AsleepAt, Gone as GoneAt, Hand as HandOf}
use Rattle.lb_core.specs.declared.rule.Rule.{Rule}
use Rattle.lb_core.specs.declared.rule.Rule.TheVariants.{Prev, Stage, Row as RowRule, Place as PlaceRule, Version, Figure, Owed, End as EndRule}
use Rattle.lb_core.specs.Same.{same_mask, same_owner}
use Rattle.lb_core.specs.Course.{task_of}
use Rattle.lb_core.specs.Stage.{waits_for_push, waits_for_stop}
use Rattle.lb_core.specs.Machine.{MachineState, queue_at, course_at, entries_at, place_at}

-- ---- stage
abbrev pub is_undeclared_lane : MachineState → ℕ → Bool
is_undeclared_lane m lane = not (nat_lt lane (length m.courses))

abbrev pub is_undeclared_owner : MachineState → Owner → Bool
is_undeclared_owner m (Queue cpu) = not (nat_lt cpu (length m.queues))
is_undeclared_owner m o = false

abbrev pub is_rest : Form → Bool
is_rest Rest = true
is_rest form = false

abbrev pub all_rest : MachineState → Bool
all_rest m = list_all (λ c. is_rest c.form) m.courses

-- the least CPU with a pending stop request
unfoldable pub first_pending : MachineState → Option ℕ
first_pending m = find (λ cpu. has_pending (queue_at m.queues cpu)) (range_with_len 0 (length m.queues))

abbrev pub is_first_pending : Option ℕ → Owner → Bool
is_first_pending None o = false
is_first_pending (Some cpu) o = same_owner o (Queue cpu)

-- at rest: no row once a stop was served at rest; such a stop, and the end, only where all lanes rest
abbrev pub stage_at_rest : Form → MachineState → Owner → What → Bool
stage_at_rest Rest m o (Row n at command) = m.closing
stage_at_rest Rest m o (Out cause to ids) = not (all_rest m) || not (is_first_pending (first_pending m) o)
stage_at_rest Rest m o (End unserved) = not (all_rest m)
stage_at_rest form m o w = false

-- the `use` of a tick, while a push is due
abbrev pub stage_of_use : MachineState → Course → What → Bool
stage_of_use m c (Adopt v k cpu) = waits_for_push k c (queue_at m.queues cpu)
stage_of_use m c w = false

-- ---- row: another lane ticked the CPU
abbrev pub is_another : Option ℕ → ℕ → Bool
is_another None lane = false
is_another (Some l) lane = not (l == lane)

abbrev pub ticked_elsewhere : MachineState → ℕ → What → Bool
ticked_elsewhere m lane (Row n at (Tick cpu)) = is_another (slice_index_or m.ticked cpu None) lane
ticked_elsewhere m lane w = false

-- ---- place: the answering queue is not where the map has the task
abbrev pub is_at : Place → Owner → Bool
is_at (AwakeAt cpu) o = same_owner o (Queue cpu)
is_at (AsleepAt cpu) o = same_owner o (Queue cpu)
is_at (GoneAt cpu) o = same_owner o (Queue cpu)
is_at (HandOf lane) o = false

abbrev pub task_elsewhere : Option ℕ → MachineState → Owner → Bool
task_elsewhere None m o = false
task_elsewhere (Some t) m o = not (is_at (place_at m t) o)

abbrev pub answered_elsewhere : Form → Course → MachineState → Owner → What → Bool
answered_elsewhere Asked c m o (Did r) = task_elsewhere (task_of c.command) m o
answered_elsewhere Asked c m o (Out cause to ids) = task_elsewhere (task_of c.command) m o
answered_elsewhere form c m o w = false

-- ---- version and figure: not published
abbrev pub version_unpublished : MachineState → What → Bool
version_unpublished m (Adopt v k cpu) = nat_lt (length m.versions) v
version_unpublished m w = false

abbrev pub figure_unpublished : MachineState → What → Bool
figure_unpublished m (Look p x names d) = list_any (λ f. nat_lt (entries_at m f.cpu) f.n) names
figure_unpublished m (Scan names t) = list_any (λ f. nat_lt (entries_at m f.cpu) f.n) names
figure_unpublished m w = false

-- ---- owed: the `use` of a tick while a stop is owed, the end while one is pending
abbrev pub owed_elsewhere : MachineState → What → Bool
owed_elsewhere m (Adopt v k cpu) = waits_for_stop k (queue_at m.queues cpu)
owed_elsewhere m (End unserved) = is_some (first_pending m)
owed_elsewhere m w = false

-- ---- end
-- the CPUs whose active request is unserved
unfoldable pub unserved : MachineState → Mask
unserved m = mask_where (λ cpu. nat_lt cpu (length m.queues) && is_some (queue_at m.queues cpu).active)

abbrev pub end_is_wrong : MachineState → What → Bool
end_is_wrong m (End cpus) = not (same_mask cpus (unserved m))
end_is_wrong m w = false

-- whether the entry breaks a rule by the rest of the machine
abbrev pub breaks_elsewhere : Rule → MachineState → Entry → Bool
breaks_elsewhere Prev m e = not (e.prev == slice_index_or m.last e.lane 0)
breaks_elsewhere Stage m e =
    is_undeclared_lane m e.lane || is_undeclared_owner m e.owner
    || stage_at_rest (course_at m.courses e.lane).form m e.owner e.what
    || stage_of_use m (course_at m.courses e.lane) e.what
breaks_elsewhere RowRule m e = ticked_elsewhere m e.lane e.what
breaks_elsewhere PlaceRule m e = answered_elsewhere (course_at m.courses e.lane).form (course_at m.courses e.lane) m e.owner e.what
breaks_elsewhere Version m e = version_unpublished m e.what
breaks_elsewhere Figure m e = figure_unpublished m e.what
breaks_elsewhere Owed m e = owed_elsewhere m e.what
breaks_elsewhere EndRule m e = m.ended || end_is_wrong m e.what
breaks_elsewhere rule m e = false
