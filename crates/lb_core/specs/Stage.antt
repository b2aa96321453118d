-- What a lane may draw next, and whose the entry is: the middle column of the table in
-- docs/rules/lanes.md, by the forms of a course. The other fields of the entry are fixed by the rules that
-- come after `stage`.
-- For the definitions of `CourseAfter`, `Elsewhere` and `Rules`, and so for the laws `replies`, `one_serial_history`
-- and others; cited by `lb_cell`, `lb_course` and other crates.
use Rattle.std.specs.Prelude.{ℕ, ◌==◌, Bool, true, false, not, ◌&&◌, ◌||◌, if◌then◌else◌, Option, Some, None, is_some}
use Rattle.lb_base.specs.declared.shape.Kind.{Kind}
use Rattle.lb_base.specs.declared.shape.Kind.TheVariants.{Tick as TickTurn}
use Rattle.lb_base.specs.Sets.{least}
use Rattle.lb_imbalance.specs.declared.decision.Decision.{Decision}
use Rattle.lb_queue.specs.Queue.{QueueState}
use Rattle.lb_queue.specs.Requests.{has_owed}
use Rattle.lb_trace.specs.declared.trace.Header.{Header}
use Rattle.lb_core.specs.declared.course.Course.{Course}
use Rattle.lb_core.specs.declared.course.Form.{Form}
use Rattle.lb_core.specs.declared.course.Form.TheVariants.{Rest, Asked, Flight, Serving, Due, Used, Position, Looked, Landed as LandedForm, Closed, Done, ScanDue, Kicking}
use Rattle.lb_core.specs.declared.entry.Owner.{Owner}
use Rattle.lb_core.specs.declared.entry.Owner.TheVariants.{Publisher, Lane, Queue}
use Rattle.lb_core.specs.declared.entry.What.{What}
use Rattle.lb_core.specs.declared.entry.What.TheVariants.{Row, Adopt, Look, Scan, End, Did, Out, Landed, Turn, Shut, Close, Ask, Kick, Over, Pub}
use Rattle.lb_core.specs.declared.entry.Entry.{Entry}
use Rattle.lb_core.specs.Same.{same_owner, same_kind, same_number}
use Rattle.lb_core.specs.Course.{ticked_cpu, is_tick, is_wake, is_rebuild, turn_kind, is_pull, source_of, looks_again}
use Rattle.lb_core.specs.Sight.{Sight, tickless_in}

-- a push is due at a tick: an active request is pending, and this tick made no push
abbrev pub push_is_due : Course → QueueState → Bool
push_is_due c q = is_some q.active && not c.pushed

-- the CPU that a scan found
abbrev pub target_of : Course → Option ℕ
target_of c = least (tickless_in c.figures)

-- the last look moves nothing
abbrev pub is_settled : Option Decision → Bool
is_settled d = is_some d && not (is_pull d)

-- the kinds of entries that a form of a course lets its lane draw, the turn that a `use` is for
-- included
unfoldable pub draws : Form → Header → Course → QueueState → ℕ → What → Bool
draws Rest h c q lane (Row n at command) = true
draws Rest h c q lane (Out cause to ids) = lane == 0
draws Rest h c q lane (End unserved) = lane == 0
draws Asked h c q lane (Did r) = is_some c.command && not (is_rebuild c.command)
draws Asked h c q lane (Out cause to ids) = is_wake c.command
draws Asked h c q lane (Pub v) = is_rebuild c.command
draws Flight h c q lane (Landed ids) = true
draws Serving h c q lane (Out cause to ids) = is_tick c.command && (has_owed q || push_is_due c q)
draws Serving h c q lane (Adopt v k cpu) = same_kind k TickTurn && same_number (ticked_cpu c.command) (Some cpu)
draws Due h c q lane (Adopt v k cpu) = same_kind k (turn_kind c) && (cpu == c.cpu)
draws Used h c q lane (Turn ps) = true
draws Used h c q lane Shut = true
draws Position h c q lane (Look p x fs d) = true
draws Looked h c q lane (Out cause to ids) = is_pull c.decision
draws Looked h c q lane (Close p w i f) = is_settled c.decision
draws LandedForm h c q lane (Look p x fs d) = looks_again h c
draws LandedForm h c q lane (Close p w i f) = not (looks_again h c)
draws Closed h c q lane (Ask r) = true
draws Done h c q lane Over = true
draws ScanDue h c q lane (Scan fs t) = true
draws Kicking h c q lane (Kick r) = is_some (target_of c)
draws f h c q lane w = false

-- the CPU whose queue draws the entry, if the course decides it
abbrev pub queue_due : Form → Course → Option ℕ
queue_due Rest c = None
queue_due Asked c = ticked_cpu c.command
queue_due Flight c = Some c.to
queue_due Serving c = ticked_cpu c.command
queue_due Looked c = Some (if is_pull c.decision then source_of c.decision else c.cpu)
queue_due Closed c = Some (source_of c.decision)
queue_due Kicking c = target_of c
queue_due f c = Some c.cpu

abbrev pub is_queue : Owner → Option ℕ → Bool
is_queue (Queue cpu) None = true
is_queue (Queue cpu) (Some due) = cpu == due
is_queue o due = false

-- whose an entry of each kind is: its lane's, the publisher's, or that of a queue that is due
abbrev pub is_owner : What → ℕ → Option ℕ → Owner → Bool
is_owner (Row n at command) lane due o = same_owner o (Lane lane)
is_owner (Adopt v k cpu) lane due o = same_owner o (Lane lane)
is_owner (Look p x fs d) lane due o = same_owner o (Lane lane)
is_owner (Scan fs t) lane due o = same_owner o (Lane lane)
is_owner (End unserved) lane due o = same_owner o (Lane lane)
is_owner (Pub v) lane due o = same_owner o Publisher
is_owner w lane due o = is_queue o due

-- the course lets the lane draw the entry
unfoldable pub stage_allows : Sight → Entry → Bool
stage_allows s e =
    is_owner e.what e.lane (queue_due s.course.form s.course) e.owner
    && draws s.course.form s.header s.course s.queue e.lane e.what

-- ---- a `use` for a tick, which waits until the queue of its CPU is served
-- the push is still due
abbrev pub waits_for_push : Kind → Course → QueueState → Bool
waits_for_push k c q = same_kind k TickTurn && push_is_due c q

-- an owed stop is still due
abbrev pub waits_for_stop : Kind → QueueState → Bool
waits_for_stop k q = same_kind k TickTurn && has_owed q
