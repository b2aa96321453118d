-- A scan that is due is over a published version: it follows the end of a turn, which took that version up.
-- For the lemmas of `Keeping`, and so for the laws `calls_may_be_made`, `ready` and others.
use Rattle.std.proofs.Common.{arith, ◌≡◌, ℕ, ◌+◌, ◌-◌, ◌<◌, true, List, [], ◌∷◌, length, get_or, Option, Some, None, refl, sym, ◌∙◌}
use Rattle.std.proofs.lemmas.List.{get_or_append_left}
use Rattle.lb_base.specs.declared.mask.Mask.{Mask}
use Rattle.lb_base.specs.Sets.{least}
use Rattle.lb_trace.specs.declared.trace.Command.{Command}
use Rattle.lb_trace.specs.declared.trace.Command.TheVariants.{Rebuild}
use Rattle.lb_queue.specs.Queue.{QueueState}
use Rattle.lb_queue.specs.Turns.{counters_found}
use Rattle.lb_core.specs.declared.course.Course.{Course}
use Rattle.lb_core.specs.declared.course.Form.{Form}
use Rattle.lb_core.specs.declared.course.Form.TheVariants.{Used, Done, ScanDue}
use Rattle.lb_core.specs.declared.entry.Entry.{Entry}
use Rattle.lb_core.specs.declared.entry.What.{What}
use Rattle.lb_core.specs.declared.entry.What.TheVariants.{Scan, Did, Out, Landed, Turn, Shut, Close, Ask, Kick, Over, Pub}
use Rattle.lb_core.specs.Course.{turn_kind, turn_domains, shapes_of}
use Rattle.lb_core.specs.CourseAfter.{raised_numbers, takes_off, turn_ends, cpu_of, drew, course_by, course_after}
use Rattle.lb_core.specs.QueueAfter.{cause_of}
use Rattle.lb_core.specs.Leaving.{Leaving, leaving}
use Rattle.lb_core.specs.Sight.{Sight}
use Rattle.lb_core.specs.Stage.{draws}
use Rattle.lb_core.specs.Machine.{MachineState, course_at, sight}
use Rattle.lb_core.specs.Step.{after, versions_after}
use Rattle.lb_core.specs.Legal.{MayBeAdded}
use Rattle.lb_core.specs.OpenTurns.{IsVersion, TurnIn, KeepsTurn}
use Rattle.lb_core.proofs.Placing.{form_lets}
use Rattle.lb_ready.specs.Ready.{ScansIn, ScansVersion}
use Rattle.lb_ready.proofs.Courses.{drew_by, goes_to_by, goes_on_by, ends_by, answered_by, lands_by, scanned_by, kicked_by, closes_by}
use Rattle.lb_ready.proofs.Changes.{course_left, queue_left, versions_more}

-- ---- published versions stay
kept_at : (w : What) (command : Option Command) (vs : List (List Mask)) (i : ℕ) → i < length vs
    → get_or (versions_after w command vs) i [] ≡ get_or vs i []
kept_at (Pub v) (Some (Rebuild parts)) vs i lt = get_or_append_left vs (parts ∷ []) [] i lt
kept_at w command vs i lt = refl

pub version_stays : (m : MachineState) (e : Entry) (v : ℕ) (masks : List Mask) → IsVersion m v masks
    → IsVersion (after m e) v masks
unfolding after
version_stays m e v masks k =
    let more = (versions_more e.what (sight m e).course.command m.versions).0 in
    let first = k.from_first in
    let last = k.published in
    let there : v - 1 < length m.versions = omega arith in
    record {
      from_first = k.from_first;
      published = omega arith;
      masks_are = k.masks_are ∙ sym (kept_at e.what (sight m e).course.command m.versions (v - 1) there);
    }

scan_stays : (f : Form) (m : MachineState) (e : Entry) (v : ℕ) (masks : List Mask) → ScansIn f m v masks
    → ScansIn f (after m e) v masks
scan_stays ScanDue m e v masks k = version_stays m e v masks k
scan_stays f m e v masks k = tt

pub scans_stay : (m : MachineState) (e : Entry) (c : Course) → ScansVersion m c → ScansVersion (after m e) c
scans_stay m e c k = scan_stays c.form m e c.version c.masks k

-- ---- the course of the lane that draws
off_scans : (m : MachineState) (o : Option Leaving) (c : Course) → ScansVersion m c → ScansVersion m (takes_off o c)
off_scans m None c k = k
off_scans m (Some l) c k = tt

scans_by : (f : Form) (m : MachineState) (lane : ℕ) (s : Sight) (cpu : ℕ) (now : QueueState) (w : What)
    → draws f s.header s.course s.queue lane w ≡ true → TurnIn f m lane s.course → ScansVersion m s.course
    → ScansVersion m (course_by w s cpu now)
unfolding draws turn_ends
scans_by f m lane s cpu now (Scan fs t) d k o =
    scanned_by (ScansVersion m) t (record s.course { figures = s.figs; named = raised_numbers fs s.course.named }) tt (λ u e. tt)
scans_by f m lane s cpu now (Did r) d k o = answered_by (ScansVersion m) s.course.command cpu s.queue now s.course tt tt
    (λ u e. tt)
scans_by f m lane s cpu now (Out cause to tasks) d k o = off_scans m (leaving s) s.course o
scans_by f m lane s cpu now (Landed tasks) d k o = lands_by (ScansVersion m) (cause_of s.course) s.course tt (λ t. tt) (λ i. tt)
scans_by f m lane s cpu now (Turn ps) d k o =
    goes_to_by (ScansVersion m) (least ps) (record
    s.course {
      positions = ps;
      counters = counters_found s.queue s.course.at s.course.version
          (shapes_of (turn_domains s.header s.course));
    }) tt (λ p e. tt)
scans_by Used m lane s cpu now Shut d k o = ends_by (ScansVersion m) (turn_kind s.course) s.header s.course tt
    (λ some. k) (λ t q. tt)
scans_by f m lane s cpu now Shut d k o = absurd (let y : ⊥ = cc in y)
scans_by Done m lane s cpu now Over d k o =
    ends_by (ScansVersion m) (turn_kind s.course) s.header s.course tt (λ some. k.taken_up) (λ t q. tt)
scans_by f m lane s cpu now Over d k o = absurd (let y : ⊥ = cc in y)
scans_by f m lane s cpu now (Close p w i n) d k o = closes_by (ScansVersion m) w s.course tt tt (λ p q. tt)
scans_by f m lane s cpu now (Ask r) d k o = goes_on_by (ScansVersion m) s.course tt (λ p q. tt)
scans_by f m lane s cpu now (Kick r) d k o = kicked_by (ScansVersion m) r s.course tt (λ t q. tt)
scans_by f m lane s cpu now w d k o = tt

pub scans_kept : (m : MachineState) (e : Entry) → MayBeAdded m e → KeepsTurn m e.lane (course_at m.courses e.lane)
    → ScansVersion m (course_at m.courses e.lane) → ScansVersion (after m e) (course_left m e)
unfolding course_after sight
scans_kept m e h k o =
    let c = course_by e.what (sight m e) (cpu_of e.owner) (queue_left m e) in
    let new = scans_by (course_at m.courses e.lane).form m e.lane (sight m e) (cpu_of e.owner) (queue_left m e) e.what
    (form_lets m e h).1 k o in
    scans_stay m e (drew e.owner ((sight m e).count + 1) c)
    (drew_by (ScansVersion m) e.owner ((sight m e).count + 1) c new (λ cpu. new))
