-- A lane in a turn has it open at its CPU and at a position of it: read off, for each form of a course, what `Turning`
-- has of every legal front.
-- For the law `turns_stay_open`.
use Rattle.std.proofs.Common.{◌≡◌, ℕ, true, List, refl}
use Rattle.lb_queue.specs.declared.answers.OutCause.{OutCause}
use Rattle.lb_queue.specs.declared.answers.OutCause.TheVariants.{Pull as PullOut}
use Rattle.lb_core.specs.declared.course.Course.{Course}
use Rattle.lb_core.specs.declared.course.Form.{Form}
use Rattle.lb_core.specs.declared.course.Form.TheVariants.{Flight, Used, Position, Looked, Landed, Closed, Done}
use Rattle.lb_core.specs.declared.entry.Entry.{Entry}
use Rattle.lb_core.specs.QueueAfter.{cause_of}
use Rattle.lb_core.specs.Machine.{MachineState, course_at, start}
use Rattle.lb_core.specs.Legal.{run}
use Rattle.lb_core.specs.OpenTurns.{IsVersion, IsOpenFor, IsAtPosition, FliesInTurn, TurnIn, TurnsStayOpen}
use Rattle.lb_core.proofs.Turns.{working, opens, open_turns, use_key, key_of, IsPublished}
use Rattle.lb_core.proofs.Turning.{TurnLaws, InTurn, turning_at}

version_of : (m : MachineState) (c : Course) → IsPublished m.versions (use_key c) → IsVersion m c.version c.masks
version_of m c u = record { from_first = u.from; published = u.to; masks_are = u.masks }

opened_as : (lane : ℕ) (es : List Entry) (m : MachineState) (f : Form) (o : OutCause) (c : Course) → opens f o ≡ true
    → InTurn lane es m f o (key_of c) → IsOpenFor m lane c
opened_as lane es m f o c k i =
    let t = (i.open_ k).there in
    record { taken_up = version_of m c ((i.used (open_turns f o k)).published); opened = t.opened; inside = t.below }

at_position : (lane : ℕ) (es : List Entry) (m : MachineState) (f : Form) (o : OutCause) (c : Course) → opens f o ≡ true
    → working f ≡ true → InTurn lane es m f o (key_of c) → IsAtPosition m lane c
at_position lane es m f o c k w i = (opened_as lane es m f o c k i, (i.open_ k).one w)

in_flight : (o : OutCause) (lane : ℕ) (es : List Entry) (m : MachineState) (c : Course)
    → InTurn lane es m Flight o (key_of c) → FliesInTurn o m lane c
in_flight PullOut lane es m c i = at_position lane es m Flight PullOut c refl refl i
in_flight o lane es m c i = tt

by_form : (f : Form) (lane : ℕ) (es : List Entry) (m : MachineState) (c : Course)
    → InTurn lane es m f (cause_of c) (key_of c) → TurnIn f m lane c
by_form Used lane es m c i = version_of m c ((i.used refl).published)
by_form Position lane es m c i = at_position lane es m Position (cause_of c) c refl refl i
by_form Looked lane es m c i = at_position lane es m Looked (cause_of c) c refl refl i
by_form Flight lane es m c i = in_flight (cause_of c) lane es m c i
by_form Landed lane es m c i = at_position lane es m Landed (cause_of c) c refl refl i
by_form Closed lane es m c i = opened_as lane es m Closed (cause_of c) c refl i
by_form Done lane es m c i = opened_as lane es m Done (cause_of c) c refl i
by_form f lane es m c i = tt

pub turns_stay_open : TurnLaws → TurnsStayOpen
turns_stay_open law h es lane legal =
    let m = run es (start h) in
    let c = course_at m.courses lane in
    by_form c.form lane es m c ((turning_at law h es legal).each lane)
