-- What an entry that keeps the rule `stage` says of its owner's queue, and of the turn of its lane.
-- For `breaks_pick`, `breaks_counters`, `breaks_reply` and others.
use Rattle.std.proofs.Common.{arith, ◌≡◌, ℕ, ◌<◌, Bool, true, false, not, ◌==◌, length, refl, sym, ◌∙◌, ap, subst, Option, Some, List, is_some, ◌+◌, ◌||◌}
use Rattle.std.proofs.lemmas.Bool.{or_parts, and_parts, eqb-true, ltb-true, not-false}
use Rattle.lb_base.specs.declared.mask.Mask.{Mask}
use Rattle.lb_base.specs.declared.shape.Kind.{Kind}
use Rattle.lb_base.specs.declared.shape.Kind.TheVariants.{Tick as TickTurn}
use Rattle.lb_imbalance.specs.declared.decision.Decision.{Decision}
use Rattle.lb_queue.specs.Queue.{QueueState}
use Rattle.lb_trace.specs.declared.trace.Command.{Command}
use Rattle.lb_trace.specs.declared.trace.Command.TheVariants.{Tick}
use Rattle.lb_trace.specs.declared.trace.Header.{Header}
use Rattle.lb_core.specs.declared.course.Course.{Course}
use Rattle.lb_core.specs.declared.course.Form.{Form}
use Rattle.lb_core.specs.declared.course.Form.TheVariants.{Serving, Due, Used, Position, Looked, Landed as LandedForm, ScanDue}
use Rattle.lb_core.specs.declared.entry.Entry.{Entry}
use Rattle.lb_core.specs.declared.entry.FigName.{FigName}
use Rattle.lb_core.specs.declared.entry.OutcomeWord.{OutcomeWord}
use Rattle.lb_core.specs.declared.entry.Owner.{Owner}
use Rattle.lb_core.specs.declared.entry.Owner.TheVariants.{Publisher, Lane, Queue}
use Rattle.lb_core.specs.declared.entry.What.{What}
use Rattle.lb_core.specs.declared.entry.What.TheVariants.{Row, Adopt, Look, Scan, End, Turn, Close, Pub}
use Rattle.lb_core.specs.declared.rule.Rule.TheVariants.{Stage, Reply as ReplyRule}
use Rattle.lb_core.specs.Course.{ticked_cpu, turn_kind}
use Rattle.lb_core.specs.Same.{same_kind, same_number}
use Rattle.lb_core.specs.Stage.{draws, queue_due, is_owner, is_queue}
use Rattle.lb_core.specs.Machine.{MachineState, course_at, owned_queue, owned_count, sight}
use Rattle.lb_core.specs.Elsewhere.{is_undeclared_owner}
use Rattle.lb_core.specs.OpenTurns.{IsVersion, IsAtPosition, TurnIn}
use Rattle.lb_core.specs.Step.{breaks}
use Rattle.lb_ready.specs.Ready.{IsReady, Names, FitsForm, ScansIn, unnamed}
use Rattle.lb_core.proofs.Equality.{publisher_is}
use Rattle.lb_core.specs.Rules.{breaks_reply}
use Rattle.lb_ready.specs.Calls.{TrialAsks, TurnAsks}
use Rattle.lb_ready.specs.Next.{bare}
use Rattle.lb_ready.proofs.Staging.{staged}
use Rattle.lb_due.specs.Owners.{HasQueue}
use Rattle.lb_turn.specs.Turns.{HasDue}
use Rattle.lb_engine.specs.Asks.{HasTurn, HasPosition, PullAsks}

-- ---- owners
abbrev pub is_of_queue : What → Bool
is_of_queue (Row n at command) = false
is_of_queue (Adopt v k cpu) = false
is_of_queue (Look p x names d) = false
is_of_queue (Scan names t) = false
is_of_queue (End cpus) = false
is_of_queue (Pub v) = false
is_of_queue w = true

queue_owns : (w : What) (lane : ℕ) (due : Option ℕ) (o : Owner) → is_of_queue w ≡ true → is_owner w lane due o ≡ true
    → is_queue o due ≡ true
queue_owns (Row n at command) lane due o h k = absurd (let y : ⊥ = cc in y)
queue_owns (Adopt v kind cpu) lane due o h k = absurd (let y : ⊥ = cc in y)
queue_owns (Look p x names d) lane due o h k = absurd (let y : ⊥ = cc in y)
queue_owns (Scan names t) lane due o h k = absurd (let y : ⊥ = cc in y)
queue_owns (End cpus) lane due o h k = absurd (let y : ⊥ = cc in y)
queue_owns (Pub v) lane due o h k = absurd (let y : ⊥ = cc in y)
queue_owns w lane due o h k = k

there : (m : MachineState) (o : Owner) (due : Option ℕ) → is_queue o due ≡ true → is_undeclared_owner m o ≡ false → HasQueue m o
there m (Queue cpu) due h k = ltb-true cpu (length m.queues) (not-false _ k)
there m Publisher due h k = let y : ⊥ = cc in y
there m (Lane l) due h k = let y : ⊥ = cc in y

pub has_queue : (m : MachineState) (e : Entry) (w : What) → breaks m e Stage ≡ false → e.what ≡ w
    → is_of_queue w ≡ true → HasQueue m e.owner
has_queue m e w h i q = let s = staged m e h in
    there m e.owner _ (queue_owns e.what e.lane _ e.owner (ap is_of_queue i ∙ q) s.owner) s.owner_there

-- ---- the CPU of a `use`
pub use_cpu : (f : Form) (h : Header) (c : Course) (q : QueueState) (lane v : ℕ) (k : Kind) (u n : ℕ)
    → draws f h c q lane (Adopt v k u) ≡ true → Names h c.command → c.cpu < n → length h.cpus ≡ n → u < n
unfolding draws
use_cpu Serving h c q lane v k u n d names turned same = by_command c.command ((and_parts (same_kind k TickTurn) _ d).1) names
  where
    by_command : (command : Option Command) → same_number (ticked_cpu command) (Some u) ≡ true → Names h command → u < n
    by_command (Some (Tick cpu)) t y = let e = eqb-true cpu u t in omega arith
    by_command command t y = absurd (let z : ⊥ = cc in z)
use_cpu Due h c q lane v k u n d names turned same = let e = eqb-true u c.cpu
    ((and_parts (same_kind k (turn_kind c)) _ d).1) in omega arith
use_cpu f h c q lane v k u n d names turned same = absurd (let z : ⊥ = cc in z)

pub staged_use : (m : MachineState) (e : Entry) (v : ℕ) (k : Kind) (u : ℕ) → IsReady m → breaks m e Stage ≡ false
    → e.what ≡ Adopt v k u → u < length m.queues
staged_use m e v k u r h i =
    let s = staged m e h in
    let says = (r.fits e.lane).says in
    let c = course_at m.courses e.lane in
    let z : length m.header.cpus ≡ length m.queues = sym r.sizes.queues in
    let d = subst (λ (w : What). draws c.form m.header c (owned_queue e.owner m) e.lane w ≡ true) i s.drawn in
    use_cpu c.form m.header c (owned_queue e.owner m) e.lane v k u (length m.queues) d says.names
    (let t = says.turned in omega arith) z

-- ---- turns
pub has_position : (m : MachineState) (lane : ℕ) → IsReady m → IsAtPosition m lane (course_at m.courses lane)
    → HasPosition m (course_at m.courses lane)
has_position m lane r k = record {
  turn = record { version = k.0.taken_up; turned = (r.fits lane).says.turned };
  inside = k.0.inside (course_at m.courses lane).position k.1;
}

close_at : (f : Form) (m : MachineState) (lane : ℕ) (c : Course) (q : QueueState) (p : ℕ) (w : OutcomeWord) (i n : ℕ)
    → draws f m.header c q lane (Close p w i n) ≡ true → TurnIn f m lane c → IsAtPosition m lane c
unfolding draws
close_at Looked m lane c q p w i n d t = t
close_at LandedForm m lane c q p w i n d t = t
close_at f m lane c q p w i n d t = absurd (let z : ⊥ = cc in z)

look_at : (f : Form) (m : MachineState) (lane : ℕ) (c : Course) (q : QueueState) (p : ℕ) (x : Mask)
    (names : List FigName) (o : Decision) → draws f m.header c q lane (Look p x names o) ≡ true → TurnIn f m lane c
    → IsAtPosition m lane c
unfolding draws
look_at Position m lane c q p x names o d t = t
look_at LandedForm m lane c q p x names o d t = t
look_at f m lane c q p x names o d t = absurd (let z : ⊥ = cc in z)

turn_at : (f : Form) (m : MachineState) (lane : ℕ) (c : Course) (q : QueueState) (ps : Mask)
    → draws f m.header c q lane (Turn ps) ≡ true → TurnIn f m lane c → IsVersion m c.version c.masks
unfolding draws
turn_at Used m lane c q ps d t = t
turn_at f m lane c q ps d t = absurd (let z : ⊥ = cc in z)

pub staged_close : (m : MachineState) (e : Entry) (p : ℕ) (w : OutcomeWord) (i n : ℕ) → IsReady m
    → breaks m e Stage ≡ false → e.what ≡ Close p w i n → HasPosition m (course_at m.courses e.lane)
staged_close m e p w i n r h k =
    let c = course_at m.courses e.lane in
    let d = subst (λ (x : What). draws c.form m.header c (owned_queue e.owner m) e.lane x ≡ true) k (staged m e h).drawn in
    has_position m e.lane r (close_at c.form m e.lane c (owned_queue e.owner m) p w i n d (r.turns e.lane))

pub staged_look : (m : MachineState) (e : Entry) (p : ℕ) (x : Mask) (names : List FigName) (o : Decision) → IsReady m
    → breaks m e Stage ≡ false → e.what ≡ Look p x names o → HasPosition m (course_at m.courses e.lane)
staged_look m e p x names o r h k =
    let c = course_at m.courses e.lane in
    let d = subst (λ (w : What). draws c.form m.header c (owned_queue e.owner m) e.lane w ≡ true) k (staged m e h).drawn in
    has_position m e.lane r (look_at c.form m e.lane c (owned_queue e.owner m) p x names o d (r.turns e.lane))

pub staged_turn : (m : MachineState) (e : Entry) (ps : Mask) → IsReady m → breaks m e Stage ≡ false → e.what ≡ Turn ps
    → HasTurn m (course_at m.courses e.lane)
staged_turn m e ps r h k =
    let c = course_at m.courses e.lane in
    let d = subst (λ (w : What). draws c.form m.header c (owned_queue e.owner m) e.lane w ≡ true) k (staged m e h).drawn in
    record {
      version = turn_at c.form m e.lane c (owned_queue e.owner m) ps d (r.turns e.lane);
      turned =
          (r.fits e.lane).says.turned;
    }

-- what the queue asks of a turn, by what the entry's step reads
pub turn_asks : (m : MachineState) (e : Entry) (ps : Mask) → e.what ≡ Turn ps → TrialAsks e.what (sight m e)
    → TurnAsks (bare m (course_at m.courses e.lane) (owned_queue e.owner m))
unfolding sight
turn_asks m e ps i t = let a = subst (λ (w : What). TrialAsks w (sight m e)) i t in
    record { few = a.few; in_order = a.in_order; fit = a.fit }

-- no turn is open, where the reply is right
pub none_open : (m : MachineState) (e : Entry) (ps : Mask) → e.what ≡ Turn ps → breaks m e ReplyRule ≡ false
    → is_some (owned_queue e.owner m).open_turn ≡ false
unfolding sight
none_open m e ps i h = let r = (or_parts (breaks_reply (sight m e) e.what) false h).0 in
    subst (λ (w : What). breaks_reply (sight m e) w ≡ false) i r

or_false : (b : Bool) → (b || false) ≡ b
or_false true = refl
or_false false = refl

-- the next version
pub pub_breaks : (m : MachineState) (e : Entry) (v : ℕ) → IsReady m → breaks m e Stage ≡ false → e.what ≡ Pub v
    → breaks m e ReplyRule ≡ not (v == length m.versions + 1)
unfolding sight
pub_breaks m e v r h i =
    let o = publisher_is e.owner (subst (λ (w : What). is_owner w e.lane
    (queue_due (course_at m.courses e.lane).form (course_at m.courses e.lane)) e.owner ≡ true) i (staged m e h).owner) in
    let some = r.sizes.versions in
    let n : owned_count e.owner m + 2 ≡ length m.versions + 1 = ap (λ (x : Owner). owned_count x m + 2) o ∙ omega arith in
    or_false (breaks_reply (sight m e) e.what) ∙ ap (λ (w : What). breaks_reply (sight m e) w) i ∙ ap (λ (k : ℕ). not (v == k)) n

-- a lane that has looked stands at a position
pulls_at : (f : Form) (m : MachineState) (lane : ℕ) → IsReady m → TurnIn f m lane (course_at m.courses lane)
    → PullAsks f m (course_at m.courses lane)
pulls_at Looked m lane r t = has_position m lane r t
pulls_at f m lane r t = tt

pub pulls : (m : MachineState) (lane : ℕ) → IsReady m → PullAsks (course_at m.courses lane).form m (course_at m.courses lane)
pulls m lane r = pulls_at (course_at m.courses lane).form m lane r (r.turns lane)

-- ---- figures
look_due : (f : Form) (m : MachineState) (c : Course) (q : QueueState) (lane p : ℕ) (x : Mask) (names : List FigName)
    (o : Decision) → draws f m.header c q lane (Look p x names o) ≡ true → HasPosition m c → HasDue f m.header c
unfolding draws
look_due Position m c q lane p x names o d h = h.inside
look_due LandedForm m c q lane p x names o d h = h.inside
look_due f m c q lane p x names o d h = absurd (let z : ⊥ = cc in z)

-- a look reads the figures of the domain at the position in work
pub staged_look_due : (m : MachineState) (e : Entry) (p : ℕ) (x : Mask) (names : List FigName) (o : Decision)
    → IsReady m → breaks m e Stage ≡ false → e.what ≡ Look p x names o →
    HasDue (course_at m.courses e.lane).form m.header (course_at m.courses e.lane)
staged_look_due m e p x names o r h k =
    let c = course_at m.courses e.lane in
    let d = subst (λ (w : What). draws c.form m.header c (owned_queue e.owner m) e.lane w ≡ true) k (staged m e h).drawn in
    look_due c.form m c (owned_queue e.owner m) e.lane p x names o d (staged_look m e p x names o r h k)

scan_version : (f : Form) (m : MachineState) (c : Course) (q : QueueState) (lane : ℕ) (names : List FigName)
    (t : Option ℕ) → draws f m.header c q lane (Scan names t) ≡ true → ScansIn f m c.version c.masks
    → IsVersion m c.version c.masks
unfolding draws
scan_version ScanDue m c q lane names t d s = s
scan_version f m c q lane names t d s = absurd (let z : ⊥ = cc in z)

scan_due : (f : Form) (b : Bool) (h : Header) (c : Course) (q : QueueState) (lane : ℕ) (names : List FigName)
    (t : Option ℕ) → draws f h c q lane (Scan names t) ≡ true → FitsForm b h f (unnamed c) → HasDue f h c
unfolding draws
scan_due ScanDue b h c q lane names t d w = w.1
scan_due f b h c q lane names t d w = absurd (let z : ⊥ = cc in z)

-- a scan reads those of the widest domain
pub staged_scan : (m : MachineState) (e : Entry) (names : List FigName) (t : Option ℕ) → IsReady m
    → breaks m e Stage ≡ false → e.what ≡ Scan names t → HasTurn m (course_at m.courses e.lane)
staged_scan m e names t r h k =
    let c = course_at m.courses e.lane in
    let d = subst (λ (w : What). draws c.form m.header c (owned_queue e.owner m) e.lane w ≡ true) k (staged m e h).drawn in
    record {
      version = scan_version c.form m c (owned_queue e.owner m) e.lane names t d (r.scans e.lane);
      turned = (r.fits e.lane).says.turned;
    }

pub staged_scan_due : (m : MachineState) (e : Entry) (names : List FigName) (t : Option ℕ) → IsReady m
    → breaks m e Stage ≡ false → e.what ≡ Scan names t →
    HasDue (course_at m.courses e.lane).form m.header (course_at m.courses e.lane)
staged_scan_due m e names t r h k =
    let c = course_at m.courses e.lane in
    let d = subst (λ (w : What). draws c.form m.header c (owned_queue e.owner m) e.lane w ≡ true) k (staged m e h).drawn in
    scan_due c.form m.ended m.header c (owned_queue e.owner m) e.lane names t d (r.fits e.lane).form
