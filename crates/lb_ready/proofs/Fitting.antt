-- What a course keeps, by kind of entry: it fits the machine, and no excluded CPU is of the local group.
-- At each position none is excluded at first, and then the source of a pull, which is of a later group.
-- For the lemmas of `Calls`, `Keeping` and `Ranges`, and so for the laws `calls_may_be_made`, `ready` and others.
use Rattle.std.proofs.Common.{◌^◌, ◌≤◌, ◌+◌, cond, arith, ◌≡◌, ℕ, ◌<◌, Bool, true, false, ◌==◌, [], length, Option, Some, None, refl, subst, zero, suc, ◌||◌, List, ◌∷◌, get_or, ◌∙◌, ltb}
use Rattle.std.proofs.lemmas.Bool.{and_parts, eqb-true}
use Rattle.std.specs.List.{list_all}
use Rattle.lb_base.specs.declared.shape.Kind.{Kind}
use Rattle.lb_base.specs.declared.shape.Kind.TheVariants.{Tick as TickTurn, Idle, Nohz}
use Rattle.lb_base.specs.declared.mask.Mask.{Mask}
use Rattle.lb_base.specs.Mask.{either, only, no_cpus, has}
use Rattle.lb_base.specs.Sets.{least, least_above, are_apart, are_disjoint}
use Rattle.lb_base.proofs.Bits.{bit_set_zero}
use Rattle.lb_base.proofs.Sets.{apart_at}
use Rattle.lb_imbalance.specs.declared.decision.Decision.{Decision}
use Rattle.lb_imbalance.specs.Decision.{group_at}
use Rattle.lb_trace.specs.declared.trace.Command.{Command}
use Rattle.lb_trace.specs.declared.trace.Command.TheVariants.{Tick}
use Rattle.lb_trace.specs.declared.trace.Header.{Header}
use Rattle.lb_queue.specs.declared.answers.OutCause.{OutCause}
use Rattle.lb_queue.specs.declared.answers.OutCause.TheVariants.{Pull as PullOut}
use Rattle.lb_queue.specs.Queue.{QueueState}
use Rattle.lb_queue.specs.Turns.{counters_found}
use Rattle.lb_core.specs.declared.course.Course.{Course}
use Rattle.lb_core.specs.declared.course.Form.{Form}
use Rattle.lb_core.specs.declared.course.Form.TheVariants.{Asked, Flight, Serving, Due, Looked, ScanDue, Kicking, Ended, Position, Landed as LandedForm}
use Rattle.lb_core.specs.declared.entry.Owner.{Owner}
use Rattle.lb_core.specs.declared.entry.What.{What}
use Rattle.lb_core.specs.declared.entry.What.TheVariants.{Row, Adopt, Look, Scan, End, Did, Out, Landed, Turn, Shut, Close, Ask, Kick, Over, Pub}
use Rattle.lb_core.specs.declared.entry.FigName.{FigName}
use Rattle.lb_core.specs.Same.{same_kind, same_number}
use Rattle.lb_core.specs.Course.{is_all_pinned, ticked_cpu, turn_kind, turn_domains, shapes_of, source_of, is_pull}
use Rattle.lb_core.specs.Sight.{Sight, tickless_in}
use Rattle.lb_core.specs.Stage.{draws}
use Rattle.lb_core.specs.QueueAfter.{cause_of}
use Rattle.lb_core.specs.Step.{ended_after}
use Rattle.lb_core.specs.CourseAfter.{excluding, raised_numbers, comes_to_rest, is_due_at, goes_to, turn_ends_by, turn_ends, course_by, drew, takes_off}
use Rattle.lb_core.specs.Leaving.{Leaving}
use Rattle.lb_core.proofs.EmptyHands.{is_out}
use Rattle.lb_ready.specs.Ready.{unnamed, KeepsLocal, Names, FitsForm, IsOfMachine, Speaks, Fits, local_group, PullsSparing, Spares}
use Rattle.lb_ready.proofs.Counting.{either_narrow, either_has, only_has}
use Rattle.lb_ready.proofs.Courses.{drew_by, ends_by, answered_by, lands_by, scanned_by, kicked_by, closes_by, goes_to_by, goes_on_by}
use Rattle.lb_ready.proofs.Figures.{none_tickless}

-- ---- what a course becomes
some_cpu : (h : Header) (n : ℕ) (c : Course) → Speaks h n c → 0 < length h.cpus
some_cpu h n c k = let some = k.turned in omega arith

pub none_wide : no_cpus.bits < 2 ^ 64
none_wide = omega arith

-- with as many tickets and more
pub later : (h : Header) (n : ℕ) (c : Course) → Speaks h n c → Speaks h (n + 1) c
later h n c k = record {
  counted = let r = k.counted in omega arith;
  turned = k.turned;
  pulled = k.pulled;
  tickless = k.tickless;
  names = k.names;
  masks = k.masks;
  narrow = k.narrow;
}

rests_fit : (e : Bool) (h : Header) (n : ℕ) (c : Course) → Speaks h n c → Fits e h n (comes_to_rest c)
rests_fit e h n c k = record {
  says = record {
    counted = k.counted;
    turned = k.turned;
    pulled = some_cpu h n c k;
    tickless = λ j t. absurd (none_tickless j t);
    names = tt;
    masks = refl;
    narrow = none_wide;
  };
  form = tt;
}

-- without a decision and excluded CPUs
anew : (h : Header) (n : ℕ) (c : Course) → Speaks h n c → IsOfMachine h n c.rows c.cpu 0 c.figures c.command c.hand no_cpus
anew h n c k = record {
  counted = k.counted;
  turned = k.turned;
  pulled = some_cpu h n c k;
  tickless = k.tickless;
  names = k.names;
  masks = k.masks;
  narrow = none_wide;
}

-- with an empty hand
let_go : (h : Header) (n : ℕ) (c : Course) (excluded : Mask) → excluded.bits < 2 ^ 64 → Speaks h n c
    → IsOfMachine h n c.rows c.cpu (source_of c.decision) c.figures c.command [] excluded
let_go h n c excluded x k = record {
  counted = k.counted;
  turned = k.turned;
  pulled = k.pulled;
  tickless = k.tickless;
  names = k.names;
  masks = refl;
  narrow = x;
}

-- a take that was all pinned excludes its source
excluding_narrow : (h : Header) (n : ℕ) (c : Course) → length h.cpus ≤ 64 → Speaks h n c → (excluding c).bits < 2 ^ 64
excluding_narrow h n c few k = by_test (is_all_pinned c.taken)
  where
    by_test : (b : Bool) → (cond b (either c.excluded (only (source_of c.decision))) c.excluded).bits < 2 ^ 64
    by_test true = either_narrow c.excluded (source_of c.decision) k.narrow (let s = k.pulled in omega arith)
    by_test false = k.narrow

goes_to_fit : (e : Bool) (h : Header) (n : ℕ) (o : Option ℕ) (c : Course) → Speaks h n c → Fits e h n (goes_to o c)
goes_to_fit e h n None c k = record { says = anew h n c k; form = tt }
goes_to_fit e h n (Some p) c k = record { says = anew h n c k; form = tt }

due_fit : (e : Bool) (h : Header) (n : ℕ) (kind : Kind) (cpu : ℕ) (c : Course) → same_kind kind TickTurn ≡ false
    → cpu < length h.cpus → Speaks h n c → Fits e h n (is_due_at kind cpu c)
due_fit e h n kind cpu c b lt k = record {
  says =
      record {
        counted = k.counted;
        turned = lt;
        pulled = k.pulled;
        tickless = k.tickless;
        names = k.names;
        masks = k.masks;
        narrow = k.narrow;
      };
  form = b;
}

ends_fit : (h : Header) (n : ℕ) (c : Course) → Speaks h n c → Fits false h n (turn_ends_by (turn_kind c) h c)
ends_fit h n c k = ends_by (Fits false h n) (turn_kind c) h c (rests_fit false h n c k)
    (λ some. record { says = anew h n c k; form = (refl, some) }) (λ t y. due_fit false h n Nohz t c refl (k.tickless t y) k)

-- ---- by kind of entry
-- what an entry brings into the course, where so many tickets were drawn
abbrev pub Brings : Header → ℕ → Sight → ℕ → What → Type 0
Brings h n s cpu (Row number at command) = (number ≤ n) × Names h (Some command)
Brings h n s cpu (Look p x names d) = source_of (Some d) < length h.cpus
Brings h n s cpu (Scan names t) = ((k : ℕ) → has (tickless_in s.figs) k ≡ true → k < length h.cpus) ×
    (t ≡ least (tickless_in s.figs))
Brings h n s cpu (Did r) = cpu < length h.cpus
Brings h n s cpu w = Unit {0}

-- the turn that is taken up is of a CPU of the machine
adopted_fits : (f : Form) (h : Header) (n : ℕ) (s : Sight) (lane v : ℕ) (kind : Kind) (u : ℕ) → s.header ≡ h
    → draws f s.header s.course s.queue lane (Adopt v kind u) ≡ true → Speaks h n s.course → u < length h.cpus
unfolding draws
adopted_fits Serving h n s lane v kind u same d k =
    let t = (and_parts (same_kind kind TickTurn) _ d).1 in
    ticks s.course.command t k.names
  where
    ticks : (command : Option Command) → same_number (ticked_cpu command) (Some u) ≡ true → Names h command → u < length h.cpus
    ticks (Some (Tick cpu)) t y = let e = eqb-true cpu u t in rw (← e) y
    ticks command t y = absurd (let y : ⊥ = cc in y)
adopted_fits Due h n s lane v kind u same d k = let e =
    eqb-true u s.course.cpu ((and_parts (same_kind kind (turn_kind s.course)) (u == s.course.cpu) d).1) in rw e k.turned
adopted_fits f h n s lane v kind u same d k = absurd (let y : ⊥ = cc in y)

pub course_fits : (h : Header) (n : ℕ) (s : Sight) (lane cpu : ℕ) (now : QueueState) (w : What) → length h.cpus ≤ 64
    → s.header ≡ h → draws s.course.form s.header s.course s.queue lane w ≡ true → is_out w ≡ false → Brings h n s cpu w →
    Speaks h n s.course → Fits (ended_after w false) h n (course_by w s cpu now)
unfolding turn_ends
course_fits h n s lane cpu now (Row number at command) few same d o b k =
    record {
      says = record {
        counted = b.0;
        turned = k.turned;
        pulled = k.pulled;
        tickless = k.tickless;
        names = b.1;
        masks = k.masks;
        narrow = k.narrow;
      };
      form = refl;
    }
course_fits h n s lane cpu now (Adopt v kind u) few same d o b k =
    record {
      says = record {
        counted = k.counted;
        turned = adopted_fits s.course.form h n s lane v kind u same d k;
        pulled = k.pulled;
        tickless = k.tickless;
        names = k.names;
        masks = k.masks;
        narrow = k.narrow;
      };
      form = tt;
    }
course_fits h n s lane cpu now (Look p x names d) few same l o b k =
    record {
      says = record {
        counted = k.counted;
        turned = k.turned;
        pulled = b;
        tickless = k.tickless;
        names = k.names;
        masks = k.masks;
        narrow = k.narrow;
      };
      form = refl;
    }
course_fits h n s lane cpu now (Scan names t) few same d o b k =
    let c : Course = record s.course { figures = s.figs; named = raised_numbers names s.course.named } in
    let says : Speaks h n c = record {
      counted = k.counted;
      turned = k.turned;
      pulled = k.pulled;
      tickless = b.0;
      names = k.names;
      masks = k.masks;
      narrow = k.narrow;
    } in
    scanned_by (Fits false h n) t c (rests_fit false h n c says) (λ u e. record { says = says; form = rw (← b.1, e) refl })
course_fits h n s lane cpu now (End cpus) few same d o b k = record { says = k; form = refl }
course_fits h n s lane cpu now (Did r) few same d o b k =
    answered_by (Fits false h n) s.course.command cpu s.queue now s.course (rests_fit false h n s.course k)
    (due_fit false h n Idle cpu s.course refl b k) (λ u e. record { says = k; form = rw e refl })
course_fits h n s lane cpu now (Out cause to tasks) few same d o b k = absurd (let y : ⊥ = cc in y)
course_fits h n s lane cpu now (Landed tasks) few same d o b k =
    lands_by (Fits false h n) (cause_of s.course) s.course (rests_fit false h n s.course k)
    (λ t. record { says = let_go h n s.course s.course.excluded k.narrow k; form = t })
    (λ e. record { says = let_go h n s.course (excluding s.course) (excluding_narrow h n s.course few k) k; form = tt })
course_fits h n s lane cpu now (Turn ps) few same d o b k =
    goes_to_fit false h n (least ps) (record
    s.course {
      positions = ps;
      counters = counters_found s.queue s.course.at s.course.version
          (shapes_of (turn_domains s.header s.course));
    }) k
course_fits h n s lane cpu now Shut few same d o b k = rw same (ends_fit h n s.course k)
course_fits h n s lane cpu now (Close p w i f) few same d o b k =
    closes_by (Fits false h n) w s.course (record { says = k; form = tt }) (goes_to_fit false h n None s.course k)
    (λ p y. goes_to_fit false h n (Some p) s.course k)
course_fits h n s lane cpu now (Ask r) few same d o b k =
    goes_to_fit false h n (least_above s.course.positions s.course.position) s.course k
course_fits h n s lane cpu now (Kick r) few same d o b k =
    kicked_by (Fits false h n) r s.course (rests_fit false h n s.course k)
    (λ t y. due_fit false h n Nohz t s.course refl (k.tickless t y) k)
course_fits h n s lane cpu now Over few same d o b k = rw same (ends_fit h n s.course k)
course_fits h n s lane cpu now (Pub v) few same d o b k = let r = rests_fit false h n s.course k in record
    { says = r.says; form = tt }

-- ---- for every lane
pub drew_fits : (e : Bool) (h : Header) (n : ℕ) (o : Owner) (u : ℕ) (c : Course) → Fits e h n c → Fits e h n (drew o u c)
drew_fits e h n o u c k = drew_by (Fits e h n) o u c k (λ cpu. record { says = k.says; form = k.form })

-- the end may have come
ended_form : (f : Form) (h : Header) (c : Course) → FitsForm false h f c → FitsForm true h f c
ended_form Asked h c k = k
ended_form Flight h c k = k
ended_form Serving h c k = k
ended_form Due h c k = k
ended_form Looked h c k = k
ended_form ScanDue h c k = k
ended_form Kicking h c k = k
ended_form Ended h c k = refl
ended_form f h c k = tt

pub later_fits : (w : What) (h : Header) (n : ℕ) (c : Course) → Fits false h n c → Fits (ended_after w false) h (n + 1) c
later_fits (End cpus) h n c k = record { says = later h n c k.says; form = ended_form c.form h (unnamed c) k.form }
later_fits w h n c k = record { says = later h n c k.says; form = k.form }

-- ---- excluded CPUs
pub none_excluded : (k : ℕ) → has no_cpus k ≡ false
unfolding has
none_excluded k = bit_set_zero k

-- the source of a take that was all pinned
more_excluded : (b : Bool) (g x : Mask) (s k : ℕ) → has x k ≡ false → has g s ≡ false → has g k ≡ true
    → has (cond b (either x (only s)) x) k ≡ false
more_excluded false g x s k e a y = e
more_excluded true g x s k e a y = either_has x (only s) k ∙ rw (e, only_has s k) (by_test (k == s) refl)
  where
    by_test : (b : Bool) → (k == s) ≡ b → (false || b) ≡ false
    by_test true i = let z = eqb-true k s i in let w : has g s ≡ true = rw (← z) y in absurd (let v : ⊥ = cc in v)
    by_test false i = refl

pub off_spares : (h : Header) (o : Option Leaving) (c : Course)
    → ((l : Leaving) → o ≡ Some l → PullsSparing l.cause h (unnamed c)) → KeepsLocal h c → KeepsLocal h (takes_off o c)
off_spares h None c p k = k
off_spares h (Some l) c p k = by_cause l.cause (p l refl)
  where
    by_cause : (x : OutCause) → PullsSparing x h (unnamed c) → PullsSparing x h (unnamed (takes_off (Some l) c))
    by_cause PullOut k = k
    by_cause x k = tt

abbrev pub is_look : What → Bool
is_look (Look p x names d) = true
is_look w = false

pub spares_after : (f : Form) (h : Header) (s : Sight) (lane cpu : ℕ) (now : QueueState) (w : What) → s.header ≡ h
    → draws f s.header s.course s.queue lane w ≡ true → is_out w ≡ false → is_look w ≡ false
    → Spares f h (unnamed s.course) → KeepsLocal h (course_by w s cpu now)
unfolding draws turn_ends
spares_after f h s lane cpu now (Look p x fs d) same y o l k = absurd (let z : ⊥ = cc in z)
spares_after f h s lane cpu now (Out cause to ids) same y o l k = absurd (let z : ⊥ = cc in z)
spares_after f h s lane cpu now (Scan fs t) same y o l k =
    scanned_by (KeepsLocal h) t (record s.course { figures = s.figs; named = raised_numbers fs s.course.named }) tt (λ u e. tt)
spares_after f h s lane cpu now (Did r) same y o l k =
    answered_by (KeepsLocal h) s.course.command cpu s.queue now s.course tt tt (λ u e. tt)
spares_after Flight h s lane cpu now (Landed ids) same y o l k =
    lands_by (KeepsLocal h) (cause_of s.course) s.course tt (λ t. tt)
    (λ i. let z : PullsSparing PullOut h (unnamed s.course) = subst
    (λ (x : OutCause). PullsSparing x h (unnamed s.course)) i k in
    λ j q. more_excluded (is_all_pinned s.course.taken) (local_group h s.course) s.course.excluded
    (source_of s.course.decision) j (z.0 j q) z.1 q)
spares_after f h s lane cpu now (Landed ids) same y o l k = absurd (let z : ⊥ = cc in z)
spares_after f h s lane cpu now (Turn ps) same y o l k =
    goes_to_by (KeepsLocal h) (least ps) (record s.course {
      positions = ps;
      counters = counters_found s.queue s.course.at s.course.version (shapes_of (turn_domains s.header s.course));
    }) tt
    (λ p e j q. none_excluded j)
spares_after f h s lane cpu now Shut same y o l k =
    rw same (ends_by (KeepsLocal h) (turn_kind s.course) h s.course tt (λ some. tt) (λ t q. tt))
spares_after f h s lane cpu now Over same y o l k =
    rw same (ends_by (KeepsLocal h) (turn_kind s.course) h s.course tt (λ some. tt) (λ t q. tt))
spares_after f h s lane cpu now (Close p w i n) same y o l k = closes_by (KeepsLocal h) w s.course tt tt
    (λ p q j z. none_excluded j)
spares_after f h s lane cpu now (Ask r) same y o l k = goes_on_by (KeepsLocal h) s.course tt (λ p q j z. none_excluded j)
spares_after f h s lane cpu now (Kick r) same y o l k = kicked_by (KeepsLocal h) r s.course tt (λ t q. tt)
spares_after f h s lane cpu now w same y o l k = tt

-- ---- looks
apart_from : (g : Mask) (gs : List Mask) (i s : ℕ) → list_all (are_apart g) gs ≡ true → s < 64
    → has (get_or gs i no_cpus) s ≡ true → has g s ≡ false
apart_from g [] i s a lt y = absurd (let n = none_excluded s in let z : ⊥ = cc in z)
apart_from g (x ∷ gs) zero s a lt y = by_test (has g s) refl
  where
    by_test : (b : Bool) → has g s ≡ b → b ≡ false
    by_test true e = let n = apart_at g x ((and_parts (are_apart g x) _ a).0) s lt e in absurd (let z : ⊥ = cc in z)
    by_test false e = refl
apart_from g (x ∷ gs) (suc i) s a lt y = apart_from g gs i s ((and_parts (are_apart g x) _ a).1) lt y

pub source_apart : (groups : List Mask) (b s : ℕ) → are_disjoint groups ≡ true → ltb 0 b ≡ true → s < 64
    → has (group_at groups b) s ≡ true → has (group_at groups 0) s ≡ false
source_apart [] b s a l lt y = none_excluded s
source_apart (g ∷ gs) zero s a l lt y = absurd (let z : ⊥ = cc in z)
source_apart (g ∷ gs) (suc b) s a l lt y = apart_from g gs b s ((and_parts (list_all (are_apart g) gs) _ a).0) lt y

pub look_spares : (f : Form) (h : Header) (s : Sight) (lane cpu : ℕ) (now : QueueState) (p : ℕ) (x : Mask)
    (fs : List FigName) (d : Decision) → draws f s.header s.course s.queue lane (Look p x fs d) ≡ true
    → (is_pull (Some d) ≡ true → has (local_group h s.course) (source_of (Some d)) ≡ false)
    → Spares f h (unnamed s.course) → KeepsLocal h (course_by (Look p x fs d) s cpu now)
unfolding draws
look_spares Position h s lane cpu now p x fs d y a k = (k, a)
look_spares LandedForm h s lane cpu now p x fs d y a k = (k, a)
look_spares f h s lane cpu now p x fs d y a k = absurd (let z : ⊥ = cc in z)
