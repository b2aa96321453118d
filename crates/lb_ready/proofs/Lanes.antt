-- What every lane keeps whatever its form, from entry to entry along the legal front that led there: a number
-- for each CPU, a position that a mask has room for, and masks that part the CPUs.
-- For the law `lanes_suit`.
use Rattle.std.proofs.Common.{arith, ◌≡◌, ℕ, ◌+◌, ◌<◌, inl, inr, false, List, [], ◌∷◌, length, set, Option, Some, None, refl, sym, ◌∙◌, ap, subst, length-set, get_or-set_same, get_or-set_other}
use Rattle.std.specs.Prelude.{IfSome}
use Rattle.std.proofs.lemmas.Bool.{or_parts, not-false, cases_eq}
use Rattle.std.proofs.lemmas.List.{get_or-replicate, length-replicate}
use Rattle.lb_base.specs.Sets.{least, least_above}
use Rattle.lb_trace.specs.declared.trace.Command.{Command}
use Rattle.lb_trace.specs.declared.trace.Command.TheVariants.{Rebuild}
use Rattle.lb_trace.specs.declared.trace.Header.{Header}
use Rattle.lb_queue.specs.Queue.{QueueState}
use Rattle.lb_queue.specs.Turns.{counters_found}
use Rattle.lb_core.specs.declared.course.Course.{Course}
use Rattle.lb_core.specs.declared.entry.Entry.{Entry}
use Rattle.lb_core.specs.declared.entry.FigName.{FigName}
use Rattle.lb_core.specs.declared.entry.OutcomeWord.{OutcomeWord}
use Rattle.lb_core.specs.declared.entry.OutcomeWord.TheVariants.{NotMine as NotMineWord, Moved as MovedWord, Asking as AskingWord}
use Rattle.lb_core.specs.declared.entry.Owner.{Owner}
use Rattle.lb_core.specs.declared.entry.What.{What}
use Rattle.lb_core.specs.declared.entry.What.TheVariants.{Row, Adopt, Look, Scan, End, Did, Out, Landed, Turn, Shut, Close, Ask, Kick, Over, Pub}
use Rattle.lb_core.specs.declared.rule.Rule.TheVariants.{Row as RowRule}
use Rattle.lb_core.specs.Course.{opening_course, shapes_of, turn_domains, turn_kind, is_newly}
use Rattle.lb_core.specs.CourseAfter.{comes_to_rest, goes_to, goes_on, raised_numbers, closes, takes_off, turn_ends, cpu_of, course_by, course_after}
use Rattle.lb_core.specs.Leaving.{Leaving, leaving}
use Rattle.lb_core.specs.Legal.{MayBeAdded, MayFollow, run}
use Rattle.lb_core.specs.Machine.{MachineState, course_at, no_course, sight, start}
use Rattle.lb_core.specs.QueueAfter.{cause_of, queue_after}
use Rattle.lb_core.specs.Rules.{is_undeclared}
use Rattle.lb_core.specs.Sight.{Sight}
use Rattle.lb_core.specs.Step.{after}
use Rattle.lb_core.proofs.Placing.{entry, lane_there}
use Rattle.lb_core.proofs.Unbroken.{unbroken_here}
use Rattle.lb_ready.specs.Lanes.{PartsCpus, Suits, LanesSuit}
use Rattle.lb_ready.proofs.Counting.{least_found, least_above_found, cond_by}
use Rattle.lb_ready.proofs.Courses.{drew_by, ends_by, answered_by, lands_by, scanned_by, kicked_by}
use Rattle.lb_ready.proofs.Running.{PartitionLaw}

-- ---- what a course becomes
rests_suit : (h : Header) (c : Course) → Suits h c → Suits h (comes_to_rest c)
rests_suit h c k = record { numbers = k.numbers; position = k.position; parts = tt }

to_suit : (h : Header) (o : Option ℕ) (c : Course) → IfSome o (λ p. p < 64) → Suits h c → Suits h (goes_to o c)
to_suit h None c b k = record { numbers = k.numbers; position = omega arith; parts = k.parts }
to_suit h (Some p) c b k = record { numbers = k.numbers; position = b; parts = k.parts }

small : (o : Option ℕ) → ((p : ℕ) → o ≡ Some p → p < 64) → IfSome o (λ p. p < 64)
small None f = tt
small (Some p) f = f p refl

on_suit : (h : Header) (c : Course) → Suits h c → Suits h (goes_on c)
on_suit h c k =
    let next = least_above c.positions c.position in
    to_suit h next c (small next (λ p e. (least_above_found c.positions c.position p e).2)) k

closes_suit : (h : Header) (w : OutcomeWord) (c : Course) → Suits h c → Suits h (closes w c)
closes_suit h AskingWord c k = k
closes_suit h NotMineWord c k = to_suit h None c tt k
closes_suit h MovedWord c k = cond_by (Suits h) (is_newly (turn_kind c)) _ _ (to_suit h None c tt k) (on_suit h c k)
closes_suit h w c k = on_suit h c k

off_suit : (h : Header) (o : Option Leaving) (c : Course) → Suits h c → Suits h (takes_off o c)
off_suit h None c k = k
off_suit h (Some l) c k = k

names_length : (fs : List FigName) (ns : List ℕ) → length (raised_numbers fs ns) ≡ length ns
names_length [] ns = refl
names_length (f ∷ fs) ns = names_length fs (set ns f.cpu f.n) ∙ length-set ns f.cpu f.n

named_suit : (h : Header) (fs : List FigName) (c : Course) → Suits h c → Suits h (record c { named = raised_numbers fs c.named })
named_suit h fs c k = record { numbers = names_length fs c.named ∙ k.numbers; position = k.position; parts = k.parts }

-- ---- by kind of entry
-- the masks of a row that is taken up part the CPUs
abbrev Brings : Header → What → Type 0
Brings h (Row n at command) = PartsCpus h (Some command)
Brings h w = Unit {0}

course_suits : (h : Header) (s : Sight) (cpu : ℕ) (now : QueueState) (w : What) → Brings h w → Suits h s.course
    → Suits h (course_by w s cpu now)
unfolding turn_ends
course_suits h s cpu now (Row n at command) b k = record { numbers = k.numbers; position = k.position; parts = b }
course_suits h s cpu now (Adopt v kind u) b k = k
course_suits h s cpu now (Look p x fs d) b k = named_suit h fs s.course k
course_suits h s cpu now (Scan fs t) b k =
    let c : Course = record s.course { figures = s.figs; named = raised_numbers fs s.course.named } in
    let says : Suits h c = named_suit h fs s.course k in
    scanned_by (Suits h) t c (rests_suit h c says) (λ u e. says)
course_suits h s cpu now (End cpus) b k = k
course_suits h s cpu now (Did r) b k = answered_by (Suits h) s.course.command cpu s.queue now s.course
    (rests_suit h s.course k) k (λ u e. k)
course_suits h s cpu now (Out cause to tasks) b k = off_suit h (leaving s) s.course k
course_suits h s cpu now (Landed tasks) b k = lands_by (Suits h) (cause_of s.course) s.course (rests_suit h s.course k)
    (λ t. k) (λ e. k)
course_suits h s cpu now (Turn ps) b k =
    to_suit h (least ps) (record s.course {
      positions = ps;
      counters = counters_found s.queue s.course.at s.course.version (shapes_of (turn_domains s.header s.course));
    })
    (small (least ps) (λ p e. (least_found ps p e).1)) k
course_suits h s cpu now Shut b k = ends_by (Suits h) (turn_kind s.course) s.header s.course (rests_suit h s.course k)
    (λ some. k) (λ t y. k)
course_suits h s cpu now (Close p w i f) b k = closes_suit h w s.course k
course_suits h s cpu now (Ask r) b k = on_suit h s.course k
course_suits h s cpu now (Kick r) b k = kicked_by (Suits h) r s.course (rests_suit h s.course k) (λ t y. k)
course_suits h s cpu now Over b k = ends_by (Suits h) (turn_kind s.course) s.header s.course (rests_suit h s.course k)
    (λ some. k) (λ t y. k)
course_suits h s cpu now (Pub v) b k = rests_suit h s.course k

-- ---- along a front
declared_parts : PartitionLaw → (h : Header) (command : Command) → is_undeclared h command ≡ false → PartsCpus h (Some command)
declared_parts law h (Rebuild parts) d =
    let p = or_parts _ _ d in
    (law (length h.cpus) parts).1 (record { below = not-false _ p.0; apart = not-false _ p.1 })
declared_parts law h command d = tt

brought : PartitionLaw → (m : MachineState) (o : Owner) (lane prev : ℕ) (w : What) → MayBeAdded m (entry o lane prev w)
    → Brings m.header w
unfolding sight
brought law m o lane prev (Row n at command) h =
    declared_parts law m.header command ((or_parts _ _ (unbroken_here m (entry o lane prev (Row n at command)) h RowRule)).1)
brought law m o lane prev w h = tt

abbrev AllSuit : MachineState → Type 0
AllSuit m = (lane : ℕ) → lane < length m.courses → Suits m.header (course_at m.courses lane)

new_suits : PartitionLaw → (m : MachineState) (o : Owner) (lane prev : ℕ) (w : What)
    → MayBeAdded m (entry o lane prev w) → AllSuit m →
    Suits m.header (course_after (sight m (entry o lane prev w)) (entry o lane prev w))
unfolding sight course_after
new_suits law m o lane prev w h k =
    let e = entry o lane prev w in
    let s = sight m e in
    let c = course_by w s (cpu_of o) (queue_after s e) in
    let now : Suits m.header c = course_suits m.header s (cpu_of o) (queue_after s e) w
    (brought law m o lane prev w h) (k lane (lane_there m e h)) in
    drew_by (Suits m.header) o (s.count + 1) c now
    (λ cpu. record { numbers = length-set c.named cpu (s.count + 1) ∙ now.numbers; position = now.position; parts = now.parts })

suit_after : PartitionLaw → (m : MachineState) (o : Owner) (lane prev : ℕ) (w : What)
    → MayBeAdded m (entry o lane prev w) → AllSuit m → AllSuit (after m (entry o lane prev w))
unfolding after
suit_after law m o lane prev w h k l lt =
    let e = entry o lane prev w in
    let c = course_after (sight m e) e in
    elim (cases_eq l lane) [
      | inl same ↦ let is : course_at (set m.courses lane c) l ≡ c =
          ap (course_at (set m.courses lane c)) same ∙ get_or-set_same m.courses lane c no_course (lane_there m e h) in
          subst (Suits m.header) (sym is) (new_suits law m o lane prev w h k)
      | inr other ↦ let is : course_at (set m.courses lane c) l ≡ course_at m.courses l =
          get_or-set_other m.courses lane l c no_course other in
          let there : l < length m.courses = (let n = length-set m.courses lane c in omega arith) in
          subst (Suits m.header) (sym is) (k l there)
    ]

suit_along : PartitionLaw → (es : List Entry) (m : MachineState) → MayFollow es m → AllSuit m → AllSuit (run es m)
suit_along law [] m f k = k
suit_along law (e ∷ es) m f k = suit_along law es (after m e) f.1 (suit_after law m e.owner e.lane e.prev e.what f.0 k)

suit_at_first : (h : Header) → AllSuit (start h)
unfolding start
suit_at_first h lane lt =
    let opening = opening_course (length h.cpus) in
    let l = length-replicate h.lanes opening in
    rw (get_or-replicate h.lanes lane opening no_course (omega arith))
    (record { numbers = length-replicate (length h.cpus) 0; position = omega arith; parts = tt })

pub lanes_suit : PartitionLaw → LanesSuit
lanes_suit law m lane k lt = subst AllSuit k.reached.is
    (suit_along law k.reached.front (start m.header) k.reached.legal (suit_at_first m.header)) lane lt
