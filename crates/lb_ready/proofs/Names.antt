-- What a lane has named was published: versions and figures.
-- For the lemmas of `Keeping` and `Ranges`, and so for the laws `calls_may_be_made`, `ready` and others.
use Rattle.std.proofs.Common.{◌≡◌, ℕ, Bool, true, false, List, Option, Some, None, refl, arith, ◌+◌, ◌-◌, ◌≤◌, ◌==◌, [], ◌∷◌, length, set, sym, ◌∙◌, ap, subst, ltb, inl, inr}
use Rattle.std.specs.List.{list_any}
use Rattle.std.proofs.lemmas.Bool.{or_parts, cases_lt, eqb-true, eq-eqb, not-false, lt-ltb}
use Rattle.lb_base.specs.declared.mask.Mask.{Mask}
use Rattle.lb_base.specs.Sets.{least}
use Rattle.lb_trace.specs.declared.trace.Command.{Command}
use Rattle.lb_trace.specs.declared.trace.Command.TheVariants.{Rebuild}
use Rattle.lb_queue.specs.Queue.{QueueState}
use Rattle.lb_queue.specs.Turns.{counters_found}
use Rattle.lb_core.specs.declared.course.Course.{Course}
use Rattle.lb_core.specs.declared.entry.What.{What}
use Rattle.lb_core.specs.declared.entry.What.TheVariants.{Row, Adopt, Look, Scan, End, Did, Out, Landed, Turn, Shut, Close, Ask, Kick, Over, Pub}
use Rattle.lb_core.specs.declared.course.Form.{Form}
use Rattle.lb_core.specs.declared.course.Form.TheVariants.{Asked}
use Rattle.lb_core.specs.declared.entry.FigName.{FigName}
use Rattle.lb_core.specs.declared.entry.Owner.{Owner}
use Rattle.lb_core.specs.declared.entry.Owner.TheVariants.{Publisher, Lane, Queue}
use Rattle.lb_core.specs.declared.rule.Rule.TheVariants.{Version, Figure, Reply as ReplyRule}
use Rattle.lb_core.specs.Course.{turn_kind, turn_domains, shapes_of, is_rebuild}
use Rattle.lb_core.specs.Sight.{Sight}
use Rattle.lb_core.specs.Leaving.{Leaving, leaving}
use Rattle.lb_core.specs.QueueAfter.{cause_of, queue_after}
use Rattle.lb_core.specs.CourseAfter.{turn_ends, takes_off, scanned, course_by, raised_numbers, drew, cpu_of, course_after}
use Rattle.lb_core.specs.Stage.{draws}
use Rattle.lb_core.specs.Machine.{MachineState, course_at, figures_at, entries_at, owned_count, sight}
use Rattle.lb_core.specs.Step.{after, versions_after}
use Rattle.lb_core.specs.Legal.{MayBeAdded}
use Rattle.lb_core.proofs.Unbroken.{unbroken_here, unbroken_elsewhere}
use Rattle.lb_core.proofs.Placing.{cpu_there, form_lets, entry}
use Rattle.lb_core.proofs.Equality.{publisher_is}
use Rattle.lb_ready.specs.Ready.{HasSizes, NamesPublished}
use Rattle.lb_ready.proofs.Courses.{goes_to_by, goes_on_by, ends_by, answered_by, lands_by, scanned_by, kicked_by, closes_by}
use Rattle.lb_ready.proofs.Changes.{figures_now, drawn_more, versions_more, length-snoc, Under, set_under, course_left}

pub record SameNames (v v' : ℕ) (ms ms' : List Mask) (newest newest' : ℕ) (ns ns' : List ℕ) : Type 0 where
  pub version_is : v' ≡ v
  pub masks_are : ms' ≡ ms
  pub newest_is : newest' ≡ newest
  pub numbers : ns' ≡ ns

abbrev pub NamesAlike : Course → Course → Type 0
NamesAlike c d = SameNames c.version d.version c.masks d.masks c.named_version d.named_version c.named d.named

itself : (c : Course) → NamesAlike c c
itself c = record { version_is = refl; masks_are = refl; newest_is = refl; numbers = refl }

takes_off_names : (o : Option Leaving) (c : Course) → NamesAlike c (takes_off o c)
takes_off_names None c = itself c
takes_off_names (Some l) c = itself c

-- the entry names nothing
abbrev pub is_nameless : What → Bool
is_nameless (Adopt v k cpu) = false
is_nameless (Look p x fs d) = false
is_nameless (Scan fs t) = false
is_nameless (Pub v) = false
is_nameless w = true

pub course_names : (w : What) (s : Sight) (cpu : ℕ) (now : QueueState) → is_nameless w ≡ true
    → NamesAlike s.course (course_by w s cpu now)
unfolding turn_ends
course_names (Row n at command) s cpu now h = itself s.course
course_names (End cpus) s cpu now h = itself s.course
course_names (Did r) s cpu now h = answered_by (NamesAlike s.course) s.course.command cpu s.queue now s.course
    (itself s.course) (itself s.course) (λ u e. itself s.course)
course_names (Out cause to tasks) s cpu now h = takes_off_names (leaving s) s.course
course_names (Landed tasks) s cpu now h =
    lands_by (NamesAlike s.course) (cause_of s.course) s.course (itself s.course) (λ t. itself s.course) (λ o. itself s.course)
course_names (Turn ps) s cpu now h = goes_to_by (NamesAlike s.course) (least ps)
    (record s.course {
      positions = ps;
      counters = counters_found s.queue s.course.at s.course.version
          (shapes_of (turn_domains s.header s.course));
    }) (itself s.course) (λ p e. itself s.course)
course_names Shut s cpu now h = ends_by (NamesAlike s.course) (turn_kind s.course) s.header s.course (itself s.course)
    (λ some. itself s.course) (λ t y. itself s.course)
course_names (Close p w i f) s cpu now h =
    closes_by (NamesAlike s.course) w s.course (itself s.course) (itself s.course) (λ p y. itself s.course)
course_names (Ask r) s cpu now h = goes_on_by (NamesAlike s.course) s.course (itself s.course) (λ p y. itself s.course)
course_names (Kick r) s cpu now h = kicked_by (NamesAlike s.course) r s.course (itself s.course) (λ t y. itself s.course)
course_names Over s cpu now h = ends_by (NamesAlike s.course) (turn_kind s.course) s.header s.course (itself s.course)
    (λ some. itself s.course) (λ t y. itself s.course)
course_names w s cpu now h = absurd (let y : ⊥ = cc in y)

pub scanned_names : (t : Option ℕ) (c : Course) → NamesAlike c (scanned t c)
scanned_names t c = scanned_by (NamesAlike c) t c (itself c) (λ u e. itself c)

-- ---- numbers
names_under : (fs : List FigName) (named : List ℕ) (drawn : ℕ → ℕ)
    → list_any (λ (f : FigName). ltb (drawn f.cpu) f.n) fs ≡ false → Under named drawn → Under (raised_numbers fs named) drawn
names_under [] named drawn a h = h
names_under (f ∷ fs) named drawn a h =
    let p = or_parts (ltb (drawn f.cpu) f.n) _ a in
    let le : f.n ≤ drawn f.cpu = elim (cases_lt (drawn f.cpu) f.n)
    [ inl lt ↦ (let t = lt-ltb (drawn f.cpu) f.n lt in absurd (let y : ⊥ = cc in y)) | inr ge ↦ ge ] in
    names_under fs (set named f.cpu f.n) drawn p.1 (set_under named drawn f.cpu f.n le h)

-- ---- the course's names after an entry
record Named (m : MachineState) (w : What) (versions : ℕ) (named_version : ℕ) (named : List ℕ) : Type 0 where
  version : named_version ≤ versions
  numbers : Under named (entries_at m)

rebuilds : (f : Form) (h : _) (c : Course) (q : _) (lane v : ℕ) → draws f h c q lane (Pub v) ≡ true → is_rebuild c.command ≡ true
unfolding draws
rebuilds Asked h c q lane v d = d
rebuilds f h c q lane v d = absurd (let y : ⊥ = cc in y)

version_more : (command : Option Command) (v : ℕ) (vs : List (List Mask)) → is_rebuild command ≡ true → 1 ≤ length vs
    → v ≡ length vs - 1 + 2 → v ≤ length (versions_after (Pub v) command vs)
version_more (Some (Rebuild parts)) v vs r some e = let k = length-snoc vs parts in omega arith
version_more command v vs r some e = absurd (let y : ⊥ = cc in y)

named_same : (m : MachineState) (w : What) (s : Sight) (cpu : ℕ) (now : QueueState) (n : ℕ) → is_nameless w ≡ true
    → s.course.named_version ≤ n → Under s.course.named (entries_at m)
    → Named m w n (course_by w s cpu now).named_version (course_by w s cpu now).named
named_same m w s cpu now n less v u = let k = course_names w s cpu now less in
    record { version = rw k.newest_is v; numbers = rw k.numbers u }

pub unpublished : (n v : ℕ) → ltb n v ≡ false → v ≤ n
unpublished n v h = elim (cases_lt n v) [ inl lt ↦ (let t = lt-ltb n v lt in absurd (let y : ⊥ = cc in y)) | inr ge ↦ ge ]

named_by : (m : MachineState) (o : Owner) (lane prev : ℕ) (w : What) (cpu : ℕ) (now : QueueState) → HasSizes m
    → MayBeAdded m (entry o lane prev w) → NamesPublished m (course_at m.courses lane) →
    Named m w (length (versions_after w (course_at m.courses lane).command m.versions))
    (course_by w (sight m (entry o lane prev w)) cpu now).named_version
    (course_by w (sight m (entry o lane prev w)) cpu now).named
unfolding sight
named_by m o lane prev (Adopt v kind u) cpu now sizes h k =
    record {
      version = unpublished (length m.versions) v
          (unbroken_elsewhere m (entry o lane prev (Adopt v kind u)) h Version);
      numbers = k.figures;
    }
named_by m o lane prev (Look p x fs d) cpu now sizes h k =
    record {
      version = k.version;
      numbers = names_under fs (course_at m.courses lane).named (entries_at m)
          (unbroken_elsewhere m (entry o lane prev (Look p x fs d)) h Figure) k.figures;
    }
named_by m o lane prev (Scan fs t) cpu now sizes h k =
    let e = entry o lane prev (Scan fs t) in
    let s = sight m e in
    let n = scanned_names t (record s.course { figures = s.figs; named = raised_numbers fs s.course.named }) in
    record {
      version = rw n.newest_is k.version;
      numbers = rw n.numbers (names_under fs (course_at m.courses lane).named (entries_at m)
          (unbroken_elsewhere m e h Figure) k.figures);
    }
named_by m o lane prev (Pub v) cpu now sizes h k =
    let e = entry o lane prev (Pub v) in
    let lets = form_lets m e h in
    let r = rebuilds (course_at m.courses lane).form m.header (course_at m.courses lane) (sight m e).queue lane v lets.1 in
    let p = publisher_is o lets.0 in
    let n : v ≡ length m.versions - 1 + 2 =
    eqb-true v _ (ap (λ (x : Owner). v == owned_count x m + 2) (sym p) ∙ not-false _ (unbroken_here m e h ReplyRule)) in
    record { version = version_more (course_at m.courses lane).command v m.versions r sizes.versions n; numbers = k.figures }
named_by m o lane prev w cpu now sizes h k =
    named_same m w (sight m (entry o lane prev w)) cpu now (length m.versions) refl k.version k.figures

-- ---- the lane's own entries at a queue
drew_under : (m m' : MachineState) (o : Owner) (n : ℕ) (c : Course) → ((u : ℕ) → o ≡ Queue u → n ≤ entries_at m' u)
    → Under c.named (entries_at m') → Under (drew o n c).named (entries_at m')
drew_under m m' (Queue u) n c le h = set_under c.named (entries_at m') u n (le u refl) h
drew_under m m' Publisher n c le h = h
drew_under m m' (Lane l) n c le h = h

version_same : (o : Owner) (n : ℕ) (c : Course) → (drew o n c).named_version ≡ c.named_version
version_same (Queue u) n c = refl
version_same Publisher n c = refl
version_same (Lane l) n c = refl

count_now : (m : MachineState) (u lane prev : ℕ) (w : What) → HasSizes m → MayBeAdded m (entry (Queue u) lane prev w)
    → entries_at m u + 1 ≤ entries_at (after m (entry (Queue u) lane prev w)) u
count_now m u lane prev w sizes h =
    let there = cpu_there m u lane prev w h in
    let f = figures_now m (Queue u) lane prev w u (sizes.queues ∙ sym sizes.figures) h in
    let s : (u == u) ≡ true = eq-eqb u u refl in
    let g : length (figures_at (after m (entry (Queue u) lane prev w)).figures u) ≡ length
    (figures_at m.figures u) + 1 = f ∙ rw s refl in
    let some = sizes.published u (let q = sizes.queues in omega arith) in
    omega arith

count_of : (m : MachineState) (o : Owner) (lane prev : ℕ) (w : What) → HasSizes m → MayBeAdded m (entry o lane prev w)
    → (u : ℕ) → o ≡ Queue u → owned_count o m + 1 ≤ entries_at (after m (entry o lane prev w)) u
count_of m (Queue v) lane prev w sizes h u i =
    let e : v ≡ u = cc in
    subst (λ (x : ℕ). entries_at m v + 1 ≤ entries_at (after m (entry (Queue v) lane prev w)) x) e
    (count_now m v lane prev w sizes h)
count_of m Publisher lane prev w sizes h u i = absurd (let y : ⊥ = cc in y)
count_of m (Lane l) lane prev w sizes h u i = absurd (let y : ⊥ = cc in y)

pub names_kept : (m : MachineState) (o : Owner) (lane prev : ℕ) (w : What) → HasSizes m
    → MayBeAdded m (entry o lane prev w) → NamesPublished m (course_at m.courses lane)
    → NamesPublished (after m (entry o lane prev w)) (course_left m (entry o lane prev w))
unfolding course_after after sight
names_kept m o lane prev w sizes h k =
    let e = entry o lane prev w in
    let s = sight m e in
    let c = course_by w s (cpu_of o) (queue_after s e) in
    let n = named_by m o lane prev w (cpu_of o) (queue_after s e) sizes h k in
    record {
      version = let v = version_same o (s.count + 1) c in let a = n.version in rw v a;
      figures = drew_under m (after m e) o (s.count + 1) c (λ u i. count_of m o lane prev w sizes h u i)
          (λ cpu. let a = n.numbers cpu in let b =
          (drawn_more m o lane prev w cpu (sizes.queues ∙ sym sizes.figures) h).0 in omega arith);
    }

-- what the other lanes have named stays published
pub names_stay : (m : MachineState) (o : Owner) (lane prev : ℕ) (w : What) (c : Course) → HasSizes m
    → MayBeAdded m (entry o lane prev w) → NamesPublished m c → NamesPublished (after m (entry o lane prev w)) c
unfolding after
names_stay m o lane prev w c sizes h k = record {
  version = let a = (versions_more w (sight m (entry o lane prev w)).course.command m.versions).0 in let b = k.version
      in omega arith;
  figures = λ cpu. let a = k.figures cpu in let b =
      (drawn_more m o lane prev w cpu (sizes.queues ∙ sym sizes.figures) h).0 in omega arith;
}
