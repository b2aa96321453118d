-- What the step of an entry of a lane or the publisher asks, where it may be added to a ready machine: the row
-- names what is declared, the version and the figures were published, the masks part the CPUs.
-- For the lemmas of `Taking`, and so for the law `steps_may_be_taken`.
use Rattle.std.proofs.Common.{arith, ◌≡◌, ℕ, zero, suc, ◌-◌, ◌<◌, ◌≤◌, max, Bool, true, false, List, [], ◌∷◌, length, map, ltb, get_or, Option, Some, refl, ◌∙◌, ap}
use Rattle.std.specs.Prelude.{All}
use Rattle.std.specs.List.{list_all, list_any}
use Rattle.std.proofs.lemmas.Bool.{and_parts, or_parts, lt-ltb, ltb-true, ltb-false, not-false}
use Rattle.lb_base.specs.declared.mask.Mask.{Mask}
use Rattle.lb_base.specs.Mask.{has, without, members}
use Rattle.lb_base.proofs.Sets.{all_members}
use Rattle.lb_imbalance.proofs.Groups.{has_left}
use Rattle.lb_imbalance.specs.declared.decision.Decision.{Decision}
use Rattle.lb_domain.specs.Laws.{LieInside}
use Rattle.lb_trace.specs.declared.trace.Command.{Command}
use Rattle.lb_trace.specs.declared.trace.Command.TheVariants.{Tick, Rebuild}
use Rattle.lb_trace.specs.declared.trace.Header.{Header}
use Rattle.lb_core.specs.declared.course.Course.{Course}
use Rattle.lb_core.specs.declared.course.Form.{Form}
use Rattle.lb_core.specs.declared.course.Form.TheVariants.{Position, Landed as LandedForm, ScanDue}
use Rattle.lb_core.specs.declared.entry.FigName.{FigName}
use Rattle.lb_core.specs.declared.entry.Owner.{Owner}
use Rattle.lb_core.specs.declared.entry.Owner.TheVariants.{Publisher, Lane, Queue}
use Rattle.lb_core.specs.declared.entry.What.{What}
use Rattle.lb_core.specs.declared.entry.What.TheVariants.{Row, Adopt, Look, Scan, End, Pub}
use Rattle.lb_core.specs.declared.rule.Rule.TheVariants.{Row as RowRule, Version, Figure}
use Rattle.lb_core.specs.Course.{no_domain, turn_domains}
use Rattle.lb_core.specs.Legal.{MayBeAdded}
use Rattle.lb_core.specs.Machine.{MachineState, course_at, entries_at, sight}
use Rattle.lb_core.specs.OpenTurns.{TurnIn}
use Rattle.lb_core.specs.Rules.{is_undeclared, figures_due}
use Rattle.lb_core.specs.Sight.{Sight}
use Rattle.lb_core.specs.Stage.{draws, queue_due, is_queue}
use Rattle.lb_core.proofs.Equality.{numbers_same}
use Rattle.lb_core.proofs.Placing.{entry, is_no_queue, form_lets}
use Rattle.lb_core.proofs.Unbroken.{unbroken_here, unbroken_elsewhere}
use Rattle.lb_ready.specs.Ready.{IsReady, HasSizes, FitsForm, unnamed}
use Rattle.lb_ready.specs.Lanes.{PartsCpus, Suits}
use Rattle.lb_engine.specs.Asks.{TicksBelow, RebuildAsks}
use Rattle.lb_engine.specs.Takes.{NamesAsks, LaneAsks}

-- ---- rows, versions, masks
ticks_below : (h : Header) (n : ℕ) (command : Command) → n ≡ length h.cpus → is_undeclared h command ≡ false
    → TicksBelow n command
ticks_below h n (Tick cpu) e d = let lt = ltb-true cpu (length h.cpus) (not-false _ d) in omega arith
ticks_below h n command e d = tt

at_least_one : (v named : ℕ) → ltb v (max named 1) ≡ false → 1 ≤ v
at_least_one v named h = let le = ltb-false v (max named 1) h in omega arith

parts_again : (h : Header) (command : Option Command) → PartsCpus h command → RebuildAsks (length h.cpus) command
parts_again h (Some (Rebuild parts)) k = k
parts_again h command k = tt

-- ---- figures
each_below : (n : ℕ) (names : List FigName) → list_all (λ k. ltb k n) (map (λ f. f.cpu) names) ≡ true
    → All (λ (f : FigName). f.cpu < n) names
each_below n [] h i d lt = absurd (omega arith)
each_below n (f ∷ fs) h zero d lt = ltb-true f.cpu n ((and_parts (ltb f.cpu n) _ h).0)
each_below n (f ∷ fs) h (suc i) d lt = each_below n fs ((and_parts (ltb f.cpu n) _ h).1) i d (omega arith)

none_passes : {X : Type 0} (p : X → Bool) (xs : List X) → list_any p xs ≡ false → All (λ x. p x ≡ false) xs
none_passes p [] h i d lt = absurd (omega arith)
none_passes p (x ∷ xs) h zero d lt = (or_parts (p x) _ h).0
none_passes p (x ∷ xs) h (suc i) d lt = none_passes p xs ((or_parts (p x) _ h).1) i d (omega arith)

-- the names are of the CPUs of a span, but for some that are excluded
names_below : (n : ℕ) (names : List FigName) (span excluded : Mask) → ((k : ℕ) → has span k ≡ true → k < n)
    → map (λ (f : FigName). f.cpu) names ≡ members (without span excluded) → All (λ (f : FigName). f.cpu < n) names
names_below n names span excluded inside same =
    each_below n names (rw same (all_members (λ k. ltb k n) (without span excluded)
    (λ k lt there. lt-ltb k n (inside k (has_left span excluded k there)))))

-- each of them was published
names_asks : (m : MachineState) (c : Course) (names : List FigName) → HasSizes m → Suits m.header c
    → All (λ (f : FigName). f.cpu < length m.header.cpus) names
    → list_any (λ f. ltb (entries_at m f.cpu) f.n) names ≡ false → NamesAsks m c names
names_asks m c names sizes suits below drawn = record {
  named = λ i d lt. let b = below i d lt in let n = suits.numbers in omega arith;
  there = λ i d lt.
      let b = below i d lt in
      let f = get_or names i d in
      let s = sizes.figures in
      let one = sizes.published f.cpu b in
      let most = ltb-false (entries_at m f.cpu) f.n
      (none_passes (λ (f : FigName). ltb (entries_at m f.cpu) f.n) names drawn i d lt) in
      record { cpu_is = omega arith; there = omega arith };
}

-- the figures that are due are those of a span of the turn's domains
record IsDueOver (m : MachineState) (c : Course) (due : Mask) : Type 0 where
  place : ℕ
  inside : place < length (turn_domains m.header c)
  due_is : due ≡ without (get_or (turn_domains m.header c) place no_domain).shape.span c.excluded

look_over : (f : Form) (m : MachineState) (lane p : ℕ) (s : Sight) (x : Mask) (names : List FigName) (d : Decision)
    → s.header ≡ m.header → s.course ≡ course_at m.courses lane →
    draws f m.header (course_at m.courses lane) s.queue lane (Look p x names d) ≡ true
    → TurnIn f m lane (course_at m.courses lane) → IsDueOver m (course_at m.courses lane) (figures_due f s)
unfolding draws
look_over Position m lane p s x names d h c y t =
    record {
      place = (course_at m.courses lane).position;
      inside = t.0.inside (course_at m.courses lane).position t.1;
      due_is = rw (h, c) refl;
    }
look_over LandedForm m lane p s x names d h c y t =
    record {
      place = (course_at m.courses lane).position;
      inside = t.0.inside (course_at m.courses lane).position t.1;
      due_is = rw (h, c) refl;
    }
look_over f m lane p s x names d h c y t = absurd (let z : ⊥ = cc in z)

scan_over : (f : Form) (ended : Bool) (m : MachineState) (lane : ℕ) (s : Sight) (names : List FigName) (t : Option ℕ)
    → s.header ≡ m.header → s.course ≡ course_at m.courses lane →
    draws f m.header (course_at m.courses lane) s.queue lane (Scan names t) ≡ true
    → FitsForm ended m.header f (unnamed (course_at m.courses lane)) → IsDueOver m (course_at m.courses lane) (figures_due f s)
unfolding draws
scan_over ScanDue ended m lane s names t h c y k =
    record {
      place = length (turn_domains m.header (course_at m.courses lane)) - 1;
      inside = (let some = k.1 in omega arith);
      due_is = rw (h, c) refl;
    }
scan_over f ended m lane s names t h c y k = absurd (let z : ⊥ = cc in z)

-- so they are of CPUs of the machine
due_below : LieInside → (m : MachineState) (c : Course) (due : Mask) (names : List FigName) → IsDueOver m c due
    → map (λ (f : FigName). f.cpu) names ≡ members due →
    All (λ (f : FigName). f.cpu < length m.header.cpus) names
due_below law m c due names o same =
    names_below (length m.header.cpus) names (get_or (turn_domains m.header c) o.place no_domain).shape.span c.excluded
    (λ k there. (law m.header.cpus m.header.distances c.masks c.cpu o.place o.inside).in_machine k there)
    (same ∙ ap members o.due_is)

-- ---- by kind
no_queue_is : (o : Owner) (due : Option ℕ) → is_no_queue o ≡ true → is_queue o due ≡ true → ⊥
no_queue_is (Queue cpu) due n q = let y : ⊥ = cc in y
no_queue_is Publisher due n q = let y : ⊥ = cc in y
no_queue_is (Lane l) due n q = let y : ⊥ = cc in y

pub lane_asks : LieInside → (m : MachineState) (o : Owner) (lane prev : ℕ) (w : What) → IsReady m
    → Suits m.header (course_at m.courses lane) → is_no_queue o ≡ true → MayBeAdded m (entry o lane prev w)
    → LaneAsks w m (course_at m.courses lane)
unfolding sight
lane_asks law m o lane prev (Row n at command) k s b h =
    ticks_below m.header (length m.ticked) command k.sizes.ticks
    ((or_parts _ _ (unbroken_here m (entry o lane prev (Row n at command)) h RowRule)).1)
lane_asks law m o lane prev (Adopt v kind cpu) k s b h =
    let e = entry o lane prev (Adopt v kind cpu) in
    record {
      some = at_least_one v (course_at m.courses lane).named_version (unbroken_here m e h Version);
      published = ltb-false (length m.versions) v (unbroken_elsewhere m e h Version);
    }
lane_asks law m o lane prev (Look p x names d) k s b h =
    let e = entry o lane prev (Look p x names d) in
    let c = course_at m.courses lane in
    let wrong = or_parts _ _ (unbroken_here m e h Figure) in
    let due = look_over c.form m lane p (sight m e) x names d refl refl (form_lets m e h).1 (k.turns lane) in
    record {
      names = names_asks m c names k.sizes s
          (due_below law m c (figures_due c.form (sight m e)) names due (numbers_same _ _ (not-false _ wrong.0)))
          (unbroken_elsewhere m e h Figure);
      turned = let t = (k.fits lane).says.turned in let n = k.accepted.most_cpus in omega arith;
    }
lane_asks law m o lane prev (Scan names t) k s b h =
    let e = entry o lane prev (Scan names t) in
    let c = course_at m.courses lane in
    let wrong = or_parts _ _ (unbroken_here m e h Figure) in
    let due = scan_over c.form m.ended m lane (sight m e) names t refl refl (form_lets m e h).1 (k.fits lane).form in
    names_asks m c names k.sizes s (due_below law m c (figures_due c.form (sight m e)) names due
    (numbers_same _ _ (not-false _ wrong.0))) (unbroken_elsewhere m e h Figure)
lane_asks law m o lane prev (End cpus) k s b h = tt
lane_asks law m o lane prev (Pub v) k s b h = parts_again m.header (course_at m.courses lane).command s.parts
lane_asks law m o lane prev w k s b h =
    absurd (no_queue_is o (queue_due (course_at m.courses lane).form (course_at m.courses lane)) b
    (form_lets m (entry o lane prev w) h).0)
