-- After the landing of a take the lane looks again exactly where all was pinned, and a CPU of the span
-- is left that is neither left out nor in the local group.
-- For the lemmas of `Passing`, and so for the law `permitted`.
use Rattle.std.proofs.Common.{◌≡◌, ℕ, ◌+◌, Bool, true, false, cond, not, ◌==◌, ◌&&◌, List, [], ◌∷◌, Option, Some, None, refl, sym, ◌∙◌, ap, subst, get_or-set_same}
use Rattle.lb_base.specs.declared.mask.Mask.{Mask}
use Rattle.lb_base.specs.Mask.{only, either}
use Rattle.lb_base.specs.Sets.{is_empty}
use Rattle.lb_domain.specs.declared.domain.Domain.{Domain}
use Rattle.lb_domain.specs.Domains.{domains_of}
use Rattle.lb_queue.specs.declared.answers.OutCause.{OutCause}
use Rattle.lb_queue.specs.declared.answers.OutCause.TheVariants.{Pull as PullOut}
use Rattle.lb_queue.specs.declared.answers.Taken.{Taken}
use Rattle.lb_queue.specs.Tasks.{ids}
use Rattle.lb_trace.specs.declared.trace.Header.{Header}
use Rattle.lb_core.specs.declared.course.Course.{Course}
use Rattle.lb_core.specs.declared.course.Form.TheVariants.{Flight, Landed as LandedForm}
use Rattle.lb_core.specs.declared.entry.Owner.{Owner}
use Rattle.lb_core.specs.declared.entry.Owner.TheVariants.{Publisher, Lane, Queue}
use Rattle.lb_core.specs.declared.entry.What.{What}
use Rattle.lb_core.specs.declared.entry.What.TheVariants.{Landed}
use Rattle.lb_core.specs.declared.entry.Entry.{Entry}
use Rattle.lb_core.specs.Course.{is_all_pinned, source_of, turn_domain, domain_at, looks_again}
use Rattle.lb_core.specs.QueueAfter.{cause_of, queue_after}
use Rattle.lb_core.specs.CourseAfter.{lands, drew, cpu_of, course_by, course_after}
use Rattle.lb_core.specs.Machine.{MachineState, no_course, course_at, sight}
use Rattle.lb_core.specs.Step.{after}
use Rattle.lb_core.specs.Legal.{MayBeAdded, run, MayFollow}
use Rattle.lb_core.specs.LaneEntries.{next_of, until, beyond}
use Rattle.lb_core.specs.Passes.{others_of, looked_at, LooksAgain}
use Rattle.lb_core.proofs.Placing.{entry, lane_there}
use Rattle.lb_core.proofs.Choosing.{what_next, queue_next, choice_of, chosen}
use Rattle.lb_core.proofs.Next.{next_is}
use Rattle.lb_core.proofs.Turning.{run-header}

-- the version's masks, the CPU that balances, and the position in work
abbrev place_of : Course → List Mask × ℕ × ℕ
place_of c = (c.masks, c.cpu, c.position)

-- ---- the courses after a take and after its landing
-- from the course c, a pull from s has left
pub record IsOff (c c' : Course) (s : ℕ) (t : Taken) : Type 0 where
  pub form : c'.form ≡ Flight
  pub cause : cause_of c' ≡ PullOut
  pub taken : c'.taken ≡ Some t
  pub source : source_of c'.decision ≡ s
  pub excluded : c'.excluded ≡ c.excluded
  pub place : place_of c' ≡ place_of c

-- and it has landed
record IsBack (c c' : Course) (s : ℕ) (t : Taken) : Type 0 where
  form : c'.form ≡ LandedForm
  taken : c'.taken ≡ Some t
  excluded : c'.excluded ≡ cond t.all_pinned (either c.excluded (only s)) c.excluded
  place : place_of c' ≡ place_of c

comes_back : (o : Owner) (n : ℕ) (c c' : Course) (s : ℕ) (t : Taken) → IsOff c c' s t
    → IsBack c (drew o n (lands (cause_of c') c')) s t
comes_back o n c c' s t off = subst (λ (x : OutCause). IsBack c (drew o n (lands x c')) s t) (sym off.cause) (by_owner o)
  where
    left : cond (is_all_pinned c'.taken)
        (either c'.excluded (only (source_of c'.decision))) c'.excluded ≡ cond t.all_pinned (either c.excluded (only s))
        c.excluded
    left = rw (off.taken, off.source, off.excluded) refl

    by_owner : (o : Owner) → IsBack c (drew o n (lands PullOut c')) s t
    by_owner (Queue u) = record { form = refl; taken = off.taken; excluded = left; place = off.place }
    by_owner (Lane l) = record { form = refl; taken = off.taken; excluded = left; place = off.place }
    by_owner Publisher = record { form = refl; taken = off.taken; excluded = left; place = off.place }

landing : (m : MachineState) (o : Owner) (lane prev : ℕ) (w : What) (c c' : Course) (s : ℕ) (t : Taken)
    → course_at m.courses lane ≡ c' → IsOff c c' s t → MayBeAdded m (entry o lane prev w) →
    (c'' : Course) × (course_at (after m (entry o lane prev w)).courses lane ≡ c'') × IsBack c c'' s t
unfolding after course_after sight
landing m o lane prev w c c' s t at off a =
    let e = entry o lane prev w in
    let k : w ≡ Landed (ids c'.hand) =
    (chosen m e a).0
    ∙ ap (λ (x : Course). what_next x.form m x (queue_next x.form m x) (choice_of w)) at
    ∙ ap (λ (f : _). what_next f m c' (queue_next f m c') (choice_of w)) off.form in
    let made : course_after (sight m e) e ≡ drew o ((sight m e).count + 1) (lands (cause_of c') c') =
    ap (λ (x : What). drew o ((sight m e).count + 1) (course_by x (sight m e) (cpu_of o) (queue_after (sight m e) e))) k
    ∙ ap (λ (x : Course). drew o ((sight m e).count + 1) (lands (cause_of x) x)) at in (
      _,
      get_or-set_same m.courses lane (course_after (sight m e) e) no_course (lane_there m e a)
          ∙ made,
      comes_back o ((sight m e).count + 1) c c' s t off,
    )

-- ---- the entry that comes then
-- another look is due
abbrev pub is_due_again : Header → Course → ℕ → Taken → Bool
is_due_again h c s t = t.all_pinned && not (is_empty (others_of (turn_domain h c) (either c.excluded (only s))))

abbrev due_at : Header → Option Taken → Mask → List Mask × ℕ × ℕ → Bool
due_at h taken x place =
    let d : Domain = domain_at (domains_of h.cpus h.distances place.0 place.1) place.2 in
    is_all_pinned taken && not (is_empty (others_of d x))

due_pinned : (h : Header) (c : Course) (s : ℕ) (t : Taken) (b : Bool) → t.all_pinned ≡ b
    → due_at h (Some t) (cond b (either c.excluded (only s)) c.excluded) (place_of c) ≡ is_due_again h c s t
due_pinned h c s t true e = refl
due_pinned h c s t false e = rw e refl

again_is : (h : Header) (c c' : Course) (s : ℕ) (t : Taken) → IsBack c c' s t → looks_again h c' ≡ is_due_again h c s t
again_is h c c' s t back =
    ap (λ (x : Option Taken). due_at h x c'.excluded (place_of c')) back.taken
    ∙ ap (λ (x : Mask). due_at h (Some t) x (place_of c')) back.excluded
    ∙ ap (λ (x : List Mask × ℕ × ℕ). due_at h (Some t) (cond t.all_pinned (either c.excluded (only s)) c.excluded) x) back.place
    ∙ due_pinned h c s t t.all_pinned refl

look_or_close : (b : Bool) (p : ℕ) (look close : What) → looked_at look ≡ Some p → looked_at close ≡ None
    → looked_at (cond b look close) ≡ cond b (Some p) None
look_or_close true p look close h k = h
look_or_close false p look close h k = k

looks_then : (m : MachineState) (o : Entry) (c' : Course) → course_at m.courses o.lane ≡ c' → c'.form ≡ LandedForm
    → MayBeAdded m o → looked_at o.what ≡ cond (looks_again m.header c') (Some c'.position) None
looks_then m o c' at form a =
    let k : o.what ≡ what_next LandedForm m c' (queue_next LandedForm m c') (choice_of o.what) =
    (chosen m o a).0
    ∙ ap (λ (x : Course). what_next x.form m x (queue_next x.form m x) (choice_of o.what)) at
    ∙ ap (λ (f : _). what_next f m c' (queue_next f m c') (choice_of o.what)) form in
    ap looked_at k ∙ look_or_close (looks_again m.header c') c'.position _ _ refl refl

none_beyond : (lane : ℕ) (es : List Entry) → next_of lane es ≡ None → next_of lane (beyond lane es) ≡ None
none_beyond lane [] h = refl
none_beyond lane (e ∷ es) h = by_lane (e.lane == lane) h (none_beyond lane es)
  where
    by_lane : (b : Bool) → cond b (Some e) (next_of lane es) ≡ None
        → (next_of lane es ≡ None → next_of lane (beyond lane es) ≡ None) → next_of lane (cond b es (beyond lane es)) ≡ None
    by_lane true h more = absurd (let y : ⊥ = cc in y)
    by_lane false h more = more h

after_landing : (lane : ℕ) (es : List Entry) (m : MachineState) (c c' : Course) (s : ℕ) (t : Taken)
    → course_at m.courses lane ≡ c' → IsBack c c' s t → MayFollow es m → (o : Option Entry) → next_of lane es ≡ o
    → LooksAgain (is_due_again m.header c s t) c.position o
after_landing lane es m c c' s t at back l None e = tt
after_landing lane es m c c' s t at back l (Some o) e =
    let n = next_is lane es m c' o at l e in
    let mm = run (until lane es) m in
    looks_then mm o c' (ap (course_at mm.courses) n.own ∙ n.same) back.form n.added
    ∙ ap (λ (b : Bool). cond b (Some c'.position) None)
    (ap (λ (h : Header). looks_again h c') (run-header (until lane es) m) ∙ again_is m.header c c' s t back)
    ∙ ap (λ (x : List Mask × ℕ × ℕ). cond (is_due_again m.header c s t) (Some x.2) None) back.place

-- after a take has left, its landing comes, and then this entry
pub after_take : (lane : ℕ) (es : List Entry) (m : MachineState) (c c' : Course) (s : ℕ) (t : Taken)
    → course_at m.courses lane ≡ c' → IsOff c c' s t → MayFollow es m
    → LooksAgain (is_due_again m.header c s t) c.position (next_of lane (beyond lane es))
unfolding after
after_take lane es m c c' s t at off l = by_next (next_of lane es) refl
  where
    by_next : (o : Option Entry) → next_of lane es ≡ o → LooksAgain (is_due_again m.header c s t) c.position
        (next_of lane (beyond lane es))
    by_next None e = subst (LooksAgain (is_due_again m.header c s t) c.position) (sym (none_beyond lane es e)) tt
    by_next (Some o) e =
        let n = next_is lane es m c' o at l e in
        let mm = run (until lane es) m in
        let k = landing mm o.owner o.lane o.prev o.what c c' s t (ap (course_at mm.courses) n.own ∙ n.same) off n.added in
        let own : course_at (after mm o).courses lane ≡ k.0 = ap (course_at (after mm o).courses) (sym n.own) ∙ k.1 in
        let header = run-header (until lane es) m in
        subst (λ (h : Header). LooksAgain (is_due_again h c s t) c.position (next_of lane (beyond lane es))) header
        (after_landing lane (beyond lane es) (after mm o) c k.0 s t own k.2 n.rest (next_of lane (beyond lane es)) refl)
