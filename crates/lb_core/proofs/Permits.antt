-- From entry to entry each awake task may run where it is, or is asked to leave, and each task in a hand may run
-- where the hand goes: of any one step, and so the law Permitted.
-- For the laws `permitted_stays` and `permitted`.
use Rattle.std.proofs.Common.{◌≡◌, ℕ, suc, ◌+◌, ◌<◌, Bool, true, false, not, cond, ◌==◌, ◌||◌, eqb, List, [], ◌∷◌, length, get_or, All, Option, Some, None, refl, sym, ◌∙◌, ap, arith, subst, inl, inr}
use Rattle.std.specs.List.{list_all}
use Rattle.std.proofs.lemmas.Bool.{or_parts, and_parts, and_from, eqb-true, cases_eq, cases_lt, not-true}
use Rattle.std.proofs.lemmas.List.{length-set}
use Rattle.std.proofs.lemmas.List.FromFn.{length-map-range_with_len}
use Rattle.std.proofs.lemmas.List.Sums.{list_all-from_AllPass}
use Rattle.lb_base.specs.Sets.{is_empty}
use Rattle.lb_queue.specs.declared.awake.Awake.{Awake}
use Rattle.lb_queue.specs.declared.record.TaskRecord.{TaskRecord}
use Rattle.lb_queue.specs.declared.answers.Reply.{Reply}
use Rattle.lb_queue.specs.declared.answers.Reply.TheVariants.{NotHere}
use Rattle.lb_queue.specs.declared.answers.OutCause.{OutCause}
use Rattle.lb_queue.specs.Queue.{QueueState, new_task}
use Rattle.lb_queue.specs.Requests.{ask_active, kick}
use Rattle.lb_queue.specs.Turns.{close_look}
use Rattle.lb_trace.specs.declared.trace.Header.{Header}
use Rattle.lb_trace.specs.declared.trace.TaskRow.{TaskRow}
use Rattle.lb_core.specs.declared.course.Course.{Course}
use Rattle.lb_core.specs.declared.course.Form.{Form}
use Rattle.lb_core.specs.declared.course.Form.TheVariants.{Flight}
use Rattle.lb_core.specs.declared.rule.Rule.TheVariants.{Reply as ReplyRule, Pick}
use Rattle.lb_core.specs.declared.entry.Owner.{Owner}
use Rattle.lb_core.specs.declared.entry.Owner.TheVariants.{Publisher, Lane, Queue}
use Rattle.lb_core.specs.declared.entry.What.{What}
use Rattle.lb_core.specs.declared.entry.What.TheVariants.{Did, Out, Landed, Turn, Shut, Close, Ask, Kick, Over}
use Rattle.lb_core.specs.declared.entry.Entry.{Entry}
use Rattle.lb_core.specs.Same.{same_reply}
use Rattle.lb_core.specs.Sight.{Sight}
use Rattle.lb_core.specs.Stage.{draws, is_queue, queue_due}
use Rattle.lb_core.specs.Leaving.{Leaving, leaving, out_by}
use Rattle.lb_core.specs.Rules.{leaves_instead}
use Rattle.lb_core.specs.QueueAfter.{queue_after, queue_by, cause_of, rest_of}
use Rattle.lb_core.specs.CourseAfter.{course_after, takes_off, drew}
use Rattle.lb_core.specs.Machine.{MachineState, no_queue, queue_at, course_at, sight, tasks_at, opening_queue, start}
use Rattle.lb_core.specs.Step.{after, queues_after}
use Rattle.lb_core.specs.Legal.{MayBeAdded, run, MayFollow}
use Rattle.lb_core.specs.Permitted.{may_stand, IsPermitted, HaveMasks, PermittedAlways, PermittedOpens, PermittedStays}
use Rattle.lb_queue.specs.Laws.{CallsMove}
use Rattle.lb_core.proofs.Allowed.{may_be, may_go_to, may_run, IsAllowed}
use Rattle.lb_core.proofs.Unbroken.{unbroken_here}
use Rattle.lb_core.proofs.Places.{IsChanged, course_same, course_other}
use Rattle.lb_core.proofs.Placing.{Kept, entry, distinct, queue_changed, course_hand, leaving_is, lane_there, cpu_there, form_lets, step_kept, owner_wrong, no_queue_changes, quiet_facts, still_facts, still_lists, is_still, is_quiet, is_no_queue}
use Rattle.lb_core.proofs.Opening.{opening_at, opening_hand, past, start_kept}
use Rattle.lb_core.proofs.Headers.{all_index, homes_declared, masks_given}
use Rattle.lb_core.proofs.Leavings.{is_left}
use Rattle.lb_core.proofs.Carrying.{lists_of}
use Rattle.lb_core.proofs.Permitting.{TaskLaws, Stays, answer_stays, land_stays, out_sends}

pub record Permit (m : MachineState) : Type 0 where
  pub cpus : (cpu : ℕ) → cpu < length m.queues → (queue_at m.queues cpu).cpu ≡ cpu
  pub queues : (cpu : ℕ) → IsAllowed (queue_at m.queues cpu)
  pub hands : (lane : ℕ) → list_all (may_go_to (course_at m.courses lane).to) (course_at m.courses lane).hand ≡ true

permit_step : (m m' : MachineState) (cpu lane : ℕ) (q : QueueState) (c : Course) → IsChanged m m' cpu lane q c
    → length m'.queues ≡ length m.queues → Permit m → Stays (queue_at m.queues cpu) q → list_all (may_go_to c.to)
    c.hand ≡ true → Permit m'
permit_step m m' cpu lane q c h n p s g = record {
  cpus = λ u lt. elim (cases_eq u cpu) [
    | inl e ↦ ap (λ (x : QueueState). x.cpu) (ap (queue_at m'.queues) e ∙ h.this_queue) ∙ s.cpu
        ∙ ap (λ (x : ℕ). (queue_at m.queues x).cpu) (sym e) ∙ p.cpus u (omega arith)
    | inr z ↦ ap (λ (x : QueueState). x.cpu) (h.other_queue u z) ∙ p.cpus u (omega arith)
  ];
  queues = λ u. elim (cases_eq u cpu) [
    | inl e ↦ subst IsAllowed (sym (ap (queue_at m'.queues) e ∙ h.this_queue)) s.allowed
    | inr z ↦ subst IsAllowed (sym (h.other_queue u z)) (p.queues u)
  ];
  hands = λ l. elim (cases_eq l lane) [
    | inl e ↦ let k : course_at m'.courses l ≡ c = ap (course_at m'.courses) e ∙ course_same m m' cpu lane q c h in rw k g
    | inr z ↦ let k = course_other m m' cpu lane q c h l z in rw k (p.hands l)
  ];
}

none_goes : (c : Course) → c.hand ≡ [] → list_all (may_go_to c.to) c.hand ≡ true
none_goes c e = rw e refl

queues_long : (o : Owner) (q : QueueState) (qs : List QueueState) → length (queues_after o q qs) ≡ length qs
queues_long (Queue cpu) q qs = length-set qs cpu q
queues_long (Lane l) q qs = refl
queues_long Publisher q qs = refl

-- ---- answers
did_permits : TaskLaws → (m : MachineState) (cpu lane prev : ℕ) (r : Reply) → Kept m → Permit m
    → MayBeAdded m (entry (Queue cpu) lane prev (Did r)) → Permit (after m (entry (Queue cpu) lane prev (Did r)))
unfolding after sight queue_after
did_permits law m cpu lane prev r k p h =
    let e = entry (Queue cpu) lane prev (Did r) in
    let c = course_at m.courses lane in
    let q = queue_at m.queues cpu in
    let said = or_parts _ _ (or_parts (leaves_instead c.command q || same_reply r NotHere) _ (unbroken_here m e h ReplyRule)).0 in
    permit_step m (after m e) cpu lane _ _ (queue_changed m cpu lane prev (Did r) h) (queues_long (Queue cpu) _ m.queues) p
    (answer_stays law c.command c.at q said.0 (p.queues cpu)) (none_goes (course_after (sight m e) e) (course_hand m e k h refl))

-- ---- landings
lands_there : (f : Form) (hd : Header) (c : Course) (q : QueueState) (lane cpu : ℕ) (ts : List ℕ)
    → is_queue (Queue cpu) (queue_due f c) ≡ true → draws f hd c q lane (Landed ts) ≡ true → eqb cpu c.to ≡ true
unfolding draws
lands_there Flight hd c q lane cpu ts o h = o
lands_there f hd c q lane cpu ts o h = absurd (let k : ⊥ = cc in k)

landed_permits : TaskLaws → (m : MachineState) (cpu lane prev : ℕ) (ts : List ℕ) → Kept m → Permit m
    → MayBeAdded m (entry (Queue cpu) lane prev (Landed ts)) → Permit (after m (entry (Queue cpu) lane prev (Landed ts)))
unfolding after sight queue_after
landed_permits law m cpu lane prev ts k p h =
    let e = entry (Queue cpu) lane prev (Landed ts) in
    let c = course_at m.courses lane in
    let q = queue_at m.queues cpu in
    let to : cpu ≡ c.to = eqb-true cpu c.to
    (lands_there c.form m.header c q lane cpu ts (form_lets m e h).0 (form_lets m e h).1) in
    let own : q.cpu ≡ c.to = p.cpus cpu (cpu_there m cpu lane prev (Landed ts) h) ∙ to in
    permit_step m (after m e) cpu lane _ _ (queue_changed m cpu lane prev (Landed ts) h) (queues_long (Queue cpu) _ m.queues) p
    (land_stays law c.at (cause_of c) c.moment c.hand q
    (subst (λ (x : ℕ). list_all (may_go_to x) c.hand ≡ true) (sym own) (p.hands lane)) (p.queues cpu))
    (none_goes (course_after (sight m e) e) (course_hand m e k h refl))

-- ---- tasks that leave
sent_off : (o : Option Leaving) (c : Course) (cpu n : ℕ) (l : Leaving) → o ≡ Some l
    → list_all (may_go_to l.to) l.hand ≡ true → list_all (may_go_to (drew (Queue cpu) n (takes_off o c)).to)
    (drew (Queue cpu) n (takes_off o c)).hand ≡ true
sent_off None c cpu n l h g = absurd (let k : ⊥ = cc in k)
sent_off (Some x) c cpu n l h g = let k : l ≡ x = cc in subst (λ (y : Leaving). list_all (may_go_to y.to) y.hand ≡ true) k g

out_permits : TaskLaws → (m : MachineState) (cpu lane prev : ℕ) (cause : OutCause) (to : ℕ) (ts : List ℕ) → Kept m
    → Permit m → MayBeAdded m (entry (Queue cpu) lane prev (Out cause to ts))
    → Permit (after m (entry (Queue cpu) lane prev (Out cause to ts)))
unfolding after sight queue_after course_after leaving
out_permits law m cpu lane prev cause to ts k p h =
    let e = entry (Queue cpu) lane prev (Out cause to ts) in
    let c = course_at m.courses lane in
    let q = queue_at m.queues cpu in
    let o = out_by c.form m.header c q in
    let found = leaving_is o cause to ts (unbroken_here m e h Pick) in
    let l : Leaving = found.0 in
    let is : o ≡ Some l = found.1 in
    let s = out_sends law q l (is_left c.form m.header c q l is) (distinct m cpu k.placed) (p.queues cpu) in
    let rest : rest_of o q ≡ l.rest = ap (λ (x : Option Leaving). rest_of x q) is in
    permit_step m (after m e) cpu lane _ _ (queue_changed m cpu lane prev (Out cause to ts) h)
    (queues_long (Queue cpu) _ m.queues) p
    (subst (λ (x : QueueState). Stays q x) (sym rest) s.stays)
    (sent_off o c cpu ((sight m e).count + 1) l is s.sent)

-- ---- other entries
alike_stays : (q q' : QueueState) → lists_of q' ≡ lists_of q → q'.cpu ≡ q.cpu → IsAllowed q → Stays q q'
alike_stays q q' e c h =
    let a : q'.awake ≡ q.awake = ap (λ (l : List Awake × List TaskRecord × List TaskRecord). l.0) e in
    let b : q'.asleep ≡ q.asleep = ap (λ (l : List Awake × List TaskRecord × List TaskRecord). l.1) e in
    let d : q'.gone ≡ q.gone = ap (λ (l : List Awake × List TaskRecord × List TaskRecord). l.2) e in
    record { allowed = record { awake = rw (a, c) h.awake; asleep = rw b h.asleep; gone = rw d h.gone }; cpu = c }

still_cpu : (w : What) (s : Sight) (lane : ℕ) → is_still w ≡ true → (queue_by w s lane).cpu ≡ s.queue.cpu
unfolding close_look ask_active kick
still_cpu (Turn ps) s lane n = refl
still_cpu Shut s lane n = refl
still_cpu (Close p w i f) s lane n = refl
still_cpu (Ask r) s lane n = refl
still_cpu (Kick r) s lane n = refl
still_cpu Over s lane n = refl
still_cpu w s lane n = absurd (let k : ⊥ = cc in k)

still_permits : (m : MachineState) (cpu lane prev : ℕ) (w : What) → is_still w ≡ true → Kept m → Permit m
    → MayBeAdded m (entry (Queue cpu) lane prev w) → Permit (after m (entry (Queue cpu) lane prev w))
unfolding after sight queue_after
still_permits m cpu lane prev w n k p h =
    let e = entry (Queue cpu) lane prev w in
    permit_step m (after m e) cpu lane _ _ (queue_changed m cpu lane prev w h) (queues_long (Queue cpu) _ m.queues) p
    (alike_stays _ _ (still_lists w (sight m e) lane n) (still_cpu w (sight m e) lane n) (p.queues cpu))
    (none_goes (course_after (sight m e) e) (course_hand m e k h (still_facts w n).1))

quiet_permits : (m : MachineState) (o : Owner) (lane prev : ℕ) (w : What) → is_no_queue o ≡ true → is_quiet w ≡ true
    → Kept m → Permit m → MayBeAdded m (entry o lane prev w) → Permit (after m (entry o lane prev w))
unfolding after sight
quiet_permits m o lane prev w b n k p h =
    let e = entry o lane prev w in
    let qs = no_queue_changes o (queue_after (sight m e) e) m.queues b in
    permit_step m (after m e) 0 lane (queue_at m.queues 0) (course_after (sight m e) e)
    (record {
      this_queue = ap (λ (x : List QueueState). queue_at x 0) qs;
      other_queue = λ u z. ap (λ (x : List QueueState). queue_at x u) qs;
      lane_there = lane_there m e h;
      header = refl;
      courses = refl;
    })
    (queues_long o _ m.queues) p (record { allowed = p.queues 0; cpu = refl })
    (none_goes (course_after (sight m e) e) (course_hand m e k h (quiet_facts w n).1))

step_permits : TaskLaws → (m : MachineState) (o : Owner) (lane prev : ℕ) (w : What) → Kept m → Permit m
    → MayBeAdded m (entry o lane prev w) → Permit (after m (entry o lane prev w))
step_permits law m (Queue cpu) lane prev (Did r) k p h = did_permits law m cpu lane prev r k p h
step_permits law m o lane prev (Did r) k p h = absurd (owner_wrong m o lane prev (Did r) (λ _. refl) h)
step_permits law m (Queue cpu) lane prev (Out cause to ts) k p h = out_permits law m cpu lane prev cause to ts k p h
step_permits law m o lane prev (Out cause to ts) k p h = absurd (owner_wrong m o lane prev (Out cause to ts) (λ _. refl) h)
step_permits law m (Queue cpu) lane prev (Landed ts) k p h = landed_permits law m cpu lane prev ts k p h
step_permits law m o lane prev (Landed ts) k p h = absurd (owner_wrong m o lane prev (Landed ts) (λ _. refl) h)
step_permits law m (Queue cpu) lane prev (Turn ps) k p h = still_permits m cpu lane prev (Turn ps) refl k p h
step_permits law m (Queue cpu) lane prev Shut k p h = still_permits m cpu lane prev Shut refl k p h
step_permits law m (Queue cpu) lane prev (Close a w i f) k p h = still_permits m cpu lane prev (Close a w i f) refl k p h
step_permits law m (Queue cpu) lane prev (Ask r) k p h = still_permits m cpu lane prev (Ask r) refl k p h
step_permits law m (Queue cpu) lane prev (Kick r) k p h = still_permits m cpu lane prev (Kick r) refl k p h
step_permits law m (Queue cpu) lane prev Over k p h = still_permits m cpu lane prev Over refl k p h
step_permits law m (Queue cpu) lane prev w k p h = absurd (owner_wrong m (Queue cpu) lane prev w (λ _. refl) h)
step_permits law m o lane prev w k p h = quiet_permits m o lane prev w refl refl k p h

run_permits : CallsMove → TaskLaws → (es : List Entry) (m : MachineState) → Kept m → Permit m → MayFollow es m → Permit (run es m)
run_permits moves law [] m k p h = p
run_permits moves law (e ∷ es) m k p h =
    run_permits moves law es (after m e) (step_kept moves m e.owner e.lane e.prev e.what k h.0)
    (step_permits law m e.owner e.lane e.prev e.what k p h.0) h.1

-- ---- the opening state
cond_run : (b : Bool) (t : TaskRecord) (ts : List TaskRecord) → may_run t ≡ true → list_all may_run ts ≡ true
    → list_all may_run (cond b (t ∷ ts) ts) ≡ true
cond_run true t ts h k = and_from (may_run t) _ h k
cond_run false t ts h k = k

home_runs : (cpu id : ℕ) (rows : List TaskRow) → All (λ row. is_empty row.mask ≡ false) rows
    → list_all may_run (tasks_at cpu id rows) ≡ true
home_runs cpu id [] all = refl
home_runs cpu id (row ∷ rows) all =
    let m : not (is_empty row.mask) ≡ true = let e : is_empty row.mask ≡ false = all 0 row (omega arith) in rw e refl in
    cond_run (row.home == cpu) (new_task id row.nice row.mask) (tasks_at cpu (id + 1) rows) m
    (home_runs cpu (id + 1) rows (λ k d l. all (suc k) d (omega arith)))

queues_start : (h : Header) → length (start h).queues ≡ length h.cpus
unfolding start
queues_start h = length-map-range_with_len (opening_queue h) 0 (length h.cpus)

start_permits : (h : Header) → All (λ row. is_empty row.mask ≡ false) h.tasks → Permit (start h)
unfolding opening_queue
start_permits h masks = record {
  cpus = λ cpu lt. elim (opening_at h cpu) [
    | inl a ↦ ap (λ (x : QueueState). x.cpu) a.0
    | inr b ↦ absurd (let n = queues_start h in let ge = b.1 in omega arith)
  ];
  queues = λ cpu. elim (opening_at h cpu) [
    | inl a ↦ subst IsAllowed (sym a.0) (record { awake = refl; asleep = home_runs cpu 0 h.tasks masks; gone = refl })
    | inr b ↦ subst IsAllowed (sym b.0) (record { awake = refl; asleep = refl; gone = refl })
  ];
  hands = λ lane. none_goes (course_at (start h).courses lane) (opening_hand h lane);
}

-- ---- the invariant, and the two things that it says
permitted : (m : MachineState) → Permit m → IsPermitted m
permitted m p = record {
  on_queues = λ cpu lt k d i. let h = (and_parts _ _
      (all_index (λ (a : Awake). may_be (queue_at m.queues cpu).cpu a.stop a.task) _ (p.queues cpu).awake k d i)).0 in
      subst (λ (x : ℕ). may_stand x (get_or (queue_at m.queues cpu).awake k d) ≡ true) (p.cpus cpu lt) h;
  in_hands = λ lane k d i. (and_parts _ _ (all_index (may_go_to (course_at m.courses lane).to) _ (p.hands lane) k d i)).0;
}

have_masks : (m : MachineState) → Permit m → HaveMasks m
have_masks m p = record {
  own = p.cpus;
  awake = λ cpu lt k d i. not-true _ ((and_parts _ _
      (all_index (λ (a : Awake). may_be (queue_at m.queues cpu).cpu a.stop a.task) _ (p.queues cpu).awake k d i)).1);
  asleep = λ cpu lt k d i. not-true _ (all_index may_run _ (p.queues cpu).asleep k d i);
  gone = λ cpu lt k d i. not-true _ (all_index may_run _ (p.queues cpu).gone k d i);
  in_hands = λ lane k d i. not-true _ ((and_parts _ _
      (all_index (may_go_to (course_at m.courses lane).to) _ (p.hands lane) k d i)).1);
}

-- a mask that is not empty, as the tests of the invariant say it
some_mask : (b : Bool) → b ≡ false → not b ≡ true
some_mask b e = rw e refl

run_all : (ts : List TaskRecord) → All (λ t. is_empty t.mask ≡ false) ts → list_all may_run ts ≡ true
run_all ts all = list_all-from_AllPass may_run ts (λ k d i. some_mask _ (all k d i))

allowed_inside : (m : MachineState) (cpu : ℕ) → cpu < length m.queues → IsPermitted m → HaveMasks m
    → IsAllowed (queue_at m.queues cpu)
allowed_inside m cpu lt p h =
    let q = queue_at m.queues cpu in
    record {
      awake = list_all-from_AllPass (λ (a : Awake). may_be q.cpu a.stop a.task) q.awake (λ k d i. and_from _ _
          (subst (λ (x : ℕ). may_stand x (get_or q.awake k d) ≡ true) (sym (h.own cpu lt)) (p.on_queues cpu lt k d i))
          (some_mask _ (h.awake cpu lt k d i)));
      asleep = run_all q.asleep (h.asleep cpu lt);
      gone = run_all q.gone (h.gone cpu lt);
    }

permit : (m : MachineState) → IsPermitted m → HaveMasks m → Permit m
permit m p h = record {
  cpus = h.own;
  queues = λ cpu. elim (cases_lt cpu (length m.queues)) [
    | inl lt ↦ allowed_inside m cpu lt p h
    | inr ge ↦ subst IsAllowed (sym (past m.queues cpu no_queue ge)) (record { awake = refl; asleep = refl; gone = refl })
  ];
  hands = λ lane. let c = course_at m.courses lane in
      list_all-from_AllPass (may_go_to c.to) c.hand
      (λ k d i. and_from _ _ (p.in_hands lane k d i) (some_mask _ (h.in_hands lane k d i)));
}

-- ---- the law, after every legal front and from entry to entry
pub permitted_always : CallsMove → TaskLaws → PermittedAlways
permitted_always moves law h es accepted legal =
    permitted (run es (start h)) (run_permits moves law es (start h) (start_kept h (homes_declared h accepted))
    (start_permits h (masks_given h accepted)) legal)

pub permitted_opens : PermittedOpens
permitted_opens h accepted =
    let p = start_permits h (masks_given h accepted) in (permitted (start h) p, have_masks (start h) p)

pub permitted_stays : TaskLaws → PermittedStays
permitted_stays law m e placed rests p masks added =
    let k = step_permits law m e.owner e.lane e.prev e.what (record { placed = placed; hands = rests })
    (permit m p masks) added in
    (permitted (after m e) k, have_masks (after m e) k)
