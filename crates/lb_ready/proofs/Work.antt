-- Every entry lowers the number of entries that are left: one that moves no task lowers what its course
-- can still draw, by what the course itself says; one that moves tasks lowers that or the requests.
-- For the law `entries_fall`.
use Rattle.std.proofs.Common.{arith, ◌≡◌, ℕ, ◌+◌, ◌*◌, ◌<◌, ◌≤◌, Bool, true, false, not, cond, ◌==◌, ◌&&◌, length, Option, Some, None, refl, sym, ◌∙◌, ltb, ◌⊎◌, inl, inr, ◌||◌, List, is_some, ap, sum_by}
use Rattle.std.proofs.lemmas.Bool.{and_parts, and_from, or_parts, ltb-true, lt-ltb, le-ltb, not-true, eqb-true, eq-eqb, not-false}
use Rattle.std.proofs.lemmas.List.Sums.{sum_by-set}
use Rattle.lb_base.specs.declared.mask.Mask.{Mask}
use Rattle.lb_base.specs.declared.shape.Kind.{Kind}
use Rattle.lb_base.specs.declared.shape.Kind.TheVariants.{Tick as TickTurn, Idle, Nohz}
use Rattle.lb_base.specs.declared.figure.Fig.{Fig}
use Rattle.lb_base.specs.declared.shape.Shape.{Shape}
use Rattle.lb_base.specs.Mask.{has, no_cpus, either, only}
use Rattle.lb_base.specs.Sets.{least, least_above}
use Rattle.lb_imbalance.specs.declared.decision.Decision.{Decision}
use Rattle.lb_imbalance.specs.declared.decision.Decision.TheVariants.{NotMine, Balanced, Pull}
use Rattle.lb_imbalance.specs.Decision.{decision}
use Rattle.lb_trace.specs.declared.trace.Command.{Command}
use Rattle.lb_trace.specs.declared.trace.Command.TheVariants.{Sleep, Exit, Tick}
use Rattle.lb_trace.specs.declared.trace.Header.{Header}
use Rattle.lb_queue.specs.declared.answers.AskReply.{AskReply}
use Rattle.lb_queue.specs.declared.answers.AskReply.TheVariants.{New, Old}
use Rattle.lb_queue.specs.declared.answers.OutCause.{OutCause}
use Rattle.lb_queue.specs.declared.answers.OutCause.TheVariants.{Pull as PullOut}
use Rattle.lb_queue.specs.Queue.{QueueState}
use Rattle.lb_queue.specs.Tasks.{occurs, awake_ids}
use Rattle.lb_queue.specs.Hands.{take_stop}
use Rattle.lb_queue.specs.Requests.{has_owed, next_stop, ask_active, kick}
use Rattle.lb_queue.specs.Turns.{counters_found, close_look}
use Rattle.lb_queue.specs.Moves.{AreDistinct}
use Rattle.lb_core.specs.declared.course.Course.{Course}
use Rattle.lb_core.specs.declared.entry.OutcomeWord.{OutcomeWord}
use Rattle.lb_core.specs.declared.entry.OutcomeWord.TheVariants.{NotMine as NotMineWord, Moved as MovedWord, Asking as AskingWord}
use Rattle.lb_core.specs.declared.course.Form.{Form}
use Rattle.lb_core.specs.declared.course.Form.TheVariants.{Rest, Asked, Flight, Serving, Due, Used, Position, Looked, Landed as LandedForm, Closed, Done, ScanDue, Kicking}
use Rattle.lb_core.specs.declared.entry.Owner.{Owner}
use Rattle.lb_core.specs.declared.entry.Owner.TheVariants.{Queue}
use Rattle.lb_core.specs.declared.entry.What.{What}
use Rattle.lb_core.specs.declared.entry.What.TheVariants.{Row, Adopt, Look, Scan, End, Did, Out, Landed, Turn, Shut, Close, Ask, Kick, Over, Pub}
use Rattle.lb_core.specs.declared.entry.Entry.{Entry}
use Rattle.lb_core.specs.declared.place.Place.TheVariants.{Awake as AwakeAt}
use Rattle.lb_core.specs.declared.rule.Rule.TheVariants.{Decision as DecisionRule, Pick, End as EndRule}
use Rattle.lb_core.specs.Course.{is_tick, is_newly, turn_kind, turn_domains, is_all_pinned, source_of, is_pull, shapes_of}
use Rattle.lb_core.specs.Sight.{tickless_in, Sight}
use Rattle.lb_core.specs.Stage.{target_of, draws, push_is_due, is_settled}
use Rattle.lb_core.specs.Leaving.{Leaving, leaving, out_by}
use Rattle.lb_core.specs.CourseAfter.{goes_to, goes_on, kicks_next, turn_ends_by, turn_ends, after_sleep, left_idle, answered, takes_off, lands, scanned, kicked, closes, raised_numbers, course_by, drew, cpu_of, course_after}
use Rattle.lb_core.specs.Rules.{breaks_decision}
use Rattle.lb_core.specs.QueueAfter.{rest_of, cause_of, queue_by, queue_after}
use Rattle.lb_core.specs.Same.{same_kind}
use Rattle.lb_core.specs.Machine.{MachineState, queue_at, course_at, no_queue, no_course, sight, owned_queue}
use Rattle.lb_core.specs.Step.{after, ended_after}
use Rattle.lb_core.specs.Legal.{MayBeAdded}
use Rattle.lb_core.specs.Placed.{IsPlaced, is_its_place}
use Rattle.lb_core.proofs.Unbroken.{unbroken_here, unbroken_elsewhere}
use Rattle.lb_core.proofs.EmptyHands.{is_out}
use Rattle.lb_core.proofs.Equality.{decision_is, kind_is}
use Rattle.lb_core.proofs.Placing.{is_no_queue, lane_there, cpu_there, form_lets, leaving_is, entry}
use Rattle.lb_ready.specs.Ready.{unnamed}
use Rattle.lb_ready.specs.Left.{count_where, positions_above, kicks_above, work_after, work_at_end, work_above, sources_left, sources_but, work_serving, work_in_flight, work_of, is_asked, asked_count, work_in, rows_before, entries_left}
use Rattle.lb_ready.proofs.Counting.{count_less, count_within, count_most, count_missing, least_found, least_above_found, either_has, only_has}
use Rattle.lb_ready.proofs.Courses.{drew_by}
use Rattle.lb_ready.proofs.Steps.{of_out, QueueLaws}
use Rattle.lb_ready.proofs.Decisions.{source_found}
use Rattle.lb_ready.proofs.Requests.{asked_there, distinct, next_served, answer_asks, land_asks, out_asks, out_asks_nobody}
use Rattle.lb_ready.proofs.Changes.{course_left, queue_left}

-- ---- positions
above_itself : (m : Mask) (p : ℕ) → (ltb p p && has m p) ≡ false
above_itself m p = rw (le-ltb p p (omega arith)) refl

above_more : (m : Mask) (a p k : ℕ) → a < p → (ltb p k && has m k) ≡ true → (ltb a k && has m k) ≡ true
above_more m a p k lt h = let x = and_parts (ltb p k) (has m k) h in let y = ltb-true p k x.0 in and_from _ _
    (lt-ltb a k (omega arith)) x.1

above_less : (m : Mask) (a p : ℕ) → (has m p ≡ true) × (a < p) × (p < 64)
    → count_where (λ k. ltb p k && has m k) 64 < count_where (λ k. ltb a k && has m k) 64
above_less m a p f = count_less (λ k. ltb p k && has m k) (λ k. ltb a k && has m k) 64 p f.2 (above_itself m p)
    (and_from _ _ (lt-ltb a p f.1) f.0) (λ k h. above_more m a p k f.1 h)

goes_work : (o : Option ℕ) (c : Course) (b : ℕ)
    → ((p : ℕ) → o ≡ Some p → 195 + 195 * count_where (λ k. ltb p k && has c.positions k) 64 ≤ b)
    → work_of (goes_to o c) ≤ b + work_at_end c
goes_work None c b h = omega arith
goes_work (Some p) c b h = let x = h p refl in let y = count_most (λ k. not (has no_cpus k)) 64 in omega arith

pub goes_on_work : (c : Course) → work_of (goes_on c) ≤ work_above c
goes_on_work c = goes_work (least_above c.positions c.position) c (195 * positions_above c)
    (λ p e. let k = above_less c.positions c.position p (least_above_found c.positions c.position p e) in omega arith)

pub goes_first_work : (ps : Mask) (c : Course) → c.positions ≡ ps → work_of (goes_to (least ps) c) ≤ 12480 + work_at_end c
goes_first_work ps c s = goes_work (least ps) c 12480
    (λ p e. let f = least_found ps p e in let k = count_missing (λ k. ltb p k && has c.positions k) 64 p f.1
    (above_itself c.positions p) in omega arith)

-- ---- turns
kicks_work : (o : Option ℕ) (c : Course) (b : ℕ) → ((t : ℕ) → o ≡ Some t → 12483 * (1 + kicks_above t c.figures) ≤ b)
    → work_of (kicks_next o c) ≤ b
kicks_work None c b h = omega arith
kicks_work (Some t) c b h = let x = h t refl in omega arith

cond_work : (b : Bool) (c d : Course) (n : ℕ) → work_of c < n → work_of d < n → work_of (cond b c d) < n
cond_work true c d n h k = h
cond_work false c d n h k = k

ends_work : (k : Kind) (h : Header) (c : Course) → work_of (turn_ends_by k h c) < 1 + work_after k c.cpu c.figures
ends_work TickTurn h c = cond_work (ltb 1 c.awake && ltb 0 (length (turn_domains h c))) _ _ _ (omega arith) (omega arith)
ends_work Idle h c = omega arith
ends_work Nohz h c =
    let w = kicks_work (least_above (tickless_in c.figures) c.cpu) c (12483 * kicks_above c.cpu c.figures)
    (λ t e. let k = above_less (tickless_in c.figures) c.cpu t (least_above_found (tickless_in c.figures) c.cpu t e) in
    omega arith) in
    omega arith

pub turn_ends_work : (h : Header) (c : Course) → work_of (turn_ends h c) < work_at_end c
unfolding turn_ends
turn_ends_work h c = ends_work (turn_kind c) h c

pub kicked_work : (r : AskReply) (c : Course) → work_of (kicked r c) < 1 + 12483 * count_where (has (tickless_in c.figures)) 64
kicked_work New c =
    let w : work_of (kicks_next (target_of c) c) ≤ 12483 * count_where (has (tickless_in c.figures)) 64 =
    kicks_work (target_of c) c (12483 * count_where (has (tickless_in c.figures)) 64) (λ t e.
    let f = least_found (tickless_in c.figures) t e in
    let k : kicks_above t c.figures < count_where (has (tickless_in c.figures)) 64 =
    count_less (λ k. ltb t k && has (tickless_in c.figures) k) (has (tickless_in c.figures)) 64 t f.1
    (above_itself (tickless_in c.figures) t) f.0 (λ k h. (and_parts (ltb t k) _ h).1) in
    omega arith) in
    omega arith
kicked_work Old c = omega arith

pub scanned_work : (t : Option ℕ) (c : Course) → work_of (scanned t c) < 798914
scanned_work None c = omega arith
scanned_work (Some cpu) c = let k = count_most (has (tickless_in c.figures)) 64 in omega arith

-- ---- the answer to a row
pub serving_most : (c : Course) → work_serving c ≤ 811400
serving_most c = by_flag c.pushed
  where
    by_flag : (b : Bool) → cond {A = ℕ} b 0 2 + 12483 + 798915 ≤ 811400
    by_flag true = omega arith
    by_flag false = omega arith

sleep_work : (b : Bool) (cpu : ℕ) (c : Course) → work_of (after_sleep b cpu c) ≤ 811400
sleep_work true cpu c = omega arith
sleep_work false cpu c = omega arith

pub answered_work : (command : Option Command) (cpu : ℕ) (before now : QueueState) (c : Course)
    → work_of (answered command cpu before now c) ≤ 811400
answered_work (Some (Sleep t)) cpu before now c = sleep_work (left_idle t before now) cpu c
answered_work (Some (Exit t)) cpu before now c = sleep_work (left_idle t before now) cpu c
answered_work (Some (Tick u)) cpu before now c = serving_most c
answered_work command cpu before now c = omega arith

-- ---- closes
pub closes_work : (w : OutcomeWord) (c : Course) → work_of (closes w c) ≤ 1 + work_above c
closes_work AskingWord c = omega arith
closes_work NotMineWord c = omega arith
closes_work MovedWord c = let k = goes_on_work c in let w =
    cond_work (is_newly (turn_kind c)) (goes_to None c) (goes_on c) (2 + work_above c) (omega arith) (omega arith) in omega arith
closes_work w c = let k = goes_on_work c in omega arith

-- ---- tasks in the hand
excluded_rest : (c : Course) → sources_left (either c.excluded (only (source_of c.decision))) ≤ sources_but
    (source_of c.decision) c.excluded
excluded_rest c = count_within _ (λ k. not (k == source_of c.decision) && not (has c.excluded k)) 64 (λ k lt h. rest k h)
  where
    rest : (k : ℕ) → not (has (either c.excluded (only (source_of c.decision))) k) ≡ true
        → (not (k == source_of c.decision) && not (has c.excluded k)) ≡ true
    rest k h =
        let f = or_parts (has c.excluded k) (has (only (source_of c.decision)) k)
        (sym (either_has c.excluded (only (source_of c.decision)) k) ∙ not-true _ h) in
        let g : (k == source_of c.decision) ≡ false = sym (only_has (source_of c.decision) k) ∙ f.1 in
        rw (f.0, g) refl

landed_work : (b : Bool) (c : Course) → is_all_pinned c.taken ≡ b → work_of (lands PullOut c) < work_in_flight PullOut c
landed_work true c e = let k = excluded_rest c in rw e (omega arith)
landed_work false c e = rw e (omega arith)

back_work : (b : Bool) (c d e : Course) → work_of d ≡ work_serving c → work_of e ≡ 0
    → work_of (cond b d e) < 1 + cond {A = ℕ} b (work_serving c) 0
back_work true c d e h k = omega arith
back_work false c d e h k = omega arith

pub lands_work : (o : OutCause) (c : Course) → work_of (lands o c) < work_in_flight o (unnamed c)
lands_work PullOut c = landed_work (is_all_pinned c.taken) c refl
lands_work o c = back_work (is_tick c.command) c _ _ refl refl

-- ---- entries that move no task off
-- what a row and the end are worth, and what a command may cost in stop requests
abbrev row_gain : What → ℕ
row_gain (Row n at command) = 811405
row_gain w = 0

abbrev end_gain : What → ℕ
end_gain (End cpus) = 1
end_gain w = 0

abbrev may_ask : What → ℕ
may_ask (Did r) = 1
may_ask w = 0

-- a pull is from a CPU that is not excluded
abbrev FromFree : Course → Decision → Type 0
FromFree c (Pull s k i) = (has c.excluded s ≡ false) × (s < 64)
FromFree c NotMine = Unit {0}
FromFree c Balanced = Unit {0}

abbrev Decided : Course → What → Type 0
Decided c (Look p x names d) = FromFree c d
Decided c w = Unit {0}

fewer_sources : (m : Mask) (s : ℕ) → (has m s ≡ false) × (s < 64) → sources_but s m < sources_left m
fewer_sources m s f = count_less _ (λ k. not (has m k)) 64 s f.1 (rw (eq-eqb s s refl) refl) (rw f.0 refl)
    (λ k h. (and_parts (not (k == s)) _ h).1)

look_work : (c : Course) (d : Decision) (more : ℕ) → FromFree c d
    → cond {A = ℕ} (is_pull (Some d)) (3 * sources_but (source_of (Some d)) c.excluded + 5) 2 + more < 3 *
    sources_left c.excluded + 3 + more
look_work c NotMine more f = omega arith
look_work c Balanced more f = omega arith
look_work c (Pull s k i) more f = let n = fewer_sources c.excluded s f in omega arith

settled : (d : Option Decision) → is_settled d ≡ true → is_pull d ≡ false
settled d h = not-true _ ((and_parts (is_some d) _ h).1)

landed_most : (b : Bool) (n more : ℕ) → 2 + more ≤ cond {A = ℕ} b (3 * n + 3) 2 + more
landed_most true n more = omega arith
landed_most false n more = omega arith

same_work : (o : Owner) (n : ℕ) (c : Course) → work_of (drew o n c) ≡ work_of c
same_work o n c = drew_by (λ d. work_of d ≡ work_of c) o n c refl (λ u. refl)

abbrev Fall : Form → Type 0
Fall f = (s : Sight) (lane cpu : ℕ) (now : QueueState) (w : What) → draws f s.header s.course s.queue lane w ≡ true
    → is_out w ≡ false → Decided s.course w →
    work_of (course_by w s cpu now) + 2 * may_ask w < work_in f (unnamed s.course) + row_gain w + end_gain w

falls : (f : Form) → Fall f
unfolding draws
falls Rest s lane cpu now (Row n at command) d o f = omega arith
falls Rest s lane cpu now (End cpus) d o f = omega arith
falls Asked s lane cpu now (Did r) d o f = let k = answered_work s.course.command cpu s.queue now s.course in omega arith
falls Asked s lane cpu now (Pub v) d o f = omega arith
falls Flight s lane cpu now (Landed tasks) d o f = let k = lands_work (cause_of s.course) s.course in omega arith
falls Serving s lane cpu now (Adopt v k u) d o f =
    let e : k ≡ TickTurn = kind_is k TickTurn ((and_parts (same_kind k TickTurn) _ d).0) in
    rw e (omega arith)
falls Due s lane cpu now (Adopt v k u) d o f =
    let p = and_parts (same_kind k (turn_kind s.course)) (u == s.course.cpu) d in
    let e : k ≡ turn_kind s.course = kind_is k (turn_kind s.course) p.0 in
    let g : u ≡ s.course.cpu = eqb-true u s.course.cpu p.1 in
    rw (e, g) (omega arith)
falls Used s lane cpu now (Turn ps) d o f = let k =
    goes_first_work ps (record s.course {
      positions = ps;
      counters = counters_found s.queue s.course.at s.course.version (shapes_of (turn_domains s.header s.course));
    }) refl in omega arith
falls Used s lane cpu now Shut d o f = let k = turn_ends_work s.header s.course in omega arith
falls Position s lane cpu now (Look p x names d) w o f = let k = look_work s.course d (work_above s.course) f in omega arith
falls Looked s lane cpu now (Close p w i n) d o f = let e = settled s.course.decision d in let k =
    closes_work w s.course in rw e (omega arith)
falls LandedForm s lane cpu now (Look p x names d) w o f =
    let e = (and_parts (is_all_pinned s.course.taken) _ w).0 in
    let k = look_work s.course d (work_above s.course) f in
    rw e (omega arith)
falls LandedForm s lane cpu now (Close p w i n) d o f = let k = closes_work w s.course in let l =
    landed_most (is_all_pinned s.course.taken) (sources_left s.course.excluded) (work_above s.course) in omega arith
falls Closed s lane cpu now (Ask r) d o f = let k = goes_on_work s.course in omega arith
falls Done s lane cpu now Over d o f = let k = turn_ends_work s.header s.course in omega arith
falls ScanDue s lane cpu now (Scan names t) d o f = let k =
    scanned_work t (record s.course { figures = s.figs; named = raised_numbers names s.course.named }) in omega arith
falls Kicking s lane cpu now (Kick r) d o f = let k = kicked_work r s.course in omega arith
falls f s lane cpu now (Out cause to tasks) d o n = absurd (let y : ⊥ = cc in y)
falls f s lane cpu now w d o n = absurd (let y : ⊥ = cc in y)

-- ---- tasks that leave
-- the lane's work and the requests together
pub record OutFalls (tasks : ℕ) (f : Form) (c : Course) (q : QueueState) (l : Leaving) : Type 0 where
  pub served : ℕ
  pub work : work_of (takes_off (Some l) c) < work_in f (unnamed c) + 2 * served
  pub requests : asked_count tasks l.rest + served ≤ asked_count tasks q

tick_most : (b : Bool) (c : Course) → cond {A = ℕ} b (work_serving c) 0 ≤ 811400
tick_most true c = serving_most c
tick_most false c = omega arith

pushes_less : (p : Bool) (b : Bool) → cond {A = ℕ} (p || b) 0 2 ≤ cond {A = ℕ} p 0 2
pushes_less true b = omega arith
pushes_less false true = omega arith
pushes_less false false = omega arith

tick_less : (t : Bool) (p b : Bool) → cond {A = ℕ} t (cond {A = ℕ} (p || b) 0 2 + 12483 + 798915) 0 ≤ cond {A = ℕ} t
    (cond {A = ℕ} p 0 2 + 12483 + 798915) 0
tick_less true p b = let k = pushes_less p b in omega arith
tick_less false p b = omega arith

tick_under : (t p b : Bool) → cond {A = ℕ} t (cond {A = ℕ} (p || b) 0 2 + 12483 + 798915) 0 ≤ cond {A = ℕ} p 0 2 + 12483 + 798915
tick_under true p b = let k = pushes_less p b in omega arith
tick_under false p b = omega arith

-- every task that is asked is one of so many
abbrev Few : ℕ → QueueState → Type 0
Few tasks q = (u : ℕ) → is_asked q.awake u ≡ true → u < tasks

-- nobody is asked who was not
abbrev Fewer : QueueState → QueueState → Type 0
Fewer q q' = (u : ℕ) → is_asked q'.awake u ≡ true → is_asked q.awake u ≡ true

-- in the two forms that stops are drawn in
stop_pays : (f : Form) (c : Course) → (f ≡ Rest) ⊎ (f ≡ Serving)
    → cond {A = ℕ} (is_tick c.command) (cond {A = ℕ} (c.pushed || false) 0 2 + 12483 + 798915) 0 ≤ work_in f (unnamed c)
stop_pays f c (inl e) = rw e (tick_less (is_tick c.command) c.pushed false)
stop_pays f c (inr e) = rw e (tick_under (is_tick c.command) c.pushed false)

push_work : (t p : Bool) → p ≡ false → 1 + cond {A = ℕ} t
    (cond {A = ℕ} (p || true) 0 2 + 12483 + 798915) 0 < cond {A = ℕ} p 0 2 + 12483 + 798915 + 2 * 0
push_work true p e = rw e (omega arith)
push_work false p e = rw e (omega arith)

-- at a tick
not_owed : (laws : QueueLaws) (q : QueueState) → next_stop q true ≡ None → has_owed q ≡ false
not_owed laws q e = sym (laws.asked q true) ∙ ap is_some e

-- what the form of the course says of a push and of a pull
pub out_says : (f : Form) (h : Header) (c : Course) (q : QueueState) (lane : ℕ) (cause : OutCause) (to : ℕ)
    (ids : List ℕ) → draws f h c q lane (Out cause to ids) ≡ true
    → (f ≡ Serving → (has_owed q || push_is_due c q) ≡ true) × (f ≡ Looked → is_pull c.decision ≡ true)
unfolding draws
out_says Serving h c q lane cause to ids d = (λ e. (and_parts (is_tick c.command) _ d).1, λ e. absurd (let y : ⊥ = cc in y))
out_says Looked h c q lane cause to ids d = (λ e. absurd (let y : ⊥ = cc in y), λ e. d)
out_says f h c q lane cause to ids d = (λ e. absurd (let y : ⊥ = cc in y), λ e. absurd (let y : ⊥ = cc in y))

out_falls : (laws : QueueLaws) (tasks : ℕ) (f : Form) (h : Header) (c : Course) (q : QueueState) (lane : ℕ)
    (l : Leaving) (cause : OutCause) (to : ℕ) (ids : List ℕ) → draws f h c q lane (Out cause to ids) ≡ true
    → out_by f h c q ≡ Some l → AreDistinct q → Few tasks q → OutFalls tasks f c q l
out_falls laws tasks f h c q lane l cause to ids d e distinct few =
    let says = out_says f h c q lane cause to ids d in
    of_out (λ (l : Leaving). Fewer q l.rest → asked_count tasks l.rest ≤ asked_count tasks q → OutFalls tasks f c q l) f
    h c q l (record {
      wake = λ t to i j a fewer less. record {
        served = 0;
        work = rw i (let k = tick_most (is_tick c.command) (record c { pushed = c.pushed || false }) in omega arith);
        requests = omega arith;
      };
      stop = λ s owed i n fewer less. record {
        served = 1;
        work = let k = stop_pays f c i in omega arith;
        requests = let v = next_served laws owed q s c.at distinct n in let k =
            count_less (is_asked (take_stop q c.at s.id).1.awake) (is_asked q.awake) tasks s.id
            (few s.id v.before) v.after v.before fewer in omega arith;
      };
      push = λ to i n a fewer less. record {
        served = 0;
        work = rw i (push_work (is_tick c.command) c.pushed
            (let due : push_is_due c q ≡ true = rw (not_owed laws q n) at (says.0 i) in
            not-true _ ((and_parts (is_some q.active) _ due).1)));
        requests = omega arith;
      };
      pulls = λ env i n fewer less. record {
        served = 0;
        work = rw (i, says.1 i) (omega arith);
        requests = omega arith;
      };
    }) e (λ u a. out_asks_nobody laws u f h c q l e a) (out_asks laws tasks f h c q l e)

-- ---- the machine
few_asked : (m : MachineState) (cpu : ℕ) → IsPlaced m → Few (length m.header.tasks) (queue_at m.queues cpu)
few_asked m cpu placed u h = inside (is_its_place m (AwakeAt cpu) u) refl (placed.once (AwakeAt cpu) u)
    (asked_there (queue_at m.queues cpu).awake u h)
  where
    inside : (b : Bool) → is_its_place m (AwakeAt cpu) u ≡ b
        → occurs u (awake_ids (queue_at m.queues cpu).awake) ≡ cond {A = ℕ} (is_its_place m (AwakeAt cpu) u) 1 0
        → 1 ≤ occurs u (awake_ids (queue_at m.queues cpu).awake) → u < length m.header.tasks
    inside true e o t = let k = ltb-true u (length m.places) ((and_parts (ltb u (length m.places)) _ e).0) in let l =
        placed.mapped in omega arith
    inside false e o t = let z : occurs u (awake_ids (queue_at m.queues cpu).awake) ≡ 0 = o ∙ rw e refl in absurd (omega arith)

free_source : (c : Course) (shape : Shape) (groups : List Mask) (figs : List Fig) (cpu : ℕ) (kind : Kind)
    (d : Decision) → d ≡ decision shape groups figs cpu kind c.excluded → FromFree c d
free_source c shape groups figs cpu kind NotMine e = tt
free_source c shape groups figs cpu kind Balanced e = tt
free_source c shape groups figs cpu kind (Pull s k i) e = let f =
    source_found shape groups figs cpu kind c.excluded s k i e in (f.free, f.numbered)

decided : (m : MachineState) (e : Entry) (w : What) → breaks_decision (sight m e) w ≡ false
    → Decided (course_at m.courses e.lane) w
unfolding sight
decided m e (Look p x names d) h = free_source (course_at m.courses e.lane) _ _ _ _ _ d
    (decision_is d _ (not-false _ ((or_parts _ _ h).1)))
decided m e w h = tt

requests_kept : (laws : QueueLaws) (tasks : ℕ) (w : What) (s : Sight) (lane : ℕ) → is_out w ≡ false
    → asked_count tasks (queue_by w s lane) ≤ asked_count tasks s.queue + may_ask w
unfolding close_look ask_active kick
requests_kept laws tasks (Did r) s lane o = answer_asks laws tasks s.course.command s.course.at s.queue
requests_kept laws tasks (Out c to ids) s lane o = absurd (let y : ⊥ = cc in y)
requests_kept laws tasks (Landed ids) s lane o = let k =
    land_asks laws tasks s.course.at (cause_of s.course) s.course.moment s.course.hand s.queue in omega arith
requests_kept laws tasks w s lane o = omega arith

-- what all queues are asked
abbrev requests : MachineState → ℕ
requests m = sum_by (asked_count (length m.header.tasks)) m.queues

rows_left : (w : What) (rows : ℕ) → 811405 * rows + row_gain w ≤ 811405 * rows_before w rows
rows_left (Row n at command) rows = omega arith
rows_left w rows = omega arith

end_left : (w : What) → cond {A = ℕ} (ended_after w false) 0 1 + end_gain w ≡ 1
end_left (End cpus) = refl
end_left w = refl

-- by what becomes of the lane's work and of the requests
falls_by : (m : MachineState) (e : Entry) (rows asked served : ℕ) → MayBeAdded m e
    → requests (after m e) + served ≤ requests m + asked →
    work_of (course_left m e) + 2 * asked < work_of
    (course_at m.courses e.lane) + 2 * served + row_gain e.what + end_gain e.what
    → entries_left rows (after m e) < entries_left (rows_before e.what rows) m
unfolding after
falls_by m e rows asked served h r w =
    let s = sum_by-set work_of m.courses e.lane (course_left m e) no_course (lane_there m e h) in
    let a = rows_left e.what rows in
    let live : m.ended ≡ false = (or_parts m.ended _ (unbroken_elsewhere m e h EndRule)).0 in
    let b : cond {A = ℕ} (ended_after e.what m.ended) 0 1 + end_gain e.what ≡ 1 = rw live (end_left e.what) in
    let d : cond {A = ℕ} m.ended 0 1 ≡ 1 = rw live refl in
    omega arith

requests_by : (m : MachineState) (o : Owner) (lane prev : ℕ) (w : What) (served asked : ℕ) → MayBeAdded m (entry o lane prev w) →
    asked_count (length m.header.tasks) (queue_left m (entry o lane prev w)) + served ≤ asked_count
    (length m.header.tasks) (owned_queue o m) + asked → (is_no_queue o ≡ true → served ≡ 0) →
    requests (after m (entry o lane prev w)) + served ≤ requests m + asked
unfolding after
requests_by m (Queue cpu) lane prev w served asked h le z =
    let s = sum_by-set (asked_count (length m.header.tasks)) m.queues cpu
    (queue_left m (entry (Queue cpu) lane prev w)) no_queue (cpu_there m cpu lane prev w h) in
    omega arith
requests_by m o lane prev w served asked h le z = let n = z refl in omega arith

other_falls : (laws : QueueLaws) (m : MachineState) (o : Owner) (lane prev : ℕ) (w : What) (rows : ℕ)
    → is_out w ≡ false → MayBeAdded m (entry o lane prev w)
    → entries_left rows (after m (entry o lane prev w)) < entries_left (rows_before w rows) m
unfolding course_after queue_after sight
other_falls laws m o lane prev w rows stays h =
    let e = entry o lane prev w in
    let s = sight m e in
    let k : asked_count (length m.header.tasks) (queue_after s e) ≤ asked_count (length m.header.tasks)
    (owned_queue o m) + may_ask w = requests_kept laws (length m.header.tasks) w s lane stays in
    let r = requests_by m o lane prev w 0 (may_ask w) h (omega (arith, k)) (λ z. refl) in
    let d = decided m e w (unbroken_here m e h DecisionRule) in
    let f = falls (course_at m.courses lane).form s lane (cpu_of o) (queue_after s e) w (form_lets m e h).1 stays d in
    let g = same_work o (s.count + 1) (course_by w s (cpu_of o) (queue_after s e)) in
    falls_by m e rows (may_ask w) 0 h r (omega arith)

out_lowers : (laws : QueueLaws) (m : MachineState) (o : Owner) (lane prev : ℕ) (cause : OutCause) (to : ℕ)
    (ids : List ℕ) (rows : ℕ) → IsPlaced m → MayBeAdded m (entry o lane prev (Out cause to ids))
    → entries_left rows (after m (entry o lane prev (Out cause to ids))) < entries_left rows m
unfolding course_after leaving queue_after sight
out_lowers laws m (Queue cpu) lane prev cause to ids rows placed h =
    let e = entry (Queue cpu) lane prev (Out cause to ids) in
    let c = course_at m.courses lane in
    let q = queue_at m.queues cpu in
    let lets = form_lets m e h in
    let found = leaving_is (out_by c.form m.header c q) cause to ids (unbroken_here m e h Pick) in
    let l : Leaving = found.0 in
    let is : out_by c.form m.header c q ≡ Some l = found.1 in
    let f = out_falls laws (length m.header.tasks) c.form m.header c q lane l cause to ids lets.1 is
    (distinct m cpu placed) (few_asked m cpu placed) in
    let left : queue_left m e ≡ l.rest = ap (λ (x : Option Leaving). rest_of x q) is in
    let r = requests_by m (Queue cpu) lane prev (Out cause to ids) f.served 0 h (rw left (omega (arith, f.requests)))
    (λ z. absurd (let y : ⊥ = cc in y)) in
    let off : work_of (takes_off (out_by c.form m.header c q) c) ≡ work_of (takes_off (Some l) c) =
    ap (λ (x : Option Leaving). work_of (takes_off x c)) is in
    let g = same_work (Queue cpu) ((sight m e).count + 1) (takes_off (out_by c.form m.header c q) c) in
    let k = f.work in
    falls_by m e rows 0 f.served h r (omega arith)
out_lowers laws m o lane prev cause to ids rows placed h =
    absurd (let k = (form_lets m (entry o lane prev (Out cause to ids)) h).0 in let y : ⊥ = cc in y)

pub entries_fall : (laws : QueueLaws) (m : MachineState) (e : Entry) (rows : ℕ) → IsPlaced m → MayBeAdded m e
    → entries_left rows (after m e) < entries_left (rows_before e.what rows) m
entries_fall laws m e rows placed h = by_kind e.owner e.lane e.prev e.what h
  where
    by_kind : (o : Owner) (lane prev : ℕ) (w : What) → MayBeAdded m (entry o lane prev w)
        → entries_left rows (after m (entry o lane prev w)) < entries_left (rows_before w rows) m
    by_kind o lane prev (Out cause to ids) h = out_lowers laws m o lane prev cause to ids rows placed h
    by_kind o lane prev w h = other_falls laws m o lane prev w rows refl h
