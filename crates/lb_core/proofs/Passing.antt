-- Each look is a pass: of the open turn of its lane's last `use`, over one published figure for each CPU
-- that is left, and with the take that the rules pick. The law Passes.
-- For the law `permitted`.
use Rattle.std.proofs.Common.{◌≡◌, ℕ, zero, suc, ◌+◌, ◌<◌, Bool, true, false, ltb, List, [], ◌∷◌, ◌++◌, length, map, get_or, All, Option, Some, None, unwrap_or, not, refl, sym, ◌∙◌, ap, arith, subst, get_or-set_same}
use Rattle.std.specs.List.{list_any}
use Rattle.std.proofs.lemmas.Bool.{or_parts, not-false, eqb-true, ltb-false}
use Rattle.lb_base.specs.declared.mask.Mask.{Mask}
use Rattle.lb_base.specs.declared.view.MoveKind.{MoveKind}
use Rattle.lb_detach.specs.declared.Env.{Env}
use Rattle.lb_domain.specs.Domains.{domains_of}
use Rattle.lb_imbalance.specs.declared.decision.Decision.{Decision}
use Rattle.lb_imbalance.specs.declared.decision.Decision.TheVariants.{NotMine, Balanced, Pull}
use Rattle.lb_imbalance.specs.Decision.{decision}
use Rattle.lb_queue.specs.declared.answers.OutCause.TheVariants.{Pull as PullOut}
use Rattle.lb_queue.specs.Tasks.{ids, awake_ids}
use Rattle.lb_queue.specs.Queue.{QueueState}
use Rattle.lb_queue.specs.Hands.{take_pull, taken_by}
use Rattle.lb_trace.specs.declared.trace.Header.{Header}
use Rattle.lb_core.specs.declared.course.Course.{Course}
use Rattle.lb_core.specs.declared.course.Form.{Form}
use Rattle.lb_core.specs.declared.course.Form.TheVariants.{Position, Looked, Landed as LandedForm}
use Rattle.lb_core.specs.declared.rule.Rule.TheVariants.{Figure, Decision as DecisionRule}
use Rattle.lb_core.specs.declared.entry.FigName.{FigName}
use Rattle.lb_core.specs.declared.entry.Owner.{Owner}
use Rattle.lb_core.specs.declared.entry.Owner.TheVariants.{Lane, Queue}
use Rattle.lb_core.specs.declared.entry.What.{What}
use Rattle.lb_core.specs.declared.entry.What.TheVariants.{Look, Out, Over}
use Rattle.lb_core.specs.declared.entry.Entry.{Entry}
use Rattle.lb_interval.specs.declared.Counters.{Counters}
use Rattle.lb_base.specs.Mask.{has, members, without, either, only, no_cpus}
use Rattle.lb_imbalance.specs.Destination.{is_busy}
use Rattle.lb_core.specs.Stage.{draws}
use Rattle.lb_queue.specs.Turns.{counters_at, tries_of}
use Rattle.lb_core.specs.Course.{turn_kind, is_newly, turn_domain, domain_at, env_by}
use Rattle.lb_core.specs.Sight.{Sight, by_cpu}
use Rattle.lb_core.specs.Leaving.{leaving, pull_out, out_by}
use Rattle.lb_core.specs.Rules.{figures_due}
use Rattle.lb_core.specs.QueueAfter.{cause_of, queue_after, rest_of}
use Rattle.lb_core.specs.CourseAfter.{course_after, drew, takes_off}
use Rattle.lb_core.specs.Machine.{MachineState, no_queue, no_course, queue_at, course_at, masks_at, entries_at, figures_named, start, sight}
use Rattle.lb_core.specs.Step.{after}
use Rattle.lb_core.specs.Legal.{MayBeAdded, run, MayFollow, IsLegalFront}
use Rattle.lb_core.specs.LaneEntries.{next_of, until, beyond, last_said, last_row, Use}
use Rattle.lb_core.specs.Passes.{left_out, others_of, env_of_pass, IsTake, Takes, IsPass, PassAt, PassesAlways}
use Rattle.lb_queue.specs.Laws.{PullsFollowPicks}
use Rattle.lb_core.proofs.Unbroken.{unbroken_here, unbroken_elsewhere}
use Rattle.lb_core.proofs.Equality.{numbers_same}
use Rattle.lb_core.proofs.Placing.{entry, cpu_there, lane_there, form_lets, owner_wrong}
use Rattle.lb_core.proofs.Equality.{mask_is, decision_is}
use Rattle.lb_core.proofs.Choosing.{chosen, what_next, queue_next, owner_next, cpu_next, choice_of}
use Rattle.lb_core.proofs.Next.{parts, run-append, next_is}
use Rattle.lb_core.proofs.Excluded.{look_out, left_out_at}
use Rattle.lb_core.proofs.Figures.{named}
use Rattle.lb_core.proofs.AfterTake.{IsOff, after_take}
use Rattle.lb_core.proofs.Turns.{look_works, still}
use Rattle.lb_core.proofs.Turning.{TurnLaws, in_turn_from, Turning, run-header, turning_at}

-- ---- what a look says
abbrev use_of : Course → Use
use_of c = record { version = c.version; kind = turn_kind c; cpu = c.cpu }

-- over these domains, at this position and without these CPUs, where its lane's turn found `found`
record Says (m : MachineState) (c : Course) (found : List Counters) (names : List FigName) (d : Decision) (h : Header)
    (masks : List Mask) (p : ℕ) (x : Mask) : Type 0 where
  position : c.position ≡ p
  one : has c.positions p ≡ true
  left : x ≡ c.excluded
  below : p < length (domains_of h.cpus h.distances masks c.cpu)
  read : map (λ name. name.cpu) names ≡ members (without (domain_at (domains_of h.cpus h.distances masks c.cpu) p).shape.span x)
  decided :
      let domain = domain_at (domains_of h.cpus h.distances masks c.cpu) p in
      d ≡ decision domain.shape domain.groups (by_cpu (figures_named m.figures names)) c.cpu (turn_kind c) x
  failures : (counters_at c.counters c.position).failures ≡ (counters_at found p).failures
  tries : tries_of (turn_domain m.header c).shape.name ≡ tries_of
      (domain_at (domains_of h.cpus h.distances masks c.cpu) p).shape.name
  others : (s : ℕ) → others_of (turn_domain m.header c) (either c.excluded (only s)) ≡ others_of
      (domain_at (domains_of h.cpus h.distances masks c.cpu) p) (either x (only s))

due_at_look : (f : Form) (h : Header) (c : Course) (q : QueueState) (lane p : ℕ) (x : Mask) (names : _) (d : _)
    (s : Sight) → draws f h c q lane (Look p x names d) ≡ true
    → figures_due f s ≡ without (turn_domain s.header s.course).shape.span s.course.excluded
unfolding draws
due_at_look Position h c q lane p x names d s k = refl
due_at_look LandedForm h c q lane p x names d s k = refl
due_at_look f h c q lane p x names d s k = absurd (let y : ⊥ = cc in y)

-- the counters of the queue whose turn is open
found_at : MachineState → ℕ → List Counters
found_at m cpu = unwrap_or (queue_at m.queues cpu).counters []

says : (m : MachineState) (o : Owner) (lane prev p : ℕ) (x : Mask) (names : List FigName) (d : Decision)
    → MayBeAdded m (entry o lane prev (Look p x names d)) → (pre : List Entry) → Turning pre m →
    Says m (course_at m.courses lane) (found_at m (course_at m.courses lane).cpu) names d m.header
    (course_at m.courses lane).masks p x
unfolding sight found_at
says m o lane prev p x names d a pre held =
    let e = entry o lane prev (Look p x names d) in
    let s = sight m e in
    let c = course_at m.courses lane in
    let lets = (form_lets m e a).1 in
    let f = look_works c.form m.header c s.queue lane p x names d (cause_of c) lets in
    let turn = (held.each lane).open_ f.0 in
    let q = or_parts _ _ (unbroken_here m e a DecisionRule) in
    let r = or_parts _ _ q.0 in
    let at : p ≡ c.position = eqb-true p c.position (not-false _ r.0) in
    let left : x ≡ c.excluded = mask_is x c.excluded (not-false _ r.1) in
    let names_are = numbers_same _ _ (not-false _ (or_parts _ _ (unbroken_here m e a Figure)).0) in
    let base : Says m c (found_at m c.cpu) names d m.header c.masks c.position c.excluded = record {
      position = refl;
      one = turn.one f.1;
      left = refl;
      below = turn.there.below c.position (turn.one f.1);
      read = names_are ∙ ap members (due_at_look c.form m.header c s.queue lane p x names d s lets);
      decided = decision_is d _ (not-false _ q.1);
      failures =
          sym (ap (λ (k : Counters). k.failures)
          (ap (λ (o : Option (List Counters)). counters_at (unwrap_or o []) c.position) turn.there.are
          ∙ turn.same c.position (still c.form c.position f.1)));
      tries = refl;
      others = λ s. refl;
    } in
    subst (λ (y : Mask). Says m c (found_at m c.cpu) names d m.header c.masks p y) (sym left)
    (subst (λ (i : ℕ). Says m c (found_at m c.cpu) names d m.header c.masks i c.excluded) (sym at) base)

-- ---- the take
-- the course after a look that pulls
abbrev looked : Course → ℕ → MoveKind → ℕ → Bool → List ℕ → Course
looked c s kind i idle named = record c { form = Looked; decision = Some (Pull s kind i); idle = idle; named = named }

-- what the next entry is where the course is a look that pulls
out_env : Option Env → ℕ → QueueState → What
out_env None at q = Over
out_env (Some env) at q = Out PullOut env.to (ids (take_pull q at env).0)

what_pulled : (m : MachineState) (c : Course) (s : ℕ) (kind : MoveKind) (i : ℕ) (idle : Bool) (ns : List ℕ) (env : Env)
    (ch : _) → env_by m.header (looked c s kind i idle ns) (Some (Pull s kind i)) ≡ Some env →
    what_next Looked m (looked c s kind i idle ns)
    (queue_next Looked m (looked c s kind i idle ns)) ch ≡ Out PullOut env.to (ids (take_pull (queue_at m.queues s) c.at env).0)
unfolding out_env
what_pulled m c s kind i idle ns env ch e = ap (λ (x : Option Env). out_env x c.at (queue_at m.queues s)) e

pulled : (m : MachineState) (o : Entry) (c : Course) (s : ℕ) (kind : MoveKind) (i : ℕ) (idle : Bool) (ns : List ℕ)
    (env : Env) → course_at m.courses o.lane ≡ looked c s kind i idle ns
    → env_by m.header (looked c s kind i idle ns) (Some (Pull s kind i)) ≡ Some env → MayBeAdded m o →
    (o.what ≡ Out PullOut env.to (ids (take_pull (queue_at m.queues s) c.at env).0)) × (o.owner ≡ Queue s)
pulled m o c s kind i idle ns env at e a =
    let n = chosen m o a in
    let w : o.what ≡ Out PullOut env.to (ids (take_pull (queue_at m.queues s) c.at env).0) =
    n.0
    ∙ ap (λ (x : Course). what_next x.form m x (queue_next x.form m x) (choice_of o.what)) at
    ∙ what_pulled m c s kind i idle ns env (choice_of o.what) e in
    let v : o.owner ≡ Queue s = n.1 ∙ ap (λ (x : Course). owner_next o.what o.lane (cpu_next x.form m x)) at
    ∙ ap (λ (x : What). owner_next x o.lane s) w in
    (w, v)

rest_env : (o : Option Env) (env : Env) (at : ℕ) (q : QueueState) → o ≡ Some env → rest_of (pull_out o at q)
    q ≡ (take_pull q at env).1
rest_env None env at q e = absurd (let y : ⊥ = cc in y)
rest_env (Some x) env at q e = let k : x ≡ env = cc in ap (λ (z : Env). (take_pull q at z).1) k

rest_here : (m : MachineState) (lane prev : ℕ) (c : Course) (s : ℕ) (kind : MoveKind) (i : ℕ) (idle : Bool) (ns : List ℕ)
    (env : Env) (to : ℕ) (ts : List ℕ) → course_at m.courses lane ≡ looked c s kind i idle ns →
    env_by m.header (looked c s kind i idle ns) (Some (Pull s kind i)) ≡ Some env
    → MayBeAdded m (entry (Queue s) lane prev (Out PullOut to ts)) →
    queue_at (after m (entry (Queue s) lane prev (Out PullOut to ts))).queues s ≡ (take_pull (queue_at m.queues s) c.at env).1
unfolding after sight queue_after leaving
rest_here m lane prev c s kind i idle ns env to ts at e a =
    get_or-set_same m.queues s (queue_after (sight m (entry (Queue s) lane prev (Out PullOut to ts)))
    (entry (Queue s) lane prev (Out PullOut to ts))) no_queue (cpu_there m s lane prev (Out PullOut to ts) a)
    ∙ ap (λ (x : Course). rest_of (out_by x.form m.header x (queue_at m.queues s)) (queue_at m.queues s)) at
    ∙ rest_env (env_by m.header (looked c s kind i idle ns) (Some (Pull s kind i))) env c.at (queue_at m.queues s) e

-- the course that it leaves
off_here : (m : MachineState) (lane prev : ℕ) (c : Course) (s : ℕ) (kind : MoveKind) (i : ℕ) (idle : Bool) (ns : List ℕ)
    (env : Env) (to : ℕ) (ts : List ℕ) → course_at m.courses lane ≡ looked c s kind i idle ns →
    env_by m.header (looked c s kind i idle ns) (Some (Pull s kind i)) ≡ Some env
    → MayBeAdded m (entry (Queue s) lane prev (Out PullOut to ts)) →
    IsOff c (course_at (after m (entry (Queue s) lane prev (Out PullOut to ts))).courses lane) s
    (taken_by (queue_at m.queues s) c.at env)
unfolding after sight course_after leaving
off_here m lane prev c s kind i idle ns env to ts at e a =
    let o = entry (Queue s) lane prev (Out PullOut to ts) in
    let q = queue_at m.queues s in
    let n = (sight m o).count + 1 in
    let made =
    get_or-set_same m.courses lane (course_after (sight m o) o) no_course (lane_there m o a)
    ∙ ap (λ (x : Course). drew (Queue s) n (takes_off (out_by x.form m.header x q) x)) at
    ∙ ap (λ (x : Option Env). drew (Queue s) n (takes_off (pull_out x c.at q) (looked c s kind i idle ns))) e in
    subst (λ (x : Course). IsOff c x s (taken_by q c.at env)) (sym made)
    (record { form = refl; cause = refl; taken = refl; source = refl; excluded = refl; place = refl })

-- what it leaves: of its source, and of its lane
record Leaves (m : MachineState) (o : Entry) (c : Course) (s : ℕ) (env : Env) : Type 0 where
  queue : queue_at (after m o).queues s ≡ (take_pull (queue_at m.queues s) c.at env).1
  course : IsOff c (course_at (after m o).courses o.lane) s (taken_by (queue_at m.queues s) c.at env)

leaves : (m : MachineState) (o : Owner) (lane prev : ℕ) (w : What) (c : Course) (s : ℕ) (kind : MoveKind) (i : ℕ)
    (idle : Bool) (ns : List ℕ) (env : Env) (to : ℕ) (ts : List ℕ) → o ≡ Queue s → w ≡ Out PullOut to ts
    → course_at m.courses lane ≡ looked c s kind i idle ns →
    env_by m.header (looked c s kind i idle ns) (Some (Pull s kind i)) ≡ Some env → MayBeAdded m (entry o lane prev w)
    → Leaves m (entry o lane prev w) c s env
leaves m o lane prev w c s kind i idle ns env to ts own what at e a =
    let P : Owner → What → Type 0 = λ x y. MayBeAdded m (entry x lane prev y) → Leaves m (entry x lane prev y) c s env in
    subst (λ (x : Owner). P x w) (sym own)
    (subst (λ (y : What). P (Queue s) y) (sym what)
    (λ b. record {
      queue = rest_here m lane prev c s kind i idle ns env to ts at e b;
      course = off_here m lane prev c s kind i idle ns env to ts at e b;
    }))
    a

-- what the take asks for
abbrev env_at : Header → Course → ℕ → MoveKind → ℕ → Bool → List ℕ → Env
env_at h c s kind i idle ns = record {
  to = c.cpu;
  idle = idle;
  newly = is_newly (turn_kind c);
  kind = kind;
  imbalance = i;
  failures = (counters_at c.counters c.position).failures;
  tries = tries_of (turn_domain h c).shape.name;
}

take_is : PullsFollowPicks → (m : MachineState) (o : Entry) (c : Course) (s : ℕ) (kind : MoveKind) (i : ℕ) (idle : Bool)
    (ns : List ℕ) (es : List Entry) → course_at m.courses o.lane ≡ looked c s kind i idle ns → MayBeAdded m o
    → MayFollow es (after m o) →
    IsTake (env_at m.header c s kind i idle ns) c.position
    (others_of (turn_domain m.header c) (either c.excluded (only s))) s c.at m o (next_of o.lane (beyond o.lane es))
unfolding after taken_by
take_is law m o c s kind i idle ns es at a l =
    let env : Env = env_at m.header c s kind i idle ns in
    let p = pulled m o c s kind i idle ns env at refl a in
    let q = queue_at m.queues s in
    let follows = law q c.at env in
    let left = leaves m o.owner o.lane o.prev o.what c s kind i idle ns env c.cpu _ p.1 p.0 at refl a in
    record {
      owner = p.1;
      what = p.0 ∙ ap (λ (ts : List ℕ). Out PullOut c.cpu ts) (follows.taken);
      stays = ap (λ (x : QueueState). awake_ids x.awake) left.queue ∙ follows.left;
      again = after_take o.lane es (after m o) c (course_at (after m o).courses o.lane) s (taken_by q c.at env) refl
          left.course l;
    }

takes : (d : Decision) (env : MoveKind → ℕ → Env) (p : ℕ) (others : ℕ → Mask) (at : ℕ) (m : MachineState)
    (o next : Option Entry) →
    ((s : ℕ) (kind : MoveKind) (i : ℕ) (x : Entry) → d ≡ Pull s kind i → o ≡ Some x
    → IsTake (env kind i) p (others s) s at m x next) → Takes d env p others at m o next
takes NotMine env p others at m o next f = tt
takes Balanced env p others at m o next f = tt
takes (Pull s kind i) env p others at m None next f = tt
takes (Pull s kind i) env p others at m (Some x) next f = f s kind i x refl refl

-- ---- the law
none_any : {X : Type 0} (p : X → Bool) (xs : List X) → list_any p xs ≡ false → All (λ x. p x ≡ false) xs
none_any p [] h k d lt = absurd (omega arith)
none_any p (x ∷ xs) h zero d lt = (or_parts (p x) _ h).0
none_any p (x ∷ xs) h (suc k) d lt = none_any p xs ((or_parts (p x) _ h).1) k d (omega arith)

-- the course that a look leaves
abbrev looks : MachineState → Course → List FigName → Decision → List ℕ → Course
looks m c names d ns = record c {
  form = Looked;
  decision = Some d;
  idle = not (is_busy (turn_kind c) (by_cpu (figures_named m.figures names)) c.cpu);
  named = ns;
}

after_look : (m : MachineState) (lane prev p : ℕ) (x : Mask) (names : List FigName) (d : Decision)
    → MayBeAdded m (entry (Lane lane) lane prev (Look p x names d)) → (ns : List ℕ)
    × (course_at (after m (entry (Lane lane) lane prev (Look p x names d))).courses lane ≡ looks m
    (course_at m.courses lane) names d ns)
unfolding after sight course_after
after_look m lane prev p x names d a = (
  _,
  get_or-set_same m.courses lane _ no_course
      (lane_there m (entry (Lane lane) lane prev (Look p x names d)) a),
)

-- what a take asks for, by the course and by the queue
same_env : (h : Header) (m : MachineState) (c : Course) (p : ℕ) (names : List FigName) (s : ℕ) (kind : MoveKind) (i : ℕ)
    (ns : List ℕ) (x : Mask) (d : Decision) → Says m c (found_at m c.cpu) names d h (masks_at m c.version) p x →
    env_at m.header c s kind i (not (is_busy (turn_kind c) (by_cpu (figures_named m.figures names)) c.cpu))
    ns ≡ env_of_pass h m (use_of c) p names kind i
unfolding found_at
same_env h m c p names s kind i ns x d says =
    let f : ℕ → ℕ → Env = λ failures tries. record {
      to = c.cpu;
      idle = not (is_busy (turn_kind c) (by_cpu (figures_named m.figures names)) c.cpu);
      newly = is_newly (turn_kind c);
      kind = kind;
      imbalance = i;
      failures = failures;
      tries = tries;
    } in
    ap (λ (k : ℕ). f k (tries_of (turn_domain m.header c).shape.name)) says.failures
    ∙ ap (f (counters_at (unwrap_or (queue_at m.queues c.cpu).counters []) p).failures) says.tries

look_pass : TurnLaws → PullsFollowPicks → (h : Header) (before later : List Entry) (lane prev p : ℕ) (x : Mask)
    (names : List FigName) (d : Decision) → IsLegalFront h (before ++ entry (Lane lane) lane prev (Look p x names d) ∷ later) →
    IsPass h before (entry (Lane lane) lane prev (Look p x names d)) later p x names d
unfolding start
look_pass turns law h before later lane prev p x names d legal =
    let e = entry (Lane lane) lane prev (Look p x names d) in
    let ps = parts before e later (start h) legal in
    let r = turning_at turns h before ps.first in
    let m = run before (start h) in
    let c = course_at m.courses lane in
    let lets = (form_lets m e ps.this).1 in
    let works = look_works c.form m.header c (sight m e).queue lane p x names d (cause_of c) lets in
    let turn = (r.each lane).used (in_turn_from c works.0) in
    let held = (r.each lane).open_ works.0 in
    let header : m.header ≡ h = run-header before (start h) in
    let said : Says m c (found_at m c.cpu) names d h (masks_at m c.version) p x =
    subst (λ (ms : List Mask). Says m c (found_at m c.cpu) names d h ms p x) turn.published.masks
    (subst (λ (hh : Header). Says m c (found_at m c.cpu) names d hh c.masks p x) header
    (says m (Lane lane) lane prev p x names d ps.this before r)) in
    let unpublished = unbroken_elsewhere m e ps.this Figure in
    let left = after_look m lane prev p x names d ps.this in
    let others : ℕ → Mask = λ source. others_of
    (domain_at (domains_of h.cpus h.distances (masks_at m c.version) c.cpu) p) (either x (only source)) in
    let end : run (before ++ e ∷ until lane later) (start h) ≡ run (until lane later) (after m e) =
    run-append before (e ∷ until lane later) (start h) in
    record {
      used = use_of c;
      is_last = turn.last;
      from_first = turn.published.from;
      published = turn.published.to;
      opened = record { positions = c.positions; opened = held.there.opened; version = held.there.version; one = said.one };
      below = said.below;
      excluded = said.left ∙ sym (look_out c.form m.header c (sight m e).queue lane p x names d
          (last_said left_out lane no_cpus before) lets (left_out_at h before ps.first lane));
      read = said.read;
      figures = λ k z lt. named h before (get_or names k z) ps.first
          (ltb-false _ _ (none_any (λ (f : FigName). ltb (entries_at m f.cpu) f.n) names unpublished k z lt));
      decided = said.decided;
      taken = takes d (env_of_pass h m (use_of c) p names) p others (last_row lane before).1
          (run (before ++ e ∷ until lane later) (start h)) (next_of lane later)
          (next_of lane (beyond lane (beyond lane later))) (λ s kind i o pulls next.
          let idle = not (is_busy (turn_kind c) (by_cpu (figures_named m.figures names)) c.cpu) in
          let at : course_at (after m e).courses lane ≡ looked c s kind i idle left.0 =
          left.1 ∙ ap (λ (y : Decision). looks m c names y left.0) pulls in
          let n = next_is lane later (after m e) (looked c s kind i idle left.0) o at ps.last next in
          let mm = run (until lane later) (after m e) in
          let same : course_at mm.courses o.lane ≡ looked c s kind i idle left.0 = ap
          (λ (y : ℕ). course_at mm.courses y) n.own ∙ n.same in
          let t = take_is law mm o c s kind i idle left.0 (beyond lane later) same n.added n.rest in
          let own : mm.header ≡ m.header = run-header (until lane later) (after m e) ∙ run-header (e ∷ []) m in
          let env = ap (λ (hh : Header). env_at hh c s kind i idle left.0) own ∙ same_env h m c p names s kind i left.0
          x d said in
          let left_same : others_of (turn_domain mm.header c) (either c.excluded (only s)) ≡ others s =
          ap (λ (hh : Header). others_of (turn_domain hh c) (either c.excluded (only s))) own ∙ said.others s in
          let T : Env → ℕ → Mask → ℕ → MachineState → ℕ → Type 0 =
          λ y q z k mc l. IsTake y q z s k mc o (next_of l (beyond l (beyond lane later))) in
          let ee = env_of_pass h m (use_of c) p names kind i in
          subst (λ (k : ℕ). T ee p (others s) k (run (before ++ e ∷ until lane later) (start h)) lane)
          (ap (λ (k : ℕ × ℕ). k.1) (r.each lane).row)
          (subst (λ (mc : MachineState). T ee p (others s) c.at mc lane) (sym end)
          (subst (λ (l : ℕ). T ee p (others s) c.at mm l) n.own
          (subst (λ (z : Mask). T ee p z c.at mm o.lane) left_same
          (subst (λ (q : ℕ). T ee q (others_of (turn_domain mm.header c) (either c.excluded (only s))) c.at mm
          o.lane) said.position (subst (λ (y : Env). T y c.position
          (others_of (turn_domain mm.header c) (either c.excluded (only s))) c.at mm o.lane) env t))))));
    }

pass : TurnLaws → PullsFollowPicks → (h : Header) (before later : List Entry) (o : Owner) (lane prev : ℕ) (w : What)
    → IsLegalFront h (before ++ entry o lane prev w ∷ later) → PassAt h before (entry o lane prev w) later w
pass turns law h before later (Lane l) lane prev (Look p x names d) legal =
    let ps = parts before (entry (Lane l) lane prev (Look p x names d)) later (start h) legal in
    let own : l ≡ lane = eqb-true l lane (form_lets (run before (start h)) (entry (Lane l) lane prev (Look p x names d))
    ps.this).0 in
    subst (λ (y : ℕ). IsLegalFront h (before ++ entry (Lane y) lane prev (Look p x names d) ∷ later)
    → IsPass h before (entry (Lane y) lane prev (Look p x names d)) later p x names d) (sym own)
    (look_pass turns law h before later lane prev p x names d) legal
pass turns law h before later o lane prev (Look p x names d) legal =
    absurd (owner_wrong (run before (start h)) o lane prev (Look p x names d) (λ _. refl)
    (parts before (entry o lane prev (Look p x names d)) later (start h) legal).this)
pass turns law h before later o lane prev w legal = tt

pub passes_always : TurnLaws → PullsFollowPicks → PassesAlways
passes_always turns law h before later e legal = pass turns law h before later e.owner e.lane e.prev e.what legal
