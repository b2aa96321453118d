-- The next entry after a row is its reply.
-- For the law `replies`.
use Rattle.std.proofs.Common.{◌≡◌, ◌+◌, ℕ, ◌≤◌, true, false, cond, ◌==◌, List, [], ◌∷◌, ◌++◌, length, Option, Some, None, is_some, refl, sym, ◌∙◌, ap, arith, subst, get_or-set_same}
use Rattle.std.proofs.lemmas.Bool.{or_parts, not-false, eqb-true, eq-eqb}
use Rattle.lb_queue.specs.declared.answers.OutCause.TheVariants.{Wake as WakeOut}
use Rattle.lb_queue.specs.declared.record.TaskRecord.{TaskRecord}
use Rattle.lb_queue.specs.Tasks.{ids, task_with}
use Rattle.lb_queue.specs.Queue.{QueueState, away, away_of}
use Rattle.lb_queue.specs.Commands.{wake}
use Rattle.lb_queue.specs.Hands.{leaves_asleep, leave}
use Rattle.lb_base.specs.declared.mask.Mask.{Mask}
use Rattle.lb_trace.specs.declared.trace.Command.{Command}
use Rattle.lb_trace.specs.declared.trace.Command.TheVariants.{Wake, Tick, Rebuild}
use Rattle.lb_trace.specs.declared.trace.Header.{Header}
use Rattle.lb_core.specs.declared.course.Course.{Course}
use Rattle.lb_core.specs.declared.course.Form.TheVariants.{Asked}
use Rattle.lb_core.specs.declared.entry.Owner.{Owner}
use Rattle.lb_core.specs.declared.entry.Owner.TheVariants.{Lane}
use Rattle.lb_core.specs.declared.entry.What.{What}
use Rattle.lb_core.specs.declared.entry.What.TheVariants.{Row, Did, Out, Pub}
use Rattle.lb_core.specs.declared.entry.Entry.{Entry}
use Rattle.lb_core.specs.declared.rule.Rule.TheVariants.{Row as RowRule, Place as PlaceRule}
use Rattle.lb_core.specs.CourseAfter.{course_after}
use Rattle.lb_core.specs.Leaving.{wake_to}
use Rattle.lb_core.specs.Machine.{MachineState, no_course, queue_at, course_at, owned_queue, start, sight}
use Rattle.lb_core.specs.Elsewhere.{is_rest, answered_elsewhere}
use Rattle.lb_core.specs.Step.{versions_after, after}
use Rattle.lb_core.specs.Legal.{MayBeAdded, run, MayFollow, IsLegalHistory}
use Rattle.lb_core.specs.LaneEntries.{until}
use Rattle.lb_core.specs.Replies.{is_asked, woken, reply_of, IsReply, HasReply, ReplyAt, RepliesAlways, NextAlways}
use Rattle.lb_queue.proofs.Counts.{found}
use Rattle.lb_core.proofs.Unbroken.{unbroken_here, unbroken_elsewhere}
use Rattle.lb_core.proofs.Placing.{entry, lane_there, owner_wrong}
use Rattle.std.proofs.lemmas.List.{length-append}
use Rattle.lb_core.proofs.Choosing.{out_of, owner_next, cpu_next, queue_next, what_next, choice_of, chosen}
use Rattle.lb_core.proofs.AtWork.{goes_on}
use Rattle.lb_core.proofs.Turning.{TurnLaws, turning_at}
use Rattle.lb_core.proofs.Next.{parts, run-append, next_is, some_next}

-- ---- the task that leaves
left_id : (q : QueueState) (at t to : ℕ) (o : Option TaskRecord) → task_with t q.asleep ≡ o → away_of q o ≡ Some to
    → ids (leaves_asleep q at o).0 ≡ t ∷ []
left_id q at t to None e h = absurd (let y : ⊥ = cc in y)
left_id q at t to (Some x) e h =
    let same : x.id ≡ t = eqb-true x.id t (found (λ (y : TaskRecord). y.id == t) (λ y. y.id) q.asleep x e).passes in
    ap (λ (i : ℕ). i ∷ []) same

woken_is : (q : QueueState) (at t : ℕ) (d : Option ℕ) → away q t ≡ d
    → cond (is_some d) (out_of (wake_to d at t q)) (Did (wake q at t).0) ≡ woken d t (wake q at t).0
unfolding away leave
woken_is q at t None e = refl
woken_is q at t (Some to) e = ap (λ (ts : List ℕ). Out WakeOut to ts) (left_id q at t to (task_with t q.asleep) refl e)

-- ---- the versions
versions_stay : (w : What) (command : Option Command) (vs : List (List Mask)) → 1 ≤ length vs
    → 1 ≤ length (versions_after w command vs)
versions_stay (Pub v) (Some (Rebuild parts)) vs h = let l = length-append vs (parts ∷ []) in omega arith
versions_stay w command vs h = h

some_version : (es : List Entry) (m : MachineState) → 1 ≤ length m.versions → 1 ≤ length (run es m).versions
unfolding after
some_version [] m h = h
some_version (e ∷ es) m h = some_version es (after m e) (versions_stay e.what _ m.versions h)

-- ---- the reply
-- the course that a row leaves
abbrev asked : Course → ℕ → ℕ → Command → Course
asked c n at command = record c { form = Asked; rows = n; at = at; command = Some command }

reply_due : (m : MachineState) (c : Course) (n at : ℕ) (command : Command) (q : QueueState) (ch : _)
    → 1 ≤ length m.versions → what_next Asked m (asked c n at command) q ch ≡ reply_of command at m q
reply_due m c n at (Rebuild parts) q ch h = ap (λ (v : ℕ). Pub v) (omega arith)
reply_due m c n at (Wake t) q ch h = woken_is q at t (away q t) refl
reply_due m c n at command q ch h = refl

-- the queue that draws it is the one that is asked
own_queue : (m : MachineState) (at lane cpu : ℕ) (command : Command)
    → reply_of command at m (owned_queue (owner_next (reply_of command at m (queue_at m.queues cpu)) lane cpu)
    m) ≡ reply_of command at m (queue_at m.queues cpu)
own_queue m at lane cpu (Wake t) = by_away (away (queue_at m.queues cpu) t)
  where
    by_away : (d : Option ℕ) → reply_of (Wake t) at m
        (owned_queue (owner_next (woken d t (wake (queue_at m.queues cpu) at t).0) lane cpu) m) ≡ reply_of
        (Wake t) at m (queue_at m.queues cpu)
    by_away None = refl
    by_away (Some to) = refl
own_queue m at lane cpu command = refl

asked_is : (m : MachineState) (c : Course) (n at lane : ℕ) (command : Command) (q : QueueState) (o : Owner)
    → answered_elsewhere Asked (asked c n at command) m o (reply_of command at m q) ≡ false →
    o ≡ owner_next (reply_of command at m q) lane (cpu_next Asked m (asked c n at command)) → is_asked command m o ≡ true
asked_is m c n at lane (Wake t) q o p v = by_away (away q t) p
  where
    by_away : (d : Option ℕ) → answered_elsewhere Asked (asked c n at (Wake t)) m o
        (woken d t (wake q at t).0) ≡ false → is_asked (Wake t) m o ≡ true
    by_away None p = not-false _ p
    by_away (Some to) p = not-false _ p
asked_is m c n at lane (Tick cpu) q o p v = rw v (eq-eqb cpu cpu refl)
asked_is m c n at lane (Rebuild parts) q o p v = rw v refl
asked_is m c n at lane command q o p v = not-false _ p

replied : (m : MachineState) (c : Course) (n at : ℕ) (command : Command) (o : Entry)
    → course_at m.courses o.lane ≡ asked c n at command → MayBeAdded m o → 1 ≤ length m.versions → IsReply command at m o
replied m c n at command o same a h =
    let k = chosen m o a in
    let cpu = cpu_next Asked m (asked c n at command) in
    let q = queue_at m.queues cpu in
    let w : o.what ≡ reply_of command at m q =
    k.0 ∙ ap (λ (x : Course). what_next x.form m x (queue_next x.form m x) (choice_of o.what)) same
    ∙ reply_due m c n at command q (choice_of o.what) h in
    let v : o.owner ≡ owner_next (reply_of command at m q) o.lane cpu =
    k.1 ∙ ap (λ (x : Course). owner_next o.what o.lane (cpu_next x.form m x)) same ∙ ap
    (λ (y : What). owner_next y o.lane cpu) w in
    let p : answered_elsewhere Asked (asked c n at command) m o.owner (reply_of command at m q) ≡ false =
    subst (λ (y : What). answered_elsewhere Asked (asked c n at command) m o.owner y ≡ false) w
    (subst (λ (x : Course). answered_elsewhere x.form x m o.owner o.what ≡ false) same (unbroken_elsewhere m o a PlaceRule)) in
    record {
      asked = asked_is m c n at o.lane command q o.owner p v;
      value = w ∙ sym (own_queue m at o.lane cpu command) ∙ ap (λ (x : Owner). reply_of command at m (owned_queue x m)) (sym v);
    }

-- ---- the law
row_course : (m : MachineState) (o : Owner) (lane prev n at : ℕ) (command : Command)
    → MayBeAdded m (entry o lane prev (Row n at command))
    → (c : Course) × (course_at (after m (entry o lane prev (Row n at command))).courses lane ≡ asked c n at command)
unfolding after sight course_after
row_course m (Lane l) lane prev n at command a = (
  course_at m.courses lane,
  get_or-set_same m.courses lane
      (asked (course_at m.courses lane) n at command) no_course (lane_there m (entry (Lane l) lane prev (Row n at command)) a),
)
row_course m o lane prev n at command a = absurd (owner_wrong m o lane prev (Row n at command) (λ _. refl) a)

row_number : (m : MachineState) (o : Owner) (lane prev n at : ℕ) (command : Command)
    → MayBeAdded m (entry o lane prev (Row n at command)) → n ≡ (course_at m.courses lane).rows + 1
unfolding sight
row_number m o lane prev n at command a =
    eqb-true n _ (not-false _ (or_parts _ _ (unbroken_here m (entry o lane prev (Row n at command)) a RowRule)).0)

opening_version : (h : Header) → 1 ≤ length (start h).versions
unfolding start
opening_version h = omega arith

has_reply : TurnLaws → (h : Header) (before later : List Entry) (o : Owner) (lane prev n at : ℕ) (command : Command)
    → IsLegalHistory h (before ++ entry o lane prev (Row n at command) ∷ later)
    → HasReply h before (entry o lane prev (Row n at command)) later n at command
unfolding after
has_reply law h before later o lane prev n at command legal =
    let e = entry o lane prev (Row n at command) in
    let ps = parts before e later (start h) legal.0 in
    let m = run before (start h) in
    let c = row_course m o lane prev n at command ps.this in
    let ends : (run later (after m e)).ended ≡ true =
    ap (λ (x : MachineState). x.ended) (sym (run-append before (e ∷ later) (start h))) ∙ legal.1 in
    let next = some_next lane later (after m e) (ap (λ (x : Course). is_rest x.form) c.1) (goes_on m e ps.this) ps.last ends in
    let is = next_is lane later (after m e) (asked c.0 n at command) next.0 c.1 ps.last next.1 in
    let there : run (before ++ e ∷ until lane later) (start h) ≡ run (until lane later) (after m e) =
    run-append before (e ∷ until lane later) (start h) in
    let versions = subst (λ (x : MachineState). 1 ≤ length x.versions) there
    (some_version (before ++ e ∷ until lane later) (start h) (opening_version h)) in
    let mm = run (until lane later) (after m e) in
    let same : course_at mm.courses next.0.lane ≡ asked c.0 n at command = ap (λ (l : ℕ). course_at mm.courses l)
    is.own ∙ is.same in
    record {
      number = row_number m o lane prev n at command ps.this
          ∙ ap (λ (k : ℕ × ℕ). k.0 + 1) ((turning_at law h before ps.first).each lane).row;
      reply = next.0;
      next = next.1;
      is = subst (λ (x : MachineState). IsReply command at x next.0) (sym there)
          (replied mm c.0 n at command next.0 same is.added versions);
    }

by_what : TurnLaws → (h : Header) (before later : List Entry) (o : Owner) (lane prev : ℕ) (w : What)
    → IsLegalHistory h (before ++ entry o lane prev w ∷ later) → ReplyAt h before (entry o lane prev w) later w
by_what law h before later o lane prev (Row n at command) legal = has_reply law h before later o lane prev n at command legal
by_what law h before later o lane prev w legal = tt

pub replies_always : TurnLaws → RepliesAlways
replies_always law h before later e legal = by_what law h before later e.owner e.lane e.prev e.what legal

-- ---- no lane is left at work
follows : (xs ys : List Entry) (m : MachineState) → MayFollow (xs ++ ys) m → MayFollow ys (run xs m)
follows [] ys m l = l
follows (x ∷ xs) ys m l = follows xs ys (after m x) l.1

pub next_always : NextAlways
next_always h before later lane legal works ended =
    some_next lane later (run before (start h)) works ended (follows before later (start h) legal.0)
    (ap (λ (x : MachineState). x.ended) (sym (run-append before later (start h))) ∙ legal.1)
