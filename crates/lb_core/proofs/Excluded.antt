-- A look leaves out the sources of the position's pulls before it.
-- For the lemmas of `Passing`, and so for the law `permitted`.
use Rattle.std.proofs.Common.{◌≡◌, ℕ, Bool, true, false, cond, List, [], ◌∷◌, ◌++◌, ◌+◌, Option, Some, None, unwrap_or, refl, sym, ◌∙◌, ap, subst, inl, inr, get_or-set_same, get_or-set_other}
use Rattle.std.proofs.lemmas.Bool.{or_parts, and_parts, not-false, cases_eq}
use Rattle.lb_base.specs.declared.mask.Mask.{Mask}
use Rattle.lb_base.specs.Mask.{no_cpus, only, either}
use Rattle.lb_base.specs.Sets.{least, least_above}
use Rattle.lb_imbalance.specs.declared.decision.Decision.{Decision}
use Rattle.lb_imbalance.specs.declared.decision.Decision.TheVariants.{NotMine, Balanced, Pull}
use Rattle.lb_queue.specs.declared.answers.OutCause.{OutCause}
use Rattle.lb_queue.specs.declared.answers.OutCause.TheVariants.{Wake as WakeOut, Pull as PullOut}
use Rattle.lb_queue.specs.declared.answers.Taken.{Taken}
use Rattle.lb_queue.specs.Queue.{QueueState}
use Rattle.lb_trace.specs.declared.trace.Header.{Header}
use Rattle.lb_core.specs.declared.course.Course.{Course}
use Rattle.lb_core.specs.declared.course.Form.{Form}
use Rattle.lb_core.specs.declared.course.Form.TheVariants.{Rest, Flight, Position, Looked, Landed as LandedForm, Closed}
use Rattle.lb_core.specs.declared.entry.FigName.{FigName}
use Rattle.lb_core.specs.declared.entry.OutcomeWord.{OutcomeWord}
use Rattle.lb_core.specs.declared.entry.OutcomeWord.TheVariants.{NotMine as NotMineWord, Moved as MovedWord, Asking as AskingWord}
use Rattle.lb_core.specs.declared.entry.Owner.{Owner}
use Rattle.lb_core.specs.declared.entry.Owner.TheVariants.{Publisher, Lane, Queue}
use Rattle.lb_core.specs.declared.entry.What.{What}
use Rattle.lb_core.specs.declared.entry.What.TheVariants.{Look, Scan, Did, Out, Landed, Turn, Shut, Close, Ask, Kick, Over}
use Rattle.lb_core.specs.declared.entry.Entry.{Entry}
use Rattle.lb_core.specs.declared.rule.Rule.TheVariants.{Decision as DecisionRule}
use Rattle.lb_core.specs.Course.{turn_kind, is_newly, is_pull, source_of, is_all_pinned}
use Rattle.lb_core.specs.Sight.{Sight}
use Rattle.lb_core.specs.Stage.{draws}
use Rattle.lb_core.specs.Leaving.{Leaving, leaving, out_by}
use Rattle.lb_core.specs.Rules.{breaks_decision}
use Rattle.lb_core.specs.QueueAfter.{cause_of, queue_after}
use Rattle.lb_core.specs.CourseAfter.{goes_to, takes_off, lands, closes, course_by, drew, cpu_of, course_after, raised_numbers}
use Rattle.lb_core.specs.Machine.{MachineState, no_course, course_at, start, sight}
use Rattle.lb_core.specs.Elsewhere.{is_rest}
use Rattle.lb_core.specs.Step.{after}
use Rattle.lb_core.specs.Legal.{MayBeAdded, run, MayFollow}
use Rattle.lb_core.proofs.Unbroken.{unbroken_here}
use Rattle.lb_core.proofs.Placing.{lane_there, form_lets}
use Rattle.lb_core.proofs.Equality.{mask_is}
use Rattle.lb_core.specs.LaneEntries.{last_said}
use Rattle.lb_core.specs.Passes.{left_out}
use Rattle.lb_core.proofs.Next.{front_holds}
use Rattle.lb_core.proofs.AtWork.{clash, opening_rests}
use Rattle.lb_core.proofs.Turns.{is_pull_cause, turning, in_turn, pull_turns, scanned_out, kicked_out, turn_out, answered_out, lands_out, own_said, other_said}

-- what a course says of the CPUs that are left out
record Left : Type 0 where
  excluded : Mask
  decision : Option Decision
  cause : Option OutCause
  taken : Option Taken

abbrev left_of : Course → Left
left_of c = record { excluded = c.excluded; decision = c.decision; cause = c.cause; taken = c.taken }

abbrev SaysOut : Form → Left → Mask → Type 0
SaysOut Position k out = out ≡ k.excluded
SaysOut Looked k out = is_pull k.decision ≡ true → out ≡ either k.excluded (only (source_of k.decision))
SaysOut Flight k out = is_pull_cause (unwrap_or k.cause WakeOut) ≡ true → out ≡ either k.excluded (only (source_of k.decision))
SaysOut LandedForm k out = is_all_pinned k.taken ≡ true → out ≡ k.excluded
SaysOut Closed k out = out ≡ no_cpus
SaysOut f k out = Unit {0}

abbrev Out_of : Course → Mask → Type 0
Out_of c out = SaysOut c.form (left_of c) out

-- outside a turn it says nothing
silent_form : (f : Form) (c : Course) (out : Mask) → turning f (cause_of c) ≡ false → SaysOut f (left_of c) out
silent_form Position c out h = absurd (let y : ⊥ = cc in y)
silent_form Looked c out h = absurd (let y : ⊥ = cc in y)
silent_form Flight c out h = λ k. clash _ k h
silent_form LandedForm c out h = absurd (let y : ⊥ = cc in y)
silent_form Closed c out h = absurd (let y : ⊥ = cc in y)
silent_form f c out h = tt

silent : (c : Course) (out : Mask) → in_turn c ≡ false → Out_of c out
silent c out h = silent_form c.form c out h

goes_out : (p : Option ℕ) (c : Course) → Out_of (goes_to p c) no_cpus
goes_out None c = tt
goes_out (Some p) c = refl

closes_out : (w : OutcomeWord) (c : Course) → Out_of (closes w c) no_cpus
closes_out AskingWord c = refl
closes_out NotMineWord c = tt
closes_out MovedWord c = by_newly (is_newly (turn_kind c))
  where
    by_newly : (b : Bool) → Out_of (cond b (goes_to None c) (goes_to (least_above c.positions c.position) c)) no_cpus
    by_newly true = tt
    by_newly false = goes_out (least_above c.positions c.position) c
closes_out w c = goes_out (least_above c.positions c.position) c

looked_out : (d : Decision) (p : ℕ) (x out excluded : Mask) (names : List FigName) → x ≡ excluded
    → is_pull (Some d) ≡ true → left_out (Look p x names d) out ≡ either excluded (only (source_of (Some d)))
looked_out NotMine p x out excluded names e h = absurd (let y : ⊥ = cc in y)
looked_out Balanced p x out excluded names e h = absurd (let y : ⊥ = cc in y)
looked_out (Pull s kind i) p x out excluded names e h = ap (λ (m : Mask). either m (only s)) e

-- by their forms
out_looked : (f : Form) (h : Header) (c : Course) (q : QueueState) (lane : ℕ) (cause : OutCause) (to : ℕ)
    (ts : List ℕ) (out : Mask) → draws f h c q lane (Out cause to ts) ≡ true → turning f WakeOut ≡ true
    → SaysOut f (left_of c) out → out ≡ either c.excluded (only (source_of c.decision))
unfolding draws
out_looked Looked h c q lane cause to ts out d t k = k d
out_looked f h c q lane cause to ts out d t k = absurd (let y : ⊥ = cc in y)

landed_flight : (f : Form) (h : Header) (c : Course) (q : QueueState) (lane : ℕ) (ts : List ℕ) (out : Mask)
    → draws f h c q lane (Landed ts) ≡ true → is_pull_cause (cause_of c) ≡ true → SaysOut f (left_of c) out
    → out ≡ either c.excluded (only (source_of c.decision))
unfolding draws
landed_flight Flight h c q lane ts out d t k = k t
landed_flight f h c q lane ts out d t k = absurd (let y : ⊥ = cc in y)

ask_out : (f : Form) (h : Header) (c : Course) (q : QueueState) (lane : ℕ) (r : _) (out : Mask)
    → draws f h c q lane (Ask r) ≡ true → SaysOut f (left_of c) out → out ≡ no_cpus
unfolding draws
ask_out Closed h c q lane r out d k = k
ask_out f h c q lane r out d k = absurd (let y : ⊥ = cc in y)

pub look_out : (f : Form) (h : Header) (c : Course) (q : QueueState) (lane p : ℕ) (x : Mask) (names : _) (v : _)
    (out : Mask) → draws f h c q lane (Look p x names v) ≡ true → SaysOut f (left_of c) out → out ≡ c.excluded
unfolding draws
look_out Position h c q lane p x names v out d k = k
look_out LandedForm h c q lane p x names v out d k = k (and_parts (is_all_pinned c.taken) _ d).0
look_out f h c q lane p x names v out d k = absurd (let y : ⊥ = cc in y)

-- ---- the lane that draws
says_out : (w : What) (s : Sight) (lane cpu : ℕ) (now : QueueState) (out : Mask)
    → draws s.course.form s.header s.course s.queue lane w ≡ true → breaks_decision s w ≡ false → Out_of s.course out
    → Out_of (course_by w s cpu now) (left_out w out)
unfolding leaving
says_out (Look p x names v) s lane cpu now out d b k =
    looked_out v p x out s.course.excluded names (mask_is x s.course.excluded (not-false _ (or_parts _ _ (or_parts _ _ b).0).1))
says_out (Scan names v) s lane cpu now out d b k =
    silent (course_by (Scan names v) s cpu now) out
    (scanned_out v (record s.course { figures = s.figs; named = raised_numbers names s.course.named })).0
says_out (Did r) s lane cpu now out d b k =
    silent (course_by (Did r) s cpu now) out (answered_out s.course.command cpu s.queue now s.course).0
says_out (Out cause to ts) s lane cpu now out d b k = off (out_by s.course.form s.header s.course s.queue) refl
  where
    off : (l : Option Leaving) → out_by s.course.form s.header s.course s.queue ≡ l → Out_of (takes_off l s.course) out
    off None e = k
    off (Some l) e = λ pull. out_looked s.course.form s.header s.course s.queue lane cause to ts out d
        (pull_turns s.course.form s.header s.course s.queue l WakeOut e pull) k
says_out (Landed ts) s lane cpu now out d b k = by_cause (cause_of s.course) refl
  where
    by_cause : (cause : OutCause) → cause_of s.course ≡ cause → Out_of (lands cause s.course) out
    by_cause PullOut e = λ pinned. landed_flight s.course.form s.header s.course s.queue lane ts out d
        (ap is_pull_cause e) k ∙ rw pinned refl
    by_cause cause e = silent (lands cause s.course) out (lands_out cause s.course refl).0
says_out (Turn ps) s lane cpu now out d b k = goes_out (least ps) _
says_out Shut s lane cpu now out d b k = silent (course_by Shut s cpu now) out (turn_out s.header s.course).0
says_out (Close p w i n) s lane cpu now out d b k = closes_out w s.course
says_out (Ask r) s lane cpu now out d b k =
    subst (Out_of (goes_to (least_above s.course.positions s.course.position) s.course))
    (sym (ask_out s.course.form s.header s.course s.queue lane r out d k))
    (goes_out (least_above s.course.positions s.course.position) s.course)
says_out (Kick r) s lane cpu now out d b k = silent (course_by (Kick r) s cpu now) out (kicked_out r s.course).0
says_out Over s lane cpu now out d b k = silent (course_by Over s cpu now) out (turn_out s.header s.course).0
says_out w s lane cpu now out d b k = tt

drew_says : (o : Owner) (n : ℕ) (c : Course) (out : Mask) → Out_of c out → Out_of (drew o n c) out
drew_says (Queue u) n c out k = k
drew_says (Lane l) n c out k = k
drew_says Publisher n c out k = k

-- ---- every front
abbrev pub LeftOut : List Entry → MachineState → Type 0
LeftOut pre m = (lane : ℕ) → Out_of (course_at m.courses lane) (last_said left_out lane no_cpus pre)

left_out_step : (m : MachineState) (e : Entry) (pre : List Entry) → MayBeAdded m e → LeftOut pre m
    → LeftOut (pre ++ e ∷ []) (after m e)
unfolding after course_after sight
left_out_step m e pre a k lane = elim (cases_eq e.lane lane) [
  | inl same ↦
      let at : course_at (after m e).courses e.lane ≡ course_after (sight m e) e =
      get_or-set_same m.courses e.lane (course_after (sight m e) e) no_course (lane_there m e a) in
      let out = last_said left_out e.lane no_cpus pre in
      let now = drew_says e.owner ((sight m e).count + 1) _ (left_out e.what out)
      (says_out e.what (sight m e) e.lane (cpu_of e.owner) (queue_after (sight m e) e) out (form_lets m e a).1
      (unbroken_here m e a DecisionRule) (k e.lane)) in
      subst (λ (l : ℕ). Out_of (course_at (after m e).courses l) (last_said left_out l no_cpus (pre ++ e ∷ []))) same
      (subst (λ (c : Course). Out_of c (last_said left_out e.lane no_cpus (pre ++ e ∷ []))) (sym at)
      (subst (Out_of (course_after (sight m e) e)) (sym (own_said left_out e.lane no_cpus pre e refl)) now))
  | inr other ↦
      let at : course_at (after m e).courses lane ≡ course_at m.courses lane =
      get_or-set_other m.courses e.lane lane (course_after (sight m e) e) no_course (λ z. other (sym z)) in
      subst (λ (c : Course). Out_of c (last_said left_out lane no_cpus (pre ++ e ∷ []))) (sym at)
      (subst (Out_of (course_at m.courses lane)) (sym (other_said left_out lane no_cpus pre e other)) (k lane))
]

rest_silent : (f : Form) (c : Course) (out : Mask) → is_rest f ≡ true → SaysOut f (left_of c) out
rest_silent Rest c out h = tt
rest_silent f c out h = absurd (let y : ⊥ = cc in y)

left_out_start : (h : Header) → LeftOut [] (start h)
left_out_start h lane = rest_silent (course_at (start h).courses lane).form (course_at (start h).courses lane) no_cpus
    (opening_rests h lane)

pub left_out_at : (h : Header) (es : List Entry) → MayFollow es (start h) → LeftOut es (run es (start h))
left_out_at h es l = front_holds LeftOut (λ pre m e a k. left_out_step m e pre a k) es [] (start h) l (left_out_start h)
