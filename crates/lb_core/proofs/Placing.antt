-- Each step of the machine keeps each task at one place. For callers too: what an entry that may be added
-- says of its lane, its CPU, its form and the tasks that leave.
-- For the lemmas of `AfterTake`, `Agreeing` and other files, and so for the laws `choices`, `one_serial_history` and
-- others; cited by `lb_journal`, `lb_ready` and other crates too.
use Rattle.std.proofs.Common.{◌≡◌, ℕ, ◌+◌, ◌<◌, ◌≤◌, Bool, true, false, not, cond, ◌||◌, ltb, List, [], ◌∷◌, length, Option, Some, None, refl, sym, ◌∙◌, ap, arith, subst, inl, inr, get_or-set_same, get_or-set_other}
use Rattle.std.proofs.lemmas.Bool.{or_parts, and_parts, not-false, ltb-true, cases_eq}
use Rattle.lb_queue.specs.declared.record.TaskRecord.{TaskRecord}
use Rattle.lb_queue.specs.declared.answers.Reply.{Reply}
use Rattle.lb_queue.specs.declared.answers.Reply.TheVariants.{NotHere}
use Rattle.lb_queue.specs.declared.answers.OutCause.{OutCause}
use Rattle.lb_queue.specs.Tasks.{ids}
use Rattle.lb_queue.specs.Queue.{QueueState}
use Rattle.lb_queue.specs.Requests.{ask_active, kick}
use Rattle.lb_queue.specs.Turns.{close_look}
use Rattle.lb_trace.specs.declared.trace.Command.{Command}
use Rattle.lb_core.specs.declared.course.Course.{Course}
use Rattle.lb_core.specs.declared.place.Place.{Place}
use Rattle.lb_core.specs.declared.place.Place.TheVariants.{Awake as AwakeAt, Asleep as AsleepAt, Hand as HandOf}
use Rattle.lb_core.specs.declared.rule.Rule.TheVariants.{Stage, Reply as ReplyRule, Pick, Flight}
use Rattle.lb_core.specs.declared.entry.Owner.{Owner}
use Rattle.lb_core.specs.declared.entry.Owner.TheVariants.{Queue}
use Rattle.lb_core.specs.declared.entry.What.{What}
use Rattle.lb_core.specs.declared.entry.What.TheVariants.{Did, Out, Landed, Turn, Shut, Close, Ask, Kick, Over}
use Rattle.lb_core.specs.declared.entry.Entry.{Entry}
use Rattle.lb_core.specs.Same.{same_reply}
use Rattle.lb_core.specs.Sight.{Sight}
use Rattle.lb_core.specs.Stage.{draws, is_owner, queue_due, stage_allows}
use Rattle.lb_core.specs.Leaving.{Leaving, leaving, out_by}
use Rattle.lb_core.specs.Rules.{is_other_out, leaves_instead}
use Rattle.lb_core.specs.QueueAfter.{answer_to, cause_of, queue_after, queue_by, rest_of}
use Rattle.lb_core.specs.CourseAfter.{course_after, drew, cpu_of, takes_off}
use Rattle.lb_core.specs.Machine.{MachineState, no_queue, queue_at, course_at, sight}
use Rattle.lb_core.specs.Step.{after, places_after, queues_after, set_places}
use Rattle.lb_core.specs.Legal.{MayBeAdded, run, MayFollow}
use Rattle.lb_core.specs.Placed.{is_flight, times, is_its_place, IsPlaced, HandsRest}
use Rattle.lb_queue.specs.Calls.Call.{Land}
use Rattle.lb_queue.specs.Moves.{OnHand, OnAwake, AreDistinct, HasMoved}
use Rattle.lb_queue.specs.Laws.{CallsMove}
use Rattle.lb_core.proofs.Equality.{numbers_same, reply_is}
use Rattle.lb_core.proofs.Unbroken.{unbroken_here, unbroken_elsewhere}
use Rattle.lb_core.proofs.EmptyHands.{is_landing, is_out, not_in_flight, hand_after}
use Rattle.lb_core.proofs.Places.{IsChanged, course_same, course_other, placed_by_flow}
use Rattle.lb_core.proofs.Leavings.{is_left}
use Rattle.lb_core.proofs.Carrying.{Carried, lists_of, unmoved, answers, out_leaves}

-- ---- what is kept
pub record Kept (m : MachineState) : Type 0 where
  pub placed : IsPlaced m
  pub hands : HandsRest m

abbrev pub entry : Owner → ℕ → ℕ → What → Entry
entry o lane prev w = record { owner = o; lane = lane; prev = prev; what = w }

-- ---- what the rules say
pub lane_there : (m : MachineState) (e : Entry) → MayBeAdded m e → e.lane < length m.courses
lane_there m e h =
    let s = or_parts _ _ (unbroken_elsewhere m e h Stage) in
    let t = or_parts _ _ s.0 in
    let u = or_parts (not (ltb e.lane (length m.courses))) _ t.0 in
    ltb-true e.lane (length m.courses) (not-false _ u.0)

pub cpu_there : (m : MachineState) (cpu lane prev : ℕ) (w : What) → MayBeAdded m (entry (Queue cpu) lane prev w)
    → cpu < length m.queues
cpu_there m cpu lane prev w h =
    let s = or_parts _ _ (unbroken_elsewhere m (entry (Queue cpu) lane prev w) h Stage) in
    let t = or_parts _ _ s.0 in
    let u = or_parts (not (ltb lane (length m.courses))) (not (ltb cpu (length m.queues))) t.0 in
    ltb-true cpu (length m.queues) (not-false _ u.1)

-- the entry is its owner's, and the form draws its kind
pub form_lets : (m : MachineState) (e : Entry) → MayBeAdded m e →
    (is_owner e.what e.lane (queue_due (course_at m.courses e.lane).form (course_at m.courses e.lane)) e.owner ≡ true)
    × (draws (course_at m.courses e.lane).form m.header (course_at m.courses e.lane) (sight m e).queue e.lane e.what ≡ true)
unfolding stage_allows sight
form_lets m e h = and_parts _ _ (not-false (stage_allows (sight m e) e) (unbroken_here m e h Stage))

-- a hand is empty but in flight
pub empty_hand : (m : MachineState) (e : Entry) → Kept m → MayBeAdded m e → is_landing e.what ≡ false
    → (course_at m.courses e.lane).hand ≡ []
empty_hand m e k h n = k.hands e.lane (not_in_flight _ _ _ _ e.lane e.what n (form_lets m e h).1)

one_at_most : (b : Bool) → cond {A = ℕ} b 1 0 ≤ 1
one_at_most true = omega arith
one_at_most false = omega arith

times_one : (m : MachineState) → IsPlaced m → (p : Place) (t : ℕ) → times m p t ≤ 1
times_one m placed p t = let o = one_at_most (is_its_place m p t) in let e = placed.once p t in omega arith

pub distinct : (m : MachineState) (cpu : ℕ) → IsPlaced m → AreDistinct (queue_at m.queues cpu)
distinct m cpu placed = record { awake = times_one m placed (AwakeAt cpu); asleep = times_one m placed (AsleepAt cpu) }

-- ---- the machine after an entry of a queue
pub queue_changed : (m : MachineState) (cpu lane prev : ℕ) (w : What) → MayBeAdded m (entry (Queue cpu) lane prev w) →
    IsChanged m (after m (entry (Queue cpu) lane prev w)) cpu lane
    (queue_after (sight m (entry (Queue cpu) lane prev w)) (entry (Queue cpu) lane prev w))
    (course_after (sight m (entry (Queue cpu) lane prev w)) (entry (Queue cpu) lane prev w))
unfolding after
queue_changed m cpu lane prev w h = record {
  this_queue = get_or-set_same m.queues cpu _ no_queue (cpu_there m cpu lane prev w h);
  other_queue = λ u n. get_or-set_other m.queues cpu u _ no_queue n;
  lane_there = lane_there m (entry (Queue cpu) lane prev w) h;
  header = refl;
  courses = refl;
}

hands_kept : (m m' : MachineState) (cpu lane : ℕ) (q : QueueState) (c : Course) → IsChanged m m' cpu lane q c
    → ((l : ℕ) → is_flight (course_at m.courses l).form ≡ false → (course_at m.courses l).hand ≡ []) →
    (is_flight c.form ≡ false → c.hand ≡ []) → (l : ℕ) → is_flight (course_at m'.courses l).form ≡ false
    → (course_at m'.courses l).hand ≡ []
hands_kept m m' cpu lane q c h old new l = elim (cases_eq l lane) [
  | inl e ↦ let k : course_at m'.courses l ≡ c = ap (course_at m'.courses) e ∙ course_same m m' cpu lane q c h in rw k new
  | inr n ↦ let k = course_other m m' cpu lane q c h l n in rw k (old l)
]

carry : (m m' : MachineState) (cpu lane : ℕ) (q : QueueState) (c : Course) → IsChanged m m' cpu lane q c → Kept m
    → (h' : List TaskRecord) → h' ≡ c.hand →
    Carried (queue_at m.queues cpu) (course_at m.courses lane).hand q h' cpu lane m.places m'.places
    → (is_flight c.form ≡ false → c.hand ≡ []) → Kept m'
carry m m' cpu lane q c h k h' e d n = record {
  placed = placed_by_flow m m' cpu lane q c d.move.tasks d.move.from d.move.to h d.map d.apart
      (subst (λ (x : List TaskRecord). HasMoved d.move (queue_at m.queues cpu) (course_at m.courses lane).hand q x) e
      d.moved) k.placed;
  hands = hands_kept m m' cpu lane q c h k.hands n;
}

pub course_hand : (m : MachineState) (e : Entry) → Kept m → MayBeAdded m e → is_out e.what ≡ false
    → (course_after (sight m e) e).hand ≡ []
unfolding sight course_after
course_hand m e k h o = hand_after e.what (sight m e) e.owner ((sight m e).count + 1) (cpu_of e.owner)
    (queue_after (sight m e) e) o (λ n. empty_hand m e k h n)

-- ---- the answer to a row
did_kept : CallsMove → (m : MachineState) (cpu lane prev : ℕ) (r : Reply) → Kept m
    → MayBeAdded m (entry (Queue cpu) lane prev (Did r)) → Kept (after m (entry (Queue cpu) lane prev (Did r)))
unfolding after sight queue_after
did_kept law m cpu lane prev r k h =
    let e = entry (Queue cpu) lane prev (Did r) in
    let c = course_at m.courses lane in
    let q = queue_at m.queues cpu in
    let empty = empty_hand m e k h refl in
    let empty' = course_hand m e k h refl in
    let said = or_parts (leaves_instead c.command q || same_reply r NotHere) _ (unbroken_here m e h ReplyRule) in
    let a = answers law c.command r c.at cpu lane q m.places (distinct m cpu k.placed)
    (reply_is r (answer_to c.command c.at q).0 (not-false _ said.1)) in
    let now = queue_after (sight m e) e in
    carry m _ cpu lane _ _ (queue_changed m cpu lane prev (Did r) h) k [] (sym empty')
    (subst (λ (x : List TaskRecord). Carried q x now [] cpu lane m.places
    (places_after (Did r) (Queue cpu) lane c.command m.places)) (sym empty) a)
    (λ _. empty')

-- ---- a landing
landed_kept : CallsMove → (m : MachineState) (cpu lane prev : ℕ) (ts : List ℕ) → Kept m
    → MayBeAdded m (entry (Queue cpu) lane prev (Landed ts)) → Kept (after m (entry (Queue cpu) lane prev (Landed ts)))
unfolding after sight queue_after
landed_kept law m cpu lane prev ts k h =
    let e = entry (Queue cpu) lane prev (Landed ts) in
    let c = course_at m.courses lane in
    let q = queue_at m.queues cpu in
    let empty' = course_hand m e k h refl in
    let same : ts ≡ ids c.hand = numbers_same ts (ids c.hand) (not-false _ (unbroken_here m e h Flight)) in
    carry m _ cpu lane _ _ (queue_changed m cpu lane prev (Landed ts) h) k [] (sym empty')
    (record {
      move = record { tasks = ids c.hand; from = OnHand; to = OnAwake };
      apart = refl;
      moved = law q (distinct m cpu k.placed) (Land c.at (cause_of c) c.moment c.hand);
      map = rw same refl;
    })
    (λ _. empty')

-- ---- tasks that leave
pub leaving_is : (o : Option Leaving) (cause : OutCause) (to : ℕ) (ts : List ℕ) → is_other_out o cause to ts ≡ false
    → (l : Leaving) × (o ≡ Some l) × (ts ≡ ids l.hand)
leaving_is None cause to ts h = absurd (let k : ⊥ = cc in k)
leaving_is (Some l) cause to ts h = let p = or_parts _ _ h in (l, refl, numbers_same ts (ids l.hand) (not-false _ p.1))

pub flight_end : (o : Option Leaving) (c : Course) (cpu n : ℕ) (l : Leaving) → o ≡ Some l
    → (is_flight (drew (Queue cpu) n (takes_off o c)).form ≡ true) × ((drew (Queue cpu) n (takes_off o c)).hand ≡ l.hand)
flight_end None c cpu n l h = absurd (let k : ⊥ = cc in k)
flight_end (Some x) c cpu n l h = let k : x ≡ l = cc in (refl, ap (λ (y : Leaving). y.hand) k)

out_kept : CallsMove → (m : MachineState) (cpu lane prev : ℕ) (cause : OutCause) (to : ℕ) (ts : List ℕ) → Kept m
    → MayBeAdded m (entry (Queue cpu) lane prev (Out cause to ts))
    → Kept (after m (entry (Queue cpu) lane prev (Out cause to ts)))
unfolding after sight queue_after course_after leaving
out_kept law m cpu lane prev cause to ts k h =
    let e = entry (Queue cpu) lane prev (Out cause to ts) in
    let c = course_at m.courses lane in
    let q = queue_at m.queues cpu in
    let o = out_by c.form m.header c q in
    let empty : c.hand ≡ [] = empty_hand m e k h refl in
    let found = leaving_is o cause to ts (unbroken_here m e h Pick) in
    let l : Leaving = found.0 in
    let is : o ≡ Some l = found.1 in
    let gone = out_leaves law q l (is_left c.form m.header c q l is) (distinct m cpu k.placed) in
    let rest : rest_of o q ≡ l.rest = ap (λ (x : Option Leaving). rest_of x q) is in
    let f = subst (λ (y : QueueState). HasMoved
    (record { tasks = ids l.hand; from = gone.from; to = OnHand }) q [] y l.hand) (sym rest) gone.moved in
    let g = subst (λ (x : List TaskRecord). HasMoved
    (record { tasks = ids l.hand; from = gone.from; to = OnHand }) q x (rest_of o q) l.hand) (sym empty) f in
    let z = flight_end o c cpu ((sight m e).count + 1) l is in
    carry m _ cpu lane _ _ (queue_changed m cpu lane prev (Out cause to ts) h) k l.hand (sym z.1)
    (record {
      move = record { tasks = ids l.hand; from = gone.from; to = OnHand };
      apart = gone.apart;
      moved = g;
      map = ap (λ (x : List ℕ). set_places x (HandOf lane) m.places) found.2;
    })
    (λ n. absurd (let w = z.0 in let y : ⊥ = cc in y))

-- ---- other entries of a queue
abbrev pub is_still : What → Bool
is_still (Turn ps) = true
is_still Shut = true
is_still (Close p w i f) = true
is_still (Ask r) = true
is_still (Kick r) = true
is_still Over = true
is_still w = false

pub still_lists : (w : What) (s : Sight) (lane : ℕ) → is_still w ≡ true → lists_of (queue_by w s lane) ≡ lists_of s.queue
unfolding close_look ask_active kick
still_lists (Turn ps) s lane n = refl
still_lists Shut s lane n = refl
still_lists (Close p w i f) s lane n = refl
still_lists (Ask r) s lane n = refl
still_lists (Kick r) s lane n = refl
still_lists Over s lane n = refl
still_lists w s lane n = absurd (let k : ⊥ = cc in k)

pub still_facts : (w : What) → is_still w ≡ true → (is_landing w ≡ false) × (is_out w ≡ false)
still_facts (Turn ps) h = (refl, refl)
still_facts Shut h = (refl, refl)
still_facts (Close p w i f) h = (refl, refl)
still_facts (Ask r) h = (refl, refl)
still_facts (Kick r) h = (refl, refl)
still_facts Over h = (refl, refl)
still_facts w h = absurd (let k : ⊥ = cc in k)

still_places : (w : What) (o : Owner) (lane : ℕ) (c : Option Command) (places : List Place) → is_still w ≡ true
    → places_after w o lane c places ≡ places
still_places (Turn ps) o lane c places h = refl
still_places Shut o lane c places h = refl
still_places (Close p w i f) o lane c places h = refl
still_places (Ask r) o lane c places h = refl
still_places (Kick r) o lane c places h = refl
still_places Over o lane c places h = refl
still_places w o lane c places h = absurd (let k : ⊥ = cc in k)

still_kept : (m : MachineState) (cpu lane prev : ℕ) (w : What) → is_still w ≡ true → Kept m
    → MayBeAdded m (entry (Queue cpu) lane prev w) → Kept (after m (entry (Queue cpu) lane prev w))
unfolding after sight queue_after
still_kept m cpu lane prev w n k h =
    let e = entry (Queue cpu) lane prev w in
    let c = course_at m.courses lane in
    let empty = empty_hand m e k h (still_facts w n).0 in
    let empty' = course_hand m e k h (still_facts w n).1 in
    carry m _ cpu lane _ _ (queue_changed m cpu lane prev w h) k c.hand (empty ∙ sym empty')
    (unmoved (queue_at m.queues cpu) c.hand _ cpu lane m.places _ (still_lists w (sight m e) lane n)
    (still_places w (Queue cpu) lane c.command m.places n))
    (λ _. empty')

-- ---- entries of a lane and of the publisher
abbrev pub is_quiet : What → Bool
is_quiet (Did r) = false
is_quiet (Out c to ids) = false
is_quiet (Landed ids) = false
is_quiet w = true

abbrev pub is_no_queue : Owner → Bool
is_no_queue (Queue cpu) = false
is_no_queue o = true

pub quiet_facts : (w : What) → is_quiet w ≡ true → (is_landing w ≡ false) × (is_out w ≡ false)
quiet_facts (Did r) h = absurd (let k : ⊥ = cc in k)
quiet_facts (Out c to ids) h = absurd (let k : ⊥ = cc in k)
quiet_facts (Landed ids) h = absurd (let k : ⊥ = cc in k)
quiet_facts w h = (refl, refl)

quiet_places : (w : What) (o : Owner) (lane : ℕ) (c : Option Command) (places : List Place) → is_quiet w ≡ true
    → places_after w o lane c places ≡ places
quiet_places (Did r) o lane c places h = absurd (let k : ⊥ = cc in k)
quiet_places (Out x to ids) o lane c places h = absurd (let k : ⊥ = cc in k)
quiet_places (Landed ids) o lane c places h = absurd (let k : ⊥ = cc in k)
quiet_places w o lane c places h = refl

pub no_queue_changes : (o : Owner) (q : QueueState) (qs : List QueueState) → is_no_queue o ≡ true → queues_after o q qs ≡ qs
no_queue_changes (Queue cpu) q qs h = absurd (let k : ⊥ = cc in k)
no_queue_changes o q qs h = refl

quiet_kept : (m : MachineState) (o : Owner) (lane prev : ℕ) (w : What) → is_no_queue o ≡ true → is_quiet w ≡ true → Kept m
    → MayBeAdded m (entry o lane prev w) → Kept (after m (entry o lane prev w))
unfolding after sight
quiet_kept m o lane prev w b n k h =
    let e = entry o lane prev w in
    let c = course_at m.courses lane in
    let empty = empty_hand m e k h (quiet_facts w n).0 in
    let empty' = course_hand m e k h (quiet_facts w n).1 in
    let qs = no_queue_changes o (queue_after (sight m e) e) m.queues b in
    carry m (after m e) 0 lane (queue_at m.queues 0) (course_after (sight m e) e)
    (record {
      this_queue = ap (λ (x : List QueueState). queue_at x 0) qs;
      other_queue = λ u z. ap (λ (x : List QueueState). queue_at x u) qs;
      lane_there = lane_there m e h;
      header = refl;
      courses = refl;
    })
    k c.hand (empty ∙ sym empty')
    (unmoved (queue_at m.queues 0) c.hand (queue_at m.queues 0) 0 lane m.places _ refl
    (quiet_places w o lane c.command m.places n))
    (λ _. empty')

-- ---- each entry
pub owner_wrong : (m : MachineState) (o : Owner) (lane prev : ℕ) (w : What)
    → ((due : Option ℕ) → is_owner w lane due o ≡ false) → MayBeAdded m (entry o lane prev w) → ⊥
owner_wrong m o lane prev w n h =
    let k = (form_lets m (entry o lane prev w) h).0 in
    let z = n (queue_due (course_at m.courses lane).form (course_at m.courses lane)) in
    let y : ⊥ = cc in y

pub step_kept : CallsMove → (m : MachineState) (o : Owner) (lane prev : ℕ) (w : What) → Kept m
    → MayBeAdded m (entry o lane prev w) → Kept (after m (entry o lane prev w))
step_kept law m (Queue cpu) lane prev (Did r) k h = did_kept law m cpu lane prev r k h
step_kept law m o lane prev (Did r) k h = absurd (owner_wrong m o lane prev (Did r) (λ _. refl) h)
step_kept law m (Queue cpu) lane prev (Out cause to ts) k h = out_kept law m cpu lane prev cause to ts k h
step_kept law m o lane prev (Out cause to ts) k h = absurd (owner_wrong m o lane prev (Out cause to ts) (λ _. refl) h)
step_kept law m (Queue cpu) lane prev (Landed ts) k h = landed_kept law m cpu lane prev ts k h
step_kept law m o lane prev (Landed ts) k h = absurd (owner_wrong m o lane prev (Landed ts) (λ _. refl) h)
step_kept law m (Queue cpu) lane prev (Turn ps) k h = still_kept m cpu lane prev (Turn ps) refl k h
step_kept law m (Queue cpu) lane prev Shut k h = still_kept m cpu lane prev Shut refl k h
step_kept law m (Queue cpu) lane prev (Close p w i f) k h = still_kept m cpu lane prev (Close p w i f) refl k h
step_kept law m (Queue cpu) lane prev (Ask r) k h = still_kept m cpu lane prev (Ask r) refl k h
step_kept law m (Queue cpu) lane prev (Kick r) k h = still_kept m cpu lane prev (Kick r) refl k h
step_kept law m (Queue cpu) lane prev Over k h = still_kept m cpu lane prev Over refl k h
step_kept law m (Queue cpu) lane prev w k h = absurd (owner_wrong m (Queue cpu) lane prev w (λ _. refl) h)
step_kept law m o lane prev w k h = quiet_kept m o lane prev w refl refl k h

pub run_kept : CallsMove → (es : List Entry) (m : MachineState) → Kept m → MayFollow es m → Kept (run es m)
run_kept law [] m k h = k
run_kept law (e ∷ es) m k h = run_kept law es (after m e) (step_kept law m e.owner e.lane e.prev e.what k h.0) h.1
