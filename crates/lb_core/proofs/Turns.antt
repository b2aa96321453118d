-- The number and the moment of each lane's last row. While a lane is in a turn, its course keeps what
-- its last `use` took up, and from the opening of the turn on the queue of its CPU is at that version and
-- has the turn open, with the positions of the course, and with the counters that the turn found at each
-- position that is not yet closed.
-- For the lemmas of `Excluded`, `OpenTurns` and other files, and so for the laws `turns_stay_open`, `permitted` and
-- others.
use Rattle.std.proofs.Common.{◌≡◌, ℕ, ◌-◌, ◌<◌, ◌≤◌, Bool, true, false, cond, ◌==◌, ◌&&◌, leb, ltb, List, [], ◌∷◌, ◌++◌, length, get_or, set, Option, Some, None, IfSome, IsSome, is_some, unwrap_or, refl, sym, ◌∙◌, ap, arith, subst, get_or-set_other}
use Rattle.std.proofs.lemmas.Bool.{and_parts, not-true, eqb-true, eq-eqb, ne_eqb, lt-ltb, le-leb, leb-true, ltb-true}
use Rattle.std.proofs.lemmas.List.{length-map}
use Rattle.lb_base.specs.declared.mask.Mask.{Mask}
use Rattle.lb_base.specs.declared.shape.Kind.{Kind}
use Rattle.lb_base.specs.declared.shape.Kind.TheVariants.{Tick as TickTurn, Idle, Nohz}
use Rattle.lb_base.specs.declared.shape.Shape.{Shape}
use Rattle.lb_base.specs.Mask.{has}
use Rattle.lb_base.specs.Sets.{least, least_above}
use Rattle.lb_domain.specs.declared.domain.Domain.{Domain}
use Rattle.lb_domain.specs.Domains.{domains_of}
use Rattle.lb_domain.specs.Laws.{StandInOrder}
use Rattle.lb_interval.specs.declared.Counters.{Counters}
use Rattle.lb_queue.specs.declared.answers.AskReply.{AskReply}
use Rattle.lb_queue.specs.declared.answers.AskReply.TheVariants.{New, Old}
use Rattle.lb_queue.specs.declared.answers.OpenTurn.{OpenTurn}
use Rattle.lb_queue.specs.declared.answers.OutCause.{OutCause}
use Rattle.lb_queue.specs.declared.answers.OutCause.TheVariants.{Wake as WakeOut, Stop as StopOut, Pull as PullOut, Push as PushOut}
use Rattle.lb_queue.specs.declared.answers.Stop.{Stop}
use Rattle.lb_queue.specs.Queue.{QueueState, away}
use Rattle.lb_queue.specs.Requests.{next_stop}
use Rattle.lb_queue.specs.Turns.{no_counters, counters_at, counters_found, positions_found, opened, counters_closed, close_look}
use Rattle.lb_trace.specs.declared.trace.Command.{Command}
use Rattle.lb_trace.specs.declared.trace.Command.TheVariants.{Wake, Sleep, Exit}
use Rattle.lb_trace.specs.declared.trace.Header.{Header}
use Rattle.lb_core.specs.declared.course.Course.{Course}
use Rattle.lb_core.specs.declared.course.Form.{Form}
use Rattle.lb_core.specs.declared.course.Form.TheVariants.{Rest, Asked, Flight, Serving, Used, Position, Looked, Landed as LandedForm, Closed, Done, ScanDue}
use Rattle.lb_core.specs.declared.entry.OutcomeWord.{OutcomeWord}
use Rattle.lb_core.specs.declared.entry.OutcomeWord.TheVariants.{NotMine as NotMineWord, Moved as MovedWord, Asking as AskingWord}
use Rattle.lb_core.specs.declared.entry.Owner.{Owner}
use Rattle.lb_core.specs.declared.entry.Owner.TheVariants.{Queue}
use Rattle.lb_core.specs.declared.entry.What.{What}
use Rattle.lb_core.specs.declared.entry.What.TheVariants.{Look, Scan, Did, Out, Landed, Turn, Shut, Close, Ask, Kick, Over}
use Rattle.lb_core.specs.declared.entry.Entry.{Entry}
use Rattle.lb_core.specs.Course.{turn_kind, is_tick, is_newly, is_pull, source_of, turn_domains, turn_domain, shapes_of, outcome_of, flag_of}
use Rattle.lb_core.specs.Sight.{Sight, tickless_in}
use Rattle.lb_core.specs.Stage.{draws, queue_due, is_queue, is_owner, target_of}
use Rattle.lb_core.specs.Leaving.{Leaving, leaving, wake_to, wake_out, stop_out, push_out, served_out, out_by}
use Rattle.lb_core.specs.QueueAfter.{cause_of}
use Rattle.lb_core.specs.CourseAfter.{course_by, goes_to, scanned, kicks_next, kicked, turn_ends_by, turn_ends, after_sleep, answered, lands, closes, takes_off, comes_to_rest, begins_anew, lets_go, left_idle, raised_numbers}
use Rattle.lb_core.specs.LaneEntries.{last_said, row_or}
use Rattle.lb_core.proofs.AtWork.{clash}
use Rattle.lb_core.proofs.Quiet.{TurnPart, part_of, turns}
use Rattle.lb_core.proofs.Positions.{least_has, above_has, AreMany, positions_below}

-- ---- the last `use` in a longer list
last-snoc : {A : Type 0} (f : What → A → A) (lane : ℕ) (o : A) (pre : List Entry) (e : Entry)
    → last_said f lane o (pre ++ e ∷ []) ≡ cond (e.lane == lane) (f e.what (last_said f lane o pre)) (last_said f lane o pre)
last-snoc f lane o [] e = refl
last-snoc f lane o (x ∷ pre) e = last-snoc f lane (cond (x.lane == lane) (f x.what o) o) pre e

pub own_said : {A : Type 0} (f : What → A → A) (lane : ℕ) (o : A) (pre : List Entry) (e : Entry) → e.lane ≡ lane
    → last_said f lane o (pre ++ e ∷ []) ≡ f e.what (last_said f lane o pre)
own_said f lane o pre e own = let b = eq-eqb e.lane lane own in last-snoc f lane o pre e ∙ rw b refl

pub other_said : {A : Type 0} (f : What → A → A) (lane : ℕ) (o : A) (pre : List Entry) (e : Entry)
    → (e.lane ≡ lane → ⊥) → last_said f lane o (pre ++ e ∷ []) ≡ last_said f lane o pre
other_said f lane o pre e other = let b = ne_eqb e.lane lane other in last-snoc f lane o pre e ∙ rw b refl

-- ---- forms
abbrev pub is_pull_cause : OutCause → Bool
is_pull_cause PullOut = true
is_pull_cause cause = false

abbrev pub turning : Form → OutCause → Bool
turning Used o = true
turning Position o = true
turning Looked o = true
turning LandedForm o = true
turning Closed o = true
turning Done o = true
turning Flight o = is_pull_cause o
turning f o = false

abbrev pub in_turn : Course → Bool
in_turn c = turning c.form (cause_of c)

-- the lane's turn is open
abbrev pub opens : Form → OutCause → Bool
opens Used o = false
opens f o = turning f o

abbrev pub is_open : Course → Bool
is_open c = opens c.form (cause_of c)

pub open_turns : (f : Form) (o : OutCause) → opens f o ≡ true → turning f o ≡ true
open_turns Used o h = absurd (let y : ⊥ = cc in y)
open_turns f o h = h

-- its position is not closed
abbrev pub working : Form → Bool
working Closed = false
working Done = false
working f = true

abbrev pub is_closed : Form → Bool
is_closed Closed = true
is_closed f = false

-- the counters at position p are those that the turn found
abbrev pub stands : Form → ℕ → ℕ → Bool
stands f position p = cond (working f) (leb position p) (is_closed f && ltb position p)

pub still : (f : Form) (position : ℕ) → working f ≡ true → stands f position position ≡ true
still f position w = rw w (le-leb position position (omega arith))

-- by their forms
pub look_works : (f : Form) (h : Header) (c : Course) (q : QueueState) (lane p : ℕ) (x : Mask) (names : _) (d : _)
    (o : OutCause) → draws f h c q lane (Look p x names d) ≡ true → (opens f o ≡ true) × (working f ≡ true)
unfolding draws
look_works Position h c q lane p x names d o k = (refl, refl)
look_works LandedForm h c q lane p x names d o k = (refl, refl)
look_works f h c q lane p x names d o k = absurd (let y : ⊥ = cc in y)

pub close_works : (f : Form) (h : Header) (c : Course) (q : QueueState) (lane p : ℕ) (w : OutcomeWord) (i n : ℕ)
    (o : OutCause) → draws f h c q lane (Close p w i n) ≡ true → (opens f o ≡ true) × (working f ≡ true)
unfolding draws
close_works Looked h c q lane p w i n o k = (refl, refl)
close_works LandedForm h c q lane p w i n o k = (refl, refl)
close_works f h c q lane p w i n o k = absurd (let y : ⊥ = cc in y)

pub out_works : (f : Form) (h : Header) (c : Course) (q : QueueState) (lane : ℕ) (cause : OutCause) (to : ℕ)
    (ts : List ℕ) (o o' : OutCause) → draws f h c q lane (Out cause to ts) ≡ true → turning f o' ≡ true
    → (opens f o ≡ true) × (working f ≡ true)
unfolding draws
out_works Looked h c q lane cause to ts o o' k t = (refl, refl)
out_works f h c q lane cause to ts o o' k t = absurd (let y : ⊥ = cc in y)

pub landed_works : (f : Form) (h : Header) (c : Course) (q : QueueState) (lane : ℕ) (ts : List ℕ)
    → draws f h c q lane (Landed ts) ≡ true → (opens f PullOut ≡ true) × (working f ≡ true)
unfolding draws
landed_works Flight h c q lane ts k = (refl, refl)
landed_works f h c q lane ts k = absurd (let y : ⊥ = cc in y)

pub ask_closed : (f : Form) (h : Header) (c : Course) (q : QueueState) (lane : ℕ) (r : _)
    → draws f h c q lane (Ask r) ≡ true → f ≡ Closed
unfolding draws
ask_closed Closed h c q lane r k = refl
ask_closed f h c q lane r k = absurd (let y : ⊥ = cc in y)

pub over_opens : (f : Form) (h : Header) (c : Course) (q : QueueState) (lane : ℕ) (o : OutCause)
    → draws f h c q lane Over ≡ true → opens f o ≡ true
unfolding draws
over_opens Done h c q lane o d = refl
over_opens f h c q lane o d = absurd (let y : ⊥ = cc in y)

pub turn_used : (f : Form) (h : Header) (c : Course) (q : QueueState) (lane : ℕ) (ps : Mask)
    → draws f h c q lane (Turn ps) ≡ true → f ≡ Used
unfolding draws
turn_used Used h c q lane ps k = refl
turn_used f h c q lane ps k = absurd (let y : ⊥ = cc in y)

-- ---- a pull leaves in a turn alone
abbrev NoPull : Option Leaving → Type 0
NoPull o = (l : Leaving) → o ≡ Some l → is_pull_cause l.cause ≡ false

wake_no_pull : (d : Option ℕ) (at t : ℕ) (q : QueueState) → NoPull (wake_to d at t q)
wake_no_pull None at t q l e = absurd (let y : ⊥ = cc in y)
wake_no_pull (Some to) at t q l e = ap is_pull_cause (sym (let k : WakeOut ≡ l.cause = cc in k))

stop_no_pull : (o : Option Stop) (at : ℕ) (q : QueueState) → NoPull (stop_out o at q)
stop_no_pull None at q l e = absurd (let y : ⊥ = cc in y)
stop_no_pull (Some stop) at q l e = ap is_pull_cause (sym (let k : StopOut ≡ l.cause = cc in k))

push_no_pull : (o : Option ℕ) (at : ℕ) (q : QueueState) → NoPull (push_out o at q)
push_no_pull None at q l e = absurd (let y : ⊥ = cc in y)
push_no_pull (Some to) at q l e = ap is_pull_cause (sym (let k : PushOut ≡ l.cause = cc in k))

served_no_pull : (o : Option Stop) (at : ℕ) (q : QueueState) → NoPull (served_out o at q)
served_no_pull None at q l e = push_no_pull q.active at q l e
served_no_pull (Some stop) at q l e = stop_no_pull (Some stop) at q l e

command_no_pull : (command : Option Command) (at : ℕ) (q : QueueState) → NoPull (wake_out command at q)
command_no_pull (Some (Wake t)) at q l e = wake_no_pull (away q t) at t q l e
command_no_pull command at q l e = absurd (let y : ⊥ = cc in y)

pub pull_turns : (f : Form) (h : Header) (c : Course) (q : QueueState) (l : Leaving) (o : OutCause)
    → out_by f h c q ≡ Some l → is_pull_cause l.cause ≡ true → turning f o ≡ true
pull_turns Looked h c q l o e k = refl
pull_turns Rest h c q l o e k = absurd (clash _ k (stop_no_pull (next_stop q false) c.at q l e))
pull_turns Asked h c q l o e k = absurd (clash _ k (command_no_pull c.command c.at q l e))
pull_turns Serving h c q l o e k = absurd (clash _ k (served_no_pull (next_stop q true) c.at q l e))
pull_turns f h c q l o e k = absurd (let y : ⊥ = cc in y)

-- ---- entries after which the lane is in no turn
-- the number and the moment of the last row
abbrev pub row_part : Course → ℕ × ℕ
row_part c = (c.rows, c.at)

-- the lane is in no turn, and its row stays
abbrev pub Out_ : Course → Course → Type 0
Out_ c c' = (in_turn c' ≡ false) × (row_part c' ≡ row_part c)

cond_out : (b : Bool) (c x y : Course) → Out_ c x → Out_ c y → Out_ c (cond b x y)
cond_out true c x y h k = h
cond_out false c x y h k = k

next_out : (p : Option ℕ) (c : Course) → Out_ c (kicks_next p c)
next_out None c = (refl, refl)
next_out (Some p) c = (refl, refl)

pub scanned_out : (p : Option ℕ) (c : Course) → Out_ c (scanned p c)
scanned_out None c = (refl, refl)
scanned_out (Some p) c = (refl, refl)

pub kicked_out : (r : AskReply) (c : Course) → Out_ c (kicked r c)
kicked_out New c = next_out (target_of c) c
kicked_out Old c = (refl, refl)

ends_out : (k : Kind) (h : Header) (c : Course) → Out_ c (turn_ends_by k h c)
ends_out TickTurn h c = cond_out (ltb 1 c.awake && ltb 0 (length (turn_domains h c))) c
    (record (begins_anew c) { form = ScanDue }) (comes_to_rest c) (refl, refl) (refl, refl)
ends_out Idle h c = (refl, refl)
ends_out Nohz h c = next_out (least_above (tickless_in c.figures) c.cpu) c

pub turn_out : (h : Header) (c : Course) → Out_ c (turn_ends h c)
unfolding turn_ends
turn_out h c = ends_out (turn_kind c) h c

sleep_out : (b : Bool) (cpu : ℕ) (c : Course) → Out_ c (after_sleep b cpu c)
sleep_out true cpu c = (refl, refl)
sleep_out false cpu c = (refl, refl)

pub answered_out : (command : Option Command) (cpu : ℕ) (before now : QueueState) (c : Course)
    → Out_ c (answered command cpu before now c)
answered_out (Some (Sleep t)) cpu before now c = sleep_out (left_idle t before now) cpu c
answered_out (Some (Exit t)) cpu before now c = sleep_out (left_idle t before now) cpu c
answered_out command cpu before now c = (refl, refl)

pub lands_out : (o : OutCause) (c : Course) → is_pull_cause o ≡ false → Out_ c (lands o c)
lands_out PullOut c h = absurd (let y : ⊥ = cc in y)
lands_out o c h = cond_out (is_tick c.command) c (record (lets_go c) { form = Serving }) (comes_to_rest c) (refl, refl)
    (refl, refl)

-- ---- the row of each course
goes_row : (p : Option ℕ) (c : Course) → row_part (goes_to p c) ≡ row_part c
goes_row None c = refl
goes_row (Some p) c = refl

closes_row : (w : OutcomeWord) (c : Course) → row_part (closes w c) ≡ row_part c
closes_row AskingWord c = refl
closes_row NotMineWord c = refl
closes_row MovedWord c = by_newly (is_newly (turn_kind c))
  where
    by_newly : (b : Bool) → row_part (cond b (goes_to None c) (goes_to (least_above c.positions c.position) c)) ≡ row_part c
    by_newly true = refl
    by_newly false = goes_row (least_above c.positions c.position) c
closes_row w c = goes_row (least_above c.positions c.position) c

off_row : (l : Option Leaving) (c : Course) → row_part (takes_off l c) ≡ row_part c
off_row None c = refl
off_row (Some l) c = refl

lands_row : (o : OutCause) (c : Course) → row_part (lands o c) ≡ row_part c
lands_row PullOut c = refl
lands_row o c = (lands_out o c refl).1

pub row_by : (w : What) (s : Sight) (cpu : ℕ) (now : QueueState) → row_part (course_by w s cpu now) ≡ row_or w (row_part s.course)
row_by (Scan names v) s cpu now = (scanned_out v
    (record s.course { figures = s.figs; named = raised_numbers names s.course.named })).1
row_by (Did r) s cpu now = (answered_out s.course.command cpu s.queue now s.course).1
row_by (Out cause to ts) s cpu now = off_row (leaving s) s.course
row_by (Landed ts) s cpu now = lands_row (cause_of s.course) s.course
row_by (Turn ps) s cpu now = goes_row (least ps) _
row_by Shut s cpu now = (turn_out s.header s.course).1
row_by (Close p w i n) s cpu now = closes_row w s.course
row_by (Ask r) s cpu now = goes_row (least_above s.course.positions s.course.position) s.course
row_by (Kick r) s cpu now = (kicked_out r s.course).1
row_by Over s cpu now = (turn_out s.header s.course).1
row_by w s cpu now = refl

-- ---- the queue of an entry that changes a turn
own_queue : (o : Owner) (cpu : ℕ) → is_queue o (Some cpu) ≡ true → o ≡ Queue cpu
own_queue (Queue u) cpu h = ap Queue (eqb-true u cpu h)
own_queue o cpu h = absurd (let y : ⊥ = cc in y)

-- it is that of the turn
not_pulled : (c : Course) (o : Owner) (b : Bool) → b ≡ false
    → is_queue o (Some (cond b (source_of c.decision) c.cpu)) ≡ true → o ≡ Queue c.cpu
not_pulled c o true n k = clash _ refl n
not_pulled c o false n k = own_queue o c.cpu k

pub own_turn : (f : Form) (h : Header) (c : Course) (q : QueueState) (lane : ℕ) (o : Owner) (w : What)
    → turns w ≡ true → is_owner w lane (queue_due f c) o ≡ true → draws f h c q lane w ≡ true → o ≡ Queue c.cpu
unfolding draws
own_turn Used h c q lane o (Turn ps) t k d = own_queue o c.cpu k
own_turn f h c q lane o (Turn ps) t k d = absurd (let y : ⊥ = cc in y)
own_turn Looked h c q lane o (Close p w i n) t k d =
    not_pulled c o (is_pull c.decision) (not-true _ (and_parts (is_some c.decision) _ d).1) k
own_turn LandedForm h c q lane o (Close p w i n) t k d = own_queue o c.cpu k
own_turn f h c q lane o (Close p w i n) t k d = absurd (let y : ⊥ = cc in y)
own_turn Done h c q lane o Over t k d = own_queue o c.cpu k
own_turn f h c q lane o Over t k d = absurd (let y : ⊥ = cc in y)
own_turn f h c q lane o w t k d = absurd (let y : ⊥ = cc in y)

-- ---- what stays of a course
-- what its last `use` took up
pub record UseKey : Type 0 where
  pub version : ℕ
  pub kind : Kind
  pub cpu : ℕ
  pub masks : List Mask

abbrev pub use_key : Course → UseKey
use_key c = record { version = c.version; kind = turn_kind c; cpu = c.cpu; masks = c.masks }

pub record Key : Type 0 where
  pub row : ℕ × ℕ
  pub taken_up : UseKey
  pub positions : Mask
  pub position : ℕ
  pub counters : List Counters

abbrev pub key_of : Course → Key
key_of c = record {
  row = row_part c;
  taken_up = use_key c;
  positions = c.positions;
  position = c.position;
  counters =
      c.counters;
}

-- the turn of the lane is open at a queue that keeps this part of itself
pub record IsOpenAt (lane : ℕ) (h : Header) (u : UseKey) (positions : Mask) (found : List Counters) (t : TurnPart) : Type 0 where
  pub opened : t.opened ≡ Some (record { lane = lane; kind = u.kind; positions = positions })
  pub version : t.version ≡ u.version
  pub below : (p : ℕ) → has positions p ≡ true → p < length (domains_of h.cpus h.distances u.masks u.cpu)
  pub are : t.counters ≡ Some found

pub record HasTurn (lane : ℕ) (h : Header) (u : UseKey) (f : Form) (k : Key) (t : TurnPart) : Type 0 where
  pub at : k.taken_up ≡ u
  pub found : List Counters
  pub there : IsOpenAt lane h u k.positions found t
  pub same : (p : ℕ) → stands f k.position p ≡ true → counters_at found p ≡ counters_at k.counters p
  pub one : working f ≡ true → has k.positions k.position ≡ true

abbrev pub Turned : ℕ → Header → UseKey → Course → TurnPart → Type 0
Turned lane h u c t = HasTurn lane h u c.form (key_of c) t

-- a position stays in work
pub reforms : (lane : ℕ) (h : Header) (u : UseKey) (f f' : Form) (k : Key) (t : TurnPart) → working f ≡ true
    → working f' ≡ true → HasTurn lane h u f k t → HasTurn lane h u f' k t
reforms lane h u f f' k t w w' a = record {
  at = a.at;
  found = a.found;
  there = a.there;
  same = λ p s. a.same p (rw w (let z : leb k.position p ≡ true = rw w' at s in z));
  one = λ _. a.one w;
}

-- the next position, or none
goes_on : (lane : ℕ) (h : Header) (u : UseKey) (c : Course) (t : TurnPart) (o : Option ℕ)
    → ((p : ℕ) → o ≡ Some p → least_above c.positions c.position ≡ Some p) → HasTurn lane h u Closed (key_of c) t
    → Turned lane h u (goes_to o c) t
goes_on lane h u c t None e a = record {
  at = a.at;
  found = a.found;
  there = a.there;
  same = λ p s. absurd (let y : ⊥ = cc in y);
  one = λ s. absurd (let y : ⊥ = cc in y);
}
goes_on lane h u c t (Some p) e a =
    let up = above_has c.positions c.position p (e p refl) in
    record {
      at = a.at;
      found = a.found;
      there = a.there;
      same = λ i s. a.same i (lt-ltb c.position i (let k = leb-true p i s in let l = up.0 in omega arith));
      one = λ _. up.1;
    }

pub next_on : (lane : ℕ) (h : Header) (u : UseKey) (c : Course) (t : TurnPart) → HasTurn lane h u Closed (key_of c) t
    → Turned lane h u (goes_to (least_above c.positions c.position) c) t
next_on lane h u c t a = goes_on lane h u c t (least_above c.positions c.position) (λ p e. e) a

done : (lane : ℕ) (h : Header) (u : UseKey) (c : Course) (t : TurnPart) → HasTurn lane h u Closed (key_of c) t
    → Turned lane h u (goes_to None c) t
done lane h u c t a = goes_on lane h u c t None (λ p e. absurd (let y : ⊥ = cc in y)) a

pub closes_turn : (lane : ℕ) (h : Header) (u : UseKey) (w : OutcomeWord) (c : Course) (t : TurnPart)
    → HasTurn lane h u Closed (key_of c) t → Turned lane h u (closes w c) t
closes_turn lane h u AskingWord c t a = a
closes_turn lane h u NotMineWord c t a = done lane h u c t a
closes_turn lane h u MovedWord c t a = by_newly (is_newly (turn_kind c))
  where
    by_newly : (b : Bool) → Turned lane h u (cond b (goes_to None c) (goes_to (least_above c.positions c.position) c)) t
    by_newly true = done lane h u c t a
    by_newly false = next_on lane h u c t a
closes_turn lane h u w c t a = next_on lane h u c t a

-- a close changes the counters of its own position
pub closed_turn : StandInOrder → (lane : ℕ) (h : Header) (c : Course) (q : QueueState) → working c.form ≡ true
    → Turned lane h (use_key c) c (part_of q) →
    HasTurn lane h (use_key c) Closed (key_of c)
    (part_of (close_look q c.at (turn_domain h c).shape (outcome_of h c) (flag_of c.taken)))
unfolding close_look
closed_turn order lane h c q w a =
    let shape = (turn_domain h c).shape in
    let own : shape.position ≡ c.position = order h.cpus h.distances c.masks c.cpu c.position
    (a.there.below c.position (a.one w)) in
    let x = counters_closed q c.at shape (outcome_of h c) (flag_of c.taken) in
    record {
      at = a.at;
      found = set a.found shape.position x;
      there = record {
        opened = a.there.opened;
        version = a.there.version;
        below = a.there.below;
        are = ap (λ (o : Option (List Counters)). Some (set (unwrap_or o []) shape.position x)) a.there.are;
      };
      same = λ p s.
          let up = ltb-true c.position p s in
          get_or-set_other a.found shape.position p x no_counters (λ e. omega arith) ∙ a.same p
          (rw w (le-leb c.position p (omega arith)));
      one = λ s. absurd (let y : ⊥ = cc in y);
    }

-- ---- the versions of turns and of queues
-- the version was published, with these masks
pub record IsPublished (vs : List (List Mask)) (u : UseKey) : Type 0 where
  pub from : 1 ≤ u.version
  pub to : u.version ≤ length vs
  pub masks : u.masks ≡ get_or vs (u.version - 1) []

-- an open turn has counters, and its positions are below n
abbrev pub OpensBelow : Option OpenTurn → Option (List Counters) → ℕ → Type 0
OpensBelow o cs n = IfSome o (λ turn. IsSome cs × ((p : ℕ) → has turn.positions p ≡ true → p < n))

-- a queue's version was published, and it has counters for each domain of its CPU in that version
pub record Fits (h : Header) (vs : List (List Mask)) (cpu : ℕ) (t : TurnPart) : Type 0 where
  pub from : 1 ≤ t.version
  pub to : t.version ≤ length vs
  pub many : AreMany t.counters (length (domains_of h.cpus h.distances (get_or vs (t.version - 1) []) cpu))
  pub below : OpensBelow t.opened t.counters (length (domains_of h.cpus h.distances (get_or vs (t.version - 1) []) cpu))

-- a turn finds as many counters as its CPU has domains
pub finds_many : (h : Header) (c : Course) (vs : List (List Mask)) (q : QueueState) → IsPublished vs (use_key c)
    → Fits h vs c.cpu (part_of q) → c.version ≡ q.version → AreMany q.counters (length (shapes_of (turn_domains h c)))
finds_many h c vs q u f same =
    let l = length-map (turn_domains h c) (λ (d : Domain). d.shape) in
    subst (AreMany q.counters) (ap (λ (v : ℕ). length (domains_of h.cpus h.distances (get_or vs (v - 1) []) c.cpu))
    (sym same) ∙ ap (λ (parts : List Mask). length (domains_of h.cpus h.distances parts c.cpu)) (sym u.masks) ∙ sym l) f.many

-- ---- a turn that opens
abbrev pub with_turn : Header → Course → QueueState → Mask → Course
with_turn h c q ps = record c { positions = ps; counters = counters_found q c.at c.version (shapes_of (turn_domains h c)) }

pub opened_turn : (lane : ℕ) (h : Header) (vs : List (List Mask)) (c : Course) (q : QueueState) (ps : Mask)
    → ps ≡ positions_found q c.at (turn_kind c) c.version (shapes_of (turn_domains h c)) → IsPublished vs (use_key c)
    → Fits h vs c.cpu (part_of q) →
    Turned lane h (use_key c) (goes_to (least ps) (with_turn h c q ps))
    (part_of (opened q c.at lane (turn_kind c) c.version (shapes_of (turn_domains h c))))
opened_turn lane h vs c q ps due u f = by_first (least ps) refl
  where
    shapes : List Shape
    shapes = shapes_of (turn_domains h c)

    there : IsOpenAt lane h (use_key c) ps (counters_found q c.at c.version shapes)
        (part_of (opened q c.at lane (turn_kind c) c.version shapes))
    there = record {
      opened = ap (λ (m : Mask). let t : OpenTurn = record { lane = lane; kind = turn_kind c; positions = m } in Some t)
          (sym due);
      version = refl;
      below = λ p k.
          let l = length-map (turn_domains h c) (λ (d : Domain). d.shape) in
          let b = positions_below q c.at (turn_kind c) c.version p shapes (finds_many h c vs q u f)
          (subst (λ (m : Mask). has m p ≡ true) due k) in
          omega arith;
      are = refl;
    }

    by_first : (o : Option ℕ) → least ps ≡ o
        → Turned lane h (use_key c) (goes_to o (with_turn h c q ps)) (part_of (opened q c.at lane (turn_kind c) c.version shapes))
    by_first None e = record {
      at = refl;
      found = counters_found q c.at c.version shapes;
      there = there;
      same = λ p s. refl;
      one = λ s. absurd (let y : ⊥ = cc in y);
    }
    by_first (Some p) e = record {
      at = refl;
      found = counters_found q c.at c.version shapes;
      there = there;
      same = λ i s. refl;
      one = λ _. least_has ps p e;
    }
