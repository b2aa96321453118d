-- What is said of turns holds of every front: one lane at most has a turn open at a queue.
-- For the law `turns_fit`.
use Rattle.std.proofs.Common.{◌≡◌, ℕ, ◌+◌, ◌-◌, ◌<◌, ◌≤◌, Bool, true, false, List, [], ◌∷◌, ◌++◌, length, get_or, set, max, Option, Some, None, IfSome, is_some, unwrap_or, refl, sym, ◌∙◌, ap, arith, subst, inl, inr, get_or-set_same, get_or-set_other}
use Rattle.std.proofs.lemmas.Bool.{not-false, cases_eq, ltb-false}
use Rattle.std.proofs.lemmas.List.{length-set, length-map, length-append, get_or_append_left}
use Rattle.lb_base.specs.declared.mask.Mask.{Mask}
use Rattle.lb_base.specs.declared.shape.Kind.{Kind}
use Rattle.lb_base.specs.Sets.{least, least_above}
use Rattle.lb_domain.specs.declared.domain.Domain.{Domain}
use Rattle.lb_domain.specs.Domains.{domains_of}
use Rattle.lb_domain.specs.Laws.{StandInOrder}
use Rattle.lb_interval.specs.declared.Counters.{Counters}
use Rattle.lb_queue.specs.declared.answers.OpenTurn.{OpenTurn}
use Rattle.lb_queue.specs.declared.answers.OutCause.{OutCause}
use Rattle.lb_queue.specs.declared.answers.OutCause.TheVariants.{Wake as WakeOut, Pull as PullOut}
use Rattle.lb_queue.specs.Queue.{QueueState}
use Rattle.lb_queue.specs.Turns.{close_look}
use Rattle.lb_trace.specs.declared.trace.Command.{Command}
use Rattle.lb_trace.specs.declared.trace.Command.TheVariants.{Rebuild}
use Rattle.lb_trace.specs.declared.trace.Header.{Header}
use Rattle.lb_core.specs.declared.course.Course.{Course}
use Rattle.lb_core.specs.declared.course.Form.{Form}
use Rattle.lb_core.specs.declared.course.Form.TheVariants.{Rest, Flight, Looked, Landed as LandedForm}
use Rattle.lb_core.specs.declared.entry.Owner.{Owner}
use Rattle.lb_core.specs.declared.entry.Owner.TheVariants.{Publisher, Lane, Queue}
use Rattle.lb_core.specs.declared.entry.What.{What}
use Rattle.lb_core.specs.declared.entry.What.TheVariants.{Adopt, Look, Scan, Did, Out, Landed, Turn, Shut, Close, Ask, Kick, Over, Pub}
use Rattle.lb_core.specs.declared.entry.Entry.{Entry}
use Rattle.lb_core.specs.declared.rule.Rule.TheVariants.{Reply as ReplyRule, Version, Counters as CountersRule}
use Rattle.lb_core.specs.Course.{turn_kind, turn_domains, shapes_of}
use Rattle.lb_core.specs.Sight.{Sight}
use Rattle.lb_core.specs.Stage.{draws}
use Rattle.lb_core.specs.Leaving.{Leaving, leaving, out_by}
use Rattle.lb_core.specs.Rules.{breaks_counters}
use Rattle.lb_core.specs.QueueAfter.{cause_of, queue_by, queue_after}
use Rattle.lb_core.specs.CourseAfter.{course_after, course_by, drew, cpu_of, goes_to, lands, closes, takes_off, raised_numbers}
use Rattle.lb_core.specs.Machine.{MachineState, no_queue, no_course, queue_at, course_at, masks_at, opening_queue, start, sight}
use Rattle.lb_core.specs.Elsewhere.{is_rest}
use Rattle.lb_core.specs.Step.{after, versions_after}
use Rattle.lb_core.specs.Legal.{MayBeAdded, run, MayFollow}
use Rattle.lb_core.specs.TurnCounters.{TurnsFitAlways}
use Rattle.lb_core.specs.LaneEntries.{Use, use_or, last_use, row_or, last_row}
use Rattle.lb_core.proofs.Unbroken.{unbroken_here, unbroken_elsewhere}
use Rattle.lb_core.proofs.Placing.{entry, lane_there, cpu_there, form_lets}
use Rattle.lb_core.proofs.Opening.{opening_at}
use Rattle.lb_core.proofs.Equality.{mask_is}
use Rattle.lb_core.proofs.Next.{front_holds}
use Rattle.lb_core.proofs.AtWork.{clash, opens_so, opening_rests}
use Rattle.lb_core.proofs.Turns.{own_said, other_said, turning, in_turn, opens, is_open, open_turns, look_works, close_works, out_works, landed_works, ask_closed, over_opens, turn_used, pull_turns, row_part, scanned_out, kicked_out, turn_out, answered_out, lands_out, row_by, own_turn, UseKey, use_key, Key, key_of, HasTurn, Turned, reforms, next_on, closes_turn, closed_turn, IsPublished, OpensBelow, Fits, finds_many, with_turn, opened_turn}
use Rattle.lb_queue.specs.Laws.{CallsKeepRest}
use Rattle.lb_core.proofs.Quiet.{TurnPart, part_of, turns, quiet_by}
use Rattle.lb_core.proofs.Positions.{AreMany, found_many, positions_below}

-- what all this rests on: what a queue's call leaves of turns, and that domains stand at their positions
pub record TurnLaws : Type 0 where
  pub rest : CallsKeepRest
  pub order : StandInOrder

-- ---- the lane that draws
-- the part of the queue of its turn, before and after
record Parts (w : What) (s : Sight) (lane : ℕ) (t t' : TurnPart) : Type 0 where
  quiet : turns w ≡ false → t' ≡ t
  was : turns w ≡ true → part_of s.queue ≡ t
  now : turns w ≡ true → part_of (queue_by w s lane) ≡ t'

abbrev Held : ℕ → Header → Course → TurnPart → Type 0
Held lane h c t = is_open c ≡ true → Turned lane h (use_key c) c t

record Stays (lane : ℕ) (h : Header) (c c' : Course) (t : TurnPart) : Type 0 where
  was : in_turn c ≡ true
  now : Turned lane h (use_key c) c' t

abbrev is_use : What → Bool
is_use (Adopt v kind cpu) = true
is_use w = false

pub in_turn_from : (c : Course) → is_open c ≡ true → in_turn c ≡ true
in_turn_from c k = open_turns c.form (cause_of c) k

stays : StandInOrder → (w : What) (s : Sight) (lane cpu : ℕ) (now : QueueState) (vs : List (List Mask))
    (t t' : TurnPart) → draws s.course.form s.header s.course s.queue lane w ≡ true → breaks_counters s w ≡ false
    → Parts w s lane t t' → Fits s.header vs s.course.cpu t →
    (in_turn s.course ≡ true → IsPublished vs (use_key s.course)) → Held lane s.header s.course t → is_use w ≡ false
    → in_turn (course_by w s cpu now) ≡ true → Stays lane s.header s.course (course_by w s cpu now) t'
unfolding leaving
stays order (Look p x names v) s lane cpu now vs t t' d b ps f u held n k =
    let c = s.course in
    let g = look_works c.form s.header c s.queue lane p x names v (cause_of c) d in
    record {
      was = in_turn_from c g.0;
      now = subst (HasTurn lane s.header (use_key c) Looked (key_of c))
          (sym (ps.quiet refl)) (reforms lane s.header (use_key c) c.form Looked (key_of c) t g.1 refl (held g.0));
    }
stays order (Out cause to ts) s lane cpu now vs t t' d b ps f u held n k = off
    (out_by s.course.form s.header s.course s.queue) refl k
  where
    off : (l : Option Leaving) → out_by s.course.form s.header s.course s.queue ≡ l
        → in_turn (takes_off l s.course) ≡ true → Stays lane s.header s.course (takes_off l s.course) t'
    off None z k =
        let c = s.course in
        let g = out_works c.form s.header c s.queue lane cause to ts (cause_of c) (cause_of c) d k in
        record { was = k; now = subst (Turned lane s.header (use_key c) c) (sym (ps.quiet refl)) (held g.0) }
    off (Some l) z k =
        let c = s.course in
        let g = out_works c.form s.header c s.queue lane cause to ts (cause_of c) WakeOut d
        (pull_turns c.form s.header c s.queue l WakeOut z k) in
        record {
          was = in_turn_from c g.0;
          now = subst (HasTurn lane s.header (use_key c) Flight (key_of c)) (sym (ps.quiet refl))
              (reforms lane s.header (use_key c) c.form Flight (key_of c) t g.1 refl (held g.0));
        }
stays order (Landed ts) s lane cpu now vs t t' d b ps f u held n k = by_cause (cause_of s.course) refl k
  where
    by_cause : (cause : OutCause) → cause_of s.course ≡ cause → in_turn (lands cause s.course) ≡ true
        → Stays lane s.header s.course (lands cause s.course) t'
    by_cause PullOut z k =
        let c = s.course in
        let g = landed_works c.form s.header c s.queue lane ts d in
        let o = ap (opens c.form) z ∙ g.0 in
        record {
          was = in_turn_from c o;
          now = subst (HasTurn lane s.header (use_key c) LandedForm (key_of c)) (sym (ps.quiet refl))
              (reforms lane s.header (use_key c) c.form LandedForm (key_of c) t g.1 refl (held o));
        }
    by_cause cause z k = clash _ k (lands_out cause s.course refl).0
stays order (Turn ps') s lane cpu now vs t t' d b ps f u held n k =
    let c = s.course in
    let g : in_turn c ≡ true = ap (λ (x : Form). turning x (cause_of c)) (turn_used c.form s.header c s.queue lane ps' d) in
    let due = mask_is ps' _ (not-false _ b) in
    record {
      was = g;
      now = subst (Turned lane s.header (use_key c)
          (goes_to (least ps') (with_turn s.header c s.queue ps'))) (ps.now refl)
          (opened_turn lane s.header vs c s.queue ps' due (u g) (subst (Fits s.header vs c.cpu) (sym (ps.was refl)) f));
    }
stays order (Close p w i m) s lane cpu now vs t t' d b ps f u held n k =
    let c = s.course in
    let g = close_works c.form s.header c s.queue lane p w i m (cause_of c) d in
    let before = subst (Turned lane s.header (use_key c) c) (sym (ps.was refl)) (held g.0) in
    record {
      was = in_turn_from c g.0;
      now = subst (Turned lane s.header (use_key c) (closes w c)) (ps.now refl)
          (closes_turn lane s.header (use_key c) w c _ (closed_turn order lane s.header c s.queue g.1 before));
    }
stays order (Ask r) s lane cpu now vs t t' d b ps f u held n k =
    let c = s.course in
    let z = ask_closed c.form s.header c s.queue lane r d in
    let o : is_open c ≡ true = ap (λ (x : Form). opens x (cause_of c)) z in
    let before = subst (λ (x : Form). HasTurn lane s.header (use_key c) x (key_of c) t) z (held o) in
    record {
      was = in_turn_from c o;
      now = subst
          (Turned lane s.header (use_key c) (goes_to (least_above c.positions c.position) c)) (sym (ps.quiet refl))
          (next_on lane s.header (use_key c) c t before);
    }
stays order (Scan names v) s lane cpu now vs t t' d b ps f u held n k =
    clash _ k (scanned_out v (record s.course { figures = s.figs; named = raised_numbers names s.course.named })).0
stays order (Did r) s lane cpu now vs t t' d b ps f u held n k = clash _ k
    (answered_out s.course.command cpu s.queue now s.course).0
stays order (Kick r) s lane cpu now vs t t' d b ps f u held n k = clash _ k (kicked_out r s.course).0
stays order Shut s lane cpu now vs t t' d b ps f u held n k = clash _ k (turn_out s.header s.course).0
stays order Over s lane cpu now vs t t' d b ps f u held n k = clash _ k (turn_out s.header s.course).0
stays order w s lane cpu now vs t t' d b ps f u held n k = absurd (let y : ⊥ = cc in y)

-- what an entry that changes a turn leaves of its queue
set_many : (cs : List Counters) (i n : ℕ) (x : Counters) (o : Option (List Counters)) → o ≡ Some cs → AreMany o n
    → length (set (unwrap_or o []) i x) ≡ n
set_many cs i n x None e h = absurd (let y : ⊥ = cc in y)
set_many cs i n x (Some ds) e h = length-set ds i x ∙ h

-- any counters will do
still_below : (o : Option OpenTurn) (cs : Option (List Counters)) (n : ℕ) → OpensBelow o cs n → OpensBelow o (Some []) n
still_below None cs n h = tt
still_below (Some turn) cs n h = (refl, h.1)

fits_after : (w : What) (s : Sight) (lane : ℕ) (vs : List (List Mask)) → turns w ≡ true
    → draws s.course.form s.header s.course s.queue lane w ≡ true
    → (in_turn s.course ≡ true → IsPublished vs (use_key s.course)) → Held lane s.header s.course (part_of s.queue) →
    Fits s.header vs s.course.cpu (part_of s.queue) → Fits s.header vs s.course.cpu (part_of (queue_by w s lane))
unfolding close_look
fits_after (Turn ps) s lane vs t d u held f =
    let c = s.course in
    let is = u (ap (λ (x : Form). turning x (cause_of c)) (turn_used c.form s.header c s.queue lane ps d)) in
    let l = length-map (turn_domains s.header c) (λ (e : Domain). e.shape) in
    let same = ap (λ (parts : List Mask). length (domains_of s.header.cpus s.header.distances parts c.cpu)) is.masks in
    record {
      from = is.from;
      to = is.to;
      many = found_many s.queue c.at c.version (shapes_of (turn_domains s.header c))
          (finds_many s.header c vs s.queue is f) ∙ l ∙ same;
      below = (
        refl,
        λ p k. let b = positions_below s.queue c.at (turn_kind c) c.version p
            (shapes_of (turn_domains s.header c)) (finds_many s.header c vs s.queue is f) k in omega arith,
      );
    }
fits_after (Close p w i n) s lane vs t d u held f =
    let c = s.course in
    record {
      from = f.from;
      to = f.to;
      many = set_many _ _ _ _ s.queue.counters
          (held (close_works c.form s.header c s.queue lane p w i n (cause_of c) d).0).there.are f.many;
      below =
          still_below s.queue.open_turn s.queue.counters _ f.below;
    }
fits_after Over s lane vs t d u held f = record { from = f.from; to = f.to; many = f.many; below = tt }
fits_after w s lane vs t d u held f = absurd (let y : ⊥ = cc in y)

-- ---- versions stay
record Grows (vs ws : List (List Mask)) : Type 0 where
  longer : length vs ≤ length ws
  same : (i : ℕ) → i < length vs → get_or ws i [] ≡ get_or vs i []

grows-refl : (vs : List (List Mask)) → Grows vs vs
grows-refl vs = record { longer = omega arith; same = λ i h. refl }

versions_grow : (w : What) (command : Option Command) (vs : List (List Mask)) → Grows vs (versions_after w command vs)
versions_grow (Pub v) (Some (Rebuild parts)) vs =
    record {
      longer = let h = length-append vs (parts ∷ []) in omega arith;
      same = λ i h. get_or_append_left vs
          (parts ∷ []) [] i h;
    }
versions_grow (Pub v) None vs = grows-refl vs
versions_grow (Pub v) (Some command) vs = still command vs
  where
    still : (command : Command) (vs : List (List Mask)) → Grows vs (versions_after (Pub v) (Some command) vs)
    still (Rebuild parts) vs = record {
      longer = let h = length-append vs (parts ∷ []) in omega arith;
      same = λ i h. get_or_append_left vs (parts ∷ []) [] i h;
    }
    still command vs = grows-refl vs
versions_grow w command vs = grows-refl vs

more_published : (vs ws : List (List Mask)) (u : UseKey) → Grows vs ws → IsPublished vs u → IsPublished ws u
more_published vs ws u g h = record {
  from = h.from;
  to = let a = h.to in let b = g.longer in omega arith;
  masks = h.masks ∙ sym (g.same (u.version - 1) (let a = h.from in let b = h.to in omega arith));
}

more_fits : (h : Header) (vs ws : List (List Mask)) (cpu : ℕ) (t : TurnPart) → Grows vs ws → Fits h vs cpu t → Fits h ws cpu t
more_fits h vs ws cpu t g f = record {
  from = f.from;
  to = let a = f.to in let b = g.longer in omega arith;
  many = subst (λ (parts : List Mask). AreMany t.counters (length (domains_of h.cpus h.distances parts cpu))) same f.many;
  below = subst (λ (parts : List Mask). OpensBelow t.opened t.counters
      (length (domains_of h.cpus h.distances parts cpu))) same f.below;
}
  where
    same : get_or vs (t.version - 1) [] ≡ get_or ws (t.version - 1) []
    same = sym (g.same (t.version - 1) (let a = f.from in let b = f.to in omega arith))

-- ---- the queues after an entry
abbrev pub part_at : MachineState → ℕ → TurnPart
part_at m cpu = part_of (queue_at m.queues cpu)

-- the one that draws it
record Mine (m : MachineState) (e : Entry) (cpu : ℕ) : Type 0 where
  now : part_at (after m e) cpu ≡ part_of (queue_by e.what (sight m e) e.lane)
  was : (sight m e).queue ≡ queue_at m.queues cpu

mine : (m : MachineState) (o : Owner) (lane prev cpu : ℕ) (w : What) → o ≡ Queue cpu → MayBeAdded m (entry o lane prev w)
    → Mine m (entry o lane prev w) cpu
unfolding after queue_after sight
mine m (Queue u) lane prev cpu w own a =
    let e = entry (Queue u) lane prev w in
    let k : u ≡ cpu = cc in
    record {
      now = subst (λ (x : ℕ). part_at (after m e) x ≡ part_of (queue_by w (sight m e) lane)) k
          (ap part_of (get_or-set_same m.queues u (queue_after (sight m e) e) no_queue (cpu_there m u lane prev w a)));
      was = ap (queue_at m.queues) k;
    }
mine m o lane prev cpu w own a = absurd (let y : ⊥ = cc in y)

-- any other, and this one too where no turn changes
others : CallsKeepRest → (m : MachineState) (o : Owner) (lane prev cpu : ℕ) (w : What) → (o ≡ Queue cpu → turns w ≡ false)
    → MayBeAdded m (entry o lane prev w) → part_at (after m (entry o lane prev w)) cpu ≡ part_at m cpu
unfolding after
others law m (Queue u) lane prev cpu w n a =
    let e = entry (Queue u) lane prev w in
    elim (cases_eq cpu u) [
      | inl same ↦ let own = ap Queue (sym same) in let k = mine m (Queue u) lane prev cpu w own a in
          k.now ∙ quiet_by law w (sight m e) lane (n own) ∙ ap part_of k.was
      | inr other ↦ ap part_of (get_or-set_other m.queues u cpu (queue_after (sight m e) e) no_queue other)
    ]
others law m o lane prev cpu w n a = refl

-- ---- what holds of each front
-- the last `use` of the lane
pub record HasUse (lane : ℕ) (pre : List Entry) (m : MachineState) (u : UseKey) : Type 0 where
  pub last : last_use lane pre ≡ Some (record { version = u.version; kind = u.kind; cpu = u.cpu })
  pub published : IsPublished m.versions u

pub record InTurn (lane : ℕ) (pre : List Entry) (m : MachineState) (f : Form) (o : OutCause) (k : Key) : Type 0 where
  pub row : k.row ≡ last_row lane pre
  pub used : turning f o ≡ true → HasUse lane pre m k.taken_up
  pub open_ : opens f o ≡ true → HasTurn lane m.header k.taken_up f k (part_at m k.taken_up.cpu)

abbrev pub InTurnAt : ℕ → List Entry → MachineState → Course → Type 0
InTurnAt lane pre m c = InTurn lane pre m c.form (cause_of c) (key_of c)

pub record Turning (pre : List Entry) (m : MachineState) : Type 0 where
  pub each : (lane : ℕ) → InTurnAt lane pre m (course_at m.courses lane)
  pub fits : (cpu : ℕ) → Fits m.header m.versions cpu (part_at m cpu)

-- ---- one turn at a queue
lane_of : (a b : OpenTurn) → Some a ≡ Some b → a.lane ≡ b.lane
lane_of a b e = let k : a ≡ b = cc in ap (λ (t : OpenTurn). t.lane) k

own_at : (m : MachineState) (o : Owner) (lane prev : ℕ) (w : What) → MayBeAdded m (entry o lane prev w) → turns w ≡ true
    → o ≡ Queue (course_at m.courses lane).cpu
own_at m o lane prev w a t = let c = course_at m.courses lane in let lets = form_lets m (entry o lane prev w) a in
    own_turn c.form m.header c (sight m (entry o lane prev w)).queue lane o w t lets.0 lets.1

-- a close and an end are drawn by the lane whose turn is open
by_opener : (m : MachineState) (pre : List Entry) (o : Owner) (l prev lane cpu : ℕ) (w : What) → Turning pre m
    → MayBeAdded m (entry o l prev w) → turns w ≡ true → is_open (course_at m.courses l) ≡ true → o ≡ Queue cpu →
    (k : Kind) (ps : Mask) → (part_at m cpu).opened ≡ Some (record { lane = lane; kind = k; positions = ps }) → l ≡ lane
by_opener m pre o l prev lane cpu w held a t z own k ps e =
    let c = course_at m.courses l in
    let same : c.cpu ≡ cpu = let y : Queue c.cpu ≡ Queue cpu = sym (own_at m o l prev w a t) ∙ own in cc in
    lane_of _ _ (sym ((held.each l).open_ z).there.opened ∙ ap (λ (u : ℕ). (part_at m u).opened) same ∙ e)

alone : (m : MachineState) (pre : List Entry) (o : Owner) (l prev lane cpu : ℕ) (w : What) → Turning pre m
    → MayBeAdded m (entry o l prev w) → turns w ≡ true → o ≡ Queue cpu →
    (k : Kind) (ps : Mask) → (part_at m cpu).opened ≡ Some (record { lane = lane; kind = k; positions = ps }) → l ≡ lane
alone m pre o l prev lane cpu (Turn ps') held a t own k ps e =
    let at = mine m o l prev cpu (Turn ps') own a in
    clash (is_some (sight m (entry o l prev (Turn ps'))).queue.open_turn)
    (ap (λ (q : QueueState). is_some q.open_turn) at.was ∙ ap (λ (x : Option OpenTurn). is_some x) e)
    (unbroken_here m (entry o l prev (Turn ps')) a ReplyRule)
alone m pre o l prev lane cpu (Close p w i n) held a t own k ps e =
    let c = course_at m.courses l in
    by_opener m pre o l prev lane cpu (Close p w i n) held a t
    (close_works c.form m.header c _ l p w i n (cause_of c) (form_lets m (entry o l prev (Close p w i n)) a).1).0 own k ps e
alone m pre o l prev lane cpu Over held a t own k ps e =
    let c = course_at m.courses l in
    by_opener m pre o l prev lane cpu Over held a t
    (over_opens c.form m.header c _ l (cause_of c) (form_lets m (entry o l prev Over) a).1) own k ps e
alone m pre o l prev lane cpu w held a t own k ps e = absurd (let y : ⊥ = cc in y)

-- ---- one step of the queues
fits_kept : CallsKeepRest → (m : MachineState) (o : Owner) (lane prev : ℕ) (w : What) (pre : List Entry)
    → MayBeAdded m (entry o lane prev w) → Turning pre m → (cpu : ℕ)
    → Fits m.header m.versions cpu (part_at (after m (entry o lane prev w)) cpu)
unfolding sight
fits_kept law m o lane prev w pre a held cpu = by_turns (turns w) refl
  where
    e : Entry
    e = entry o lane prev w

    c : Course
    c = course_at m.courses lane

    still_fits : (o ≡ Queue cpu → turns w ≡ false) → Fits m.header m.versions cpu (part_at (after m e) cpu)
    still_fits n = subst (Fits m.header m.versions cpu) (sym (others law m o lane prev cpu w n a)) (held.fits cpu)

    by_turns : (b : Bool) → turns w ≡ b → Fits m.header m.versions cpu (part_at (after m e) cpu)
    by_turns false b = still_fits (λ _. b)
    by_turns true b =
        let own = own_at m o lane prev w a b in
        let at = mine m o lane prev c.cpu w own a in
        let was = sym (ap part_of at.was) in
        let mine_fits = fits_after w (sight m e) lane m.versions b (form_lets m e a).1
        (λ k. ((held.each lane).used k).published)
        (λ k. subst (Turned lane m.header (use_key c) c) was ((held.each lane).open_ k))
        (subst (Fits m.header m.versions c.cpu) was (held.fits c.cpu)) in
        elim (cases_eq cpu c.cpu) [
          | inl same ↦ subst (λ (u : ℕ). Fits m.header m.versions u (part_at (after m e) u)) (sym same)
              (subst (Fits m.header m.versions c.cpu) (sym at.now) mine_fits)
          | inr other ↦ still_fits (λ z. absurd (other (let y : Queue cpu ≡ Queue c.cpu = sym z ∙ own in cc)))
        ]

-- ---- one step of the lanes
keeps_use : (lane : ℕ) (pre pre' : List Entry) (m m' : MachineState) (u : UseKey) → last_use lane pre' ≡ last_use lane pre
    → Grows m.versions m'.versions → HasUse lane pre m u → HasUse lane pre' m' u
keeps_use lane pre pre' m m' u l g h = record
    { last = l ∙ h.last; published = more_published m.versions m'.versions u g h.published }

no_use : (w : What) (o : Option Use) → is_use w ≡ false → use_or w o ≡ o
no_use (Adopt v kind cpu) o h = absurd (let y : ⊥ = cc in y)
no_use w o h = refl

-- a lane that does not draw
other_step : CallsKeepRest → (m : MachineState) (o : Owner) (l prev lane : ℕ) (w : What) (pre : List Entry)
    → MayBeAdded m (entry o l prev w) → Turning pre m → (l ≡ lane → ⊥)
    → InTurnAt lane (pre ++ entry o l prev w ∷ []) (after m (entry o l prev w)) (course_at m.courses lane)
unfolding after
other_step law m o l prev lane w pre a held n = record {
  row = it.row ∙ sym (other_said row_or lane (0, 0) pre e n);
  used = λ k. keeps_use lane pre (pre ++ e ∷ []) m (after m e) (use_key c) (other_said use_or lane None pre e n)
      (versions_grow w (sight m e).course.command m.versions) (it.used k);
  open_ = λ k. subst (Turned lane m.header (use_key c) c)
      (sym (others law m o l prev c.cpu w (λ own. by_turns (turns w) refl own k) a)) (it.open_ k);
}
  where
    e : Entry
    e = entry o l prev w

    c : Course
    c = course_at m.courses lane

    it : InTurnAt lane pre m c
    it = held.each lane

    by_turns : (b : Bool) → turns w ≡ b → o ≡ Queue c.cpu → is_open c ≡ true → b ≡ false
    by_turns false b own k = refl
    by_turns true b own k = absurd (n (alone m pre o l prev lane c.cpu w held a b own _ _ (it.open_ k).there.opened))

-- the lane that draws
drew_stays : (o : Owner) (n : ℕ) (c : Course) (P : Form → OutCause → Key → Type 0) → P c.form (cause_of c) (key_of c)
    → P (drew o n c).form (cause_of (drew o n c)) (key_of (drew o n c))
drew_stays (Queue u) n c P h = h
drew_stays (Lane l) n c P h = h
drew_stays Publisher n c P h = h

taken_up : (m : MachineState) (o : Owner) (lane prev v : ℕ) (kind : Kind) (cpu : ℕ) (pre : List Entry)
    → MayBeAdded m (entry o lane prev (Adopt v kind cpu)) →
    HasUse lane (pre ++ entry o lane prev (Adopt v kind cpu) ∷ []) (after m (entry o lane prev (Adopt v kind cpu)))
    (record { version = v; kind = kind; cpu = cpu; masks = masks_at m v })
unfolding sight after
taken_up m o lane prev v kind cpu pre h =
    let e = entry o lane prev (Adopt v kind cpu) in
    let low = ltb-false v (max (course_at m.courses lane).named_version 1) (unbroken_here m e h Version) in
    let high = ltb-false (length m.versions) v (unbroken_elsewhere m e h Version) in
    record { last = own_said use_or lane None pre e refl; published = record { from = omega arith; to = high; masks = refl } }

own_kept : TurnLaws → (m : MachineState) (o : Owner) (lane prev : ℕ) (w : What) (pre : List Entry)
    → MayBeAdded m (entry o lane prev w) → Turning pre m → is_use w ≡ false →
    (let e = entry o lane prev w in InTurnAt lane (pre ++ e ∷ []) (after m e)
    (course_by w (sight m e) (cpu_of o) (queue_after (sight m e) e)))
unfolding after sight
own_kept law m o lane prev w pre a held n = record {
  row = row_by w (sight m e) (cpu_of o) (queue_after (sight m e) e) ∙ ap (row_or w) it.row ∙ sym
      (own_said row_or lane (0, 0) pre e refl);
  used = λ k.
      let st = kept k in
      let l = own_said use_or lane None pre e refl ∙ no_use w (last_use lane pre) n in
      subst (HasUse lane (pre ++ e ∷ []) (after m e)) (sym st.now.at)
      (keeps_use lane pre (pre ++ e ∷ []) m (after m e) (use_key c) l (versions_grow w c.command m.versions) (it.used st.was));
  open_ = λ k. let st = kept (in_turn_from c' k) in
      subst (λ (u : UseKey). Turned lane m.header u c' (part_at (after m e) u.cpu)) (sym st.now.at) st.now;
}
  where
    e : Entry
    e = entry o lane prev w

    c : Course
    c = course_at m.courses lane

    c' : Course
    c' = course_by w (sight m e) (cpu_of o) (queue_after (sight m e) e)

    it : InTurnAt lane pre m c
    it = held.each lane

    ps : Parts w (sight m e) lane (part_at m c.cpu) (part_at (after m e) c.cpu)
    ps = record {
      quiet = λ z. others law.rest m o lane prev c.cpu w (λ _. z) a;
      was = λ t. ap part_of (mine m o lane prev c.cpu w (own_at m o lane prev w a t) a).was;
      now = λ t. sym (mine m o lane prev c.cpu w (own_at m o lane prev w a t) a).now;
    }

    kept : in_turn c' ≡ true → Stays lane m.header c c' (part_at (after m e) c.cpu)
    kept k = stays law.order w (sight m e) lane (cpu_of o) (queue_after (sight m e) e) m.versions (part_at m c.cpu)
        (part_at (after m e) c.cpu) (form_lets m e a).1 (unbroken_here m e a CountersRule) ps (held.fits c.cpu)
        (λ z. (it.used z).published) it.open_ n k

own_step : TurnLaws → (m : MachineState) (o : Owner) (lane prev : ℕ) (w : What) (pre : List Entry)
    → MayBeAdded m (entry o lane prev w) → Turning pre m →
    (let e = entry o lane prev w in InTurnAt lane (pre ++ e ∷ []) (after m e)
    (course_by w (sight m e) (cpu_of o) (queue_after (sight m e) e)))
unfolding sight
own_step law m o lane prev (Adopt v kind cpu) pre a held =
    record {
      row = (held.each lane).row ∙ sym (own_said row_or lane (0, 0) pre
          (entry o lane prev (Adopt v kind cpu)) refl);
      used = λ k. taken_up m o lane prev v kind cpu pre a;
      open_ = λ k. absurd (let y : ⊥ = cc in y);
    }
own_step law m o lane prev w pre a held = own_kept law m o lane prev w pre a held refl

turning_step : TurnLaws → (m : MachineState) (e : Entry) (pre : List Entry) → MayBeAdded m e → Turning pre m
    → Turning (pre ++ e ∷ []) (after m e)
unfolding after course_after
turning_step law m e pre a held = record {
  each = λ lane. elim (cases_eq e.lane lane) [
    | inl same ↦
        let at : course_at (after m e).courses e.lane ≡ course_after (sight m e) e =
        get_or-set_same m.courses e.lane (course_after (sight m e) e) no_course (lane_there m e a) in
        let made = course_by e.what (sight m e) (cpu_of e.owner) (queue_after (sight m e) e) in
        let r = drew_stays e.owner ((sight m e).count + 1) made (InTurn e.lane (pre ++ e ∷ []) (after m e))
        (own_step law m e.owner e.lane e.prev e.what pre a held) in
        subst (λ (l : ℕ). InTurnAt l (pre ++ e ∷ []) (after m e) (course_at (after m e).courses l)) same
        (subst (InTurnAt e.lane (pre ++ e ∷ []) (after m e)) (sym at) r)
    | inr other ↦
        let at : course_at (after m e).courses lane ≡ course_at m.courses lane =
        get_or-set_other m.courses e.lane lane (course_after (sight m e) e) no_course (λ z. other (sym z)) in
        subst (InTurnAt lane (pre ++ e ∷ []) (after m e)) (sym at)
        (other_step law.rest m e.owner e.lane e.prev lane e.what pre a held other)
  ];
  fits = λ cpu. more_fits m.header m.versions (after m e).versions cpu (part_at (after m e) cpu)
      (versions_grow e.what (sight m e).course.command m.versions)
      (fits_kept law.rest m e.owner e.lane e.prev e.what pre a held cpu);
}

-- ---- the opening state
rest_shut : {A : Type 0} (f : Form) (o : OutCause) → is_rest f ≡ true → turning f o ≡ true → A
rest_shut Rest o r k = absurd (let y : ⊥ = cc in y)
rest_shut f o r k = absurd (let y : ⊥ = cc in y)

opening_part : (h : Header) (cpu : ℕ) → part_at (start h) cpu ≡ record { version = 1; counters = None; opened = None }
unfolding opening_queue
opening_part h cpu = elim (opening_at h cpu) [ inl a ↦ ap part_of a.0 | inr b ↦ ap part_of b.0 ]

turning_start : (h : Header) → Turning [] (start h)
unfolding start
turning_start h = record {
  each = λ lane. let c = course_at (start h).courses lane in record {
    row = elim (opens_so h lane) [ inl x ↦ ap row_part x | inr z ↦ ap row_part z ];
    used = λ k. rest_shut c.form (cause_of c) (opening_rests h lane) k;
    open_ = λ k. rest_shut c.form (cause_of c) (opening_rests h lane) (in_turn_from c k);
  };
  fits = λ cpu. subst (Fits h (h.parts ∷ []) cpu) (sym (opening_part h cpu))
      (record { from = omega arith; to = omega arith; many = tt; below = tt });
}

-- ---- every front
pub turning_at : TurnLaws → (h : Header) (es : List Entry) → MayFollow es (start h) → Turning es (run es (start h))
turning_at law h es l = front_holds Turning (λ pre m e a k. turning_step law m e pre a k) es [] (start h) l (turning_start h)

-- ---- the law that counters fit
some_many : (o : Option (List Counters)) (n : ℕ) → AreMany o n → IfSome o (λ cs. length cs ≡ n)
some_many None n h = tt
some_many (Some cs) n h = h

pub run-header : (es : List Entry) (m : MachineState) → (run es m).header ≡ m.header
unfolding after
run-header [] m = refl
run-header (e ∷ es) m = run-header es (after m e)

pub turns_fit_always : TurnLaws → TurnsFitAlways
turns_fit_always law h es cpu legal =
    let m = run es (start h) in
    let q = queue_at m.queues cpu in
    let f = (turning_at law h es legal).fits cpu in
    record { from_first = f.from; published = f.to; counters = some_many q.counters _ f.many; turn = f.below }
