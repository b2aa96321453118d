-- The positions of a turn, by kind, and what holds of a turn that has opened. For callers too: positions
-- stand below the counters.
-- For `Queue::turn`, `Queue::close_look`, `Queue::opens` and others; cited by `lb_core` too.
use Rattle.std.proofs.Common.{◌≡◌, ℕ, suc, zero, ◌+◌, ◌*◌, ◌/◌, ◌<◌, ◌≤◌, nat_lt, ltb, ◌==◌, Bool, true, false, not, cond, ◌&&◌, List, [], ◌∷◌, length, map, drop, get_or, max, is_some, Option, Some, None, MatchOption, refl, sym, ◌∙◌, ap, arith, inl, inr}
use Rattle.std.specs.Prelude.{if◌then◌else◌}
use Rattle.std.proofs.lemmas.Bool.{cases_Bool, and_parts, ltb-true, eqb-true}
use Rattle.std.proofs.lemmas.List.{length-map}
use Rattle.lb_base.specs.declared.mask.Mask.{Mask}
use Rattle.lb_base.specs.declared.shape.Shape.{Shape}
use Rattle.lb_base.specs.declared.shape.Kind.{Kind}
use Rattle.lb_base.specs.declared.shape.Kind.TheVariants.{Tick, Idle, Nohz}
use Rattle.lb_base.specs.Mask.{has, no_cpus}
use Rattle.lb_base.specs.Sets.{mask_where}
use Rattle.lb_base.proofs.Sets.{mask_where_has}
use Rattle.lb_interval.specs.declared.Counters.{Counters}
use Rattle.lb_interval.specs.After.{is_due, counters_after}
use Rattle.lb_newidle.specs.Budget.{goes_on, cost_of}
use Rattle.lb_queue.specs.declared.answers.TurnReply.TheVariants.{Opened, TurnOpen}
use Rattle.lb_queue.specs.Queue.{QueueState, nobody, clock_at}
use Rattle.lb_queue.specs.Turns.{due_positions, counters_at, counters_or_fresh, found_by, counters_found, fresh_at, idle_levels, weight_of_mask, positions_by, positions_found, opens, turn, kicked_after, FitCounters, close_look, counters_closed, tries_of}
use Rattle.lb_queue.specs.declared.answers.OpenTurn.{OpenTurn}
use Rattle.lb_interval.specs.declared.Outcome.{Outcome}
use Rattle.std.specs.Prelude.{slice_set}
use Rattle.lb_base.proofs.Bits.{bit_set_zero}

-- ---- how many levels a newly-idle turn goes up
next_shape : (xs : List Shape) (i : ℕ) (d : Shape) → i < length xs → drop i xs ≡ get_or xs i d ∷ drop (i + 1) xs
next_shape [] i d h = absurd (omega arith)
next_shape (x ∷ xs) zero d h = refl
next_shape (x ∷ xs) (suc i) d h = next_shape xs i d (omega arith)
    ∙ ap (λ (n : ℕ). get_or xs i d ∷ drop n (x ∷ xs)) (let e : suc (i + 1) ≡ suc i + 1 = omega arith in e)

goes_up : (avg spent w level total : ℕ) (s : Shape) (ss : List Shape) → w ≡ weight_of_mask s.span
    → goes_on avg spent w ≡ true → total ≡ level + idle_levels avg spent (s ∷ ss)
    → total ≡ level + 1 + idle_levels avg (spent + 1000 * w) ss
goes_up avg spent w level total s ss e g h =
    let z : idle_levels avg spent (s ∷ ss) ≡ 1 + idle_levels avg (spent + 1000 * w) ss = rw (← e, g) refl in
    omega arith

pub level_step : (avg spent w level total i : ℕ) (shapes : List Shape) (d : Shape) → i < length shapes
    → w ≡ weight_of_mask (get_or shapes i d).span → goes_on avg spent w ≡ true → total ≡ level + idle_levels avg spent
    (drop i shapes) →
    total ≡ level + 1 + idle_levels avg (spent + 1000 * w) (drop (i + 1) shapes)
level_step avg spent w level total i shapes d lt e g h =
    goes_up avg spent w level total (get_or shapes i d) (drop (i + 1) shapes) e g
    (h ∙ ap (λ (xs : List Shape). level + idle_levels avg spent xs) (next_shape shapes i d lt))

pub few_levels : (avg spent : ℕ) (shapes : List Shape) → idle_levels avg spent shapes ≤ length shapes
few_levels avg spent [] = omega arith
few_levels avg spent (s ∷ ss) = by (goes_on avg spent (weight_of_mask s.span))
    (few_levels avg (spent + cost_of (weight_of_mask s.span)) ss)
  where
    by : {n m : ℕ} (b : Bool) → n ≤ m → cond b (1 + n) 0 ≤ suc m
    by true h = omega arith
    by false h = omega arith

-- ---- by kind
pub positions_tick : (q : QueueState) (at clock version : ℕ) (shapes : List Shape) (m : Mask) (idle : Bool)
    → clock ≡ clock_at q at → idle ≡ nobody q.awake →
    m ≡ due_positions (if version == q.version then counters_or_fresh q.counters shapes
    else map (fresh_at (clock / 1000000)) shapes) (not idle) q.cpus (clock / 1000000) → m ≡ positions_found q at Tick
    version shapes
unfolding positions_found counters_found
positions_tick q at clock version shapes m idle c i e = rw (← c, ← i) e

pub positions_nohz : (q : QueueState) (at clock version : ℕ) (shapes : List Shape) (m : Mask) → clock ≡ clock_at q at
    → nobody q.awake ≡ true → q.tickless ≡ true →
    m ≡ due_positions (if version == q.version then counters_or_fresh q.counters shapes
    else map (fresh_at (clock / 1000000)) shapes) false q.cpus (clock / 1000000) → m ≡ positions_found q at Nohz version shapes
unfolding positions_found counters_found
positions_nohz q at clock version shapes m c i t e = rw (← c, i, t) e

pub positions_none : (q : QueueState) (at version : ℕ) (shapes : List Shape) → (nobody q.awake && q.tickless) ≡ false
    → no_cpus ≡ positions_found q at Nohz version shapes
unfolding positions_found
positions_none q at version shapes h = rw h refl

pub positions_idle : (q : QueueState) (at version avg : ℕ) (shapes : List Shape) (m : Mask) (idle : Bool)
    → idle ≡ nobody q.awake → avg ≡ q.avg_idle →
    m ≡ (if idle then mask_where (λ p. nat_lt p (idle_levels avg 0 shapes)) else no_cpus) → m ≡ positions_found q at
    Idle version shapes
unfolding positions_found
positions_idle q at version avg shapes m idle i a e = rw (← i, ← a) e

-- ---- whether it opens
pub opens_not : (q : QueueState) (at : ℕ) (kind : Kind) (version : ℕ) (shapes : List Shape)
    → is_some q.open_turn ≡ true → TurnOpen ≡ opens q at kind version shapes
unfolding opens
opens_not q at kind version shapes h = rw h refl

pub opens_so : (q : QueueState) (at : ℕ) (kind : Kind) (version : ℕ) (shapes : List Shape) (m : Mask)
    → is_some q.open_turn ≡ false → m ≡ positions_found q at kind version shapes → Opened m ≡ opens q at kind version shapes
unfolding opens
opens_so q at kind version shapes m h e = rw (h, e) refl

-- ---- each position has counters
due_within : (cs : List Counters) (busy : Bool) (cpus now p : ℕ) → has (due_positions cs busy cpus now) p ≡ true → p < length cs
unfolding due_positions
due_within cs busy cpus now p h =
    let w = sym (mask_where_has (λ k. nat_lt k (length cs) && is_due (counters_at cs k) busy cpus now) p) ∙ h in
    ltb-true p (length cs) ((and_parts (nat_lt p (length cs)) _ ((and_parts (ltb p 64) _ w).1)).0)

idle_within : (n p : ℕ) → has (mask_where (λ k. nat_lt k n)) p ≡ true → p < n
idle_within n p h = let w = sym (mask_where_has (λ k. nat_lt k n) p) ∙ h in ltb-true p n ((and_parts (ltb p 64) (nat_lt p n) w).1)

none_within : (p n : ℕ) → has no_cpus p ≡ true → p < n
unfolding has
none_within p n h = let z : false ≡ true = sym (bit_set_zero p) ∙ h in absurd (let y : ⊥ = cc in y)

found_length : (q : QueueState) (at version : ℕ) (shapes : List Shape) → FitCounters q version shapes
    → length (counters_found q at version shapes) ≡ length shapes
unfolding counters_found
found_length q at version shapes fit = elim (cases_Bool (version == q.version)) [
  | inl same ↦ rw same (old q.counters (fit (eqb-true version q.version same)))
  | inr other ↦ rw other (length-map shapes (fresh_at _))
]
  where
    old : (o : Option (List Counters)) → MatchOption o (Unit {0}) (λ cs. length shapes ≡ length cs)
        → length (counters_or_fresh o shapes) ≡ length shapes
    old None h = length-map shapes (fresh_at 0)
    old (Some cs) h = sym h

cond_within : (b : Bool) (m : Mask) (p n : ℕ) → (has m p ≡ true → p < n) → has (cond b m no_cpus) p ≡ true → p < n
cond_within true m p n f h = f h
cond_within false m p n f h = none_within p n h

by_within : (kind : Kind) (q : QueueState) (cs : List Counters) (shapes : List Shape) (now p : ℕ)
    → length cs ≡ length shapes → has (positions_by kind q cs shapes now) p ≡ true → p < length cs
by_within Tick q cs shapes now p e h = due_within cs (not (nobody q.awake)) q.cpus now p h
by_within Idle q cs shapes now p e h = cond_within (nobody q.awake)
    (mask_where (λ k. nat_lt k (idle_levels q.avg_idle 0 shapes))) p (length cs)
    (λ k. let w = idle_within (idle_levels q.avg_idle 0 shapes) p k in let f = few_levels q.avg_idle 0 shapes in omega arith) h
by_within Nohz q cs shapes now p e h = cond_within (nobody q.awake && q.tickless)
    (due_positions cs false q.cpus now) p (length cs) (due_within cs false q.cpus now p) h

pub positions_within : (q : QueueState) (at : ℕ) (kind : Kind) (version : ℕ) (shapes : List Shape) (p : ℕ)
    → FitCounters q version shapes → has (positions_found q at kind version shapes) p ≡ true
    → p < length (counters_found q at version shapes)
unfolding positions_found
positions_within q at kind version shapes p fit h =
    by_within kind q (counters_found q at version shapes) shapes _ p (found_length q at version shapes fit) h

pub found_few : (q : QueueState) (at version : ℕ) (shapes : List Shape) → FitCounters q version shapes
    → length shapes ≤ 20 → length (counters_found q at version shapes) ≤ 20
found_few q at version shapes fit few = let f = found_length q at version shapes fit in omega arith

-- ---- what a turn leaves
pub turn_shut : (q : QueueState) (at clock lane : ℕ) (kind : Kind) (version : ℕ) (shapes : List Shape) (kicked : Bool)
    → is_some q.open_turn ≡ true → clock ≡ max q.clock at → kicked ≡ kicked_after kind q.kicked →
    (TurnOpen, record q { clock = clock; kicked = kicked }) ≡ turn q at lane kind version shapes
unfolding turn opens
turn_shut q at clock lane kind version shapes kicked h c k = rw (h, c, k) refl

pub turn_opened : (q : QueueState) (at clock lane : ℕ) (kind : Kind) (version : ℕ) (shapes : List Shape)
    (kicked : Bool) (m : Mask) (cs : List Counters) → is_some q.open_turn ≡ false → clock ≡ max q.clock at
    → kicked ≡ kicked_after kind q.kicked →
    m ≡ positions_found q at kind version shapes → cs ≡ counters_found q at version shapes → (
      Opened m,
      record q {
        clock = clock;
        kicked = kicked;
        counters = Some cs;
        version = version;
        open_turn = Some (record { lane = lane; kind = kind; positions = m });
      },
    ) ≡ turn q at lane kind version shapes
unfolding turn opens
turn_opened q at clock lane kind version shapes kicked m cs h c k e f = rw (h, c, k, e, f) refl

pub found_is : (q : QueueState) (at clock version : ℕ) (shapes : List Shape) (counted : Bool)
    (items new : List Counters) → q.counters ≡ cond counted (Some items) None → clock ≡ max q.clock at →
    new ≡ found_by (version == q.version) (cond counted (Some items) None) shapes (clock / 1000000)
    → new ≡ counters_found q at version shapes
unfolding counters_found
found_is q at clock version shapes counted items new o c e = rw (o, ← c) e

-- ---- a position closes
pub close_done : (q : QueueState) (at clock : ℕ) (shape : Shape) (outcome : Outcome) (imb : Option Bool)
    (t : OpenTurn) (items new : List Counters) → q.open_turn ≡ Some t → q.counters ≡ Some items → clock ≡ max q.clock at →
    new ≡ slice_set items shape.position
    (counters_after (counters_at items shape.position) t.kind outcome imb (weight_of_mask shape.span)
    (tries_of shape.name) (clock / 1000000)) →
    record q { clock = clock; counters = Some new } ≡ close_look q at shape outcome imb
unfolding close_look counters_closed
close_done q at clock shape outcome imb t items new o s c e = rw (o, s, e, c) refl
