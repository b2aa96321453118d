-- The counters of a queue stay in range: those that a turn finds, and those that a close leaves.
-- For the lemmas of `Keeping` and `Ranges`, and so for the laws `calls_may_be_made`, `ready` and others.
use Rattle.std.proofs.Common.{arith, ◌≡◌, ℕ, suc, ◌+◌, ◌<◌, ◌≤◌, Bool, true, false, cond, ◌==◌, List, [], ◌∷◌, length, map, Option, Some, None, refl, sym, ltb, zero, ◌*◌, ◌-◌, ◌^◌, ◌||◌, set, inl, inr, get_or-set_same, get_or-set_other, length-set, unwrap_or, subst}
use Rattle.std.specs.Prelude.{◌⊎◌}
use Rattle.std.proofs.lemmas.Bool.{ltb-true, cases_eq, cases_lt}
use Rattle.std.proofs.Math.Nat.{min-le_right}
use Rattle.std.proofs.lemmas.List.{get_or_past}
use Rattle.lb_base.specs.declared.shape.Kind.{Kind}
use Rattle.lb_base.specs.declared.shape.Kind.TheVariants.{Tick as TickTurn, Idle, Nohz}
use Rattle.lb_base.specs.declared.shape.Shape.{Shape}
use Rattle.lb_base.proofs.Members.{length-members_le}
use Rattle.lb_interval.specs.declared.Counters.{Counters}
use Rattle.lb_interval.specs.declared.Outcome.{Outcome}
use Rattle.lb_interval.specs.declared.Outcome.TheVariants.{NotMine, Balanced, Moved, Pinned, Failed, Asking}
use Rattle.lb_interval.specs.After.{one_more, failures_after, idle_failures, interval_after, counters_after}
use Rattle.lb_queue.specs.Queue.{QueueState, clock_at, milliseconds}
use Rattle.lb_queue.specs.Turns.{fresh_at, counters_or_fresh, counters_found, no_counters, counters_closed, close_look}
use Rattle.lb_queue.specs.Requests.{ask_active, kick}
use Rattle.lb_core.specs.declared.entry.What.{What}
use Rattle.lb_core.specs.declared.entry.What.TheVariants.{Did, Out, Landed, Turn, Close}
use Rattle.lb_core.specs.Course.{turn_domains, turn_domain, shapes_of, outcome_of, flag_of}
use Rattle.lb_core.specs.Sight.{Sight}
use Rattle.lb_core.specs.Leaving.{Leaving, leaving, out_by}
use Rattle.lb_core.specs.QueueAfter.{rest_of, cause_of, queue_by}
use Rattle.lb_ready.specs.Ready.{IsInRange, AreInRange}
use Rattle.lb_ready.proofs.Steps.{answer_alike, land_alike, out_alike, QueueLaws}

-- ---- ranges, at one position
pick : (b : Bool) (x y n : ℕ) → (b ≡ true → x ≤ n) → y ≤ n → cond b x y ≤ n
pick true x y n h k = h refl
pick false x y n h k = k

either_of : (a b : Bool) → (a || b) ≡ true → (a ≡ true) ⊎ (b ≡ true)
either_of true b h = inl refl
either_of false b h = inr h

doubled : (interval weight : ℕ) → interval < 2 * weight → weight ≤ 64 → 2 * interval ≤ 1024
doubled interval weight lt few = omega arith

interval_in : (o : Outcome) (interval weight : ℕ) → interval ≤ 1024 → weight ≤ 64 → interval_after o interval weight ≤ 1024
interval_in NotMine interval weight h few = h
interval_in Balanced interval weight h few = pick _ _ _ 1024
    (λ e. doubled interval weight (ltb-true interval (2 * weight) e) few) h
interval_in (Moved n) interval weight h few = omega arith
interval_in Pinned interval weight h few = pick _ _ _ 1024
    (λ e. elim (either_of (ltb interval (2 * weight)) (ltb interval 512) e) [
      | inl less ↦ doubled interval weight (ltb-true interval (2 * weight) less) few
      | inr less ↦ let lt = ltb-true interval 512 less in omega (arith, lt)
    ]) h
interval_in Failed interval weight h few = omega arith
interval_in Asking interval weight h few = omega arith

one_more_in : (n : ℕ) → one_more n ≤ 4294967295
one_more_in n = min-le_right (n + 1) (2 ^ 32 - 1)

failures_in : (o : Outcome) (n tries : ℕ) → n ≤ 4294967295 → failures_after o n tries ≤ 4294967295
failures_in NotMine n tries h = h
failures_in Balanced n tries h = omega arith
failures_in (Moved k) n tries h = omega arith
failures_in Pinned n tries h = omega arith
failures_in Failed n tries h = one_more_in n
failures_in Asking n tries h = one_more_in tries

idle_in : (o : Outcome) (n tries : ℕ) → n ≤ 4294967295 → idle_failures o n tries ≤ 4294967295
idle_in Failed n tries h = h
idle_in NotMine n tries h = h
idle_in Balanced n tries h = omega arith
idle_in (Moved k) n tries h = omega arith
idle_in Pinned n tries h = omega arith
idle_in Asking n tries h = one_more_in tries

after_in : (c : Counters) (kind : Kind) (o : Outcome) (imb : Option Bool) (weight tries now : ℕ) → weight ≤ 64
    → IsInRange c → IsInRange (counters_after c kind o imb weight tries now)
unfolding counters_after
after_in c Idle o imb weight tries now few h = record { interval = h.interval; failures = idle_in o c.failures tries h.failures }
after_in c TickTurn o imb weight tries now few h =
    record { interval = interval_in o c.interval weight h.interval few; failures = failures_in o c.failures tries h.failures }
after_in c Nohz o imb weight tries now few h =
    record { interval = interval_in o c.interval weight h.interval few; failures = failures_in o c.failures tries h.failures }

pub closed_in : (q : QueueState) (at : ℕ) (shape : Shape) (o : Outcome) (imb : Option Bool) → AreInRange q.counters
    → IsInRange (counters_closed q at shape o imb)
unfolding counters_closed
closed_in q at shape o imb h = after_in _ _ o imb _ _ _ (length-members_le shape.span) (h shape.position)

-- ---- at all positions
pub none_in : IsInRange no_counters
none_in = record { interval = omega arith; failures = omega arith }

fresh_in : (now : ℕ) (shapes : List Shape) → AreInRange (Some (map (fresh_at now) shapes))
fresh_in now [] p = none_in
fresh_in now (shape ∷ shapes) zero = record {
  interval = let few = length-members_le shape.span in omega (arith, few);
  failures = omega arith;
}
fresh_in now (shape ∷ shapes) (suc p) = fresh_in now shapes p

found_counters_in : (q : QueueState) (at version : ℕ) (shapes : List Shape) → AreInRange q.counters
    → AreInRange (Some (counters_found q at version shapes))
unfolding counters_found
found_counters_in q at version shapes h = by_version (version == q.version)
  where
    by_counters : (o : Option (List Counters)) → AreInRange o → AreInRange (Some (counters_or_fresh o shapes))
    by_counters None k = fresh_in 0 shapes
    by_counters (Some cs) k = k

    by_version : (b : Bool) → AreInRange
        (Some (cond b (counters_or_fresh q.counters shapes) (map (fresh_at (milliseconds (clock_at q at))) shapes)))
    by_version true = by_counters q.counters h
    by_version false = fresh_in (milliseconds (clock_at q at)) shapes

set_in : (cs : List Counters) (i : ℕ) (c : Counters) → IsInRange c → AreInRange (Some cs) → AreInRange (Some (set cs i c))
set_in cs i c one all p = elim (cases_eq p i) [
  | inl same ↦ elim (cases_lt i (length cs)) [
    | inl lt ↦ rw (same, get_or-set_same cs i c no_counters lt) one
    | inr ge ↦ rw (get_or_past (set cs i c) p no_counters (let l = length-set cs i c in omega (arith, l, same, ge))) none_in
  ]
  | inr other ↦ rw (get_or-set_other cs i p c no_counters other) (all p)
]

-- ---- a queue after an entry of it
pub counters_in : (laws : QueueLaws) (s : Sight) (lane : ℕ) (w : What) → AreInRange s.queue.counters
    → AreInRange (queue_by w s lane).counters
unfolding close_look ask_active kick leaving
counters_in laws s lane (Did r) h = subst AreInRange (sym (answer_alike laws s.course.command s.course.at s.queue).counted) h
counters_in laws s lane (Out cause to ids) h = by_out (out_by s.course.form s.header s.course s.queue) refl
  where
    by_out : (o : Option Leaving) → out_by s.course.form s.header s.course s.queue ≡ o → AreInRange (rest_of o s.queue).counters
    by_out None e = h
    by_out (Some l) e = subst AreInRange (sym (out_alike laws s.course.form s.header s.course s.queue l e).counted) h
counters_in laws s lane (Landed ids) h =
    subst AreInRange (sym (land_alike laws s.queue s.course.at (cause_of s.course) s.course.moment s.course.hand).counted) h
counters_in laws s lane (Turn ps) h = found_counters_in s.queue s.course.at s.course.version
    (shapes_of (turn_domains s.header s.course)) h
counters_in laws s lane (Close p w i f) h =
    set_in (unwrap_or s.queue.counters []) (turn_domain s.header s.course).shape.position _
    (closed_in s.queue s.course.at (turn_domain s.header s.course).shape (outcome_of s.header s.course)
    (flag_of s.course.taken) h) h
counters_in laws s lane w h = h
