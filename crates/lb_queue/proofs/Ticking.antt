-- A tick: another task takes the place of the running one, and pending requests become owed.
-- For `TaskLists::tick` and `rotate`.
use Rattle.std.proofs.Common.{◌≡◌, ℕ, ◌<◌, ◌≤◌, ltb, Bool, true, false, not, cond, ◌==◌, List, [], ◌∷◌, ◌++◌, length, map, reverse, find, position, remove, get_or, Option, Some, None, refl, sym, ◌∙◌, ap, arith, subst}
use Rattle.std.specs.List.{list_all}
use Rattle.std.proofs.lemmas.Bool.{le-ltb, lt-ltb, and_from}
use Rattle.std.proofs.lemmas.List.{reverse-append, reverse-reverse, length-reverse}
use Rattle.std.proofs.lemmas.List.Sums.{sum_by-cons}
use Rattle.lb_base.specs.Mask.{has}
use Rattle.lb_queue.specs.declared.record.TaskRecord.{TaskRecord}
use Rattle.lb_queue.specs.declared.awake.Awake.{Awake}
use Rattle.lb_queue.specs.Tasks.{occurs, awake_ids, without_awake, is_pending, preempted, picked}
use Rattle.lb_queue.specs.Kept.{AreSound, running_count, is_asked_rightly}
use Rattle.lb_queue.specs.Queue.{nobody}
use Rattle.lb_queue.specs.Requests.{next_up, rotated_to, rotated, owes}
use Rattle.lb_queue.proofs.Counts.{occurs-map}
use Rattle.lb_queue.proofs.Every.{all_map, all_filter, all_find, all_reverse}
use Rattle.lb_queue.proofs.Ids.{key, rotated_ids, owes_keeps}
use Rattle.lb_queue.proofs.Search.{position_parts, find_of_position, find_of_no_position, removed_at}
use Rattle.lb_queue.proofs.Turned.{filter_reverse, map_reverse}
use Rattle.lb_queue.proofs.Sound.{runs}

abbrev waits : Awake → Bool
waits a = not a.running

-- ---- the list, kept from the back to the front
pub rotate_short : (clock : ℕ) (xs : List Awake) → length xs < 2 → reverse xs ≡ rotated clock (reverse xs)
unfolding rotated
rotate_short clock xs h = let l = length-reverse xs in rw (le-ltb 1 (length (reverse xs)) (omega arith)) refl

next_turned : (xs : List Awake) (o : Option Awake) → find waits xs ≡ o → next_up (reverse xs) ≡ o
next_turned xs o h = ap (find waits) (reverse-reverse xs) ∙ h

pub rotate_none : (clock : ℕ) (xs : List Awake) → 2 ≤ length xs → position waits xs ≡ None → reverse xs ≡ rotated clock
    (reverse xs)
unfolding rotated
rotate_none clock xs h p =
    let l = length-reverse xs in
    rw (lt-ltb 1 (length (reverse xs)) (omega arith), next_turned xs None (find_of_no_position waits xs p)) refl

pub rotate_some : (clock : ℕ) (xs rest after : List Awake) (i : ℕ) (a b : Awake) → 2 ≤ length xs
    → position waits xs ≡ Some i → ((u : ℕ) → occurs u (awake_ids xs) ≤ 1) → a ≡ get_or xs i a → rest ≡ remove xs i
    → after ≡ map (preempted clock) rest → b ≡ picked clock a →
    reverse (after ++ b ∷ []) ≡ rotated clock (reverse xs)
unfolding rotated
rotate_some clock xs rest after i a b h p one e r m k =
    let l = length-reverse xs in
    let f = find_of_position waits xs i a p e in
    let within = (position_parts _ _ (Some i) p) in
    let n : i < length xs = omega arith in
    let o : rest ≡ without_awake a.task.id xs =
    r ∙ subst (λ (x : Awake). remove xs i ≡ without_awake x.task.id xs) (sym e)
    (removed_at key xs i a n (one (key (get_or xs i a)))) in
    let turned : reverse after ≡ map (preempted clock) (without_awake a.task.id (reverse xs)) =
    ap reverse (m ∙ ap (map (preempted clock)) o) ∙ sym (map_reverse (preempted clock) (without_awake a.task.id xs))
    ∙ ap (map (preempted clock)) (sym (filter_reverse (λ (x : Awake). not (x.task.id == a.task.id)) xs)) in
    rw (lt-ltb 1 (length (reverse xs)) (omega arith), next_turned xs (Some a) f, k)
    (reverse-append after (picked clock a ∷ []) ∙ ap (λ (ys : List Awake). picked clock a ∷ ys) turned)

-- ---- what is kept
preempted_stands : (clock : ℕ) (x : Awake) (b : Bool) → x.running ≡ b → (preempted clock x).running ≡ false
preempted_stands clock x true e = rw e refl
preempted_stands clock x false e = rw e refl

none_run : (clock : ℕ) (xs : List Awake) → running_count (map (preempted clock) xs) ≡ 0
none_run clock [] = refl
none_run clock (x ∷ xs) =
    let c = sum_by-cons runs (preempted clock x) (map (preempted clock) xs) in
    let h = none_run clock xs in
    let z : runs (preempted clock x) ≡ 0 = ap (λ (b : Bool). cond {A = ℕ} b 1 0) (preempted_stands clock x x.running refl) in
    omega arith

count_to : (o : Option Awake) (clock : ℕ) (xs : List Awake) → running_count xs ≡ cond (nobody xs) 0 1
    → running_count (rotated_to o clock xs) ≡ cond (nobody (rotated_to o clock xs)) 0 1
count_to None clock xs h = h
count_to (Some a) clock xs h =
    let c = sum_by-cons runs (picked clock a) (map (preempted clock) (without_awake a.task.id xs)) in
    let z = none_run clock (without_awake a.task.id xs) in
    omega arith

count_if : (b : Bool) (clock : ℕ) (xs : List Awake) → running_count xs ≡ cond (nobody xs) 0 1
    → running_count (cond b (rotated_to (next_up xs) clock xs) xs) ≡ cond
    (nobody (cond b (rotated_to (next_up xs) clock xs) xs)) 0 1
count_if true clock xs h = count_to (next_up xs) clock xs h
count_if false clock xs h = h

count_rotated : (clock : ℕ) (xs : List Awake) → running_count xs ≡ cond (nobody xs) 0 1
    → running_count (rotated clock xs) ≡ cond (nobody (rotated clock xs)) 0 1
unfolding rotated
count_rotated clock xs h = count_if (ltb 1 (length xs)) clock xs h

owes_runs : (a : Awake) (b : Bool) → is_pending a.stop ≡ b → (owes a).running ≡ a.running
owes_runs a true e = rw e refl
owes_runs a false e = rw e refl

count_owed : (xs : List Awake) → running_count (map owes xs) ≡ running_count xs
count_owed [] = refl
count_owed (x ∷ xs) =
    let c = sum_by-cons runs (owes x) (map owes xs) in
    let d = sum_by-cons runs x xs in
    let h = count_owed xs in
    let z : runs (owes x) ≡ runs x = ap (λ (b : Bool). cond {A = ℕ} b 1 0) (owes_runs x (is_pending x.stop) refl) in
    omega arith

nobody_owed : (xs : List Awake) → nobody (map owes xs) ≡ nobody xs
nobody_owed [] = refl
nobody_owed (x ∷ xs) = refl

preempted_asked : (cpu clock : ℕ) (x : Awake) (b : Bool) → x.running ≡ b → is_asked_rightly cpu x ≡ true
    → is_asked_rightly cpu (preempted clock x) ≡ true
preempted_asked cpu clock x true e h = rw e h
preempted_asked cpu clock x false e h = rw e h

asked_to : (o : Option Awake) (cpu clock : ℕ) (xs : List Awake)
    → ((a : Awake) → o ≡ Some a → is_asked_rightly cpu a ≡ true) → list_all (is_asked_rightly cpu) xs ≡ true
    → list_all (is_asked_rightly cpu) (rotated_to o clock xs) ≡ true
asked_to None cpu clock xs f h = h
asked_to (Some a) cpu clock xs f h =
    and_from (is_asked_rightly cpu a) _ (f a refl)
    (all_map (is_asked_rightly cpu) (is_asked_rightly cpu) (preempted clock)
    (λ x k. preempted_asked cpu clock x x.running refl k) (without_awake a.task.id xs)
    (all_filter (is_asked_rightly cpu) (λ x. not (x.task.id == a.task.id)) xs h))

asked_if : (b : Bool) (cpu clock : ℕ) (xs : List Awake) → list_all (is_asked_rightly cpu) xs ≡ true
    → list_all (is_asked_rightly cpu) (cond b (rotated_to (next_up xs) clock xs) xs) ≡ true
asked_if true cpu clock xs h = asked_to (next_up xs) cpu clock xs
    (λ a e. all_find (is_asked_rightly cpu) waits (reverse xs) a (all_reverse (is_asked_rightly cpu) xs h) e) h
asked_if false cpu clock xs h = h

asked_rotated : (cpu clock : ℕ) (xs : List Awake) → list_all (is_asked_rightly cpu) xs ≡ true
    → list_all (is_asked_rightly cpu) (rotated clock xs) ≡ true
unfolding rotated
asked_rotated cpu clock xs h = asked_if (ltb 1 (length xs)) cpu clock xs h

owes_asked : (cpu : ℕ) (a : Awake) (b : Bool) → is_pending a.stop ≡ b → is_asked_rightly cpu a ≡ true
    → is_asked_rightly cpu (owes a) ≡ true
owes_asked cpu a true e h = let k : cond (has a.task.mask cpu) (not true) true ≡ true = rw e at h in rw e k
owes_asked cpu a false e h = rw e h

pub sound_ticked : (cpu clock : ℕ) (xs : List Awake) (asleep gone : List TaskRecord) → AreSound cpu xs asleep gone
    → AreSound cpu (map owes (rotated clock xs)) asleep gone
sound_ticked cpu clock xs asleep gone h =
    let one : (u : ℕ) → occurs u (awake_ids xs) ≤ 1 = λ u. let k = h.once u in omega arith in
    let same : (u : ℕ) → occurs u (awake_ids (map owes (rotated clock xs))) ≡ occurs u (awake_ids xs) =
    λ u. occurs-map key owes owes_keeps u (rotated clock xs) ∙ rotated_ids clock u xs one in
    record {
      once = λ u. let k = h.once u in let e = same u in omega arith;
      numbered = λ u lo. let k = h.numbered u lo in let e = same u in omega arith;
      one_runs = count_owed (rotated clock xs) ∙ count_rotated clock xs h.one_runs
          ∙ ap (λ (b : Bool). cond {A = ℕ} b 0 1) (sym (nobody_owed (rotated clock xs)));
      asked = all_map (is_asked_rightly cpu) (is_asked_rightly cpu) owes
          (λ a k. owes_asked cpu a (is_pending a.stop) refl k) (rotated clock xs) (asked_rotated cpu clock xs h.asked);
    }
