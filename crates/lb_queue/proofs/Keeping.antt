-- What the lists of a queue keep with their rooms, as a task is taken out or comes in.
-- For `TaskLists::add_gone`, `TaskLists::next_stop`, `TaskLists::add_asleep` and others.
use Rattle.std.proofs.Common.{◌≡◌, ℕ, suc, ◌^◌, ◌+◌, ◌-◌, ◌<◌, ◌≤◌, Bool, true, false, not, cond, ◌==◌, List, [], ◌∷◌, ◌++◌, length, map, filter, reverse, Option, Some, None, refl, sym, arith}
use Rattle.std.specs.Prelude.{IfSome, IfNone}
use Rattle.lb_base.specs.Mask.{has}
use Rattle.lb_queue.specs.declared.record.TaskRecord.{TaskRecord}
use Rattle.lb_queue.specs.declared.awake.Awake.{Awake}
use Rattle.lb_queue.specs.Tasks.{occurs, ids, awake_ids, task_with, awake_with, without_task, without_awake, joined, left_by, waiting, picked, picked_first, pick_back, somebody_runs}
use Rattle.lb_queue.specs.Kept.{AreSound, id_limit, stands, is_asked_rightly}
use Rattle.lb_queue.specs.Lists.{Lists, AreKept, HasRoom, IsUnknown, left_of, down_of, load_of}
use Rattle.lb_queue.proofs.Counts.{occurs-reverse, occurs-append}
use Rattle.lb_queue.proofs.Counting.{length_below}
use Rattle.lb_queue.proofs.Ids.{key, name}
use Rattle.lb_queue.proofs.Search.{rest_of_none}
use Rattle.std.proofs.lemmas.List.{length-reverse, length-map, length-append}
use Rattle.lb_queue.proofs.Sound.{sound_map, sound_tasks, sound_up, sound_in, sound_asleep, sound_gone, sound_out, unknown_up, unknown_out, set_down_keeps}

length_filter : {X : Type 0} (p : X → Bool) (xs : List X) → length (filter p xs) ≤ length xs
length_filter p [] = omega arith
length_filter p (x ∷ xs) = step x (filter p xs) xs (p x) (length_filter p xs)
  where
    step : {X : Type 0} (x : X) (ys xs : List X) (b : Bool) → length ys ≤ length xs → length (cond b (x ∷ ys) ys) ≤ suc
        (length xs)
    step x ys xs true h = omega arith
    step x ys xs false h = omega arith

pub kept_up : (l : Lists) (a s g v s' id : ℕ) (asleep : List TaskRecord) → AreKept l a s g v
    → asleep ≡ without_task id l.asleep → s' ≡ s → AreKept (record l { asleep = asleep }) a s' g v
kept_up l a s g v s' id asleep h e r = let f = length_filter (λ (t : TaskRecord). not (t.id == id)) l.asleep in record {
  cpu_fits = h.cpu_fits;
  booked_fit = h.booked_fit;
  sound = rw e (sound_up l.cpu id l.awake l.asleep l.gone h.sound);
  within = let k = h.within in rw e (omega arith);
  awake_fits = h.awake_fits;
  asleep_fits = let k = h.asleep_fits in omega arith;
  gone_fits = h.gone_fits;
  views_fit = h.views_fit;
}

joined_length : (clock : ℕ) (t : TaskRecord) (xs : List Awake) → length (joined clock t xs) ≡ length xs + 1
unfolding joined
joined_length clock t xs = cases (somebody_runs xs)
  where
    cases : (b : Bool) → length (cond b (waiting t ∷ xs) (picked clock (waiting t) ∷ xs)) ≡ length xs + 1
    cases true = omega arith
    cases false = omega arith

pub kept_in : (l : Lists) (a s g v a' clock : ℕ) (awake : List Awake) (t : TaskRecord) → AreKept l a s g v
    → t.id < id_limit → IsUnknown l t.id → HasRoom l → has t.mask l.cpu ≡ true → awake ≡ joined clock t l.awake
    → a' ≡ a → AreKept (record l { awake = awake }) a' s g v
kept_in l a s g v a' clock awake t h low new room m e r = let f = joined_length clock t l.awake in record {
  cpu_fits = h.cpu_fits;
  booked_fit = h.booked_fit;
  sound = rw e (sound_in l.cpu clock l.awake l.asleep l.gone t low new m h.sound);
  within = let k = h.within in rw e (omega arith);
  awake_fits = let k = h.awake_fits in omega arith;
  asleep_fits = h.asleep_fits;
  gone_fits = h.gone_fits;
  views_fit = h.views_fit;
}

-- ---- what is taken out is not known any more
pub unknown_if : (l : Lists) (id : ℕ) (o : Option TaskRecord) (asleep : List TaskRecord) → o ≡ task_with id l.asleep
    → asleep ≡ without_task id l.asleep → AreSound l.cpu l.awake l.asleep l.gone
    → IfSome o (λ t. stands l.awake asleep l.gone t.id ≡ 0)
unknown_if l id None asleep f r h = tt
unknown_if l id (Some t) asleep f r h = rw r (unknown_up l.cpu id l.awake l.asleep l.gone t (sym f) h)

pub once_awake : (id : ℕ) (items : List Awake) (asleep gone : List TaskRecord) {cpu : ℕ}
    → AreSound cpu (reverse items) asleep gone → occurs id (awake_ids items) ≤ 1
once_awake id items asleep gone h = let k = h.once id in let r = occurs-reverse key id items in omega arith

pub once_turned : (awake : List Awake) (asleep gone : List TaskRecord) {cpu : ℕ} → AreSound cpu awake asleep gone
    → (u : ℕ) → occurs u (awake_ids awake) ≤ 1
once_turned awake asleep gone h u = let k = h.once u in omega arith

left_length : (clock : ℕ) (a : Awake) (xs : List Awake) → length (left_by clock a xs) ≤ length xs
unfolding left_by pick_back
left_length clock a xs = let f = length_filter (λ (x : Awake). not (x.task.id == a.task.id)) xs in
    cases (without_awake a.task.id xs) a.running f
  where
    first : (ys : List Awake) → length (picked_first clock ys) ≡ length ys
    first [] = refl
    first (y ∷ ys) = let r = length-reverse ys in omega arith

    cases : (ys : List Awake) (b : Bool) → length ys ≤ length xs
        → length (cond b (picked_first clock (reverse ys)) ys) ≤ length xs
    cases ys true h = let r = length-reverse ys in let f = first (reverse ys) in omega arith
    cases ys false h = h

kept_by : (l : Lists) (a s g v clock id : ℕ) (o : Option Awake) → awake_with id l.awake ≡ o → AreKept l a s g v
    → AreKept (record l { awake = left_of clock o l.awake }) a s g v
kept_by l a s g v clock id None e h = h
kept_by l a s g v clock id (Some x) e h = let f = left_length clock x l.awake in record {
  cpu_fits = h.cpu_fits;
  booked_fit = h.booked_fit;
  sound = sound_out l.cpu clock id l.awake l.asleep l.gone x e h.sound;
  within = let k = h.within in omega arith;
  awake_fits = h.awake_fits;
  asleep_fits = h.asleep_fits;
  gone_fits = h.gone_fits;
  views_fit = h.views_fit;
}

pub kept_out : (l : Lists) (a s g v a' clock id : ℕ) (awake : List Awake) → AreKept l a s g v
    → awake ≡ left_of clock (awake_with id l.awake) l.awake → a' ≡ a → AreKept (record l { awake = awake }) a' s g v
kept_out l a s g v a' clock id awake h e r = rw (e, r) (kept_by l a s g v clock id (awake_with id l.awake) refl h)

unknown_by : (l : Lists) (clock id : ℕ) (o : Option Awake) → awake_with id l.awake ≡ o
    → AreSound l.cpu l.awake l.asleep l.gone → IfSome (down_of clock o)
    (λ t. stands (left_of clock o l.awake) l.asleep l.gone t.id ≡ 0)
unknown_by l clock id None e h = tt
unknown_by l clock id (Some a) e h = rw (set_down_keeps clock a) (unknown_out l.cpu clock id l.awake l.asleep l.gone a e h)

pub unknown_down : (l : Lists) (clock id : ℕ) (o : Option TaskRecord) (awake : List Awake)
    → o ≡ down_of clock (awake_with id l.awake) → awake ≡ left_of clock (awake_with id l.awake) l.awake
    → AreSound l.cpu l.awake l.asleep l.gone →
    IfSome o (λ t. stands awake l.asleep l.gone t.id ≡ 0)
unknown_down l clock id o awake f r h = rw (f, r) (unknown_by l clock id (awake_with id l.awake) refl h)

-- ---- a task comes to those asleep, and to those gone
push_length : (xs : List TaskRecord) (t : TaskRecord) → length (xs ++ t ∷ []) ≡ length xs + 1
push_length [] t = refl
push_length (x ∷ xs) t = let h = push_length xs t in omega arith

pub kept_asleep : (l : Lists) (a s g v s' : ℕ) (asleep : List TaskRecord) (t : TaskRecord) → AreKept l a s g v
    → t.id < id_limit → IsUnknown l t.id → HasRoom l → asleep ≡ l.asleep ++ t ∷ [] → s' ≡ s
    → AreKept (record l { asleep = asleep }) a s' g v
kept_asleep l a s g v s' asleep t h low new room e r = let f = push_length l.asleep t in record {
  cpu_fits = h.cpu_fits;
  booked_fit = h.booked_fit;
  sound = rw e (sound_asleep l.cpu l.awake l.asleep l.gone t low new h.sound);
  within = rw e (omega arith);
  awake_fits = h.awake_fits;
  asleep_fits = let k = h.asleep_fits in omega arith;
  gone_fits = h.gone_fits;
  views_fit = h.views_fit;
}

pub kept_gone : (l : Lists) (a s g v g' : ℕ) (gone : List TaskRecord) (t : TaskRecord) → AreKept l a s g v
    → t.id < id_limit → IsUnknown l t.id → HasRoom l → gone ≡ l.gone ++ t ∷ [] → g' ≡ g
    → AreKept (record l { gone = gone; room = l.room - 1 }) a s g' v
kept_gone l a s g v g' gone t h low new room e r = let f = push_length l.gone t in record {
  cpu_fits = h.cpu_fits;
  booked_fit = h.booked_fit;
  sound = rw e (sound_gone l.cpu l.awake l.asleep l.gone t low new h.sound);
  within = omega arith;
  awake_fits = let k = h.awake_fits in omega arith;
  asleep_fits = let k = h.asleep_fits in omega arith;
  gone_fits = let k = h.gone_fits in rw e (omega arith);
  views_fit = let k = h.views_fit in omega arith;
}

-- ---- nothing is taken out where nothing is found
pub same_if : (l : Lists) (id : ℕ) (o : Option TaskRecord) (asleep : List TaskRecord) → o ≡ task_with id l.asleep
    → asleep ≡ without_task id l.asleep → IfNone o (record l { asleep = asleep } ≡ l)
same_if l id None asleep f r = rw (r, rest_of_none name id l.asleep (sym f)) refl
same_if l id (Some t) asleep f r = tt

same_by : (l : Lists) (clock : ℕ) (o : Option Awake) → IfNone (down_of clock o) (record l { awake = left_of clock o l.awake } ≡ l)
same_by l clock None = refl
same_by l clock (Some a) = tt

pub same_down : (l : Lists) (clock id : ℕ) (o : Option TaskRecord) (awake : List Awake)
    → o ≡ down_of clock (awake_with id l.awake) → awake ≡ left_of clock (awake_with id l.awake) l.awake
    → IfNone o (record l { awake = awake } ≡ l)
same_down l clock id o awake f r = rw (f, r) (same_by l clock (awake_with id l.awake))

-- ---- a task is changed where it stands
pub kept_awake : (l : Lists) (a s g v a' : ℕ) (awake : List Awake) → AreKept l a s g v
    → AreSound l.cpu awake l.asleep l.gone → length awake ≡ length l.awake → a' ≡ a
    → AreKept (record l { awake = awake }) a' s g v
kept_awake l a s g v a' awake h new e r = record {
  cpu_fits = h.cpu_fits;
  booked_fit = h.booked_fit;
  sound = new;
  within = let k = h.within in omega arith;
  awake_fits = let k = h.awake_fits in omega arith;
  asleep_fits = h.asleep_fits;
  gone_fits = h.gone_fits;
  views_fit = h.views_fit;
}

pub kept_tasks : (l : Lists) (a s g v s' : ℕ) (asleep : List TaskRecord) → AreKept l a s g v
    → AreSound l.cpu l.awake asleep l.gone → length asleep ≡ length l.asleep → s' ≡ s
    → AreKept (record l { asleep = asleep }) a s' g v
kept_tasks l a s g v s' asleep h new e r = record {
  cpu_fits = h.cpu_fits;
  booked_fit = h.booked_fit;
  sound = new;
  within = let k = h.within in omega arith;
  awake_fits = h.awake_fits;
  asleep_fits = let k = h.asleep_fits in omega arith;
  gone_fits = h.gone_fits;
  views_fit = h.views_fit;
}

-- the awake tasks are changed one by one
pub kept_map : (l : Lists) (a s g v a' : ℕ) (f : Awake → Awake) (awake : List Awake)
    → ((x : Awake) → key (f x) ≡ key x) → ((x : Awake) → (f x).running ≡ x.running)
    → ((x : Awake) → is_asked_rightly l.cpu x ≡ true → is_asked_rightly l.cpu (f x) ≡ true) → AreKept l a s g v →
    awake ≡ map f l.awake → a' ≡ a → AreKept (record l { awake = awake }) a' s g v
kept_map l a s g v a' f awake id run ask h e r =
    rw e (kept_awake l a s g v a' (map f l.awake) h (sound_map l.cpu f l.awake l.asleep l.gone id run ask h.sound)
    (length-map l.awake f) r)

pub kept_renamed : (l : Lists) (a s g v s' : ℕ) (f : TaskRecord → TaskRecord) (asleep : List TaskRecord)
    → ((t : TaskRecord) → name (f t) ≡ name t) → AreKept l a s g v → asleep ≡ map f l.asleep → s' ≡ s
    → AreKept (record l { asleep = asleep }) a s' g v
kept_renamed l a s g v s' f asleep id h e r =
    rw e (kept_tasks l a s g v s' (map f l.asleep) h (sound_tasks l.cpu f l.awake l.asleep l.gone id h.sound)
    (length-map l.asleep f) r)

-- ---- how many tasks there can be
pub known_length : (cpu : ℕ) (awake : List Awake) (asleep gone : List TaskRecord) → AreSound cpu awake asleep gone
    → length awake + length asleep + length gone ≤ id_limit
known_length cpu awake asleep gone h =
    let all = awake_ids awake ++ (ids asleep ++ ids gone) in
    let parts : (u : ℕ) → occurs u all ≡ stands awake asleep gone u = λ u.
    let a = occurs-append u (awake_ids awake) (ids asleep ++ ids gone) in
    let b = occurs-append u (ids asleep) (ids gone) in
    omega arith in
    let bound = length_below id_limit all (λ u. let k = h.once u in let p = parts u in omega arith)
    (λ u lo. let k = h.numbered u lo in let p = parts u in omega arith) in
    let l = length-append (awake_ids awake) (ids asleep ++ ids gone) in
    let m = length-append (ids asleep) (ids gone) in
    let x = length-map awake key in
    let y = length-map asleep name in
    let z = length-map gone name in
    omega arith

-- ---- room is made, and landings are booked
pub kept_roomy : (l : Lists) (a s g v room : ℕ) → AreKept l a s g v → load_of l ≤ room → room ≤ a → room ≤ s
    → length l.gone + room ≤ g → room ≤ v → AreKept (record l { room = room }) a s g v
kept_roomy l a s g v room h w x y z t = record {
  cpu_fits = h.cpu_fits;
  booked_fit = h.booked_fit;
  sound = h.sound;
  within = w;
  awake_fits = x;
  asleep_fits = y;
  gone_fits = z;
  views_fit = t;
}

pub kept_booked : (l : Lists) (a s g v booked : ℕ) → AreKept l a s g v → booked < 2 ^ 32
    → length l.awake + length l.asleep + booked ≤ l.room → AreKept (record l { booked = booked }) a s g v
kept_booked l a s g v booked h w x = record {
  cpu_fits = h.cpu_fits;
  booked_fit = w;
  sound = h.sound;
  within = x;
  awake_fits = h.awake_fits;
  asleep_fits = h.asleep_fits;
  gone_fits = h.gone_fits;
  views_fit = h.views_fit;
}

-- wider vectors keep it
pub kept_wider : (l : Lists) (a s g v a' s' g' v' : ℕ) → AreKept l a s g v → a ≤ a' → s ≤ s' → g ≤ g' → v ≤ v'
    → AreKept l a' s' g' v'
kept_wider l a s g v a' s' g' v' h x y z w = record {
  cpu_fits = h.cpu_fits;
  booked_fit = h.booked_fit;
  sound = h.sound;
  within = h.within;
  awake_fits = let k = h.awake_fits in omega arith;
  asleep_fits = let k = h.asleep_fits in omega arith;
  gone_fits = let k = h.gone_fits in omega arith;
  views_fit = let k = h.views_fit in omega arith;
}
