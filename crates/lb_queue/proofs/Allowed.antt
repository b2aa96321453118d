-- Ends `taken_may_run`, `pulls_follow_picks` and `next_stops`: who leaves may run where it goes, a pull takes what is
-- picked, and a stop request that is next may be taken.
use Rattle.std.proofs.Common.{◌≡◌, ℕ, zero, suc, ◌≤◌, min, Bool, true, false, not, cond, ◌==◌, ◌&&◌, List, [], ◌∷◌, length, map, take, get_or, find, filter_map, Option, Some, None, is_none, is_some, unwrap_or, refl, sym, ◌∙◌, ap, arith, subst, add-one}
use Rattle.std.specs.Prelude.{All, IfSome, IsSomeAnd}
use Rattle.std.specs.List.{list_all, list_any, cons_option}
use Rattle.std.proofs.lemmas.Bool.{and_parts, and_from, eqb-true, eq-eqb}
use Rattle.std.proofs.lemmas.List.{length-map, get_or_default}
use Rattle.std.proofs.lemmas.List.Elements.{All-nil, All-head, All-tail, All-cons}
use Rattle.lb_base.specs.Mask.{has}
use Rattle.lb_base.specs.Sets.{least, is_empty}
use Rattle.lb_active.specs.Choice.{pick_of}
use Rattle.lb_detach.specs.declared.Env.{Env}
use Rattle.lb_detach.specs.Picks.{picked_ids}
use Rattle.lb_queue.specs.declared.record.TaskRecord.{TaskRecord}
use Rattle.lb_queue.specs.declared.awake.Awake.{Awake}
use Rattle.lb_queue.specs.Tasks.{awake_with, set_down, is_pending}
use Rattle.lb_queue.specs.Queue.{QueueState, away, clock_at}
use Rattle.lb_queue.specs.Requests.{asks, is_next_asked, next_asked, stop_of, next_stop, has_owed, has_pending}
use Rattle.lb_queue.specs.Hands.{leave, take_stop, take_push, stop_goes, stop_to, in_order, take_pull}
use Rattle.lb_queue.specs.Lists.{IsLeastAsked, down_of}
use Rattle.lb_queue.specs.Pulls.{CanGo, AllCanGo}
use Rattle.lb_queue.specs.Values.{views, view_at}
use Rattle.lb_queue.specs.Calls.{Call, May}
use Rattle.lb_queue.specs.Calls.Call.{Leave, TakeStop, TakePush, Take}
use Rattle.lb_queue.specs.Moves.{AreDistinct, taken_along, goes_to}
use Rattle.lb_queue.specs.Laws.{FollowsPicks}
use Rattle.lb_queue.proofs.Counts.{found}
use Rattle.lb_queue.proofs.Every.{all_find}
use Rattle.lb_queue.proofs.Ids.{key}
use Rattle.lb_queue.proofs.Leasts.{asked_pending, least_more, least_all, none_next}
use Rattle.lb_queue.proofs.Leaving.{leaves_there, stops_there, down_mask}
use Rattle.lb_queue.proofs.Moving.{taken_ids, left_behind}
use Rattle.lb_queue.proofs.Outcomes.{leave_by, stop_by, push_by}
use Rattle.lb_queue.proofs.PickedIds.{picked_can_go}
use Rattle.lb_queue.proofs.Pushes.{pushed_there}
use Rattle.lb_queue.proofs.Reached.{PicksSoundly}
use Rattle.lb_queue.proofs.Search.{passes_found, same_found}
use Rattle.lb_queue.proofs.Taking.{order_few}
use Rattle.lb_queue.proofs.Turned.{found_any}

-- ---- each may run where it goes
abbrev MayRun : ℕ → TaskRecord → Type 0
MayRun to t = has t.mask to ≡ true

one_may : (to : ℕ) (t : TaskRecord) → has t.mask to ≡ true → All (MayRun to) (t ∷ [])
one_may to t h = All-cons (MayRun to) t [] h (All-nil (MayRun to))

leave_may : (q : QueueState) (at id to : ℕ) → away q id ≡ Some to → All (MayRun to) (leave q at id).0
leave_may q at id to a = leave_by (λ ts q'. All (MayRun to) ts) q at id (All-nil (MayRun to))
    (λ t e. one_may to _ (leaves_there q id t to (sym e) a))

stop_may : (q : QueueState) (at id to : ℕ) → stop_to q id ≡ Some to → All (MayRun to) (take_stop q at id).0
stop_may q at id to s = stop_by (λ ts q'. All (MayRun to) ts) q at id (All-nil (MayRun to))
    (λ a e. one_may to (set_down (clock_at q at) a)
    (stops_there q id (clock_at q at) (set_down (clock_at q at) a) to (ap (down_of (clock_at q at)) (sym e)) s))

push_may : (q : QueueState) (at to : ℕ) → AreDistinct q → All (MayRun to) (take_push q at to).0
unfolding views
push_may q at to one = push_by (λ ts q'. All (MayRun to) ts) q at to (All-nil (MayRun to)) goes
  where
    goes : (id : ℕ) (a : Awake) → pick_of (views q at) to ≡ Some id → awake_with id q.awake ≡ Some a
        → All (MayRun to) (set_down (clock_at q at) a ∷ [])
    goes id a f e = one_may to (set_down (clock_at q at) a)
        (pushed_there to (clock_at q at) (clock_at q at) q.awake id (Some (set_down (clock_at q at) a)) one.awake
        (sym f) (ap (down_of (clock_at q at)) (sym e)))

down_may : (to clock id : ℕ) (xs : List Awake) (o : Option Awake) (ts : List Awake) → awake_with id xs ≡ o
    → IsSomeAnd o (CanGo to) → All (MayRun to) (map (set_down clock) ts)
    → All (MayRun to) (map (set_down clock) (cons_option o ts))
down_may to clock id xs None ts e h k = absurd h
down_may to clock id xs (Some a) ts e h k =
    All-cons (MayRun to) (set_down clock a) (map (set_down clock) ts) (rw (down_mask clock a a.running refl) h.may_run) k

all_may : (to clock : ℕ) (is : List ℕ) (xs : List Awake) → AllCanGo to xs is
    → All (MayRun to) (map (set_down clock) (in_order is xs))
unfolding in_order
all_may to clock [] xs h = All-nil (MayRun to)
all_may to clock (id ∷ is) xs h =
    let P = λ (i : ℕ). IsSomeAnd (awake_with i xs) (CanGo to) in
    down_may to clock id xs (awake_with id xs) (filter_map (λ i. awake_with i xs) is) refl (All-head P id is h)
    (all_may to clock is xs (All-tail P id is h))

pull_may : PicksSoundly → (q : QueueState) (at : ℕ) (env : Env) → AreDistinct q → All (MayRun env.to) (take_pull q at env).0
unfolding take_pull views
pull_may picks q at env one =
    let now = clock_at q at in
    all_may env.to now (picked_ids env (map (view_at now) q.awake)) q.awake
    (picked_can_go env now q.awake one.awake (picks env (map (view_at now) q.awake)))

pub taken_may_run : PicksSoundly → (q : QueueState) → AreDistinct q → (call : Call) → May q call
    → All (λ t. has t.mask (goes_to call) ≡ true) (taken_along q call)
taken_may_run picks q one (Leave at id to) m = leave_may q at id to m
taken_may_run picks q one (TakeStop at id to) m = stop_may q at id to m
taken_may_run picks q one (TakePush at to) m = push_may q at to one
taken_may_run picks q one (Take at env) m = pull_may picks q at env one
taken_may_run picks q one c m = All-nil (MayRun 0)

-- ---- by a pull the picked ones leave
few_leave : PicksSoundly → (q : QueueState) (at : ℕ) (env : Env) → length (take_pull q at env).0 ≤ 32
unfolding take_pull views
few_leave picks q at env =
    let now = clock_at q at in
    let is = picked_ids env (map (view_at now) q.awake) in
    let l = length-map (in_order is q.awake) (set_down now) in
    let f = order_few is q.awake in
    let n = (picks env (map (view_at now) q.awake)).few in
    omega arith

pub follows_picks : PicksSoundly → (q : QueueState) (at : ℕ) (env : Env) → FollowsPicks q at env
follows_picks picks q at env = record { taken = taken_ids q at env; left = left_behind q at env; few = few_leave picks q at env }

-- ---- a stop request that is next
-- it is found where one is asked
some_found : {X : Type 0} (o : Option X) → is_some o ≡ true → (x : X) × (o ≡ Some x)
some_found None h = absurd (let z : ⊥ = cc in z)
some_found (Some x) h = (x, refl)

least_exists : (owed : Bool) (d : Awake) (xs : List Awake) (i : ℕ) → i ≤ length xs → (o : Option ℕ) × IsLeastAsked owed
    (take i xs) o
least_exists owed d xs zero le = (None, refl)
least_exists owed d xs (suc i) le =
    let r = least_exists owed d xs i (omega arith) in
    let a = get_or xs i d in
    let o : Option ℕ = cond (asks owed a) (Some (min (unwrap_or r.0 a.task.id) a.task.id)) r.0 in (
      o,
      subst (λ (n : ℕ). IsLeastAsked owed (take n xs) o) (add-one i)
          (least_more owed xs i r.0 o a le (get_or_default xs i d a le) refl r.1),
    )

next_by : (owed : Bool) (xs : List Awake) (o : Option ℕ) → IsLeastAsked owed xs o → list_any (asks owed) xs ≡ true
    → (a : Awake) × (next_asked owed xs ≡ Some a)
unfolding next_asked
next_by owed xs None h any = absurd (let y : ⊥ = cc in y)
next_by owed xs (Some id) h any =
    let a = some_found (find (λ a. asks owed a && a.task.id == id) xs)
    (found_any (λ a. asks owed a && a.task.id == id) xs ∙ h.there) in
    let f = and_parts (asks owed a.0) (a.0.task.id == id) (found (λ a. asks owed a && a.task.id == id) key xs a.0 a.1).passes in
    let e : a.0.task.id ≡ id = eqb-true a.0.task.id id f.1 in
    passes_found (λ a. asks owed a && a.task.id == id) (is_next_asked owed xs) xs a.0 a.1
    (and_from (asks owed a.0) _ f.0 (rw e h.least))

next_exists : (owed : Bool) (xs : List Awake) → list_any (asks owed) xs ≡ true → (a : Awake) × (next_asked owed xs ≡ Some a)
next_exists owed [] h = absurd (let y : ⊥ = cc in y)
next_exists owed (x ∷ xs) h = let r = least_exists owed x (x ∷ xs) (length (x ∷ xs)) (omega arith) in
    next_by owed (x ∷ xs) r.0 (least_all owed (x ∷ xs) (length (x ∷ xs)) r.0 (omega arith) r.1) h

next_where : (q : QueueState) (owed : Bool) → is_some (next_stop q owed) ≡ list_any (asks owed) q.awake
unfolding next_asked
next_where q owed = by (list_any (asks owed) q.awake) refl
  where
    by : (b : Bool) → list_any (asks owed) q.awake ≡ b → is_some (next_stop q owed) ≡ b
    by true e = let a = next_exists owed q.awake e in ap (λ (o : Option Awake). is_some (stop_of o)) a.1
    by false e = ap (λ (o : Option Awake). is_some (stop_of o)) (none_next owed q.awake q.awake e)

pub asked_is_next : (q : QueueState) (owed : Bool) → is_some (next_stop q owed) ≡ cond owed (has_owed q) (has_pending q)
unfolding has_owed has_pending
asked_is_next q true = next_where q true
asked_is_next q false = next_where q false

-- its task is that of its id, and its mask says where it goes
least_or : (o : Option ℕ) → is_some o ≡ true → o ≡ Some (unwrap_or o 0)
least_or None h = absurd (let k : ⊥ = cc in k)
least_or (Some c) h = refl

not_empty : (o : Option ℕ) → not (is_none o) ≡ true → is_some o ≡ true
not_empty None h = absurd (let k : ⊥ = cc in k)
not_empty (Some c) h = refl

pub next_may_be_taken : (q : QueueState) → AreDistinct q
    → list_all (λ (a : Awake). not (is_empty a.task.mask)) q.awake ≡ true → (owed : Bool)
    → IfSome (next_stop q owed) (λ s. stop_to q s.id ≡ Some s.to)
unfolding next_asked
next_may_be_taken q one masks owed = by (find (is_next_asked owed q.awake) q.awake) refl
  where
    goes : (a : Awake) → find (is_next_asked owed q.awake) q.awake ≡ Some a → stop_goes (Some a) ≡ Some
        (unwrap_or (least a.task.mask) 0)
    goes a e =
        let asked = (and_parts (asks owed a) _ (found (is_next_asked owed q.awake) key q.awake a e).passes).0 in
        let p : is_pending a.stop ≡ true = asked_pending owed a asked in
        let m = all_find (λ (x : Awake). not (is_empty x.task.mask)) (is_next_asked owed q.awake) q.awake a masks e in
        rw p (least_or (least a.task.mask) (not_empty (least a.task.mask) m))

    here : (a : Awake) → find (is_next_asked owed q.awake) q.awake ≡ Some a → awake_with a.task.id q.awake ≡ Some a
    here a e =
        let b = passes_found (is_next_asked owed q.awake) (λ (x : Awake). x.task.id == a.task.id) q.awake a e
        (eq-eqb a.task.id a.task.id refl) in
        let n = eqb-true b.0.task.id a.task.id (found (λ (x : Awake). x.task.id == a.task.id) key q.awake b.0 b.1).passes in
        let same : b.0 ≡ a = same_found (λ (x : Awake). x.task.id == a.task.id)
        (is_next_asked owed q.awake) key q.awake b.0 a b.1 e n (one.awake b.0.task.id) in
        b.1 ∙ ap Some same

    by : (o : Option Awake) → find (is_next_asked owed q.awake) q.awake ≡ o → IfSome (stop_of o) (λ s. stop_to q s.id ≡ Some s.to)
    by None e = tt
    by (Some a) e = ap stop_goes (here a e) ∙ goes a e
