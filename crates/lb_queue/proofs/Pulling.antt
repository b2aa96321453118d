-- A pull: what it says, what it leaves and what comes into the hand.
-- For `Queue::take`.
use Rattle.std.proofs.Common.{◌≡◌, ℕ, ◌≤◌, max, List, ◌++◌, map, Some, refl, sym, ◌∙◌, ap, subst}
use Rattle.lb_base.specs.declared.view.TaskView.{TaskView}
use Rattle.lb_detach.specs.declared.Env.{Env}
use Rattle.lb_detach.specs.Picks.{picked_ids, kept_ids, examined, left_before, some_pinned, all_pinned}
use Rattle.lb_queue.specs.declared.awake.Awake.{Awake}
use Rattle.lb_queue.specs.declared.answers.Taken.{Taken}
use Rattle.lb_queue.specs.Tasks.{occurs, awake_ids, set_down}
use Rattle.lb_queue.specs.Queue.{QueueState, at_moment}
use Rattle.lb_queue.specs.Lists.{Lists}
use Rattle.lb_queue.specs.Hands.{HandState, in_order, loaded, take_pull, taken_by}
use Rattle.lb_queue.specs.Pulls.{without_all, IsTurned}
use Rattle.lb_queue.specs.Values.{view_at, views}
use Rattle.lb_queue.proofs.PickedIds.{left_turned, kept_in_order}
use Rattle.lb_queue.proofs.Replies.{of_lists}

-- what an examination at a moment has picked and left, and the lists after the picked tasks left
pub record IsPulling (env : Env) (clock : ℕ) (before : Lists) (picked order : List ℕ) (after : Lists) : Type 0 where
  pub once : (u : ℕ) → occurs u (awake_ids before.awake) ≤ 1
  pub picks : picked ≡ picked_ids env (map (view_at clock) before.awake)
  pub keeps : order ≡ kept_ids env (map (view_at clock) before.awake)
  pub left : after ≡ record before { awake = without_all picked before.awake }

pub pulling : (env : Env) (clock : ℕ) (before seen : Lists) (picked order : List ℕ) (after : Lists)
    → ((u : ℕ) → occurs u (awake_ids before.awake) ≤ 1) → seen ≡ before
    → picked ≡ picked_ids env (map (view_at clock) before.awake) → order ≡ kept_ids env (map (view_at clock) before.awake) →
    after ≡ record seen { awake = without_all picked seen.awake } → IsPulling env clock before picked order after
pulling env clock before seen picked order after one s p k l =
    record {
      once = one;
      picks = p;
      keeps = k;
      left = l
          ∙ ap (λ (m : Lists). let r : Lists = record m { awake = without_all picked m.awake } in r) s;
    }

pub pulling_turned : (env : Env) (clock : ℕ) (before : Lists) (picked order : List ℕ) (after : Lists)
    → IsPulling env clock before picked order after → IsTurned (awake_ids after.awake) order
pulling_turned env clock before picked order after h =
    let left : after.awake ≡ without_all (picked_ids env (map (view_at clock) before.awake)) before.awake =
    ap (λ (l : Lists). l.awake) h.left ∙ ap (λ (is : List ℕ). without_all is before.awake) h.picks in
    subst (λ (xs : List Awake). IsTurned (awake_ids xs) order) (sym left)
    (subst (λ (is : List ℕ). IsTurned (awake_ids
    (without_all (picked_ids env (map (view_at clock) before.awake)) before.awake)) is) (sym h.keeps)
    (left_turned env clock before.awake h.once))

-- the lists after those that stay were put in order
put_in_order : (env : Env) (clock : ℕ) (before : Lists) (picked order : List ℕ) (after end : Lists)
    → IsPulling env clock before picked order after → end ≡ record after { awake = in_order order after.awake } →
    end ≡ record before { awake = in_order (kept_ids env (map (view_at clock) before.awake)) before.awake }
put_in_order env clock before picked order after end h e =
    e ∙ ap (λ (l : Lists). let k : Lists = record l { awake = in_order order l.awake } in k) h.left
    ∙ ap (λ (is : List ℕ). let k : Lists = record before { awake = in_order order (without_all is before.awake) } in k) h.picks
    ∙ ap (λ (is : List ℕ). let k : Lists =
    record before { awake = in_order is (without_all (picked_ids env (map (view_at clock) before.awake)) before.awake) }
    in k) h.keeps
    ∙ ap (λ (xs : List Awake). let k : Lists = record before { awake = xs } in k) (kept_in_order env clock before.awake h.once)

state_after : (q : QueueState) (at clock : ℕ) (awake : List Awake) (end before : Lists) → clock ≡ max q.clock at
    → end ≡ record before { awake = awake } → record (of_lists q end) { clock = clock } ≡ record
    (at_moment (of_lists q before) at) { awake = awake }
state_after q at clock awake end before c e = rw (e, c) refl

pub pull_done : (q : QueueState) (at clock : ℕ) (env : Env) (before : Lists) (picked order : List ℕ)
    (after end : Lists) → IsPulling env clock before picked order after → clock ≡ max q.clock at
    → end ≡ record after { awake = in_order order after.awake } →
    record (of_lists q end) { clock = clock } ≡ (take_pull (of_lists q before) at env).1
unfolding take_pull views
pull_done q at clock env before picked order after end h c e =
    state_after q at clock (in_order (kept_ids env (map (view_at clock) before.awake)) before.awake) end before c
    (put_in_order env clock before picked order after end h e)
    ∙ ap (λ (k : ℕ). let s : QueueState = record
    (at_moment (of_lists q before) at) { awake = in_order (kept_ids env (map (view_at k) before.awake)) before.awake } in s) c

pub pull_hand : (q : QueueState) (at clock : ℕ) (env : Env) (picked : List ℕ) (h : HandState) → clock ≡ max q.clock at
    → picked ≡ picked_ids env (map (view_at clock) q.awake) →
    record h {
      source = Some q.cpu;
      moment = clock;
      tasks = h.tasks ++ map (set_down clock) (in_order picked q.awake);
    } ≡ loaded q at (take_pull q at env).0 h
unfolding take_pull views
pull_hand q at clock env picked h c p =
    ap (λ (is : List ℕ). let k : HandState =
    record h { source = Some q.cpu; moment = clock; tasks = h.tasks ++ map (set_down clock) (in_order is q.awake) } in k) p
    ∙ ap (λ (n : ℕ). let k : HandState =
    record h {
      source = Some q.cpu;
      moment = n;
      tasks = h.tasks ++ map (set_down n) (in_order (picked_ids env (map (view_at n) q.awake)) q.awake);
    } in k) c

pub pull_answer : (q : QueueState) (at clock : ℕ) (env : Env) (t : Taken) → clock ≡ max q.clock at
    → t.some_pinned ≡ some_pinned env (map (view_at clock) q.awake) → t.all_pinned ≡ all_pinned env
    (map (view_at clock) q.awake) →
    t.left ≡ left_before env (map (view_at clock) q.awake) (examined env (map (view_at clock) q.awake)) → t ≡ taken_by q at env
unfolding taken_by views
pull_answer q at clock env t c s a l =
    said t (map (view_at clock) q.awake) s a l
    ∙ ap (λ (k : ℕ). let list = map (view_at k) q.awake in
    let r : Taken = record {
      some_pinned = some_pinned env list;
      all_pinned = all_pinned env list;
      left = left_before env list (examined env list);
    } in r) c
  where
    said : (t : Taken) (list : List TaskView) → t.some_pinned ≡ some_pinned env list
        → t.all_pinned ≡ all_pinned env list → t.left ≡ left_before env list (examined env list) →
        ◌≡◌ {A = Taken} t (record {
          some_pinned = some_pinned env list;
          all_pinned = all_pinned env list;
          left = left_before env list (examined env list);
        })
    said t list s a l = rw (← s, ← a, ← l) refl
