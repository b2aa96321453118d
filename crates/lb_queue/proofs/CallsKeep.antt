-- Each call keeps the tasks of a queue sound.
-- For the lemmas of `Reached`, and so for the laws `clock_rises`, `sound` and others.
use Rattle.std.proofs.Common.{◌≡◌, ℕ, ℤ, zero, suc, ◌<◌, ◌≤◌, max, true, cond, ◌==◌, eqb, List, [], ◌∷◌, ◌++◌, length, map, get_or, take, drop, Option, Some, None, refl, sym, ◌∙◌, ap, arith, subst, add-one, take_all}
use Rattle.std.specs.Prelude.{All, IsSomeAnd}
use Rattle.std.specs.List.{list_all}
use Rattle.std.proofs.lemmas.Bool.{cond-true, eq-eqb, and_parts}
use Rattle.std.proofs.lemmas.List.{take_more}
use Rattle.std.proofs.lemmas.List.Elements.{All-head, All-tail}
use Rattle.lb_base.specs.declared.mask.Mask.{Mask}
use Rattle.lb_base.specs.Mask.{has}
use Rattle.lb_pelt.specs.declared.signal.Run.TheVariants.{Asleep}
use Rattle.lb_detach.specs.declared.Env.{Env}
use Rattle.lb_detach.specs.Laws.{IsSound}
use Rattle.lb_detach.specs.Picks.{picked_ids, kept_ids}
use Rattle.lb_queue.specs.declared.record.TaskRecord.{TaskRecord}
use Rattle.lb_queue.specs.declared.awake.Awake.{Awake}
use Rattle.lb_queue.specs.declared.answers.OutCause.{OutCause}
use Rattle.lb_queue.specs.Tasks.{occurs, ids, task_with, awake_with, without_task, without_awake, advanced_task, set_down, joined, left_by}
use Rattle.lb_queue.specs.Queue.{QueueState, clock_at, new_task, declared, away}
use Rattle.lb_queue.specs.Kept.{AreSound, IsTask, stands, id_limit}
use Rattle.lb_queue.specs.Commands.{wake, sleep, exit, set_mask, renice}
use Rattle.lb_queue.specs.Requests.{tick}
use Rattle.lb_queue.specs.Hands.{leave, take_stop, take_push, in_order, take_pull, all_joined, land}
use Rattle.lb_queue.specs.Lists.{left_of}
use Rattle.lb_queue.specs.Pulls.{CanGo, AllCanGo, without_all}
use Rattle.lb_queue.specs.Calls.{IsNew, CanLand}
use Rattle.lb_queue.specs.Values.{views, view_at}
use Rattle.lb_queue.proofs.Ids.{joined_ids}
use Rattle.lb_queue.proofs.Keeping.{once_turned}
use Rattle.lb_queue.proofs.Landing.{unknown_each}
use Rattle.lb_queue.proofs.Order.{in_order_turned, sound_turned}
use Rattle.lb_queue.proofs.PickedIds.{picked_once, picked_can_go, left_turned, kept_in_order}
use Rattle.lb_queue.proofs.Replies.{unknown_where, wakes_here}
use Rattle.lb_queue.proofs.Sound.{sound_in, sound_up, sound_out, sound_asleep, sound_gone, sound_map, sound_tasks, unknown_up, unknown_out, task_named, set_down_keeps, masked_asked, masked_key, masked_running, reniced_asked, reniced_key, reniced_running, mask_name, nice_name}
use Rattle.lb_queue.proofs.Lasting.{found_all}
use Rattle.lb_queue.proofs.Outcomes.{Refuses, wake_by, sleep_by, exit_by, mask_by, nice_by, leave_by, stop_by, push_by, land_by}
use Rattle.lb_queue.proofs.Steps.{SoundQueue, IsUp, Keeps}
use Rattle.lb_queue.proofs.Taking.{waits_out, without_more, found_without, once_next, first_of, filter_all}
use Rattle.lb_queue.proofs.Ticking.{sound_ticked}

-- ---- a task is declared
pub declare_sound : (q : QueueState) (id : ℕ) (nice : ℤ) (mask : Mask) → IsNew q id nice mask → Keeps q
    → SoundQueue (declared (new_task id nice mask) q)
declare_sound q id nice mask n h = sound_asleep q.cpu q.awake q.asleep q.gone (new_task id nice mask) n.numbered
    (unknown_where q id n.unknown) h.sound

-- ---- a task goes
-- where a sleeping task was, no task of its id is known any more
gone_up : (cpu id : ℕ) (awake : List Awake) (asleep gone : List TaskRecord) (t : TaskRecord)
    → task_with id asleep ≡ Some t → AreSound cpu awake asleep gone → stands awake (without_task t.id asleep) gone t.id ≡ 0
gone_up cpu id awake asleep gone t e h =
    unknown_up cpu t.id awake asleep gone t (subst (λ (i : ℕ). task_with i asleep ≡ Some t) (sym (task_named id asleep t e)) e) h

gone_out : (cpu clock id : ℕ) (awake : List Awake) (asleep gone : List TaskRecord) (a : Awake)
    → awake_with id awake ≡ Some a → AreSound cpu awake asleep gone → stands (left_by clock a awake) asleep gone
    (set_down clock a).id ≡ 0
gone_out cpu clock id awake asleep gone a e h =
    subst (λ (i : ℕ). stands (left_by clock a awake) asleep gone i ≡ 0) (sym (set_down_keeps clock a))
    (unknown_out cpu clock id awake asleep gone a e h)

-- an awake task that was put down keeps its id's bound
low_down : (q : QueueState) (clock id : ℕ) (a : Awake) → awake_with id q.awake ≡ Some a → Keeps q
    → (set_down clock a).id < id_limit
low_down q clock id a e h = subst (λ (i : ℕ). i < id_limit) (sym (set_down_keeps clock a))
    (found_all IsUp (λ x. x.task.id == id) q.awake a h.up e).numbered

module _ (q : QueueState) (h : Keeps q) where
  refuses : (at : ℕ) → Refuses (λ r q'. SoundQueue q') q at
  refuses at = record { already = h.sound; gone = h.sound; bad_mask = h.sound; not_here = h.sound }

  -- ---- commands
  pub wake_sound : (at id : ℕ) → away q id ≡ None → SoundQueue (wake q at id).1
  wake_sound at id here = wake_by (λ r q'. SoundQueue q') q at id (refuses at) (λ t e.
      let k = found_all IsTask (λ x. x.id == id) q.asleep t h.down e in
      sound_in q.cpu (clock_at q at) q.awake (without_task t.id q.asleep) q.gone
      (advanced_task Asleep (clock_at q at) t) k.numbered (gone_up q.cpu id q.awake q.asleep q.gone t e h.sound)
      (wakes_here q id t (sym e) here k.somewhere) (sound_up q.cpu t.id q.awake q.asleep q.gone h.sound))

  pub leave_sound : (at id : ℕ) → SoundQueue (leave q at id).1
  leave_sound at id = leave_by (λ ts q'. SoundQueue q') q at id h.sound
      (λ t e. sound_up q.cpu t.id q.awake q.asleep q.gone h.sound)

  pub sleep_sound : (at id : ℕ) → SoundQueue (sleep q at id).1
  sleep_sound at id = sleep_by (λ r q'. SoundQueue q') q at id (refuses at) (λ a e.
      let clock = clock_at q at in
      sound_asleep q.cpu (left_by clock a q.awake) q.asleep q.gone (set_down clock a) (low_down q clock id a e h)
      (gone_out q.cpu clock id q.awake q.asleep q.gone a e h.sound)
      (sound_out q.cpu clock id q.awake q.asleep q.gone a e h.sound))

  pub exit_sound : (at id : ℕ) → SoundQueue (exit q at id).1
  exit_sound at id = exit_by (λ r q'. SoundQueue q') q at id (refuses at)
      (λ a e.
      let clock = clock_at q at in
      sound_gone q.cpu (left_by clock a q.awake) q.asleep q.gone (set_down clock a) (low_down q clock id a e h)
      (gone_out q.cpu clock id q.awake q.asleep q.gone a e h.sound)
      (sound_out q.cpu clock id q.awake q.asleep q.gone a e h.sound))
      (λ t n e.
      let k = found_all IsTask (λ x. x.id == id) q.asleep t h.down e in
      sound_gone q.cpu q.awake (without_task t.id q.asleep) q.gone t k.numbered
      (gone_up q.cpu id q.awake q.asleep q.gone t e h.sound) (sound_up q.cpu t.id q.awake q.asleep q.gone h.sound))

  pub mask_sound : (at id : ℕ) (mask : Mask) → SoundQueue (set_mask q at id mask).1
  mask_sound at id mask = mask_by (λ r q'. SoundQueue q') q at id mask (refuses at)
      (λ good. sound_map q.cpu _ q.awake q.asleep q.gone (masked_key q.cpu id mask) (masked_running q.cpu id mask)
      (masked_asked q.cpu id mask) h.sound)
      (λ good. sound_tasks q.cpu _ q.awake q.asleep q.gone (mask_name id mask) h.sound)

  pub nice_sound : (at id : ℕ) (nice : ℤ) → SoundQueue (renice q at id nice).1
  nice_sound at id nice = nice_by (λ r q'. SoundQueue q') q at id nice (refuses at)
      (sound_map q.cpu _ q.awake q.asleep q.gone (reniced_key id nice) (reniced_running id nice)
      (reniced_asked q.cpu id nice) h.sound)
      (sound_tasks q.cpu _ q.awake q.asleep q.gone (nice_name id nice) h.sound)

  pub tick_sound : (at : ℕ) → SoundQueue (tick q at)
  unfolding tick
  tick_sound at = sound_ticked q.cpu (clock_at q at) q.awake q.asleep q.gone h.sound

  -- ---- hands
  pub stop_sound : (at id : ℕ) → SoundQueue (take_stop q at id).1
  stop_sound at id = stop_by (λ ts q'. SoundQueue q') q at id h.sound
      (λ a e. sound_out q.cpu (clock_at q at) id q.awake q.asleep q.gone a e h.sound)

  pub push_sound : (at to : ℕ) → SoundQueue (take_push q at to).1
  push_sound at to = push_by (λ ts q'. SoundQueue q') q at to h.sound
      (λ id a f e. sound_out q.cpu (clock_at q at) id q.awake q.asleep q.gone a e h.sound)

land_all : (cpu clock : ℕ) (ts : List TaskRecord) (awake : List Awake) (asleep gone : List TaskRecord)
    → ((u : ℕ) → occurs u (ids ts) ≤ 1) → ((u : ℕ) → 1 ≤ occurs u (ids ts) → stands awake asleep gone u ≡ 0)
    → list_all (λ t. has t.mask cpu) ts ≡ true → All IsTask ts →
    AreSound cpu awake asleep gone → AreSound cpu (all_joined clock ts awake) asleep gone
land_all cpu clock [] awake asleep gone one new m k h = h
land_all cpu clock (t ∷ ts) awake asleep gone one new m k h =
    let p = and_parts (has t.mask cpu) (list_all (λ x. has x.mask cpu) ts) m in
    let z : cond {A = ℕ} (eqb t.id t.id) 1 0 ≡ 1 = cond-true {A = ℕ} (eqb t.id t.id) 1 0 (eq-eqb t.id t.id refl) in
    land_all cpu clock ts (joined clock t awake) asleep gone (λ u. let o = one u in omega arith)
    (λ u some. let o = one u in let n = new u (omega arith) in let j = joined_ids clock t awake u in omega arith) p.1
    (All-tail IsTask t ts k)
    (sound_in cpu clock awake asleep gone t (All-head IsTask t ts k).numbered (new t.id (omega arith)) p.0 h)

pub land_sound : (q : QueueState) (at : ℕ) (cause : OutCause) (moment : ℕ) (ts : List TaskRecord) → CanLand q ts
    → Keeps q → SoundQueue (land q at cause moment ts)
land_sound q at cause moment ts c h = land_by (λ xs q'. CanLand q xs → SoundQueue q') q at cause moment ts (λ c. h.sound)
    (λ t xs e c. land_all q.cpu (clock_at q (max at moment)) (t ∷ xs) q.awake q.asleep q.gone c.differ
    (unknown_each q (t ∷ xs) c.unknown) c.permitted c.each h.sound) c

-- ---- a pull
-- a waiting task has left the list
wait_keeps : (cpu to id : ℕ) (awake : List Awake) (asleep gone : List TaskRecord) (o : Option Awake)
    → awake_with id awake ≡ o → IsSomeAnd o (CanGo to) → AreSound cpu awake asleep gone
    → AreSound cpu (without_awake id awake) asleep gone
wait_keeps cpu to id awake asleep gone None e go h = absurd go
wait_keeps cpu to id awake asleep gone (Some a) e go h =
    let left : left_by 0 a awake ≡ without_awake id awake =
    sym (ap (λ (o : Option Awake). left_of 0 o awake) e)
    ∙ waits_out to 0 id awake (subst (λ (o : Option Awake). IsSomeAnd o (CanGo to)) (sym e) go) in
    subst (λ (xs : List Awake). AreSound cpu xs asleep gone) left (sound_out cpu 0 id awake asleep gone a e h)

-- the first of some waiting tasks have left it
some_keep : (cpu to : ℕ) (is : List ℕ) (awake : List Awake) (asleep gone : List TaskRecord)
    → ((u : ℕ) → occurs u is ≤ 1) → AllCanGo to awake is → AreSound cpu awake asleep gone → (n : ℕ) → n ≤ length is
    → AreSound cpu (without_all (take n is) awake) asleep gone
some_keep cpu to is awake asleep gone one go h zero le = subst (λ (xs : List Awake). AreSound cpu xs asleep gone)
    (sym (filter_all awake)) h
some_keep cpu to is awake asleep gone one go h (suc n) le =
    let id = get_or is n 0 in
    let lt : n < length is = omega arith in
    let front : take n is ++ id ∷ [] ≡ take (suc n) is = sym (take_more is n 0 lt) ∙ ap (λ (k : ℕ). take k is) (add-one n) in
    let before = without_all (take n is) awake in
    let there : awake_with id before ≡ awake_with id awake =
    found_without (take n is) id awake (first_of (take n is) id (once_next is n one lt)) in
    let goes : IsSomeAnd (awake_with id before) (CanGo to) = subst (λ (o : Option Awake). IsSomeAnd o (CanGo to))
    (sym there) (go n 0 lt) in
    let left = wait_keeps cpu to id before asleep gone (awake_with id before) refl goes
    (some_keep cpu to is awake asleep gone one go h n (omega arith)) in
    subst (λ (xs : List Awake). AreSound cpu xs asleep gone)
    (without_more (take n is) id awake ∙ ap (λ (js : List ℕ). without_all js awake) front) left

-- the picked tasks have left it
pulled_sound : (cpu now : ℕ) (env : Env) (awake : List Awake) (asleep gone : List TaskRecord)
    → IsSound env (map (view_at now) awake) → AreSound cpu awake asleep gone
    → AreSound cpu (without_all (picked_ids env (map (view_at now) awake)) awake) asleep gone
pulled_sound cpu now env awake asleep gone s h =
    let one = once_turned awake asleep gone h in
    let is = picked_ids env (map (view_at now) awake) in
    let all : take (length is) is ≡ is = take_all (length is) is (omega arith) in
    subst (λ (js : List ℕ). AreSound cpu (without_all js awake) asleep gone) all
    (some_keep cpu env.to is awake asleep gone (picked_once env now awake one) (picked_can_go env now awake one s) h
    (length is) (omega arith))

pub pull_sound : (q : QueueState) (at : ℕ) (env : Env) → IsSound env (views q at) → Keeps q → SoundQueue (take_pull q at env).1
unfolding take_pull views
pull_sound q at env s h =
    let now = clock_at q at in
    let one = once_turned q.awake q.asleep q.gone h.sound in
    let list = map (view_at now) q.awake in
    let rest = without_all (picked_ids env list) q.awake in
    let left = pulled_sound q.cpu now env q.awake q.asleep q.gone s h.sound in
    let t = left_turned env now q.awake one in
    let n = length t.front in
    let made : drop n rest ++ take n rest ≡ in_order (kept_ids env list) q.awake =
    sym (in_order_turned rest (kept_ids env list) (once_turned rest q.asleep q.gone left) t) ∙ kept_in_order env now
    q.awake one in
    subst (λ (xs : List Awake). AreSound q.cpu xs q.asleep q.gone) made (sound_turned q.cpu n rest q.asleep q.gone left)
