-- What is picked is taken by the rule.
-- For the law `picked_is_sound`.
use Rattle.std.proofs.Common.{◌≡◌, ℕ, zero, suc, ◌+◌, ◌<◌, ◌≤◌, Bool, true, false, not, leb, ltb, ◌&&◌, List, length, refl, arith}
use Rattle.std.specs.Prelude.{All}
use Rattle.std.proofs.lemmas.List.{length-map}
use Rattle.std.proofs.lemmas.Bool.{not-true, not-false, or_parts, leb-true, leb-false, le-leb, ltb-false}
use Rattle.std.proofs.lemmas.List.Elements.{All-weaker}
use Rattle.lb_base.specs.declared.view.TaskView.{TaskView}
use Rattle.lb_base.specs.Mask.{has}
use Rattle.lb_detach.specs.declared.Env.{Env}
use Rattle.lb_detach.specs.Rules.{fails_mask, refuses}
use Rattle.lb_detach.specs.Picks.{task_at, taken, refused_at, free, ends, examined, ids_at, picked_ids}
use Rattle.lb_detach.specs.Laws.{IsSound, picked_places}
use Rattle.lb_detach.proofs.Places.{each_passes, each_below, at_most_all, no_fewer, length-places_suc, at_most_one}
use Rattle.lb_detach.proofs.Complete.{goes_on}

-- ---- of one task that isn't refused
permitted : (env : Env) (list : List TaskView) (i : ℕ) → refused_at env list i ≡ false → has (task_at list i).mask env.to ≡ true
unfolding refused_at refuses
permitted env list i h = not-false (has (task_at list i).mask env.to) (or_parts _ _ (or_parts _ _ (or_parts _ _ h).0).0).0

not_running : (env : Env) (list : List TaskView) (i : ℕ) → refused_at env list i ≡ false → (task_at list i).running ≡ false
unfolding refused_at refuses
not_running env list i h = (or_parts _ _ (or_parts _ _ (or_parts _ _ h).0).0).1

-- ---- of all that are taken
by_rule : (env : Env) (list : List TaskView) (n : ℕ) → All (λ i. refused_at env list i ≡ false) (taken env list n)
unfolding taken
by_rule env list n =
    All-weaker (λ i. not (refused_at env list i) ≡ true) (λ i. refused_at env list i ≡ false)
    (λ i t. not-true (refused_at env list i) t)
    (taken env list n) (each_passes (λ i. not (refused_at env list i)) n)

-- each task that is taken may run at the destination, so no more are taken
taken_are_free : (env : Env) (list : List TaskView) (n : ℕ) → length (taken env list n) ≤ length (free env list n)
unfolding taken free
taken_are_free env list n =
    no_fewer (λ i. not (refused_at env list i)) (λ i. not (fails_mask env (task_at list i))) n
    (λ i t. let may = permitted env list i (not-true (refused_at env list i) t) in rw may refl)

none_of : (b : Bool) (n : ℕ) → b ≡ true → (b && ltb 0 n) ≡ false → n ≡ 0
none_of true n long h = let le = ltb-false 0 n h in omega arith
none_of false n long h = cc

-- past 32 tasks the examination goes on only while none of them may run at the destination
none_free : (env : Env) (list : List TaskView) (n : ℕ) → 32 ≤ n → ends env list n ≡ false → length (free env list n) ≡ 0
unfolding ends
none_free env list n long on = none_of (leb 32 n) (length (free env list n)) (le-leb 32 n long) (or_parts _ _ on).1

taken_suc : (env : Env) (list : List TaskView) (n : ℕ) → length (taken env list (suc n)) ≤ length (taken env list n) + 1
unfolding taken
taken_suc env list n = omega (
  arith,
  length-places_suc (λ i. not (refused_at env list i)) n,
  at_most_one
      (not (refused_at env list n)),
)

few_long : (env : Env) (list : List TaskView) (n : ℕ) (b : Bool) → leb 32 n ≡ b → ends env list n ≡ false
    → length (taken env list (suc n)) ≤ 32
unfolding taken
few_long env list n true long on = omega
    (arith, taken_suc env list n, taken_are_free env list n, none_free env list n (leb-true 32 n long) on)
few_long env list n false short on = omega (arith, at_most_all (λ i. not (refused_at env list i)) (suc n), leb-false 32 n short)

few : (env : Env) (list : List TaskView) (e : ℕ) → ((i : ℕ) → i < e → ends env list i ≡ false) → length (taken env list e) ≤ 32
unfolding taken
few env list zero on = omega arith
few env list (suc n) on = few_long env list n (leb 32 n) refl (on n (omega arith))

pub sound : (env : Env) (list : List TaskView) → IsSound env list
unfolding taken picked_ids ids_at
sound env list = record {
  permitted = All-weaker (λ i. refused_at env list i ≡ false) (λ i. has (task_at list i).mask env.to ≡ true)
      (permitted env list) (picked_places env list) (by_rule env list (examined env list));
  not_running = All-weaker (λ i. refused_at env list i ≡ false) (λ i. (task_at list i).running ≡ false)
      (not_running env list) (picked_places env list) (by_rule env list (examined env list));
  by_rule = by_rule env list (examined env list);
  inside = each_below (λ i. not (refused_at env list i)) (examined env list);
  few = rw (length-map (picked_places env list) (λ (i : ℕ). (task_at list i).id))
      (few env list (examined env list) (goes_on env list));
}
