-- What the flags say of the masks of the examined tasks.
-- For the law `flags_tell_pinned`.
use Rattle.std.proofs.Common.{◌≡◌, ℕ, ◌<◌, true, not, ◌&&◌, ◌==◌, ltb, List, length, refl, ap}
use Rattle.std.proofs.lemmas.Bool.{not-false, ltb-true, lt-ltb, eqb-true, and_parts}
use Rattle.lb_base.specs.declared.view.TaskView.{TaskView}
use Rattle.lb_detach.specs.declared.Env.{Env}
use Rattle.lb_detach.specs.Rules.{fails_mask}
use Rattle.lb_detach.specs.Picks.{task_at, free, examined}
use Rattle.lb_detach.specs.Laws.{TellsPinned}
use Rattle.lb_detach.proofs.Places.{fewer, one_fails, each_fails, none_pass}

some_said : (env : Env) (list : List TaskView) (e : ℕ) → ltb (length (free env list e)) e ≡ true
    → (i : ℕ) × (i < e) × (fails_mask env (task_at list i) ≡ true)
unfolding free
some_said env list e said =
    let found = one_fails (λ i. not (fails_mask env (task_at list i))) e (ltb-true _ _ said) in
    (found.0, found.1, not-false (fails_mask env (task_at list found.0)) found.2)

some_says : (env : Env) (list : List TaskView) (e i : ℕ) → i < e → fails_mask env (task_at list i) ≡ true
    → ltb (length (free env list e)) e ≡ true
unfolding free
some_says env list e i lt h = lt-ltb _ _ (fewer (λ k. not (fails_mask env (task_at list k))) e i lt (ap not h))

all_said : (env : Env) (list : List TaskView) (e : ℕ) → (ltb 0 e && (length (free env list e) == 0)) ≡ true
    → (0 < e) × ((i : ℕ) → i < e → fails_mask env (task_at list i) ≡ true)
unfolding free
all_said env list e said =
    let parts = and_parts _ _ said in (
      ltb-true 0 e parts.0,
      λ i lt. not-false (fails_mask env (task_at list i))
          (each_fails (λ k. not (fails_mask env (task_at list k))) e (eqb-true _ _ parts.1) i lt),
    )

all_says : (env : Env) (list : List TaskView) (e : ℕ) → 0 < e
    → ((i : ℕ) → i < e → fails_mask env (task_at list i) ≡ true) → (ltb 0 e && (length (free env list e) == 0)) ≡ true
unfolding free
all_says env list e some each =
    rw (lt-ltb 0 e some, none_pass (λ k. not (fails_mask env (task_at list k))) e (λ i lt. ap not (each i lt))) refl

pub tells : (env : Env) (list : List TaskView) → TellsPinned env list
tells env list = record {
  some = (some_said env list (examined env list), λ w. some_says env list (examined env list) w.0 w.1 w.2);
  all = (all_said env list (examined env list), λ w. all_says env list (examined env list) w.0 w.1);
}
