-- What a loop over the places keeps, one place after another, and what it has at its end.
-- For `picks`.
use Rattle.std.proofs.Common.{◌≡◌, ℕ, ◌+◌, ◌-◌, ◌<◌, ◌≤◌, Bool, true, false, not, cond, eqb, ltb, leb, ◌&&◌, ◌||◌, List, [], ◌∷◌, ◌++◌, length, get_or, take, below_more, refl, sym, ◌∙◌, ap, arith, add-one}
use Rattle.std.specs.Prelude.{map, reverse}
use Rattle.std.specs.List.{range_with_len}
use Rattle.std.proofs.lemmas.List.{append-nil, length-map, length-append, map-append, reverse-append}
use Rattle.std.proofs.lemmas.List.Sums.{position_or_len_is}
use Rattle.std.proofs.lemmas.List.FromFn.{length-range_with_len, get_or-range_with_len}
use Rattle.lb_base.specs.declared.view.TaskView.{TaskView}
use Rattle.lb_detach.specs.declared.Env.{Env}
use Rattle.lb_detach.specs.Rules.{fails_mask, amount_of, refuses}
use Rattle.lb_detach.specs.Picks.{task_at, left_before, refused_at, taken, refused, free, ends, examined, ids_at, kept_ids}
use Rattle.lb_detach.proofs.Places.{places_more}

-- ---- what the loop keeps, after n places of which so many may run at the destination
pub record HasExamined (env : Env) (list : List TaskView) (ids order : List ℕ) (n allowed left : ℕ) : Type 0 where
  pub within : n ≤ length list
  pub goes_on : (k : ℕ) → k < n → ends env list k ≡ false
  pub ids_are : ids ≡ ids_at list (taken env list n)
  pub order_is : order ≡ ids_at list (refused env list n)
  pub allowed_are : allowed ≡ length (free env list n)
  pub left_is : left ≡ left_before env list n

pub HasExamined-none : (env : Env) (list : List TaskView) → HasExamined env list [] [] 0 0 env.imbalance
unfolding ids_at taken refused free left_before
HasExamined-none env list = record {
  within = omega arith;
  goes_on = λ k h. absurd (omega arith);
  ids_are = refl;
  order_is = refl;
  allowed_are = refl;
  left_is = refl;
}

-- the test of the loop is the rule
pub ends_is : (env : Env) (list : List TaskView) (ids order : List ℕ) (n allowed left took : ℕ)
    → HasExamined env list ids order n allowed left → took ≡ length ids →
    ends env list n ≡ (eqb left 0 || (env.idle && leb (length list - took) 1) || (env.newly && ltb 0 took) ||
    (leb 32 n && ltb 0 allowed))
unfolding ends ids_at
ends_is env list ids order n allowed left took h e =
    let count : took ≡ length (taken env list n) = e ∙ ap length h.ids_are ∙ length-map (taken env list n) _ in
    rw (count, h.allowed_are, h.left_is) refl

left_more : (env : Env) (list : List TaskView) (n : ℕ)
    → left_before env list (n + 1) ≡ cond (refused_at env list n) (left_before env list n)
    (left_before env list n - amount_of env.kind (task_at list n))
unfolding left_before refused_at
left_more env list n = ap (left_before env list) (add-one n)

ids_more : (list : List TaskView) (at : List ℕ) (n : ℕ) → ids_at list (at ++ n ∷ []) ≡ ids_at list at ++ (task_at list n).id ∷ []
unfolding ids_at
ids_more list at n = map-append (λ x. (task_at list x).id) at (n ∷ [])

-- ---- one task more
ids_stay : (list : List TaskView) (at : List ℕ) (n : ℕ) (r : Bool)
    → cond r (ids_at list at ++ (task_at list n).id ∷ []) (ids_at list at) ≡ ids_at list (at ++ cond r (n ∷ []) [])
ids_stay list at n true = sym (ids_more list at n)
ids_stay list at n false = ap (ids_at list) (sym (append-nil at))

ids_take : (list : List TaskView) (at : List ℕ) (n : ℕ) (r : Bool)
    → cond r (ids_at list at) (ids_at list at ++ (task_at list n).id ∷ []) ≡ ids_at list (at ++ cond (not r) (n ∷ []) [])
ids_take list at n true = ap (ids_at list) (sym (append-nil at))
ids_take list at n false = sym (ids_more list at n)

allowed_step : (b : Bool) (at : List ℕ) (n : ℕ) → cond b (length at) (length at + 1) ≡ length (at ++ cond (not b) (n ∷ []) [])
allowed_step true at n = ap length (sym (append-nil at))
allowed_step false at n = sym (length-append at (n ∷ []))

pub HasExamined-more : (env : Env) (list : List TaskView) (ids order : List ℕ) (n allowed left : ℕ) (t : TaskView)
    (ids' order' : List ℕ) (allowed' left' : ℕ) →
    HasExamined env list ids order n allowed left → n < length list → ends env list n ≡ false → t ≡ task_at list n →
    ids' ≡ cond (refuses env t left) ids (ids ++ t.id ∷ []) →
    order' ≡ cond (refuses env t left) (order ++ t.id ∷ []) order →
    left' ≡ cond (refuses env t left) left (left - amount_of env.kind t) →
    allowed' ≡ cond (fails_mask env t) allowed (allowed + 1) →
    HasExamined env list ids' order' (n + 1) allowed' left'
unfolding refused_at taken refused free
HasExamined-more env list ids order n allowed left t ids' order' allowed' left' h lt on e i o l f = record {
  within = omega arith;
  goes_on = below_more _ _ h.goes_on on;
  ids_are = (rw (e, h.left_is, h.ids_are) at i) ∙ ids_take list (taken env list n) n (refused_at env list n)
      ∙ ap (ids_at list) (sym (places_more (λ k. not (refused_at env list k)) n));
  order_is = (rw (e, h.left_is, h.order_is) at o) ∙ ids_stay list (refused env list n) n (refused_at env list n)
      ∙ ap (ids_at list) (sym (places_more (refused_at env list) n));
  allowed_are = (rw (e, h.allowed_are) at f) ∙ allowed_step (fails_mask env (task_at list n)) (free env list n) n
      ∙ ap length (sym (places_more (λ k. not (fails_mask env (task_at list k))) n));
  left_is = (rw (e, h.left_is) at l) ∙ sym (left_more env list n);
}

-- ---- the end
pub examined_is : (env : Env) (list : List TaskView) (ids order : List ℕ) (n allowed left : ℕ)
    → HasExamined env list ids order n allowed left → (n < length list → ends env list n ≡ true) → examined env list ≡ n
unfolding examined
examined_is env list ids order n allowed left h stop =
    let m = length list in
    let at : (k : ℕ) → k < m → get_or (range_with_len 0 m) k 0 ≡ k =
    λ k lt. get_or-range_with_len 0 m k 0 lt ∙ (let z : 0 + k ≡ k = omega arith in z) in
    position_or_len_is (ends env list) (range_with_len 0 m) n 0 (rw (length-range_with_len 0 m) h.within)
    (λ k lt. ap (ends env list) (at k (omega (arith, h.within))) ∙ h.goes_on k lt)
    (λ lt. let inside : n < m = rw (length-range_with_len 0 m) at lt in ap (ends env list) (at n inside) ∙ stop inside)

-- ---- what stays
turned : (list : List TaskView) (at : List ℕ) → ids_at list (reverse at) ≡ reverse (ids_at list at)
unfolding ids_at
turned list [] = refl
turned list (n ∷ ns) =
    ap (ids_at list) (reverse-append (n ∷ []) ns) ∙ ids_more list (reverse ns) n
    ∙ ap (λ (r : List ℕ). r ++ (task_at list n).id ∷ []) (turned list ns) ∙ sym
    (reverse-append ((task_at list n).id ∷ []) (ids_at list ns))

pub kept_are : (env : Env) (list : List TaskView) (order rest : List ℕ) (e : ℕ) → examined env list ≡ e
    → order ≡ ids_at list (refused env list e) → rest ≡ map (λ (t : TaskView). t.id) (take (length list - e) list)
    → reverse order ++ rest ≡ kept_ids env list
unfolding kept_ids
kept_are env list order rest e at o r = rw (at, turned list (refused env list e), o, r) refl
