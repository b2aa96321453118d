-- What is picked and what stays are, together, the tasks of the list.
-- For the law `picked_and_kept_are_the_list`.
use Rattle.std.proofs.Common.{◌≡◌, ℕ, zero, suc, ◌-◌, ◌≤◌, Bool, true, false, not, List, [], ◌∷◌, ◌++◌, length, get_or, take, drop, refl, sym, ◌∙◌, ap, subst, arith, append_assoc, drop-cons}
use Rattle.std.specs.Prelude.{map, reverse, IsPermutation}
use Rattle.std.specs.List.{range_with_len}
use Rattle.std.proofs.lemmas.List.{map-append, reverse-append, take-append-drop, drop_all}
use Rattle.std.proofs.lemmas.List.Sorted.{IsPermutation-trans, IsPermutation-map, IsPermutation-append_left, IsPermutation-append_right, IsPermutation-append_comm, IsPermutation-reverse, IsPermutation-filter_both}
use Rattle.lb_base.specs.declared.view.TaskView.{TaskView}
use Rattle.lb_detach.specs.declared.Env.{Env}
use Rattle.lb_detach.specs.Picks.{no_task, task_at, taken, refused, refused_at, examined, ids_at, picked_ids, kept_ids}
use Rattle.lb_detach.specs.Laws.{IsRearranged}
use Rattle.lb_detach.proofs.Complete.{within}
use Rattle.lb_detach.proofs.Places.{range_suc}

abbrev id_of : TaskView → ℕ
id_of t = t.id

-- the tasks at the first n places are those at the back of the list, turned round
from_back : (list : List TaskView) (n : ℕ) → n ≤ length list
    → ids_at list (range_with_len 0 n) ≡ reverse (map id_of (drop (length list - n) list))
unfolding ids_at task_at
from_back list zero le = rw (drop_all (length list - 0) list (omega arith)) refl
from_back list (suc n) le =
    let k = length list - suc n in
    let last = (get_or list k no_task).id in
    let place : length list - 1 - n ≡ k = omega arith in
    let next : suc k ≡ length list - n = omega arith in
    let front : ids_at list (range_with_len 0 (suc n)) ≡ ids_at list (range_with_len 0 n) ++ last ∷ [] =
    ap (ids_at list) (range_suc n) ∙ map-append (λ (i : ℕ). (task_at list i).id) (range_with_len 0 n) (n ∷ [])
    ∙ ap (λ (x : ℕ). ids_at list (range_with_len 0 n) ++ (get_or list x no_task).id ∷ []) place in
    let back : drop k list ≡ get_or list k no_task ∷ drop (length list - n) list =
    drop-cons list k no_task (omega arith) ∙ ap (λ (x : ℕ). get_or list k no_task ∷ drop x list) next in
    let turned : reverse (map id_of (drop k list)) ≡ reverse (map id_of (drop (length list - n) list)) ++ last ∷ [] =
    ap (λ (x : List TaskView). reverse (map id_of x)) back ∙ reverse-append (last ∷ [])
    (map id_of (drop (length list - n) list)) in
    front ∙ ap (λ (x : List ℕ). x ++ last ∷ []) (from_back list n (omega arith)) ∙ sym turned

not_not : (b : Bool) → b ≡ not (not b)
not_not true = refl
not_not false = refl

-- the places below n are those whose tasks are taken and those whose tasks stay
split : (env : Env) (list : List TaskView) (n : ℕ) → IsPermutation (range_with_len 0 n)
    (taken env list n ++ reverse (refused env list n))
unfolding taken refused
split env list n =
    IsPermutation-trans (range_with_len 0 n) (taken env list n ++ refused env list n)
    (taken env list n ++ reverse (refused env list n))
    (IsPermutation-filter_both (λ i. not (refused_at env list i)) (refused_at env list)
    (λ i. not_not (refused_at env list i)) (range_with_len 0 n))
    (IsPermutation-append_right (taken env list n) (refused env list n) (reverse (refused env list n))
    (IsPermutation-reverse (refused env list n)))

-- so the tasks at the back are those that are taken and those that are refused
back_is : (env : Env) (list : List TaskView) (n : ℕ) → n ≤ length list →
    IsPermutation (map id_of (drop (length list - n) list))
    (ids_at list (taken env list n) ++ ids_at list (reverse (refused env list n)))
unfolding ids_at
back_is env list n le =
    let back = map id_of (drop (length list - n) list) in
    let id_at : ℕ → ℕ = λ i. (task_at list i).id in
    let parts : IsPermutation (ids_at list (range_with_len 0 n))
    (ids_at list (taken env list n ++ reverse (refused env list n))) =
    IsPermutation-map id_at (range_with_len 0 n) (taken env list n ++ reverse (refused env list n)) (split env list n) in
    let P : List ℕ → Type 0 = λ ids. IsPermutation back ids in
    subst P (map-append id_at (taken env list n) (reverse (refused env list n)))
    (IsPermutation-trans back (ids_at list (range_with_len 0 n)) (ids_at list (taken env list n ++ reverse (refused env list n)))
    (subst P (sym (from_back list n le)) (IsPermutation-reverse back)) parts)

pub rearranged : (env : Env) (list : List TaskView) → IsRearranged env list
unfolding picked_ids kept_ids
rearranged env list =
    let e = examined env list in
    let n = length list - e in
    let front = map id_of (take n list) in
    let back = map id_of (drop n list) in
    let whole : map id_of list ≡ front ++ back =
    ap (map id_of) (sym (take-append-drop n list)) ∙ map-append id_of (take n list) (drop n list) in
    let P : List ℕ → Type 0 = λ ids. IsPermutation ids (picked_ids env list ++ kept_ids env list) in
    let Q : List ℕ → Type 0 = λ ids. IsPermutation (front ++ back) ids in
    subst P (sym whole) (subst Q (append_assoc (ids_at list (taken env list e))
    (ids_at list (reverse (refused env list e))) front)
    (IsPermutation-trans (front ++ back) (back ++ front)
    ((ids_at list (taken env list e) ++ ids_at list (reverse (refused env list e))) ++ front)
    (IsPermutation-append_comm front back)
    (IsPermutation-append_left front back
    (ids_at list (taken env list e) ++ ids_at list (reverse (refused env list e))) (back_is env list e (within env list)))))
