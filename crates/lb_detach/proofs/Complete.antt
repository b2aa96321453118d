-- What the rule takes is picked, and the examination ends at the least place at which it may.
-- For the law `picked_is_complete`.
use Rattle.std.proofs.Common.{◌≡◌, ℕ, ◌+◌, ◌<◌, ◌≤◌, true, false, not, List, length, get_or, sym, ◌∙◌, ap, arith}
use Rattle.std.specs.List.{range_with_len}
use Rattle.std.proofs.lemmas.Bool.{not-true, not-false}
use Rattle.std.proofs.lemmas.List.Sums.{prefix_len_passes, prefix_len_stops, prefix_len-le-length}
use Rattle.std.proofs.lemmas.List.FromFn.{length-range_with_len, get_or-range_with_len}
use Rattle.lb_base.specs.declared.view.TaskView.{TaskView}
use Rattle.lb_detach.specs.declared.Env.{Env}
use Rattle.lb_detach.specs.Picks.{taken, refused_at, ends, examined}
use Rattle.lb_detach.specs.Laws.{IsComplete}
use Rattle.lb_detach.proofs.Places.{places_contain}

at_place : (m i : ℕ) → i < m → get_or (range_with_len 0 m) i 0 ≡ i
at_place m i lt = get_or-range_with_len 0 m i 0 lt ∙ (let z : 0 + i ≡ i = omega arith in z)

pub within : (env : Env) (list : List TaskView) → examined env list ≤ length list
unfolding examined
within env list =
    let h : examined env list ≤ length (range_with_len 0 (length list)) =
    prefix_len-le-length (λ i. not (ends env list i)) (range_with_len 0 (length list)) in
    rw (length-range_with_len 0 (length list)) at h

pub goes_on : (env : Env) (list : List TaskView) (i : ℕ) → i < examined env list → ends env list i ≡ false
unfolding examined
goes_on env list i lt =
    let m = length list in
    let inside : i < m = omega (arith, lt, within env list) in
    let on = prefix_len_passes (λ k. not (ends env list k)) (range_with_len 0 m) i 0 lt in
    not-true (ends env list i) (ap (λ (k : ℕ). not (ends env list k)) (sym (at_place m i inside)) ∙ on)

stops : (env : Env) (list : List TaskView) → examined env list < length list → ends env list (examined env list) ≡ true
unfolding examined
stops env list lt =
    let m = length list in
    let e = examined env list in
    let inside : e < length (range_with_len 0 m) = rw (length-range_with_len 0 m) lt in
    let off = prefix_len_stops (λ k. not (ends env list k)) (range_with_len 0 m) 0 inside in
    not-false (ends env list e) (ap (λ (k : ℕ). not (ends env list k)) (sym (at_place m e lt)) ∙ off)

pub complete : (env : Env) (list : List TaskView) → IsComplete env list
unfolding taken
complete env list = record {
  each = λ i lt h. places_contain (λ k. not (refused_at env list k)) (examined env list) i lt (ap not h);
  goes_on = goes_on env list;
  stops = stops env list;
  within = within env list;
}
