-- A queue before any entry has the opening figure: each of its tasks sleeps, and has no signal yet.
-- For `Cell::new`.
use Rattle.std.proofs.Common.{ℕ, ◌≡◌, ◌+◌, ◌*◌, ◌/◌, ◌==◌, List, [], ◌∷◌, refl, sym, ap, ◌∙◌, arith, inl, inr}
use Rattle.std.specs.Prelude.{sum_by}
use Rattle.std.proofs.lemmas.Bool.{cases_Bool}
use Rattle.std.proofs.lemmas.List.Sums.{sum_by-cons}
use Rattle.lb_pelt.specs.declared.signal.Run.TheVariants.{Asleep}
use Rattle.lb_pelt.specs.declared.signal.Value.{Value}
use Rattle.lb_pelt.specs.Signal.{zero_signal, advanced, signal_value}
use Rattle.lb_queue.specs.declared.record.TaskRecord.{TaskRecord}
use Rattle.lb_queue.specs.Queue.{new_task}
use Rattle.lb_queue.specs.Values.{value_of}
use Rattle.lb_queue.specs.Figures.{figure, asleep_value}
use Rattle.lb_trace.specs.declared.trace.Header.{Header}
use Rattle.lb_trace.specs.declared.trace.TaskRow.{TaskRow}
use Rattle.lb_base.specs.declared.figure.Fig.{Fig}
use Rattle.lb_journal.specs.Owners.{published}
use Rattle.lb_core.specs.Machine.{opening_queue, tasks_at}
use Rattle.lb_board.specs.Board.{opening}

no_value : Value
no_value = record { load = 0; util = 0; runnable = 0 }

zero_times : (w : ℕ) → w * 0 ≡ 0
zero_times w = omega arith

zero_value : (weight : ℕ) → signal_value (advanced zero_signal Asleep 0) weight ≡ no_value
unfolding advanced signal_value no_value
zero_value weight = ap (λ (n : ℕ). record { load = n / 46718; util = 0; runnable = 0 }) (zero_times weight)

new_value : (id : ℕ) (row : TaskRow) → asleep_value 0 (new_task id row.nice row.mask) ≡ no_value
unfolding value_of
new_value id row = zero_value _

nothing : (f : Value → ℕ) → f no_value ≡ 0 → (cpu id : ℕ) (rows : List TaskRow)
    → sum_by (λ (t : TaskRecord). f (asleep_value 0 t)) (tasks_at cpu id rows) ≡ 0
nothing f none cpu id [] = refl
nothing f none cpu id (row ∷ rows) = elim (cases_Bool (row.home == cpu)) [
  | inl e ↦ rw e (
      let t : TaskRecord = new_task id row.nice row.mask in
      let c = sum_by-cons (λ (x : TaskRecord). f (asleep_value 0 x)) t (tasks_at cpu (id + 1) rows) in
      let v : f (asleep_value 0 t) ≡ 0 = ap f (new_value id row) ∙ none in
      let r = nothing f none cpu (id + 1) rows in
      omega arith)
  | inr e ↦ rw e (nothing f none cpu (id + 1) rows)
]

pub opening_is : (h : Header) (cpu : ℕ) → figure (opening_queue h cpu) 0 0 ≡ opening
unfolding figure opening_queue no_value
opening_is h cpu =
    let load : ℕ = sum_by (λ (t : TaskRecord). (asleep_value 0 t).load) (tasks_at cpu 0 h.tasks) in
    let util : ℕ = sum_by (λ (t : TaskRecord). (asleep_value 0 t).util) (tasks_at cpu 0 h.tasks) in
    let no_load : 0 + load ≡ 0 = let e = nothing (λ (v : Value). v.load) refl cpu 0 h.tasks in omega arith in
    let no_util : 0 + util ≡ 0 = let e = nothing (λ (v : Value). v.util) refl cpu 0 h.tasks in omega arith in
    (λ i. record { n = 0; ticket = 0; nr = 0; load = no_load i; util = no_util i; runnable = 0; flags = 0 })

pub opening_published : (h : Header) (cpu : ℕ) → opening ∷ [] ≡ published h cpu []
opening_published h cpu = ap (λ (f : Fig). f ∷ []) (sym (opening_is h cpu))
