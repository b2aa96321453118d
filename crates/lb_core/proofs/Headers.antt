-- What the header of an accepted trace says of each task: its home is declared, and it has a mask. For
-- callers too: what holds of all items of a list holds of the one at a place.
-- For the lemmas of `Opening` and `Permits`, and so for the laws `placed_stays`, `placed` and others; cited by
-- `lb_act`, `lb_cell` and other crates too.
use Rattle.std.proofs.Common.{◌≡◌, ℕ, zero, suc, ◌<◌, Bool, true, false, List, [], ◌∷◌, length, get_or, All, arith}
use Rattle.std.specs.List.{list_all}
use Rattle.std.proofs.lemmas.Bool.{and_parts, not-true, ltb-true}
use Rattle.lb_base.specs.Sets.{is_empty}
use Rattle.lb_trace.specs.declared.trace.TaskRow.{TaskRow}
use Rattle.lb_trace.specs.declared.trace.Header.{Header}
use Rattle.lb_trace.specs.Accepted.{is_task, IsHeader}

-- each item passes the test
pub all_index : {X : Type 0} (p : X → Bool) (xs : List X) → list_all p xs ≡ true → All (λ x. p x ≡ true) xs
all_index p [] h k d lt = absurd (omega arith)
all_index p (x ∷ xs) h zero d lt = (and_parts (p x) _ h).0
all_index p (x ∷ xs) h (suc k) d lt = all_index p xs ((and_parts (p x) _ h).1) k d (omega arith)

task_parts : (n : ℕ) (row : TaskRow) → is_task n row ≡ true → (row.home < n) × (is_empty row.mask ≡ false)
task_parts n row h =
    let masked = (and_parts _ _ ((and_parts _ _ h).0)).0 in
    let homed = (and_parts _ _ masked).0 in
    (ltb-true row.home n ((and_parts _ _ homed).1), not-true _ ((and_parts _ _ masked).1))

-- each task is at home at a CPU of the machine
pub homes_declared : (h : Header) → IsHeader h → All (λ row. row.home < length h.cpus) h.tasks
homes_declared h accepted k d lt = (task_parts (length h.cpus) (get_or h.tasks k d)
    (all_index (is_task (length h.cpus)) h.tasks accepted.tasks k d lt)).0

-- each task has a mask
pub masks_given : (h : Header) → IsHeader h → All (λ row. is_empty row.mask ≡ false) h.tasks
masks_given h accepted k d lt = (task_parts (length h.cpus) (get_or h.tasks k d)
    (all_index (is_task (length h.cpus)) h.tasks accepted.tasks k d lt)).1
