-- The opening queue of a CPU, as its tasks are declared one after the other; and what an accepted header
-- says of each of them.
-- For `opening_queue`.
use Rattle.std.proofs.Common.{◌≡◌, ℕ, pos, negsuc, suc, ◌+◌, ◌<◌, ◌≤◌, ◌≤ℤ◌, ◌≢◌, Bool, true, false, cond, ◌==◌, eqb, List, [], ◌∷◌, ◌++◌, length, take, get_or, is_some, refl, ◌∙◌, ap, arith}
use Rattle.std.proofs.Math.Seq.{take-suc}
use Rattle.std.proofs.lemmas.Bool.{eq-eqb, ne_eqb, and_parts, not-true, ltb-true}
use Rattle.std.proofs.lemmas.List.{length-take, append-nil}
use Rattle.lb_base.specs.Sets.{is_empty, is_below}
use Rattle.lb_queue.specs.declared.record.TaskRecord.{TaskRecord}
use Rattle.lb_queue.specs.Tasks.{task_with}
use Rattle.lb_queue.specs.Queue.{BookedQueue, empty_queue, new_task, knows}
use Rattle.lb_trace.specs.declared.trace.TaskRow.{TaskRow}
use Rattle.lb_trace.specs.declared.trace.Header.{Header}
use Rattle.lb_trace.specs.Accepted.{is_task, IsHeader}
use Rattle.lb_trace.proofs.RangeFacts.{nice_range}
use Rattle.lb_core.specs.Machine.{tasks_at}
use Rattle.lb_core.proofs.Headers.{all_index}

-- ---- the tasks that sleep at a CPU
-- the queue of a CPU where those of these tasks sleep that are at home there
abbrev pub sleeping : ℕ → ℕ → List TaskRow → BookedQueue
sleeping cpu n rows = record { state = record (empty_queue cpu n) { asleep = tasks_at cpu 0 rows }; booked = 0 }

here_or_not : (b : Bool) (id t : ℕ) (row : TaskRow) (rest : List TaskRecord) → (eqb id t ≡ false)
    → is_some (task_with t rest) ≡ false → is_some (task_with t (cond b (new_task id row.nice row.mask ∷ rest) rest)) ≡ false
here_or_not true id t row rest other h = rw other h
here_or_not false id t row rest other h = h

none_with : (cpu id t : ℕ) (rows : List TaskRow) → id + length rows ≤ t → is_some (task_with t (tasks_at cpu id rows)) ≡ false
none_with cpu id t [] h = refl
none_with cpu id t (row ∷ rows) h = here_or_not (row.home == cpu) id t row (tasks_at cpu (id + 1) rows)
    (ne_eqb id t (λ e. omega arith)) (none_with cpu (id + 1) t rows (omega arith))

-- the next task is not known yet
pub unknown : (cpu n : ℕ) (rows : List TaskRow) (t : ℕ) → length rows ≤ t → knows (sleeping cpu n rows).state t ≡ false
unknown cpu n rows t h = rw (none_with cpu 0 t rows (omega arith)) refl

grown : (b : Bool) (x : TaskRecord) (rest more last : List TaskRecord) → more ≡ rest ++ last
    → cond b (x ∷ more) more ≡ cond b (x ∷ rest) rest ++ last
grown true x rest more last e = ap (λ (tasks : List TaskRecord). x ∷ tasks) e
grown false x rest more last e = e

-- a task more, at home there or not
abbrev last_at : ℕ → ℕ → TaskRow → List TaskRecord
last_at cpu id row = cond (row.home == cpu) (new_task id row.nice row.mask ∷ []) []

renamed : (cpu a b : ℕ) (row : TaskRow) → a ≡ b → last_at cpu a row ≡ last_at cpu b row
renamed cpu a b row e = ap (λ (n : ℕ). last_at cpu n row) e

sleeps_too : (cpu id : ℕ) (rows : List TaskRow) (row : TaskRow)
    → tasks_at cpu id (rows ++ row ∷ []) ≡ tasks_at cpu id rows ++ last_at cpu (id + length rows) row
sleeps_too cpu id [] row = renamed cpu id (id + 0) row (omega arith)
sleeps_too cpu id (x ∷ rows) row =
    grown (x.home == cpu) (new_task id x.nice x.mask) (tasks_at cpu (id + 1) rows)
    (tasks_at cpu (id + 1) (rows ++ row ∷ [])) (last_at cpu (id + length (x ∷ rows)) row)
    (sleeps_too cpu (id + 1) rows row ∙ ap (λ (last : List TaskRecord). tasks_at cpu (id + 1) rows ++ last)
    (renamed cpu (id + 1 + length rows) (id + length (x ∷ rows)) row (omega arith)))

sleeps_next : (cpu : ℕ) (rows : List TaskRow) (i : ℕ) (d : TaskRow) → i < length rows
    → tasks_at cpu 0 (take (i + 1) rows) ≡ tasks_at cpu 0 (take i rows) ++ last_at cpu i (get_or rows i d)
sleeps_next cpu rows i d lt =
    let e : i + 1 ≡ suc i = omega arith in
    let n : 0 + length (take i rows) ≡ i = (let l = length-take i rows in omega arith) in
    ap (λ (k : ℕ). tasks_at cpu 0 (take k rows)) e ∙ ap (λ (l : List TaskRow). tasks_at cpu 0 l) (take-suc rows i d lt)
    ∙ sleeps_too cpu 0 (take i rows) (get_or rows i d)
    ∙ ap (λ (last : List TaskRecord). tasks_at cpu 0 (take i rows) ++ last)
    (renamed cpu (0 + length (take i rows)) i (get_or rows i d) n)

-- one that is at home there
pub sleeps_here : (cpu n : ℕ) (rows : List TaskRow) (i : ℕ) (d : TaskRow) → i < length rows → (get_or rows i d).home ≡ cpu
    → sleeping cpu n (take (i + 1) rows) ≡ record {
      state = record
          (empty_queue cpu n) {
            asleep = tasks_at cpu 0 (take i rows) ++ new_task i (get_or rows i d).nice
                (get_or rows i d).mask ∷ [];
          };
      booked = 0;
    }
sleeps_here cpu n rows i d lt home =
    let row = get_or rows i d in
    let last : last_at cpu i row ≡ new_task i row.nice row.mask ∷ [] =
    ap (λ (b : Bool). cond b (new_task i row.nice row.mask ∷ []) []) (eq-eqb row.home cpu home) in
    ap (λ (asleep : List TaskRecord). let q : BookedQueue =
    record { state = record (empty_queue cpu n) { asleep = asleep }; booked = 0 } in q)
    (sleeps_next cpu rows i d lt ∙ ap (λ (l : List TaskRecord). tasks_at cpu 0 (take i rows) ++ l) last)

-- and one that is not
pub sleeps_elsewhere : (cpu n : ℕ) (rows : List TaskRow) (i : ℕ) (d : TaskRow) → i < length rows → (get_or rows i d).home ≢ cpu
    → sleeping cpu n (take (i + 1) rows) ≡ sleeping cpu n (take i rows)
sleeps_elsewhere cpu n rows i d lt home =
    let row = get_or rows i d in
    let last : last_at cpu i row ≡ [] =
    ap (λ (b : Bool). cond {A = List TaskRecord} b (new_task i row.nice row.mask ∷ []) []) (ne_eqb row.home cpu home) in
    ap (λ (asleep : List TaskRecord). let q : BookedQueue =
    record { state = record (empty_queue cpu n) { asleep = asleep }; booked = 0 } in q)
    (sleeps_next cpu rows i d lt ∙ ap (λ (l : List TaskRecord). tasks_at cpu 0 (take i rows) ++ l) last
    ∙ append-nil (tasks_at cpu 0 (take i rows)))

-- ---- an accepted header
-- a task that may run somewhere on a machine of n CPUs, at a nice value in range
pub record IsTaskRow (n : ℕ) (row : TaskRow) : Type 0 where
  pub low : negsuc 19 ≤ℤ row.nice
  pub high : row.nice ≤ℤ pos 19
  pub home : row.home < n
  pub somewhere : is_empty row.mask ≡ false
  pub within : is_below row.mask n ≡ true

row_parts : (n : ℕ) (row : TaskRow) → is_task n row ≡ true → IsTaskRow n row
row_parts n row h =
    let below = (and_parts _ _ h).0 in
    let masked = (and_parts _ _ below).0 in
    let homed = (and_parts _ _ masked).0 in
    let nice = nice_range row.nice ((and_parts _ _ homed).0) in
    record {
      low = nice.0;
      high = nice.1;
      home = ltb-true row.home n ((and_parts _ _ homed).1);
      somewhere = not-true _ ((and_parts _ _ masked).1);
      within = (and_parts _ _ below).1;
    }

pub task_row : (h : Header) (i : ℕ) (d : TaskRow) → IsHeader h → i < length h.tasks
    → IsTaskRow (length h.cpus) (get_or h.tasks i d)
task_row h i d accepted lt = row_parts (length h.cpus) (get_or h.tasks i d)
    (all_index (is_task (length h.cpus)) h.tasks accepted.tasks i d lt)
