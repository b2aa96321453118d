-- For `opening_queue` of src/opening.rt: the queue of a CPU before any entry: the tasks that are at home
-- there sleep.
use Rattle.std.proofs.Common.{◌≡◌, ◌<◌, ℕ, ℤ, pos, false, true, List, take, get_or, length, sym, ap, ◌∙◌, arith, subst}
use Rattle.std.specs.Int.{w32}
use Rattle.std.proofs.Math.Seq.{take-length}
use Rattle.std.proofs.lemmas.Int.{ints, to_z-of_z}
use Rattle.std.proofs.lemmas.List.{length-take}
use Rattle.lb_base.specs.Sets.{is_below}
use Rattle.lb_queue.specs.Queue.{BookedQueue, new_task, declared, knows}
use Rattle.lb_trace.specs.declared.trace.TaskRow.{TaskRow}
use Rattle.lb_core.specs.Machine.{opening_queue}
use Rattle.lb_act.proofs.Declaring.{sleeping, unknown, sleeps_here, sleeps_elsewhere, IsTaskRow, task_row}
use Rattle.lb_act.proofs.opening.opening_queue.Goals as goal
use Rattle.lb_act.proofs.opening.opening_queue.Goals.{then-task-cpu+in_ok-declare, else-task-cpu}

-- stands past the tasks
abbrev no_task : TaskRow
no_task = record { nice = pos 0; home = 0; mask = record { bits = 0 } }

-- a task that is declared at a queue
abbrev with_task : ℕ → ℤ → TaskRow → BookedQueue → BookedQueue
with_task id nice row q = record q { state = declared (new_task id nice row.mask) q.state }

pub declare-requires-clause-unknown : goal.declare-requires-clause-unknown
declare-requires-clause-unknown c =
    let rows = c.args.header.now.tasks in
    let P : BookedQueue → Type 0 = λ q. knows q.state c.loop-id.id ≡ false in
    subst P (sym c.loop-id.invariant)
    (unknown c.args.cpu (length c.args.header.now.cpus) (take c.loop-id.id rows) c.loop-id.id
    (let l = length-take c.loop-id.id rows in omega arith))

pub declare-requires-clause-within : goal.declare-requires-clause-within
declare-requires-clause-within c =
    let items = c.as_slice-task-items.result.now in
    let id = c.loop-id.id in
    let there : id < length c.args.header.now.tasks =
    (let e = ap (λ (l : List TaskRow). length l) c.as_slice-task-items.ensures in omega arith) in
    let row = task_row c.args.header.now id no_task c.requires.header there in
    let P : List TaskRow → Type 0 = λ rows. is_below (get_or rows id no_task).mask c.loop-id.queue.state.cpus ≡ true in
    let Q : BookedQueue → Type 0 = λ q. is_below (get_or c.args.header.now.tasks id no_task).mask q.state.cpus ≡ true in
    subst P (sym c.as_slice-task-items.ensures) (subst Q (sym c.loop-id.invariant) row.within)

pub loop-id-preserved : goal.loop-id-preserved
loop-id-preserved c =
    let items = c.as_slice-task-items.result.now in
    let tasks = c.args.header.now.tasks in
    let cpu = c.args.cpu in
    let n = length c.args.header.now.cpus in
    let id = c.loop-id.id in
    let same = c.as_slice-task-items.ensures in
    let there : id < length tasks = (let e = ap (λ (l : List TaskRow). length l) same in omega arith) in
    elim c.if-task-cpu.branch [
      | then-task-cpu+in_ok-declare w ↦
          let row = task_row c.args.header.now id no_task c.requires.header there in
          let home : (get_or tasks id no_task).home ≡ cpu =
          ap (λ (l : List TaskRow). (get_or l id no_task).home) (sym same) ∙ w.if-task-cpu.true in
          let P : List TaskRow → Type 0 = λ rows. IsTaskRow n (get_or rows id no_task) in
          let read : IsTaskRow n (get_or items id no_task) = subst P (sym same) row in
          let nice = to_z-of_z w32 (get_or items id no_task).nice
          (let low = read.low in let high = read.high in omega (arith, ints)) in
          w.queue-is ∙ w.in_ok-declare.ensures.ok
          ∙ ap (λ (z : ℤ). with_task id z (get_or items id no_task) c.loop-id.queue) nice
          ∙ ap (λ (l : List TaskRow). with_task id (get_or l id no_task).nice (get_or l id no_task) c.loop-id.queue) same
          ∙ ap (λ (q : BookedQueue). with_task id (get_or tasks id no_task).nice (get_or tasks id no_task) q) c.loop-id.invariant
          ∙ sym (sleeps_here cpu n tasks id no_task there home)
      | else-task-cpu w ↦
          let away : (get_or tasks id no_task).home ≡ cpu → ⊥ =
          λ e. w.if-task-cpu.false (ap (λ (l : List TaskRow). (get_or l id no_task).home) same ∙ e) in
          w.queue-is ∙ c.loop-id.invariant ∙ sym (sleeps_elsewhere cpu n tasks id no_task there away)
    ]

pub returns : goal.returns
unfolding opening_queue
returns c =
    let tasks = c.args.header.now.tasks in
    let end : c.loop-id.id ≡ length tasks =
    (let e = ap (λ (l : List TaskRow). length l) c.as_slice-task-items.ensures in omega arith) in
    c.loop-id.invariant
    ∙ ap (λ (k : ℕ). sleeping c.args.cpu (length c.args.header.now.cpus) (take k tasks)) end
    ∙ ap (λ (l : List TaskRow). sleeping c.args.cpu (length c.args.header.now.cpus) l) (take-length tasks)
