-- For `TaskLists::sums` of src/lists.rt: the sums of what the signals say at a moment, those of the runnable
-- averages over the awake tasks alone.
use Rattle.std.proofs.Common.{length, arith, reverse, refl, ap}
use Rattle.std.proofs.lemmas.List.{length-reverse}
use Rattle.lb_queue.specs.declared.awake.Awake.{Awake}
use Rattle.lb_queue.specs.Figures.{awake_value}
use Rattle.lb_queue.proofs.Counting.{sum_reverse}
use Rattle.lb_queue.proofs.Keeping.{known_length}
use Rattle.lb_queue.proofs.lists.TaskLists.sums.Goals as goal

pub awake_sums-awake-requires : goal.awake_sums-awake-requires
awake_sums-awake-requires c =
    let k = known_length _ (reverse c.self.inside.awake.items) c.self.inside.asleep.items c.self.inside.gone.items
    c.self.invariant.sound in
    let r = length-reverse c.self.inside.awake.items in
    let d = ap length c.deref.ensures.value in
    omega arith

pub asleep_sums-asleep-requires : goal.asleep_sums-asleep-requires
asleep_sums-asleep-requires c =
    let k = known_length _ (reverse c.self.inside.awake.items) c.self.inside.asleep.items c.self.inside.gone.items
    c.self.invariant.sound in
    let d = ap length c.deref-2.ensures.value in
    omega arith

pub overflow_add-result : goal.overflow_add-result
overflow_add-result c =
    let k = known_length _ (reverse c.self.inside.awake.items) c.self.inside.asleep.items c.self.inside.gone.items
    c.self.invariant.sound in
    let r = length-reverse c.self.inside.awake.items in
    let d = ap length c.deref.ensures.value in
    let e = ap length c.deref-2.ensures.value in
    let x = c.awake_sums-awake.ensures.load_small in
    let y = c.asleep_sums-asleep.ensures.load_small in
    omega arith

pub overflow_add-result-2 : goal.overflow_add-result-2
overflow_add-result-2 c =
    let k = known_length _ (reverse c.self.inside.awake.items) c.self.inside.asleep.items c.self.inside.gone.items
    c.self.invariant.sound in
    let r = length-reverse c.self.inside.awake.items in
    let d = ap length c.deref.ensures.value in
    let e = ap length c.deref-2.ensures.value in
    let x = c.awake_sums-awake.ensures.util_small in
    let y = c.asleep_sums-asleep.ensures.util_small in
    omega arith

pub returns-clause-load : goal.returns-clause-load
returns-clause-load c =
    let a = c.awake_sums-awake.ensures.load in
    let s = c.asleep_sums-asleep.ensures.load in
    rw (← c.self.view_is) (rw (
      a,
      s,
      c.deref.ensures.value,
      c.deref-2.ensures.value,
      sum_reverse
          (λ (x : Awake). (awake_value c.args.now x).load) c.self.inside.awake.items,
    ) refl)

pub returns-clause-util : goal.returns-clause-util
returns-clause-util c =
    let a = c.awake_sums-awake.ensures.util in
    let s = c.asleep_sums-asleep.ensures.util in
    rw (← c.self.view_is) (rw (
      a,
      s,
      c.deref.ensures.value,
      c.deref-2.ensures.value,
      sum_reverse
          (λ (x : Awake). (awake_value c.args.now x).util) c.self.inside.awake.items,
    ) refl)

pub returns-clause-runnable : goal.returns-clause-runnable
returns-clause-runnable c =
    let a = c.awake_sums-awake.ensures.runnable in
    rw (← c.self.view_is) (rw (
      a,
      c.deref.ensures.value,
      sum_reverse
          (λ (x : Awake). (awake_value c.args.now x).runnable) c.self.inside.awake.items,
    ) refl)
