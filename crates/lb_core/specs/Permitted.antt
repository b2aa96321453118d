-- The law Permitted: after every legal front each task that is awake on a queue may run there or is
-- asked to leave, and each task in a hand may run where the hand goes. From entry to entry this is kept
-- together with what Placed keeps and with a third thing: each queue is its CPU's, and no mask is empty.
-- Cited by the laws `permitted` and `permitted_stays`; also by `lb` and `lb_ready`.
use Rattle.std.specs.Prelude.{ℕ, ◌≡◌, ◌<◌, Bool, true, false, ◌||◌, List, length, All}
use Rattle.lb_base.specs.Mask.{has}
use Rattle.lb_base.specs.Sets.{is_empty}
use Rattle.lb_queue.specs.declared.awake.Awake.{Awake}
use Rattle.lb_queue.specs.Tasks.{is_pending}
use Rattle.lb_trace.specs.declared.trace.Header.{Header}
use Rattle.lb_core.specs.declared.entry.Entry.{Entry}
use Rattle.lb_core.specs.Machine.{MachineState, queue_at, course_at, start}
use Rattle.lb_core.specs.Legal.{MayBeAdded, run, IsLegalFront}
use Rattle.lb_core.specs.Placed.{IsPlaced, HandsRest}
use Rattle.lb_core.specs.Step.{after}
use Rattle.lb_trace.specs.Accepted.{IsHeader}

-- the awake task may be on this CPU's queue, or a stop request is pending
abbrev pub may_stand : ℕ → Awake → Bool
may_stand cpu a = has a.task.mask cpu || is_pending a.stop

pub record IsPermitted (m : MachineState) : Type 0 where
  pub on_queues : (cpu : ℕ) → cpu < length m.queues → All (λ a. may_stand cpu a ≡ true) (queue_at m.queues cpu).awake
  pub in_hands : (lane : ℕ) → All (λ t. has t.mask (course_at m.courses lane).to ≡ true) (course_at m.courses lane).hand

abbrev pub PermittedAlways : Type 0
PermittedAlways = (h : Header) (es : List Entry) → IsHeader h → IsLegalFront h es → IsPermitted (run es (start h))

-- ---- from entry to entry
-- each queue is that of its CPU, and no task has an empty mask: none of a queue's lists, and none in a hand
pub record HaveMasks (m : MachineState) : Type 0 where
  pub own : (cpu : ℕ) → cpu < length m.queues → (queue_at m.queues cpu).cpu ≡ cpu
  pub awake : (cpu : ℕ) → cpu < length m.queues → All (λ a. is_empty a.task.mask ≡ false) (queue_at m.queues cpu).awake
  pub asleep : (cpu : ℕ) → cpu < length m.queues → All (λ t. is_empty t.mask ≡ false) (queue_at m.queues cpu).asleep
  pub gone : (cpu : ℕ) → cpu < length m.queues → All (λ t. is_empty t.mask ≡ false) (queue_at m.queues cpu).gone
  pub in_hands : (lane : ℕ) → All (λ t. is_empty t.mask ≡ false) (course_at m.courses lane).hand

-- the opening state of an accepted header has both, and each entry that may be added to a state in which
-- tasks are placed and hands rest keeps both
abbrev pub PermittedOpens : Type 0
PermittedOpens = (h : Header) → IsHeader h → IsPermitted (start h) × HaveMasks (start h)

abbrev pub PermittedStays : Type 0
PermittedStays = (m : MachineState) (e : Entry) → IsPlaced m → HandsRest m → IsPermitted m → HaveMasks m → MayBeAdded m e
    → IsPermitted (after m e) × HaveMasks (after m e)
