-- The law that counters fit the topology: after every legal front the version for which a queue keeps
-- counters was published; its counters are as many as its CPU has domains in that version; and an open
-- turn has counters, and balances positions of these domains alone.
-- Cited by the law `turns_fit`; also by `lb_ready`.
use Rattle.std.specs.Prelude.{ℕ, ◌≡◌, ◌≤◌, ◌<◌, true, IfSome, IsSome, List, length}
use Rattle.lb_base.specs.Mask.{has}
use Rattle.lb_domain.specs.Domains.{domains_of}
use Rattle.lb_queue.specs.Queue.{QueueState}
use Rattle.lb_trace.specs.declared.trace.Header.{Header}
use Rattle.lb_core.specs.declared.entry.Entry.{Entry}
use Rattle.lb_core.specs.Machine.{MachineState, queue_at, masks_at, start}
use Rattle.lb_core.specs.Legal.{run, IsLegalFront}

-- the queue keeps counters of a published version, where its CPU has so many domains
pub record FitsDomains (versions domains : ℕ) (q : QueueState) : Type 0 where
  pub from_first : 1 ≤ q.version
  pub published : q.version ≤ versions
  pub counters : IfSome q.counters (λ cs. length cs ≡ domains)
  pub turn : IfSome q.open_turn (λ turn. IsSome q.counters × ((p : ℕ) → has turn.positions p ≡ true → p < domains))

-- how many domains a CPU has in a version
abbrev pub domains_in_version : MachineState → ℕ → ℕ → ℕ
domains_in_version m version cpu = length (domains_of m.header.cpus m.header.distances (masks_at m version) cpu)

abbrev pub TurnsFitAlways : Type 0
TurnsFitAlways = (h : Header) (es : List Entry) (cpu : ℕ) → IsLegalFront h es →
    (let m = run es (start h) in let q = queue_at m.queues cpu in FitsDomains (length m.versions) (domains_in_version m q.version cpu) q)
