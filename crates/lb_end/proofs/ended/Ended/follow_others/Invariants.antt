-- The loops of `Ended::follow_others` of src/steps.rt: lane 0's seat follows those of all lanes above it and
-- of the queues.
use Rattle.std.proofs.Common.{ℕ, ◌≡◌, ◌<◌, ◌≤◌, All}
use Rattle.std.specs.Prelude.{slice_get}
use Rattle.lb_journal.specs.Owners.{lists_of}
use Rattle.lb_end.specs.Seats.{list_at, next_at}
use Rattle.lb_end.proofs.ended.Ended.follow_others.Given as goal

abbrev pub invariant-loop-k : goal.invariant-loop-k
invariant-loop-k g l = record {
  lists : lists_of l.self.seats ≡ lists_of l.initial.self.seats;
  others : (k : ℕ) → (k ≡ 1 → ⊥) → slice_get l.self.seats k ≡ slice_get l.initial.self.seats k;
  above : (k : ℕ) → 2 ≤ k → k < l.k → All (λ d. d.ticket < next_at l.self.seats 1) (list_at l.initial.self.seats k);
  later : next_at l.initial.self.seats 1 ≤ next_at l.self.seats 1;
  same : l.self ≡ record l.initial.self { seats = l.self.seats };
}
