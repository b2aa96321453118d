-- The map of places tells whether the task of a command is awake.
-- For `Engine::take_answer`.
use Rattle.std.proofs.Common.{ℕ, ◌≡◌, Bool, Option, Some, None, IfSome, List, length, slice_index_or, ap, sym, ◌∙◌}
use Rattle.lb_queue.specs.Queue.{QueueState, is_awake}
use Rattle.lb_core.specs.declared.place.Place.{Place}
use Rattle.lb_core.specs.declared.place.Place.TheVariants.{Hand as HandOf}
use Rattle.lb_core.specs.Machine.{MachineState}
use Rattle.lb_engine.specs.Asks.{IsMapped, is_awake_place}

pub was_mapped : (o : Option ℕ) (m : MachineState) (q : QueueState) (places : List Place) (was : Bool)
    → IsMapped m q o → places ≡ m.places
    → IfSome o (λ t. was ≡ is_awake_place (slice_index_or places t (HandOf (length m.courses))))
    → IfSome o (λ t. is_awake q t ≡ was)
was_mapped None m q places was mapped e is = tt
was_mapped (Some t) m q places was mapped e is =
    mapped.1 ∙ sym (is ∙ ap (λ (l : List Place). is_awake_place (slice_index_or l t (HandOf (length m.courses)))) e)
