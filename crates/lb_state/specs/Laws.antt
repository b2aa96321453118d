-- What a ready machine gives its engine: an entry that may be added meets what its step asks of the engine, and
-- the hands of the engine can land where they go.
-- Cited by the laws `steps_may_be_taken` and `hands_may_land`.
use Rattle.std.specs.Prelude.{◌≡◌, true}
use Rattle.lb_core.specs.declared.entry.Entry.{Entry}
use Rattle.lb_core.specs.Machine.{MachineState}
use Rattle.lb_core.specs.Legal.{MayBeAdded}
use Rattle.lb_ready.specs.Ready.{nice_fits, IsReady}
use Rattle.lb_engine.specs.Held.{Held, HandsFit}
use Rattle.lb_engine.specs.Ending.{CanLand}
use Rattle.lb_engine.specs.Takes.{TakeAsks}

abbrev pub StepsMayBeTaken : Type 0
StepsMayBeTaken = (m : MachineState) (e : Entry) → IsReady m → MayBeAdded m e → nice_fits e.what ≡ true → TakeAsks m e

abbrev pub HandsMayLand : Type 0
HandsMayLand = (p : Held) → IsReady p.machine → HandsFit p → CanLand p.hands p.machine.queues p.booked
