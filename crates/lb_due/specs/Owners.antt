-- What the rules after `stage` may take for granted of an entry's owner.
-- Cited by the contract of `queue_of`; also by `lb_judge`.
use Rattle.std.specs.Prelude.{◌<◌, length}
use Rattle.lb_core.specs.declared.entry.Owner.{Owner}
use Rattle.lb_core.specs.declared.entry.Owner.TheVariants.{Queue}
use Rattle.lb_core.specs.Machine.{MachineState}

-- it is the queue of a CPU of the machine
abbrev pub HasQueue : MachineState → Owner → Type 0
HasQueue m (Queue cpu) = cpu < length m.queues
HasQueue m o = ⊥
