-- For `Engine::take` of src/engine/take.rt: the step of an entry that may be added.
use Rattle.std.proofs.Common.{ℕ, ◌+◌, slice_set, ap, ◌∙◌}
use Rattle.lb_core.specs.Machine.{MachineState}
use Rattle.lb_core.specs.Step.{after}
use Rattle.lb_engine.specs.Held.{Held}
use Rattle.lb_engine.proofs.engine.Engine.take.Goals as goal

-- a ticket more, which is the last one of a lane
abbrev ticketed : ℕ → MachineState → MachineState
ticketed lane m = record m { ticket = m.ticket + 1; last = slice_set m.last lane (m.ticket + 1) }

pub returns-clause-machine : goal.returns-clause-machine
unfolding after
returns-clause-machine c =
    ap (λ (p : Held). ticketed c.args.entry.now.lane p.machine) c.self-2.view_is
    ∙ ap (λ (m : MachineState). ticketed c.args.entry.now.lane m) c.in_ok-step.ensures.machine
