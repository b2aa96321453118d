-- The loops of `figures_named` of src/engine/lanes.rt: the figures with these names.
use Rattle.std.proofs.Common.{◌≡◌, map, take}
use Rattle.lb_core.specs.Machine.{figures_named}
use Rattle.lb_engine.proofs.engine.lanes.figures_named.Given as goal

abbrev pub invariant-loop-name : goal.invariant-loop-name
invariant-loop-name l = l.figs ≡ figures_named (map (λ b. b.items) l.figures) (take l.name-index l.names)
