-- Each entry of a history is counted in the machine that the entries before it leave.
-- For the law `steps_are_places`.
use Rattle.std.proofs.Common.{◌≡◌, ℕ, zero, suc, List, [], ◌∷◌, take, slice_get, Some, refl}
use Rattle.lb_core.specs.declared.entry.Entry.{Entry}
use Rattle.lb_core.specs.Legal.{run}
use Rattle.lb_core.specs.Machine.{MachineState, start}
use Rattle.lb_core.specs.Step.{after}
use Rattle.lb_summary.specs.Summary.{steps_from}
use Rattle.lb_summary.specs.Laws.{StepsArePlaces}
use Rattle.lb_summary.proofs.Counted.{as_many}

at_place : (m : MachineState) (es : List Entry) (i : ℕ) (e : Entry) → slice_get es i ≡ Some e
    → slice_get (steps_from m es) i ≡ Some (record { before = run (take i es) m; entry = e })
at_place m [] i e h = absurd (let y : ⊥ = cc in y)
at_place m (x ∷ es) zero e h = let same : x ≡ e = cc in rw same refl
at_place m (x ∷ es) (suc i) e h = at_place (after m x) es i e h

pub steps_are_places : StepsArePlaces
steps_are_places h = (as_many (start h.header) h.entries, at_place (start h.header) h.entries)
