-- When a list of entries is a legal front or a legal history, and the first fault of a list that is
-- none. A front is legal where each entry may be added to the state that those before it leave. It is a
-- legal history where the end was drawn, as the machine's flag `ended` says; nothing may be added then,
-- so the end is the last entry. Whether what an entry says is in range is not asked here: `Ranges` says
-- it.
-- For the definitions of `Choices`, `OfTrace` and others, and so for the laws `choices`, `turns_stay_open` and
-- others; cited by `lb`, `lb_audit` and other crates.
use Rattle.std.specs.Prelude.{ℕ, ◌+◌, ◌≡◌, Bool, true, false, Option, Some, None, List, [], ◌∷◌}
use Rattle.lb_trace.specs.declared.trace.Header.{Header}
use Rattle.lb_core.specs.declared.entry.Entry.{Entry}
use Rattle.lb_core.specs.declared.rule.Rule.{Rule}
use Rattle.lb_core.specs.declared.rule.Rule.TheVariants.{End as EndRule}
use Rattle.lb_core.specs.Machine.{MachineState, start}
use Rattle.lb_core.specs.Step.{first_broken, after}

-- the entry breaks no rule
abbrev pub MayBeAdded : MachineState → Entry → Type 0
MayBeAdded m e = first_broken m e ≡ None

-- the machine after some entries
abbrev pub run : List Entry → MachineState → MachineState
run [] m = m
run (e ∷ es) m = run es (after m e)

-- each may be added after those before it
abbrev pub MayFollow : List Entry → MachineState → Type 0
MayFollow [] m = Unit {0}
MayFollow (e ∷ es) m = MayBeAdded m e × MayFollow es (after m e)

abbrev pub IsLegalFront : Header → List Entry → Type 0
IsLegalFront h es = MayFollow es (start h)

abbrev pub IsLegalHistory : Header → List Entry → Type 0
IsLegalHistory h es = IsLegalFront h es × ((run es (start h)).ended ≡ true)

-- ---- the first fault
pub record Fault : Type 0 where
  pub ticket : ℕ
  pub rule : Rule

abbrev pub or_later : Option Rule → ℕ → Option Fault → Option Fault
or_later None ticket later = later
or_later (Some rule) ticket later = Some (record { ticket = ticket; rule = rule })

-- where the end was not drawn, it is missing at the next ticket
abbrev pub missing_end : Bool → ℕ → Option Fault
missing_end true ticket = None
missing_end false ticket = Some (record { ticket = ticket; rule = EndRule })

-- the first entry that breaks a rule, the first of them at ticket `ticket`; or the missing end
abbrev pub fault_from : ℕ → List Entry → MachineState → Option Fault
fault_from ticket [] m = missing_end m.ended ticket
fault_from ticket (e ∷ es) m = or_later (first_broken m e) ticket (fault_from (ticket + 1) es (after m e))

-- the first fault of a history, or none
abbrev pub first_fault : Header → List Entry → Option Fault
first_fault h es = fault_from 1 es (start h)
