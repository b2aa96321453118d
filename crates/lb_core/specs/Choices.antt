-- The choices that the machine leaves a lane: which row comes at rest, or for lane 0 that the closing
-- begins; which version a `use` names; and which figures a look or a scan names. The law says that
-- there are no others: entries of one lane that agree on these, and may both be added, are equal.
-- Cited by the law `choices`; also by `lb_ready`.
use Rattle.std.specs.Prelude.{◌≡◌, map}
use Rattle.lb_core.specs.declared.entry.What.{What}
use Rattle.lb_core.specs.declared.entry.What.TheVariants.{Row, Adopt, Look, Scan}
use Rattle.lb_core.specs.declared.entry.Entry.{Entry}
use Rattle.lb_core.specs.Machine.{MachineState}
use Rattle.lb_core.specs.Legal.{MayBeAdded}

-- both take up the same row, or neither takes one up; a version or figures that both name are the same.
-- Entries of different kinds agree, unless one of them alone takes up a row
abbrev pub Agree : What → What → Type 0
Agree (Row n at command) (Row n' at' command') = (at ≡ at') × (command ≡ command')
Agree (Row n at command) w = ⊥
Agree w (Row n at command) = ⊥
Agree (Adopt v kind cpu) (Adopt v' kind' cpu') = v ≡ v'
Agree (Look p x names d) (Look p' x' names' d') = map (λ f. f.n) names ≡ map (λ f. f.n) names'
Agree (Scan names t) (Scan names' t') = map (λ f. f.n) names ≡ map (λ f. f.n) names'
Agree v w = Unit {0}

-- two entries of one lane that may both be added, and agree on the choices, are equal
abbrev pub ChoicesAreAll : Type 0
ChoicesAreAll = (m : MachineState) (a b : Entry) → a.lane ≡ b.lane → MayBeAdded m a → MayBeAdded m b → Agree a.what b.what → a ≡ b
