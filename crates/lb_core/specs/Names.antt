-- How each rule of a legal history is printed.
-- Cited by the contract of `Rule::name`; also by `lb`.
use Rattle.std.specs.Prelude.{ℕ, List, codes}
use Rattle.lb_core.specs.declared.rule.Rule.{Rule}
use Rattle.lb_core.specs.declared.rule.Rule.TheVariants.{Ticket, Prev, Stage, Row, Place, Reply, Version, Figure, Decision, Pick, Flight, Counters, Owed, End}

-- the bytes of a rule's name
abbrev pub name_of : Rule → List ℕ
name_of Ticket = codes "ticket"
name_of Prev = codes "prev"
name_of Stage = codes "stage"
name_of Row = codes "row"
name_of Place = codes "place"
name_of Reply = codes "reply"
name_of Version = codes "version"
name_of Figure = codes "figure"
name_of Decision = codes "decision"
name_of Pick = codes "pick"
name_of Flight = codes "flight"
name_of Counters = codes "counters"
name_of Owed = codes "owed"
name_of End = codes "end"
