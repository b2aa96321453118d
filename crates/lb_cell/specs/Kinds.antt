-- Which kinds of entries are those of a queue, by which of them tasks leave it, and which are those of a lane.
-- Cited by the contract of `Before::enter`; also by `lb_cpu`, `lb_lane` and `lb_service`.
use Rattle.std.specs.Prelude.{Bool, true, false}
use Rattle.lb_core.specs.declared.entry.What.{What}
use Rattle.lb_core.specs.declared.entry.What.TheVariants.{Row, Adopt, Look, Scan, Did, Out, Landed, Turn, Shut, Close, Ask, Kick, Over}

-- an entry of this kind is one of a queue
abbrev pub is_of_queue : What → Bool
is_of_queue (Did reply) = true
is_of_queue (Out cause to ids) = true
is_of_queue (Landed ids) = true
is_of_queue (Turn positions) = true
is_of_queue Shut = true
is_of_queue (Close position outcome interval failures) = true
is_of_queue (Ask reply) = true
is_of_queue (Kick reply) = true
is_of_queue Over = true
is_of_queue what = false

-- by an entry of this kind tasks leave a queue
abbrev pub is_out : What → Bool
is_out (Out cause to ids) = true
is_out what = false

-- an entry of this kind is one of a lane's own list, but for the end
abbrev pub is_of_lane : What → Bool
is_of_lane (Row number at command) = true
is_of_lane (Adopt version kind cpu) = true
is_of_lane (Look position excluded figures decision) = true
is_of_lane (Scan figures target) = true
is_of_lane what = false
