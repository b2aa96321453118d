-- What holds inside a state: its machine is one that legal entries lead to, and its hands are those of the
-- machine's lanes in flight.
-- What contracts see of the type `State`.
use Rattle.lb_ready.specs.Ready.{IsReady}
use Rattle.lb_engine.specs.Held.{Held, HandsFit}

pub record IsInside (p : Held) : Type 0 where
  pub ready : IsReady p.machine
  pub hands : HandsFit p
