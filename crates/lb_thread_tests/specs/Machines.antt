-- A trace and its machine before any entry, as a test has them.
-- Cited by the contract of `blank_of`.
use Rattle.std.specs.Prelude.{◌≡◌, map}
use Rattle.std.specs.List.{range_with_len}
use Rattle.lb_trace.specs.declared.trace.Trace.{Trace}
use Rattle.lb_core.specs.OfTrace.{of_lane}
use Rattle.lb_cpu.specs.Blanks.{BlankIs}

-- the machine has the trace's header, and of each lane its rows of the trace
pub record IsNamed (t : Trace) (b : BlankIs) : Type 0 where
  pub header : b.header ≡ t.header
  pub rows : b.rows ≡ map (λ lane. of_lane lane t.rows) (range_with_len 0 t.header.lanes)
