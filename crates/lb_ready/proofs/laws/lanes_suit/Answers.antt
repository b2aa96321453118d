-- For `lanes_suit` of src/laws.rt: each lane of a reachable state has the number of a figure for each CPU,
-- and a position that a mask has room for; and where it is to publish masks, they part the CPUs.
use Rattle.lb_ready.proofs.Lanes.{lanes_suit}
use Rattle.lb_ready.proofs.laws.lanes_suit.Goals as goal

pub returns : goal.returns
returns c = lanes_suit c.a_partition_has_no_fault.ensures
