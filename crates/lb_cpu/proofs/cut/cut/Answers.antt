-- For `cut` of src/cut.rt: cuts up the seats of a book, of which there are 17 or more.
use Rattle.std.proofs.Common.{List, length, ap, arith}
use Rattle.lb_ticket.specs.Seats.{SeatIs}
use Rattle.lb_journal.specs.Journal.{Journal}
use Rattle.lb_cpu.proofs.Cutting.{put_back}
use Rattle.lb_cpu.proofs.cut.cut.Goals as goal

pub returns-clause-all : goal.returns-clause-all
returns-clause-all c =
    let two = c.split_off-2.new.self.items in
    let three = c.split_off-3.new.self.items in
    put_back c.in-Some.publisher c.args.seats.items c.split_off.new.self.items two three c.pop.new.self.items
    c.in_ok-queues.queues.items c.in_ok-unused.unused.items c.in_ok-lanes.lanes.items _ c.in_ok-queues.ensures.items
    c.in_ok-queues.ensures.tail c.in_ok-unused.ensures.items c.in_ok-unused.ensures.tail c.in_ok-lanes.ensures.items
    c.in_ok-lanes.ensures.tail
    (c.in-Some.ensures.items)
    (let e = ap (λ (l : List (SeatIs Journal)). length l) c.in_ok-lanes.ensures.items in
    let n = c.in_ok-lanes.ensures.len in
    omega arith)
