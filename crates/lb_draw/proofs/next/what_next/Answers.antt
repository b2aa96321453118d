-- For `what_next` of src/next.rt: what the form of the lane's course says next, where this CPU's queue is the
-- one that draws.
use Rattle.lb_draw.proofs.Coming.{drawn_there, opening_asks, looking_asks, landed_asks}
use Rattle.lb_draw.proofs.next.what_next.Goals as goal

pub closing-requires-clause-there : goal.closing-requires-clause-there
closing-requires-clause-there c = drawn_there c.calls_may_be_made.ensures.stand c.args.engine.now.machine c.args.lane
    c.args.cpu c.args.course.now c.requires.ready c.requires.course c.requires.cpu

pub queue-requires-in-Kicking : goal.queue-requires-in-Kicking
queue-requires-in-Kicking c = drawn_there c.calls_may_be_made.ensures.stand c.args.engine.now.machine c.args.lane
    c.args.cpu c.args.course.now c.requires.ready c.requires.course c.requires.cpu

pub opening-requires-clause-asks : goal.opening-requires-clause-asks
opening-requires-clause-asks c =
    opening_asks c.next_entries.ensures.serial c.calls_may_be_made.ensures.tried c.args.engine.now.machine c.args.lane
    c.args.cpu c.args.course.now c.requires.ready c.requires.live c.requires.lane c.requires.course c.requires.cpu c.in-Used.is

pub look-requires-clause-asks : goal.look-requires-clause-asks
look-requires-clause-asks c =
    looking_asks c.next_entries.ensures.serial c.calls_may_be_made.ensures.looks c.args.engine.now.machine c.args.lane
    c.args.course.now c.requires.ready c.requires.live c.requires.lane c.requires.course c.in-Position.is

pub landed-requires-clause-asks : goal.landed-requires-clause-asks
landed-requires-clause-asks c =
    landed_asks c.next_entries.ensures.serial c.calls_may_be_made.ensures.looks c.args.engine.now.machine c.args.lane
    c.args.course.now c.requires.ready c.requires.live c.requires.lane c.requires.course c.in-Landed.is
