-- For `PublisherCell::new` of src/making.rt: the publisher with its seat, which drew nothing: version 1,
-- which is the header's, is published alone.
use Rattle.lb_lane.proofs.Opening.{new_publisher}
use Rattle.lb_lane.proofs.publisher.PublisherCell.new.Goals as goal

pub invariant_of-result : goal.invariant_of-result
invariant_of-result g c =
    let n = g.N.Names in
    let r = c.requires in
    new_publisher n.header n.book g.N.Versions.versions c.args.publisher c.args.seat r.seat.0 r.seat.1 r.seat.2 r.publisher.0
    r.publisher.1
