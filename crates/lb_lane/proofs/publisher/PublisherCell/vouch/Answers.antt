-- For `PublisherCell::vouch` of src/publisher.rt: lets a lane vouch for all versions: it reads the `pub` of
-- each, so that each further ticket of it is above them, and its looker is told of them.
use Rattle.std.proofs.Common.{◌≡◌, ◌∙◌, ◌+◌, length, refl, sym, subst, ap, arith}
use Rattle.lb_ticket.specs.Seats.{SeatIs}
use Rattle.lb_journal.specs.Journal.{Journal}
use Rattle.lb_journal.specs.contracts.journal.Journal.{the_row}
use Rattle.lb_seen.proofs.Beginnings.{prefix_length}
use Rattle.lb_lane.specs.Lanes.{LaneIs}
use Rattle.lb_lane.specs.Publishers.{PublisherIs}
use Rattle.lb_lane.specs.Vouched.{Vouches}
use Rattle.lb_lane.proofs.Adopting.{followed, same_self}
use Rattle.lb_lane.proofs.Refusing.{still}
use Rattle.lb_lane.proofs.Choosing.{sees_versions}
use Rattle.lb_lane.proofs.Reading.{all_vouched, vouched}
use Rattle.lb_lane.proofs.publisher.PublisherCell.vouch.Goals as goal

pub overflow_add-lane : goal.overflow_add-lane
overflow_add-lane g c =
    let short = c.self.invariant.short in
    let is : c.len.result ≡ length c.self.inside.seat.list =
    c.len.ensures ∙ ap (λ (s : SeatIs Journal). length s.list) c.follow.ensures.other in
    omega (arith, short, is)

pub invariant_of-lane : goal.invariant_of-lane
invariant_of-lane g c =
    let n = g.N.Names in
    let v = g.N.Versions.versions in
    let i = c.lane.inside in
    let l : LaneIs =
    record { side = i.side; looker = i.looker; rows = i.rows; vouched = i.vouched; turned = i.turned; domains = i.domains } in
    let p : PublisherIs = record { publisher = c.self.inside.publisher; seat = c.self.inside.seat } in
    let f = c.follow.new.self in
    let looker = c.tell.new.looker in
    let u = followed l.side l.side f _ (same_self l.side) (refl, refl) c.follow.ensures.same c.follow.ensures.read
    c.follow.ensures.later.0 in
    let k = still n.header n.board v the_row.coded l f c.saw_stays.ensures c.uses_stay.ensures c.lane.invariant u in
    let k2 =
    sees_versions n.header n.board v the_row.coded (record l { side = f }) looker k c.tell.ensures.book c.tell.ensures.later in
    let is : length p.seat.list ≡ c.len.result =
    sym (c.len.ensures ∙ ap (λ (s : SeatIs Journal). length s.list) c.follow.ensures.other) in
    let all : Vouches n.header the_row.coded f.seat.read f.seat.next looker.topologies (c.len.result + 1) =
    subst (λ k. Vouches n.header the_row.coded f.seat.read f.seat.next looker.topologies (k + 1)) is
    (all_vouched n.header n.book v the_row.coded p f.seat.read f.seat.next looker.topologies c.self.invariant c.tell.ensures.told
    c.follow.ensures.reads) in
    let long = prefix_length p.publisher.topologies looker.topologies c.tell.ensures.told in
    let count = c.self.invariant.count in
    vouched n.header n.book v the_row.coded n.board (record l { side = f; looker = looker }) (c.len.result + 1) k2 (omega arith)
    (omega (arith, long, count, is)) all
