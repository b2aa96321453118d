-- For `PublisherCell::publish` of src/publish.rt: publishes the masks of a `rebuild` as a new version, draws
-- its `pub`, and tells the lane's looker of it, all in one hold of the lock; it answers the version.
use Rattle.std.proofs.Common.{rules, ◌≡◌, ◌∙◌, ◌+◌, ◌++◌, ◌∷◌, [], length, sym, subst, ap, arith, All}
use Rattle.std.proofs.lemmas.List.{length-append}
use Rattle.lb_domain.specs.Topologies.{domains_within}
use Rattle.lb_topub.specs.Versions.{VersionsSeen}
use Rattle.lb_journal.specs.Merge.{parts_of}
use Rattle.lb_journal.specs.contracts.journal.Journal.{the_row}
use Rattle.lb_journal.specs.contracts.journal.Left.{the_row as left_row}
use Rattle.lb_cell.specs.Pubs.{pub_item}
use Rattle.lb_lane.specs.Lanes.{LaneIs}
use Rattle.lb_lane.specs.Publishers.{PublisherIs}
use Rattle.lb_lane.specs.Publishes.{RebuildAsks}
use Rattle.lb_lane.proofs.Versioning.{pub_fits, one_more, published}
use Rattle.lb_lane.proofs.publisher.PublisherCell.publish.Goals as goal

pub draw_pub-requires-clause-fits : goal.draw_pub-requires-clause-fits
draw_pub-requires-clause-fits g c =
    let n = g.N.Names in
    let l = c.lane.inside.side in
    let p = c.self.inside in
    let m = c.make_room.new.seat in
    let list : p.seat.list ≡ m.list = sym c.make_room.ensures.same.2 in
    let headers : All (λ d. d.item.header ≡ n.header) p.seat.list = λ k d lt. (c.self.invariant.pubs k d lt).header in
    let asks : RebuildAsks n.header l.course =
    subst (λ (k : LaneIs). RebuildAsks n.header k.side.course) (sym c.lane.view_is) c.requires.asked in
    let ok = c.in_ok-version.ensures.ok in
    let more : length c.publish.new.self.topologies ≡ length p.publisher.topologies + 1 =
    ap (λ (x : VersionsSeen). length x.topologies) ok.0 ∙ length-append p.publisher.topologies (c.in_ok-topology.topology ∷ []) in
    let count = c.self.invariant.count in
    let last = ok.1 in
    let long : length p.seat.list ≡ length m.list = ap length list in
    pub_fits n.header n.book n.board left_row.coded l m.list c.in_ok-version.version c.keeps.ensures
    (subst (All (λ d. d.item.header ≡ n.header)) list headers) asks (omega (arith, more, count, last, long))

pub invariant_of-self-2 : goal.invariant_of-self-2
invariant_of-self-2 g c =
    let n = g.N.Names in
    let h = n.header in
    let l = c.lane.inside.side in
    let p : PublisherIs = record { publisher = c.self.inside.publisher; seat = c.self.inside.seat } in
    let m = c.make_room.new.seat in
    let s = c.make_room.ensures.same in
    let p' : PublisherIs = record { publisher = c.tell.new.publisher; seat = c.draw_pub.new.seat } in
    let ok = c.in_ok-version.ensures.ok in
    let told : c.tell.new.publisher ≡ c.publish.new.self = c.tell.ensures.publisher in
    let parts : c.as_slice.result.now ≡ parts_of l.course.command = search rules in
    let topology : c.in_ok-topology.topology ≡ domains_within h.cpus h.distances (parts_of l.course.command) =
    c.in_ok-topology.ensures.value
    ∙ (λ i. domains_within (c.requires.machine.0 i) (c.requires.machine.1 i) (parts i)) in
    let more : length c.publish.new.self.topologies ≡ length p.publisher.topologies + 1 =
    ap (λ (x : VersionsSeen). length x.topologies) ok.0 ∙ length-append p.publisher.topologies (c.in_ok-topology.topology ∷ []) in
    let count = c.self.invariant.count in
    let last = ok.1 in
    let version : c.in_ok-version.version ≡ length p.seat.list + 2 = omega (arith, more, count, last) in
    let short = c.make_room.ensures.short in
    let long : length m.list ≡ length p.seat.list = ap length s.2 in
    one_more h n.book g.N.Versions.versions p p' l c.draw_pub.result c.self.invariant
    (c.draw_pub.ensures.seat.0 ∙ s.0, c.draw_pub.ensures.seat.1 ∙ s.1)
    (ap (λ (x : VersionsSeen). x.book) told ∙ ap (λ (x : VersionsSeen). x.book) ok.0)
    (ap (λ (x : VersionsSeen). x.topologies) told
    ∙ (ap (λ (x : VersionsSeen). x.topologies) ok.0 ∙ (λ i. p.publisher.topologies ++ topology i ∷ [])))
    (c.draw_pub.ensures.list
    ∙ (λ i. s.2 i ++ record { ticket = c.draw_pub.result; item = pub_item h l (length (s.2 i)) (version i) } ∷ []))
    (omega (arith, short, long))

pub invariant_of-lane : goal.invariant_of-lane
invariant_of-lane g c =
    let n = g.N.Names in
    let i = c.lane.inside in
    let l : LaneIs =
    record { side = i.side; looker = i.looker; rows = i.rows; vouched = i.vouched; turned = i.turned; domains = i.domains } in
    let asks : RebuildAsks n.header l.side.course =
    subst (λ (k : LaneIs). RebuildAsks n.header k.side.course) (sym c.lane.view_is) c.requires.asked in
    published n.header n.board g.N.Versions.versions the_row.coded l c.draw_pub.new.self c.tell.new.looker c.make_room.new.seat
    c.draw_pub.new.seat c.in_ok-version.version c.draw_pub.result c.publish.new.self.topologies c.lane.invariant
    c.draw_pub.ensures
    c.tell.ensures.book c.tell.ensures.later c.tell.ensures.told c.in_ok-version.ensures.ok.1 asks.form
