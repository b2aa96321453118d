-- For `Lane::draw_pub` of src/publish.rt: draws the `pub` of a version in the publisher's list, which it
-- fits, and answers its ticket.
use Rattle.std.proofs.Common.{rules, ◌≡◌, ◌∙◌, ◌++◌, ◌∷◌, [], sym, subst, refl, map, length}
use Rattle.lb_ticket.specs.Tickets.{pair}
use Rattle.lb_journal.specs.Journal.{Fits, Journal}
use Rattle.lb_journal.specs.contracts.journal.Left.{the_row}
use Rattle.lb_cell.specs.Cells.{LaneIs, lane_of}
use Rattle.lb_cell.specs.LastEntries.{Leaves}
use Rattle.lb_cell.specs.Pubs.{DrewPub, pub_item}
use Rattle.lb_cell.proofs.PubEntries.{pub_course, pub_item_is, pub_may, pub_more}
use Rattle.lb_cell.proofs.lane.Lane.draw_pub.Goals as goal

pub draw_noted-requires-clause-fits : goal.draw_noted-requires-clause-fits
draw_noted-requires-clause-fits g c =
    let i = c.self.inside.parts in
    let n = g.N.Names in
    let l : LaneIs = lane_of i in
    let count = length c.args.seat.now.list in
    let is : c.new-item.result ≡ pub_item n.header l count c.args.version =
    pub_item_is n.header l count c.args.version c.new-item.result c.of.result.value c.of-quoted.result.value c.of-2.result.value
    c.of-3.result.value c.of-4.result.value c.new-item.ensures (search rules) (search rules) (search rules) (search rules)
    (search rules) in
    let f : Fits (map pair c.args.seat.now.list) (pub_item n.header l count c.args.version) =
    subst (λ (x : LaneIs). Fits (map pair c.args.seat.now.list) (pub_item n.header x count c.args.version))
    (sym c.self.view_is) c.requires.fits in
    subst (Fits (map pair c.args.seat.now.list)) (sym is) f

pub invariant_of-self : goal.invariant_of-self
invariant_of-self g c =
    let i = c.self.inside.parts in
    let n = g.N.Names in
    let l : LaneIs = lane_of i in
    let count = length c.args.seat.now.list in
    let is : c.new-item.result ≡ pub_item n.header l count c.args.version =
    pub_item_is n.header l count c.args.version c.new-item.result c.of.result.value c.of-quoted.result.value c.of-2.result.value
    c.of-3.result.value c.of-4.result.value c.new-item.ensures (search rules) (search rules) (search rules) (search rules)
    (search rules) in
    let leaves = subst (λ (j : Journal). Leaves n.book the_row.coded j c.draw_noted.result c.draw_noted.new.known.note) is
    (subst (λ b. Leaves b the_row.coded c.new-item.result c.draw_noted.result c.draw_noted.new.known.note)
    c.shared.invariant.book_is c.draw_noted.ensures.leaves) in
    pub_more n.header n.book n.board the_row.coded l count c.args.version c.published.new.course c.draw_noted.new.known
    c.self.invariant (search rules) (search rules) c.draw_noted.ensures.known.1 (search rules)

pub returns : goal.returns
returns g c =
    let i = c.self.inside.parts in
    let n = g.N.Names in
    let l : LaneIs = lane_of i in
    let l' : LaneIs = record {
      number = i.number;
      course = c.published.new.course;
      known = c.draw_noted.new.known;
      seat = i.seat;
      landing = i.landing;
    } in
    let count = length c.args.seat.now.list in
    let is : c.new-item.result ≡ pub_item n.header l count c.args.version =
    pub_item_is n.header l count c.args.version c.new-item.result c.of.result.value c.of-quoted.result.value c.of-2.result.value
    c.of-3.result.value c.of-4.result.value c.new-item.ensures (search rules) (search rules) (search rules) (search rules)
    (search rules) in
    let f : Fits (map pair c.args.seat.now.list) (pub_item n.header l count c.args.version) =
    subst (λ (x : LaneIs). Fits (map pair c.args.seat.now.list) (pub_item n.header x count c.args.version))
    (sym c.self.view_is) c.requires.fits in
    subst (λ (x : LaneIs). DrewPub n.header x l' c.args.seat.now c.draw_noted.new.seat c.args.version c.draw_noted.result)
    c.self.view_is
    (record {
      may = pub_may n.header l c.args.seat.now.list c.args.version f;
      list =
          subst
          (λ (j : Journal). c.draw_noted.new.seat.list
          ≡ c.args.seat.now.list ++ record { ticket = c.draw_noted.result; item = j } ∷ []) is c.draw_noted.ensures.list;
      seat = c.draw_noted.ensures.seat;
      above = c.draw_noted.ensures.later.0;
      course = c.published.ensures ∙ pub_course n.header l count c.args.version;
      held = c.draw_noted.ensures.known.0;
      own = refl;
      reader = c.draw_noted.ensures.known.1;
      number = refl;
      landing = refl;
    })
