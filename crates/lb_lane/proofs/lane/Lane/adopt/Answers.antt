-- For `Lane::adopt` of src/adopt.rt: draws the `use` of a chosen version, in the hold of the lock of the
-- queue that answers it: its ticket is above all that the queue has drawn.
use Rattle.std.proofs.Common.{◌≡◌, ◌∙◌, None, true, sym, ap, subst, arith}
use Rattle.lb_core.specs.declared.entry.What.TheVariants.{Adopt}
use Rattle.lb_journal.specs.contracts.journal.Journal.{the_row}
use Rattle.lb_lane.specs.Lanes.{LaneIs}
use Rattle.lb_lane.specs.Uses.{IsChosen, use_due}
use Rattle.lb_lane.proofs.Drawing.{may_draw, may_after, range_after, drew_of, kept}
use Rattle.lb_lane.proofs.Ranging.{use_in_range}
use Rattle.lb_lane.proofs.Refusing.{still}
use Rattle.lb_lane.proofs.Adopting.{use_allowed, followed, use_adds, chosen_still}
use Rattle.lb_lane.proofs.lane.Lane.adopt.Goals as goal

pub draw-ticket-requires-clause-may : goal.draw-ticket-requires-clause-may
draw-ticket-requires-clause-may g c =
    let n = g.N.Names in
    let i = c.self.inside in
    let l : LaneIs =
    record { side = i.side; looker = i.looker; rows = i.rows; vouched = i.vouched; turned = i.turned; domains = i.domains } in
    let x = c.args.chosen in
    let what = Adopt x.version c.args.kind x.cpu in
    let chosen : IsChosen n.header l x = subst (λ (k : LaneIs). IsChosen n.header k x) (sym c.self.view_is) c.requires.chosen in
    let due : use_due l.side.course.form l.side.course c.args.kind x.cpu ≡ true =
    ap (λ (k : LaneIs). use_due k.side.course.form k.side.course c.args.kind x.cpu) c.self.view_is ∙ c.requires.due in
    let m = c.make_room.new.side in
    let figs = c.new-figs.result in
    may_after n.header m c.follow_queue.new.self what x.masks figs c.follow_queue.ensures.same
    (may_after n.header l.side m what x.masks figs c.make_room.ensures.same
    (may_draw n.header l.side what None x.masks figs tt
    (use_allowed n.header l.side x c.args.kind figs due chosen.copy.one chosen.newest) tt c.new-figs.ensures))

pub draw-ticket-requires-clause-range : goal.draw-ticket-requires-clause-range
draw-ticket-requires-clause-range g c =
    let n = g.N.Names in
    let i = c.self.inside in
    let l : LaneIs =
    record { side = i.side; looker = i.looker; rows = i.rows; vouched = i.vouched; turned = i.turned; domains = i.domains } in
    let x = c.args.chosen in
    let what = Adopt x.version c.args.kind x.cpu in
    let chosen : IsChosen n.header l x = subst (λ (k : LaneIs). IsChosen n.header k x) (sym c.self.view_is) c.requires.chosen in
    let m = c.make_room.new.side in
    let figs = c.new-figs.result in
    let few = c.self.invariant.machine.few in
    let cpu = chosen.copy.cpu in
    range_after n.header m c.follow_queue.new.self what x.masks figs c.follow_queue.ensures.same
    (range_after n.header l.side m what x.masks figs c.make_room.ensures.same
    (use_in_range n.header l.side x.version c.args.kind x.cpu x.masks figs c.keeps.ensures.range (omega (arith, few, cpu))))

pub invariant_of-self-2 : goal.invariant_of-self-2
invariant_of-self-2 g c =
    let n = g.N.Names in
    let v = g.N.Versions.versions in
    let i = c.self.inside in
    let l : LaneIs =
    record { side = i.side; looker = i.looker; rows = i.rows; vouched = i.vouched; turned = i.turned; domains = i.domains } in
    let x = c.args.chosen in
    let what = Adopt x.version c.args.kind x.cpu in
    let chosen : IsChosen n.header l x = subst (λ (k : LaneIs). IsChosen n.header k x) (sym c.self.view_is) c.requires.chosen in
    let f = c.follow_queue.new.self in
    let u = followed l.side c.make_room.new.side f _ c.make_room.ensures.same c.make_room.ensures.view c.follow_queue.ensures.same
    c.follow_queue.ensures.read c.follow_queue.ensures.later in
    let k = still n.header n.board v the_row.coded l f c.saw_stays.ensures c.uses_stay.ensures c.self.invariant u in
    let d = c.draw-ticket.new.self in
    let figs = c.new-figs.result in
    let ticket = c.draw-ticket.result in
    let drew = drew_of n.header f d what x.masks figs ticket c.draw-ticket.ensures in
    kept n.header n.board v the_row.coded (record l { side = f }) (record l { side = d; turned = x.cpu; domains = x.domains })
    what
    x.masks figs ticket c.saw_stays.ensures k drew
    (use_adds n.header n.board v the_row.coded (record l { side = f }) d x c.args.kind figs ticket k
    (chosen_still n.header l f x u.course chosen) drew c.new-figs.ensures c.draw-ticket.ensures.reader)
