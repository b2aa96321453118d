-- For `enter` of src/enter.rt: draws an entry that breaks no rule in a lane's own list, and answers its
-- ticket.
use Rattle.lb_lane.proofs.Drawing.{may_draw, may_after, range_after}
use Rattle.lb_lane.proofs.enter.enter.Goals as goal

pub draw-requires-clause-may : goal.draw-requires-clause-may
draw-requires-clause-may g c =
    let h = g.N.Names.header in
    let l = c.args.side.now in
    let r = c.requires in
    may_after h l c.make_room.new.side c.args.what c.args.masks c.args.figs c.make_room.ensures.same
    (may_draw h l c.args.what c.args.command c.args.masks c.args.figs r.asks r.allowed r.carries.0 r.carries.1)

pub draw-requires-clause-range : goal.draw-requires-clause-range
draw-requires-clause-range g c =
    range_after g.N.Names.header c.args.side.now c.make_room.new.side c.args.what c.args.masks c.args.figs
    c.make_room.ensures.same c.requires.range
