-- For `enter_above` of src/enter.rt: draws an entry that names figures, above their tickets, and answers its
-- ticket.
use Rattle.std.proofs.Common.{List, None, [], sym, subst, ap}
use Rattle.lb_base.specs.declared.mask.Mask.{Mask}
use Rattle.lb_core.specs.declared.course.Course.{Course}
use Rattle.lb_journal.specs.Journal.{CarriesMasks}
use Rattle.lb_cell.specs.Cells.{IsInRange}
use Rattle.lb_cell.specs.Own.{OwnAsks, own_left}
use Rattle.lb_lane.specs.Figures.{AllEarlier}
use Rattle.lb_lane.specs.Own.{Drew, Unmoved}
use Rattle.lb_lane.proofs.Drawing.{allowed_after, drew_since, range_after}
use Rattle.lb_lane.proofs.Looking.{sees_self}
use Rattle.lb_lane.proofs.Naming.{earlier_yet}
use Rattle.lb_lane.proofs.Refusing.{on_err, unmoved}
use Rattle.lb_lane.proofs.enter.enter_above.Goals as goal

pub enter-requires-clause-asks : goal.enter-requires-clause-asks
enter-requires-clause-asks g c =
    subst (λ (x : Course). OwnAsks c.args.what x None) (sym c.mark_above_all.ensures.same.course) c.requires.asks

pub enter-requires-clause-allowed : goal.enter-requires-clause-allowed
enter-requires-clause-allowed g c =
    allowed_after g.N.Names.header c.args.side.now c.mark_above_all.new.side c.args.what [] c.new-masks.result c.args.figs
    c.mark_above_all.ensures.same c.new-masks.ensures c.requires.allowed

pub enter-requires-clause-carries : goal.enter-requires-clause-carries
enter-requires-clause-carries g c =
    (subst (CarriesMasks c.args.what) (sym c.new-masks.ensures) c.requires.carries.0, c.requires.carries.1)

pub enter-requires-clause-range : goal.enter-requires-clause-range
enter-requires-clause-range g c =
    let h = g.N.Names.header in
    let m = c.mark_above_all.new.side in
    subst (λ (ms : List Mask). IsInRange (own_left h m c.args.what ms c.args.figs)) (sym c.new-masks.ensures)
    (range_after h c.args.side.now m c.args.what [] c.args.figs c.mark_above_all.ensures.same c.requires.range)

pub returns-in_err-ticket-clause-refused : goal.returns-in_err-ticket-clause-refused
returns-in_err-ticket-clause-refused g c =
    let l = c.args.side.now in
    let m = c.mark_above_all.new.side in
    on_err c.from_residual.result (Unmoved l c.enter.new.side)
    (unmoved l l m c.enter.new.side (sees_self l) c.mark_above_all.ensures.same c.mark_above_all.ensures.later
    c.mark_above_all.ensures.view.0 c.in_err-ticket.ensures.refused c.in_err-ticket.ensures.view)

pub returns-clause-drew : goal.returns-clause-drew
returns-clause-drew g c =
    let h = g.N.Names.header in
    let l = c.args.side.now in
    let m = c.mark_above_all.new.side in
    let n = c.enter.new.side in
    let k = c.mark_above_all.ensures.same in
    let ticket = c.in_ok-ticket.ticket in
    let drawn : Drew h m n c.args.what [] c.args.figs ticket =
    subst (λ (ms : List Mask). Drew h m n c.args.what ms c.args.figs ticket) c.new-masks.ensures c.in_ok-ticket.ensures.ok in
    drew_since h l m n c.args.what [] c.args.figs ticket k.list k.course k.number (ap (λ x. x.ticket) k.known) k.landing
    c.mark_above_all.ensures.view.0 c.mark_above_all.ensures.later drawn

pub returns-clause-above : goal.returns-clause-above
returns-clause-above g c =
    let m = c.mark_above_all.new.side in
    earlier_yet m.seat.next c.in_ok-ticket.ticket c.args.figs c.in_ok-ticket.ensures.ok.above.0
    (subst (AllEarlier m.seat.next) c.as_slice.ensures c.mark_above_all.ensures.above)
