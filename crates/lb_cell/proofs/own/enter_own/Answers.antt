-- For `enter_own` of src/own.rt: draws an entry of a lane's own list, upon the lane as it was before it, and
-- answers its ticket: its course has made its step.
use Rattle.std.proofs.Common.{rules, ℕ, ◌≡◌, ◌+◌, ◌<◌, subst, sym, ap, ◌∙◌, map}
use Rattle.lb_ticket.specs.Tickets.{pair}
use Rattle.lb_journal.specs.Journal.{Fits}
use Rattle.lb_journal.specs.contracts.journal.Left.{the_row}
use Rattle.lb_cell.specs.Cells.{LaneKeeps}
use Rattle.lb_cell.specs.Own.{item_own}
use Rattle.lb_cell.proofs.Owning.{fits_own, item_own_is}
use Rattle.lb_cell.proofs.own.enter_own.Goals as goal

pub draw_noted-requires-clause-fits : goal.draw_noted-requires-clause-fits
draw_noted-requires-clause-fits g c =
    let n = g.N.Names in
    let b = c.args.before in
    let k : LaneKeeps n.header n.book n.board the_row.coded b =
    subst (λ x. LaneKeeps n.header n.book n.board the_row.coded x) c.before-2.view_is c.before-2.invariant.0 in
    let item : c.new-item.result ≡ item_own n.header b c.args.what c.args.masks.value c.args.figs.value =
    item_own_is n.header b c.args.what c.new-item.result c.of.result.value c.args.lane.now.number c.args.lane.now.known.ticket
    c.before-2.inside.course.value c.of-2.result.value c.args.masks.value c.args.figs.value c.new-item.ensures
    (c.of.ensures ∙ c.shared.invariant.header_is) c.requires.lane.0 (ap (λ x. x.ticket) c.requires.lane.2)
    (c.before-2.invariant.1 ∙ ap (λ x. x.course) c.before-2.view_is) (c.of-2.ensures ∙ c.requires.course) in
    subst (λ (t : Type 0). t)
    (λ i. Fits (map pair (sym c.requires.lane.1 i).list) (sym item i))
    (fits_own n.header n.book n.board the_row.coded b c.args.what c.args.masks.value c.args.figs.value k c.requires.may)

pub new-item-requires : goal.new-item-requires
new-item-requires g c =
    let n = g.N.Names in
    let b = c.args.before in
    let k : LaneKeeps n.header n.book n.board the_row.coded b =
    subst (λ x. LaneKeeps n.header n.book n.board the_row.coded x) c.before-2.view_is c.before-2.invariant.0 in
    let owner : c.number-owner.result ≡ c.args.lane.now.number + 1 =
    c.number-owner.ensures
    ∙ (ap (λ x. x.number) c.requires.lane.1 ∙ (k.owner ∙ ap (λ (i : ℕ). i + 1) (sym c.requires.lane.0))) in
    subst (λ (m : ℕ). m < 4294967296) owner (search rules)
