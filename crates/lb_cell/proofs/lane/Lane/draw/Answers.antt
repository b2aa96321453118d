-- For `Lane::draw` of src/own.rt: draws an entry of the lane's own list, which the lane may draw, and answers
-- its ticket.
use Rattle.std.proofs.Common.{rules, ◌≡◌, ◌∙◌, sym, subst}
use Rattle.lb_journal.specs.contracts.journal.Left.{the_row}
use Rattle.lb_cell.specs.Cells.{LaneIs, IsInRange, lane_of}
use Rattle.lb_cell.specs.Own.{OwnAsks, own_left}
use Rattle.lb_cell.proofs.Owning.{own_course, may_follow}
use Rattle.lb_cell.proofs.lane.Lane.draw.Goals as goal

pub enter_own-requires-clause-course : goal.enter_own-requires-clause-course
enter_own-requires-clause-course g c =
    let i = c.self.inside.parts in
    let h = g.N.Names.header in
    let l : LaneIs = lane_of i in
    let asks : OwnAsks c.args.what l.course c.args.command =
    subst (λ (x : LaneIs). OwnAsks c.args.what x.course c.args.command) (sym c.self.view_is) c.requires.asks in
    let before : l ≡ c.of-before.result = search rules in
    let masks : c.args.masks ≡ c.of-named_masks.result.value = search rules in
    let figs : c.args.figs ≡ c.of-named_figs.result.value = search rules in
    let left : c.step.new.course ≡ own_left h l c.args.what c.args.masks c.args.figs =
    c.step.ensures h ∙ own_course h l c.args.what c.args.command c.args.masks c.args.figs asks in
    subst (λ (t : Type 0). t) (λ j. c.step.new.course ≡ own_left h (before j) c.args.what (masks j) (figs j)) left

pub enter_own-requires-clause-next : goal.enter_own-requires-clause-next
enter_own-requires-clause-next g c =
    let i = c.self.inside.parts in
    let n = g.N.Names in
    let l : LaneIs = lane_of i in
    let asks : OwnAsks c.args.what l.course c.args.command =
    subst (λ (x : LaneIs). OwnAsks c.args.what x.course c.args.command) (sym c.self.view_is) c.requires.asks in
    let range : IsInRange (own_left n.header l c.args.what c.args.masks c.args.figs) =
    subst (λ (x : LaneIs). IsInRange (own_left n.header x c.args.what c.args.masks c.args.figs)) (sym c.self.view_is)
    c.requires.range in
    may_follow n.header n.book n.board the_row.coded l c.args.what c.args.command c.args.masks c.args.figs c.step.new.course
    c.self.invariant asks range (c.step.ensures n.header)
