-- For `item_of` of src/enter.rt: the item of an entry: the course counts it as its lane's greatest number at
-- the queue, and with that is what the entry leaves.
use Rattle.std.proofs.Common.{◌≡◌, ◌<◌, ◌+◌, subst, sym, ap, ◌∙◌, length, map, []}
use Rattle.lb_ticket.specs.Tickets.{pair}
use Rattle.lb_journal.specs.Journal.{Journal, Fits, queue_by_item, replay}
use Rattle.lb_journal.specs.contracts.journal.Left.{the_row}
use Rattle.lb_cell.specs.declared.log.Log.{Log}
use Rattle.lb_cell.specs.Cells.{CellKeeps, LaneKeeps}
use Rattle.lb_cell.proofs.Entering.{named_here, item_is, fits, step_is, queue_is, course_is}
use Rattle.lb_cell.proofs.enter.item_of.Goals as goal

pub drew-requires : goal.drew-requires
drew-requires g c =
    let n = g.N.Names in
    let b = c.args.before in
    let k : CellKeeps n.header n.book n.board b.cell =
    subst (λ x. CellKeeps n.header n.book n.board x.cell) c.before-2.view_is c.before-2.invariant.0 in
    let lk : LaneKeeps n.header n.book n.board the_row.coded b.lane =
    subst (λ x. LaneKeeps n.header n.book n.board the_row.coded x.lane) c.before-2.view_is c.before-2.invariant.1 in
    subst (λ (i : _). i < length c.args.course.now.named)
    (sym (c.cpu-cpu.ensures ∙ ap (λ (l : Log). l.writer.cpu) c.requires.log))
    (named_here n.header n.book n.board the_row.coded b.cell b.lane c.args.what c.args.cell.now.queue.state c.args.course.now k lk
    c.requires.may.of_queue c.requires.course)

pub returns-clause-queue : goal.returns-clause-queue
returns-clause-queue g c =
    queue_is g.N.Names.header c.args.before.cell c.args.before.lane c.args.what c.args.cell.now.queue.state c.requires.queue

pub returns-clause-course : goal.returns-clause-course
returns-clause-course g c =
    let b = c.args.before in
    course_is g.N.Names.header b.cell b.lane c.args.what c.args.cell.now.queue.state c.cpu-cpu.result (c.len.result + 1)
    c.args.course.now c.drew.new.course c.requires.queue c.requires.course
    (c.cpu-cpu.ensures ∙ ap (λ (l : Log). l.writer.cpu) c.requires.log)
    (ap (λ n. n + 1) c.len.ensures ∙ ap (λ (l : Log). length l.seat.list + 1) c.requires.log) c.drew.ensures

pub returns-clause-item : goal.returns-clause-item
returns-clause-item g c =
    let b = c.args.before in
    let masks : c.of-3.result.value ≡ [] = c.of-3.ensures ∙ c.new-masks.ensures in
    let figs : c.of-4.result.value ≡ [] = c.of-4.ensures ∙ c.new-figs.ensures in
    item_is g.N.Names.header b.cell b.lane c.args.what c.new.result c.of.result.value c.cpu-cpu.result c.args.number
    c.args.known.now.ticket c.before-2.inside.course.value c.of-2.result.value c.of-3.result.value c.of-4.result.value
    c.new.ensures (c.of.ensures ∙ c.shared.invariant.header_is)
    (c.cpu-cpu.ensures ∙ ap (λ (l : Log). l.writer.cpu) c.requires.log) c.requires.lane.0 (ap (λ x. x.ticket) c.requires.lane.1)
    (c.before-2.invariant.2 ∙ ap (λ x. x.lane.course) c.before-2.view_is) (c.of-2.ensures ∙ returns-clause-course g c) masks figs

pub returns-clause-fits : goal.returns-clause-fits
returns-clause-fits g c =
    let n = g.N.Names in
    let b = c.args.before in
    let k : CellKeeps n.header n.book n.board b.cell =
    subst (λ x. CellKeeps n.header n.book n.board x.cell) c.before-2.view_is c.before-2.invariant.0 in
    let lk : LaneKeeps n.header n.book n.board the_row.coded b.lane =
    subst (λ x. LaneKeeps n.header n.book n.board the_row.coded x.lane) c.before-2.view_is c.before-2.invariant.1 in
    let f = fits n.header n.book n.board the_row.coded b.cell b.lane c.args.what k lk c.requires.may in
    subst (λ (t : Type 0). t) (λ i. Fits (map pair (sym c.requires.log i).seat.list) (sym (returns-clause-item g c) i)) f

pub returns-clause-step : goal.returns-clause-step
returns-clause-step g c =
    let n = g.N.Names in
    let b = c.args.before in
    let k : CellKeeps n.header n.book n.board b.cell =
    subst (λ x. CellKeeps n.header n.book n.board x.cell) c.before-2.view_is c.before-2.invariant.0 in
    step_is n.header n.book n.board b.cell b.lane c.args.what c.args.cell.now.queue.state k c.requires.queue
    ∙ (λ i.
    let l : Log = sym c.requires.log i in
    let j : Journal = sym (returns-clause-item g c) i in
    queue_by_item (replay j.header l.writer.cpu (map pair l.seat.list)) (length l.seat.list) j)
