-- For `end_lane` of src/apart.rt: what is left of a lane: its seat, its reader, its looker, its course, the
-- ticket of its last entry, and the note of lane 0.
use Rattle.std.proofs.Common.{length, ap, sym, ◌∙◌}
use Rattle.lb_board.specs.Board.{Sight}
use Rattle.lb_journal.specs.contracts.journal.Journal.{the_row}
use Rattle.lb_journal.specs.contracts.journal.Left.{the_row as left_row}
use Rattle.lb_cpu.proofs.Parting.{left_lane, left_note}
use Rattle.lb_cpu.proofs.apart.end_lane.Goals as goal

pub returns-clause-left : goal.returns-clause-left
returns-clause-left g c =
    let n = g.N.Names in
    let e = c.end-seat.ensures in
    left_lane n.header n.book n.board g.N.Versions.versions the_row.coded left_row.coded c.args.lane c.end-seat.result.0 e.seat
    e.learnt e.view.1 e.side e.kept
    (ap (λ (s : Sight). length s.seen) (sym e.reader) ∙ c.keeps.ensures ∙ ap (λ (s : Sight). length s.cells) e.reader)

pub returns-clause-note : goal.returns-clause-note
returns-clause-note g c =
    let n = g.N.Names in
    left_note n.header n.book n.board left_row.coded c.args.lane c.end-seat.result.5 c.end-seat.ensures.side
    c.end-seat.ensures.note
