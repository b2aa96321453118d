-- For `Reader::read` of src/reader.rt: one of the CPU's published figures: the last that is seen now, and no
-- earlier one than this reader saw or was told of.
use Rattle.std.proofs.Common.{sym, ◌∙◌, ap}
use Rattle.lb_board.specs.Board.{cell_of}
use Rattle.lb_board.proofs.Sights.{same_get, within, saw, saw_later, saw_figure}
use Rattle.lb_board.proofs.reader.Reader.read.Goals as goal

pub look-requires : goal.look-requires
look-requires g c =
    ap cell_of c.index_mut.ensures.value
    ∙ same_get c.self.inside.passes.items c.board.inside.cells.items cell_of
    (λ t. t.table.shared.table_id) c.args.cpu c.index_mut.result.now c.index.result.now
    (ap (λ s. s.cells) c.self.view_is ∙ (c.requires.board.0 ∙ sym c.board.view_is))
    (within c.board.inside.cells.items
    (λ t. t.table.shared.table_id) c.args.board.now c.args.cpu c.board.view_is c.requires.board.1) c.index.ensures

pub returns-clause-others : goal.returns-clause-others
returns-clause-others g c =
    saw c.args.self.now c.self.inside.passes.items c.args.cpu c.index_mut.result.now c.look.new.pass (sym c.self.view_is)
    (within c.self.inside.passes.items cell_of c.args.board.now c.args.cpu
    (ap (λ s. s.cells) c.self.view_is ∙ c.requires.board.0) c.requires.board.1) c.index_mut.ensures.value
    c.look.ensures.pass.0

pub returns-clause-later : goal.returns-clause-later
returns-clause-later g c =
    saw_later c.args.self.now c.self.inside.passes.items c.args.cpu c.index_mut.result.now c.look.new.pass (sym c.self.view_is)
    (within c.self.inside.passes.items cell_of c.args.board.now c.args.cpu
    (ap (λ s. s.cells) c.self.view_is ∙ c.requires.board.0) c.requires.board.1) c.index_mut.ensures.value
    c.look.ensures.look.1

pub returns-clause-figure : goal.returns-clause-figure
returns-clause-figure g c =
    saw_figure c.args.self.now c.self.inside.passes.items c.args.cpu c.index_mut.result.now c.look.new.pass (sym c.self.view_is)
    (within c.self.inside.passes.items cell_of c.args.board.now c.args.cpu
    (ap (λ s. s.cells) c.self.view_is ∙ c.requires.board.0) c.requires.board.1) c.index_mut.ensures.value
    c.look.result.fig c.look.ensures.look.3
