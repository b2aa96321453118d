-- For `Reader::told` of src/reader.rt: makes known all that the writer has published, so that a lane reads
-- its own work back.
use Rattle.std.proofs.Common.{sym, ◌∙◌, ap, subst, ◌≡◌, ◌<◌, length, slice_get, set}
use Rattle.std.proofs.lemmas.Option.{slice_get_within}
use mathlib.Core.List.{IsPrefix}
use Rattle.lb_board.specs.Board.{Sight, cell_of, see, seen_at, sight_of}
use Rattle.lb_board.proofs.Sights.{within, saw, saw_later, saw_told}
use Rattle.lb_board.proofs.reader.Reader.told.Given.{Over}
use Rattle.lb_board.proofs.reader.Reader.told.Goals as goal

abbrev after : (g : Over) → goal.After-self-1 g → Sight
after g c = sight_of (set c.self.inside.passes.items c.writer.inside.cpu c.look_told.new.pass)

-- its CPU has a pass here
bound : (g : Over) (c : goal.After-self-1 g) → c.writer.inside.cpu < length c.self.inside.passes.items
bound g c =
    within c.self.inside.passes.items cell_of c.args.board.now c.writer.inside.cpu
    (ap (λ s. s.cells) c.self.view_is ∙ c.requires.board.0)
    (slice_get_within c.args.board.now c.writer.inside.cpu c.args.writer.now.cell
    (ap (λ w. slice_get c.args.board.now w.cpu) c.writer.view_is ∙ c.requires.board.1))

pub returns-clause-others : goal.returns-clause-others
returns-clause-others g c =
    subst (λ n. after g c ≡ see c.args.self.now n (seen_at (after g c) n)) (ap (λ w. w.cpu) c.writer.view_is)
    (saw c.args.self.now c.self.inside.passes.items c.writer.inside.cpu c.index_mut-pass.result.now
    c.look_told.new.pass (sym c.self.view_is) (bound g c) c.index_mut-pass.ensures.value c.look_told.ensures.pass.0)

pub returns-clause-later : goal.returns-clause-later
returns-clause-later g c =
    subst (λ n. IsPrefix (seen_at c.args.self.now n) (seen_at (after g c) n)) (ap (λ w. w.cpu) c.writer.view_is)
    (saw_later c.args.self.now c.self.inside.passes.items c.writer.inside.cpu c.index_mut-pass.result.now
    c.look_told.new.pass (sym c.self.view_is) (bound g c) c.index_mut-pass.ensures.value c.look_told.ensures.look.1)

pub returns-clause-told : goal.returns-clause-told
returns-clause-told g c =
    subst (λ w. IsPrefix w.figures (seen_at (after g c) w.cpu)) c.writer.view_is
    (saw_told c.args.self.now c.self.inside.passes.items c.writer.inside.cpu c.index_mut-pass.result.now
    c.look_told.new.pass (sym c.self.view_is) (bound g c) c.index_mut-pass.ensures.value _ c.look_told.ensures.look.2)
