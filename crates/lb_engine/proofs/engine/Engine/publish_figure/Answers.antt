-- For `Engine::publish_figure` of src/engine/queues.rt: the queue of a CPU publishes its figure, which its
-- lane knows from then on.
use Rattle.std.proofs.Common.{List, [], ◌∷◌, ◌++◌, length, refl, ap, ◌∙◌}
use Rattle.lb_base.specs.declared.figure.Fig.{Fig}
use Rattle.lb_base.specs.Room.{WithRoom}
use Rattle.lb_engine.specs.contracts.engine.Engine.{the_view}
use Rattle.lb_engine.proofs.Figures.{published_by}
use Rattle.lb_engine.proofs.engine.Engine.publish_figure.Goals as goal

pub returns-clause-machine : goal.returns-clause-machine
returns-clause-machine c =
    let v = the_view c.self.inside in
    let f = c.index_mut-figures.result.now in
    published_by v c.args.self.now c.self.inside.figures.items c.self.inside.queues.items c.args.cpu c.args.lane
    (length c.as_slice.result.now)
    f c.push_reserved.new.self c.index.result.now c.index_mut.result.now c.drew.new.course
    c.self.view_is refl refl c.requires.figures c.index_mut-figures.ensures.value c.requires.cpu c.index.ensures
    c.requires.lane c.index_mut.ensures.value (ap (λ (l : List Fig). length l) c.as_slice.ensures)
    (ap (λ (b : WithRoom Fig). b.items) c.push_reserved.ensures ∙ ap (λ (x : Fig). f.items ++ x ∷ []) c.figure-figure.ensures)
    c.drew.ensures
