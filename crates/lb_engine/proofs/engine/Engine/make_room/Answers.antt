-- For `Engine::make_room` of src/engine/queues.rt: there is room for a figure more of a CPU.
use Rattle.std.proofs.Common.{◌≤◌, ℕ, List, refl, sym, ap, subst, ◌∙◌}
use Rattle.lb_base.specs.declared.figure.Fig.{Fig}
use Rattle.lb_engine.specs.Held.{Held}
use Rattle.lb_engine.specs.contracts.engine.Engine.{the_view}
use Rattle.lb_engine.proofs.Figures.{items_same, room_there, figures_within}
use Rattle.lb_engine.proofs.engine.Engine.make_room.Goals as goal

pub returns-clause-machine : goal.returns-clause-machine
returns-clause-machine c =
    let v = the_view c.self.inside in
    ap (λ (l : List (List Fig)). record v.machine { figures = l })
    (items_same c.self.inside.figures.items c.args.cpu c.index_mut.result.now c.reserve.new.self
    c.index_mut.ensures.value c.reserve.ensures.items)
    ∙ ap (λ (p : Held). p.machine) c.self.view_is

pub returns-clause-room : goal.returns-clause-room
returns-clause-room c =
    let e = room_there c.self.inside.figures.items c.args.cpu c.reserve.new.self
    (figures_within (the_view c.self.inside) c.args.self.now c.self.inside.figures.items c.args.cpu c.self.view_is
    refl c.requires) in
    subst (λ (n : ℕ). 1 ≤ n) (sym e) c.in_ok-reserve.ensures.ok
