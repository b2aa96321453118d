-- For `Engine::book` of src/engine/hands.rt: books so many landings at the queue of a CPU.
use Rattle.std.proofs.Common.{ℕ, ◌+◌, ◌<◌, refl, subst}
use Rattle.lb_engine.specs.contracts.engine.Engine.{the_view}
use Rattle.lb_engine.proofs.Booking.{booked_more, booked_now}
use Rattle.lb_engine.proofs.engine.Engine.book.Goals as goal

pub book-requires : goal.book-requires
book-requires c =
    subst (λ (n : ℕ). n + c.args.count < 4294967296)
    (booked_now (the_view c.self.inside) c.args.self.now c.self.inside.queues.items c.args.cpu c.index_mut.result.now
    c.self.view_is refl refl c.requires.cpu c.index_mut.ensures.value)
    c.requires.few

pub returns-clause-ok : goal.returns-clause-ok
returns-clause-ok c =
    booked_more (the_view c.self.inside) c.args.self.now c.self.inside.queues.items c.args.cpu c.args.count
    c.index_mut.result.now c.book.new.self
    c.self.view_is refl refl c.requires.cpu c.index_mut.ensures.value c.in_ok-book.ensures.ok
