-- For `land_last` of src/engine/ending.rt: a hand lands where it goes.
use Rattle.std.proofs.Common.{ℕ, slice_index_or, slice_set, sym, subst}
use Rattle.lb_queue.specs.declared.answers.OutCause.TheVariants.{Stop}
use Rattle.lb_engine.specs.Ending.{CanLand}
use Rattle.lb_engine.proofs.Ending.{landing, landed_one}
use Rattle.lb_engine.proofs.Queues.{states, bookings}
use Rattle.lb_engine.proofs.engine.ending.land_last.Goals as goal

pub land-requires-clause-to : goal.land-requires-clause-to
land-requires-clause-to c = (landing c.args.hand c.args.queues.now c.to-to.result c.index-queues-to.result
    c.to-to.ensures c.requires).own

pub land-requires-clause-booked : goal.land-requires-clause-booked
land-requires-clause-booked c = (landing c.args.hand c.args.queues.now c.to-to.result c.index-queues-to.result
    c.to-to.ensures c.requires).room

pub land-requires-clause-differ : goal.land-requires-clause-differ
land-requires-clause-differ c = (landing c.args.hand c.args.queues.now c.to-to.result c.index-queues-to.result
    c.to-to.ensures c.requires).differ

pub land-requires-clause-unknown : goal.land-requires-clause-unknown
land-requires-clause-unknown c = (landing c.args.hand c.args.queues.now c.to-to.result c.index-queues-to.result
    c.to-to.ensures c.requires).unknown

pub returns : goal.returns
returns c = λ hands can.
    let there = landing c.args.hand c.args.queues.now c.to-to.result c.index-queues-to.result c.to-to.ensures c.requires in
    let P : ℕ → Type 0 = λ k. CanLand hands (states (slice_set c.args.queues.now k c.land.new.self))
    (bookings (slice_set c.args.queues.now k c.land.new.self)) in
    subst P (sym c.to-to.ensures)
    (landed_one c.calls_move.ensures c.calls_keep_rest.ensures 0 Stop hands c.args.hand c.args.queues.now
    (slice_index_or c.args.queues.now c.to-to.result c.index-queues-to.result) c.land.new.self there.inside there.is
    c.land.ensures.step c.land.ensures.booked can)
