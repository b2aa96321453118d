-- For `Engine::serve` of src/engine/take.rt: what an entry of a queue changes itself.
use Rattle.std.proofs.Common.{ℕ, ◌+◌, ◌<◌, List, length, ap, sym, subst}
use Rattle.lb_core.specs.declared.entry.What.{What}
use Rattle.lb_engine.specs.Held.{Held, booked_at}
use Rattle.lb_engine.specs.Takes.{HandsAfter, ServeAsks}
use Rattle.lb_engine.proofs.Counted.{few_booked}
use Rattle.lb_engine.proofs.engine.Engine.serve.Goals as goal

pub take_out-requires-clause-few : goal.take_out-requires-clause-few
take_out-requires-clause-few c =
    let P : What → Type 0 = λ w. ServeAsks w c.args.self.now.machine c.args.cpu c.args.lane in
    let asks = subst P c.in-Out.is c.requires.asks in
    let booked = booked_at c.args.self.now.booked c.in-Out.to in
    subst (λ (ids : List ℕ). booked + length ids < 4294967296) (sym c.as_slice.ensures)
    (few_booked c.args.self.now c.in-Out.to (length c.in-Out.ids) c.requires.hands asks.few)

pub returns-in-Close-clause-hands : goal.returns-in-Close-clause-hands
returns-in-Close-clause-hands c =
    let P : What → Type 0 = λ w. HandsAfter w c.args.self.now c.take_close.new.self c.args.cpu c.args.lane in
    subst P (sym c.in-Close.is) (record {
      hands = ap (λ (p : Held). p.hands) (c.take_close.ensures 0 0 0);
      booked = ap (λ (p : Held). p.booked) (c.take_close.ensures 0 0 0);
    })

pub returns-in-Close-clause-spare : goal.returns-in-Close-clause-spare
returns-in-Close-clause-spare c = ap (λ (p : Held). p.spare) (c.take_close.ensures 0 0 0)
