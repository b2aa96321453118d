-- For `Engine::step` of src/engine/take.rt: the step of an entry, but for the last tickets.
use Rattle.std.proofs.Common.{◌≡◌, None, false, OnOk, ap, refl, sym, subst, ◌∙◌}
use Rattle.lb_core.specs.declared.entry.Owner.{Owner}
use Rattle.lb_core.specs.declared.entry.Owner.TheVariants as owner
use Rattle.lb_core.specs.Machine.{MachineState}
use Rattle.lb_core.specs.Stage.{is_queue}
use Rattle.lb_engine.specs.Held.{Held, HandsFit}
use Rattle.lb_engine.specs.Steps.{becomes, entry_of, stepped}
use Rattle.lb_engine.specs.Takes.{OwnerAsks}
use Rattle.lb_engine.proofs.Beside.{same_step, on_ok, either_end, fit_beside}
use Rattle.lb_engine.proofs.engine.Engine.step.Goals as goal

pub returns-in-Queue-clause-machine : goal.returns-in-Queue-clause-machine
returns-in-Queue-clause-machine c =
    let m = c.args.self.now.machine in
    let e = c.args.entry.now in
    let P : MachineState → Type 0 = λ x. OnOk c.take_of_queue.result (c.take_of_queue.new.self.machine ≡ x) in
    subst P (same_step m e (owner.Queue c.in-Queue.cpu) c.in-Queue.is) c.take_of_queue.ensures.machine

pub returns-in-Lane-clause-machine : goal.returns-in-Lane-clause-machine
returns-in-Lane-clause-machine c =
    let now = c.args.self.now in
    let e = c.args.entry.now in
    on_ok c.take_beside.result (c.take_beside.new.self ≡ becomes
    (stepped now.machine (entry_of e.owner e.lane e.what)) now) (c.take_beside.new.self.machine ≡ stepped now.machine e)
    (λ h. ap (λ (p : Held). p.machine) h ∙ same_step now.machine e e.owner refl) c.take_beside.ensures.ok

pub returns-in-Lane-clause-hands : goal.returns-in-Lane-clause-hands
returns-in-Lane-clause-hands c =
    let now = c.args.self.now in
    let e = c.args.entry.now in
    let P : Owner → Type 0 = λ o. OwnerAsks o e.what now.machine e.lane in
    let Q : Owner → Type 0 = λ o. is_queue o None ≡ false in
    either_end c.take_beside.result (c.take_beside.new.self ≡ becomes
    (stepped now.machine (entry_of e.owner e.lane e.what)) now) (c.take_beside.new.self ≡ now) (HandsFit c.take_beside.new.self)
    (λ h. fit_beside e.owner e.what now c.take_beside.new.self e.lane c.requires.asks.lane
    (subst Q (sym c.in-Lane.is) refl) (subst P c.in-Lane.is c.requires.asks.owner) c.requires.hands c.requires.asks.flight h)
    (λ h. subst (λ (p : Held). HandsFit p) (sym h) c.requires.hands)
    c.take_beside.ensures.ok c.take_beside.ensures.refused

pub returns-in-Publisher-clause-machine : goal.returns-in-Publisher-clause-machine
returns-in-Publisher-clause-machine c =
    let now = c.args.self.now in
    let e = c.args.entry.now in
    on_ok c.take_beside-in-Publisher.result
    (c.take_beside-in-Publisher.new.self ≡ becomes (stepped now.machine (entry_of e.owner e.lane e.what)) now)
    (c.take_beside-in-Publisher.new.self.machine ≡ stepped now.machine e)
    (λ h. ap (λ (p : Held). p.machine) h ∙ same_step now.machine e e.owner refl) c.take_beside-in-Publisher.ensures.ok

pub returns-in-Publisher-clause-hands : goal.returns-in-Publisher-clause-hands
returns-in-Publisher-clause-hands c =
    let now = c.args.self.now in
    let e = c.args.entry.now in
    let P : Owner → Type 0 = λ o. OwnerAsks o e.what now.machine e.lane in
    let Q : Owner → Type 0 = λ o. is_queue o None ≡ false in
    either_end c.take_beside-in-Publisher.result
    (c.take_beside-in-Publisher.new.self ≡ becomes (stepped now.machine (entry_of e.owner e.lane e.what)) now)
    (c.take_beside-in-Publisher.new.self ≡ now) (HandsFit c.take_beside-in-Publisher.new.self)
    (λ h. fit_beside e.owner e.what now c.take_beside-in-Publisher.new.self e.lane c.requires.asks.lane
    (subst Q (sym c.in-Publisher.is) refl)
    (subst P c.in-Publisher.is c.requires.asks.owner) c.requires.hands c.requires.asks.flight h)
    (λ h. subst (λ (p : Held). HandsFit p) (sym h) c.requires.hands)
    c.take_beside-in-Publisher.ensures.ok c.take_beside-in-Publisher.ensures.refused
