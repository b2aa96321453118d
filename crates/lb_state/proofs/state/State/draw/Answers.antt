-- For `State::draw` of src/state.rt: draws the serial entry of a lane, which takes up the last published
-- version and reads each queue's last figure, and takes it.
use Rattle.std.proofs.Common.{arith, ◌<◌, ◌≡◌, ◌+◌, true, sym, subst, Option, option_copied}
use Rattle.std.specs.Prelude.{IfSome}
use Rattle.lb_core.specs.declared.history.TheConstants.{MAX_TICKET}
use Rattle.lb_trace.specs.Accepted.{is_row}
use Rattle.lb_core.specs.Machine.{MachineState}
use Rattle.lb_core.specs.Ranges.{entry_fits}
use Rattle.lb_core.specs.declared.entry.Entry.{Entry}
use Rattle.lb_ready.specs.Ready.{IsReady, nice_fits}
use Rattle.lb_ready.specs.Next.{IsSerialNext}
use Rattle.lb_state.proofs.Drawing.{drawn_nice, each_drawn_fits}
use Rattle.lb_state.proofs.state.State.draw.Goals as goal

pub take-requires-clause-asks : goal.take-requires-clause-asks
take-requires-clause-asks c =
    let m = c.self.inside.engine.machine in
    let e = c.in-Some.entry in
    let ready : IsReady m = c.self.invariant.ready in
    let next : IsSerialNext m c.args.lane (option_copied c.args.row) e =
    subst (λ (o : Option Entry). IfSome o (λ e. IsSerialNext m c.args.lane (option_copied c.args.row) e))
    c.in-Some.is c.in_ok-drawn.ensures.drawn in
    let accepted = subst (λ (x : MachineState). IfSome c.args.row (λ r. is_row x.header r.now ≡ true))
    (sym c.self.view_is) c.requires.accepted in
    let few : m.ticket < MAX_TICKET = (let t = c.ticket.ensures in let f = c.if-ticket-ge-MAX_TICKET.false in omega
    (arith, t, f)) in
    let nice : nice_fits e.what ≡ true =
    drawn_nice c.ready.ensures.reads c.entries_fit.ensures.entries m c.args.lane c.args.row e ready few accepted next in
    c.steps_may_be_taken.ensures m e ready next.may nice

pub invariant_of-self : goal.invariant_of-self
invariant_of-self c =
    let m = c.self.inside.engine.machine in
    let e = c.in-Some.entry in
    let ready : IsReady m = c.self.invariant.ready in
    let next : IsSerialNext m c.args.lane (option_copied c.args.row) e =
    subst (λ (o : Option Entry). IfSome o (λ e. IsSerialNext m c.args.lane (option_copied c.args.row) e))
    c.in-Some.is c.in_ok-drawn.ensures.drawn in
    let accepted = subst (λ (x : MachineState). IfSome c.args.row (λ r. is_row x.header r.now ≡ true))
    (sym c.self.view_is) c.requires.accepted in
    let few : m.ticket < MAX_TICKET = (let t = c.ticket.ensures in let f = c.if-ticket-ge-MAX_TICKET.false in omega
    (arith, t, f)) in
    let nice : nice_fits e.what ≡ true =
    drawn_nice c.ready.ensures.reads c.entries_fit.ensures.entries m c.args.lane c.args.row e ready few accepted next in
    record {
      ready = subst IsReady (sym c.in_ok-take.ensures.machine) (c.ready.ensures.stays m e ready next.may nice);
      hands = c.take.ensures.hands;
    }

pub returns-clause-in_range : goal.returns-clause-in_range
returns-clause-in_range c =
    let m = c.self.inside.engine.machine in
    let accepted = subst (λ (x : MachineState). IfSome c.args.row (λ r. is_row x.header r.now ≡ true))
    (sym c.self.view_is) c.requires.accepted in
    let few : m.ticket < MAX_TICKET = (let t = c.ticket.ensures in let f = c.if-ticket-ge-MAX_TICKET.false in omega
    (arith, t, f)) in
    subst (λ (x : MachineState). IfSome c.in_ok-drawn.drawn (λ e. entry_fits (x.ticket + 1) e ≡ true)) c.self.view_is
    (each_drawn_fits c.entries_fit.ensures.entries m c.args.lane c.args.row c.in_ok-drawn.drawn c.self.invariant.ready
    few accepted
    c.in_ok-drawn.ensures.drawn)
