-- For `Ended::next_stop` of src/booking.rt: the next pending stop request of a queue that has one.
use Rattle.std.proofs.Common.{ℕ, ◌≡◌, Some, true, false, is_some, length, sym, ap, ◌∙◌}
use Rattle.lb_base.proofs.Ranges.{found_at}
use Rattle.lb_queue.specs.declared.answers.Stop.{Stop}
use Rattle.lb_queue.specs.Queue.{QueueState}
use Rattle.lb_queue.specs.Hands.{stop_to}
use Rattle.lb_queue.specs.Requests.{has_pending, next_stop}
use Rattle.lb_journal.specs.declared.journal.Journal.{the_code}
use Rattle.lb_journal.specs.contracts.journal.Left.{the_row}
use Rattle.lb_end.specs.Ends.{EndedIs}
use Rattle.lb_end.specs.Drawing.{state_at}
use Rattle.lb_end.proofs.Parts.{state_is}
use Rattle.lb_end.proofs.ended.Ended.next_stop.Goals as goal

pub unreachable-requires : goal.unreachable-requires
unreachable-requires g c =
    let h = g.N.Names.header in
    let is : c.index.result.now.state ≡ state_at h c.args.self.now c.args.cpu =
    state_is h g.N.Names.book the_code the_row.coded _ c.self.invariant c.args.cpu c.requires.cpu c.index.result.now
    c.index.ensures
    ∙ ap (λ (x : EndedIs). state_at h x c.args.cpu) c.self.view_is in
    let some : has_pending (state_at h c.args.self.now c.args.cpu) ≡ true =
    (found_at (λ (cpu : ℕ). has_pending (state_at h c.args.self.now cpu)) (length h.cpus) c.args.cpu c.requires.pending).1 in
    let none : is_some (next_stop c.index.result.now.state false) ≡ false =
    ap is_some (sym c.next_stop.ensures.value ∙ c.in_default.is) in
    let asked = c.next_stops.ensures.asked c.index.result.now.state false in
    let pending : has_pending c.index.result.now.state ≡ true = ap has_pending is ∙ some in
    cc (none, asked, pending)

pub returns-clause-next : goal.returns-clause-next
returns-clause-next g c =
    let h = g.N.Names.header in
    let is : c.index.result.now.state ≡ state_at h c.args.self.now c.args.cpu =
    state_is h g.N.Names.book the_code the_row.coded _ c.self.invariant c.args.cpu c.requires.cpu c.index.result.now
    c.index.ensures
    ∙ ap (λ (x : EndedIs). state_at h x c.args.cpu) c.self.view_is in
    ap (λ (q : QueueState). next_stop q false) (sym is) ∙ (sym c.next_stop.ensures.value ∙ c.in-Some.is)

pub returns-clause-goes : goal.returns-clause-goes
returns-clause-goes g c =
    let h = g.N.Names.header in
    let is : c.index.result.now.state ≡ state_at h c.args.self.now c.args.cpu =
    state_is h g.N.Names.book the_code the_row.coded _ c.self.invariant c.args.cpu c.requires.cpu c.index.result.now
    c.index.ensures
    ∙ ap (λ (x : EndedIs). state_at h x c.args.cpu) c.self.view_is in
    ap (λ (q : QueueState). stop_to q c.in-Some.stop.id) (sym is) ∙ c.in-Some.ensures.goes
