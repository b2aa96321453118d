-- For `history_of` of src/ending.rt: the history of a machine whose lanes have done their rows.
use Rattle.std.proofs.Common.{◌≡◌, List, All, ap, sym, subst, ◌∙◌}
use Rattle.lb_trace.specs.declared.trace.Header.{Header}
use Rattle.lb_core.specs.declared.course.Course.{Course}
use Rattle.lb_core.specs.declared.course.Form.TheVariants.{Rest}
use Rattle.lb_core.specs.OfTrace.{IsHistoryOf}
use Rattle.lb_ticket.specs.Seats.{SeatIs}
use Rattle.lb_journal.specs.Journal.{Journal}
use Rattle.lb_end.specs.Ends.{KeptLists}
use Rattle.lb_end.specs.Finished.{Finished}
use Rattle.lb_journal.specs.contracts.journal.Journal.{the_row}
use Rattle.lb_journal.specs.contracts.journal.Left.{the_row as left_row}
use Rattle.lb_threads.proofs.Numbers.{all_rest, numbered}
use Rattle.lb_threads.proofs.Premises.{is_history, kept_by_owners}
use Rattle.lb_threads.proofs.ending.history_of.Goals as goal

pub rest-requires : goal.rest-requires
rest-requires g c =
    record { lanes = (numbered c.args.trace.now.rows c.args.lanes.items c.requires.done, c.requires.count) }

pub finished-requires-clause-rest : goal.finished-requires-clause-rest
finished-requires-clause-rest g c =
    subst (λ (cs : List Course). All (λ x. x.form ≡ Rest) cs) (sym c.in_ok-ended.ensures.courses)
    (all_rest c.args.trace.now.rows c.args.lanes.items c.requires.done)

pub returns : goal.returns
returns g c =
    let t = c.args.trace.now in
    let h = c.requires.header in
    let e = c.in_ok-ended.ended in
    let e' = c.in_ok-closed.closed in
    let end = c.in_ok-closed.ensures in
    let count = c.requires.count ∙ ap (λ (x : Header). x.lanes) h in
    let kept : KeptLists t.header the_row.coded e'.seats = subst (λ (x : Header). KeptLists x the_row.coded e'.seats) h
    c.close.ensures.kept in
    let finished : Finished t.header e e' end.0 = subst (λ (x : Header). Finished x e e' end.0) h end.1 in
    let owners = kept_by_owners t the_row.coded left_row.coded e e' end.0 c.args.lanes.items count c.requires.done
    c.in_ok-ended.ensures.left kept finished in
    let entries = c.in_ok-entries.entries in
    let history = is_history t the_row.coded left_row.coded e'.seats finished.cut c.close.result c.owners_merge.ensures
    c.requires.accepted owners c.close.ensures.lists c.close.ensures.tickets c.close.ensures.unquoted c.close.ensures.read
    entries (c.in_ok-entries.ensures c.close.ensures.tickets) in
    subst (λ (x : Header). IsHistoryOf t (record { header = x; entries = entries })) (sym c.in_ok-copy.ensures) history
