-- For `close_in_order` of src/order.rt: closes the book, and answers the entries that the seats drew, all of
-- them, in the order of their tickets.
use Rattle.std.proofs.Common.{◌≡◌, List, sym, subst}
use Rattle.lb_core.specs.declared.entry.Entry.{Entry}
use Rattle.lb_core.specs.Legal.{IsLegalHistory}
use Rattle.lb_core.specs.OfTrace.{IsHistoryOf}
use Rattle.lb_journal.specs.Merge.{MayMerge, entries}
use Rattle.lb_journal.specs.Journal.{meaning_of_journal}
use Rattle.lb_ticket.specs.Tickets.{Closes}
use Rattle.lb_journal.proofs.Ordering.{if_ok_more, history_of}
use Rattle.lb_journal.proofs.order.close_in_order.Goals as goal

pub returns-clause-entries : goal.returns-clause-entries
returns-clause-entries c =
    let closed = c.close-lists.ensures in
    if_ok_more c.in_order.result _ _
    (λ es is.
    subst (λ l. (book : Closes meaning_of_journal l) × (es ≡ entries book.log)) closed.lists
    (closed.tickets, is closed.tickets))
    c.in_order.ensures

pub returns-clause-legal : goal.returns-clause-legal
returns-clause-legal c =
    let lists = c.close-lists.result in
    let closed = c.close-lists.ensures in
    if_ok_more c.in_order.result _ _
    (λ es is h ok may.
    subst (IsLegalHistory h) (sym (is closed.tickets))
    (c.merge_is_run.ensures h lists ok closed.tickets (subst (MayMerge h) (sym closed.lists) may)))
    c.in_order.ensures

pub returns-clause-history : goal.returns-clause-history
returns-clause-history c =
    let lists = c.close-lists.result in
    let closed = c.close-lists.ensures in
    let seats = c.args.seats.items in
    if_ok_more c.in_order.result _ _
    (λ es is t cut ok kept.
    subst (λ (l : List Entry). IsHistoryOf t (record { header = t.header; entries = l })) (sym (is closed.tickets))
    (history_of c.owners_merge.ensures t _ _ seats cut lists closed.lists closed.tickets closed.unquoted closed.read ok kept))
    c.in_order.ensures
