-- For `in_order` of src/order.rt: the entries of the lists of a closed book, in the order of their tickets.
use Rattle.std.proofs.Common.{length, map, None, ap, sym, subst, ◌∙◌}
use Rattle.std.proofs.lemmas.List.{length-replicate, take_at}
use Rattle.lb_ticket.specs.Tickets.{Closes}
use Rattle.lb_journal.specs.Journal.{meaning_of_journal}
use Rattle.lb_journal.specs.Ordering.{somes, total_length}
use Rattle.lb_journal.proofs.Ordering.{all_have_slots, if_ok_more, in_order_at, lists-length}
use Rattle.lb_journal.proofs.order.in_order.Goals as goal

pub place_all-requires : goal.place_all-requires
place_all-requires c =
    let book = subst (Closes meaning_of_journal) (sym c.lists.view_is) c.requires.closed in
    let n = ap length (c.deref_mut.ensures.value ∙ c.in_ok-slots.ensures) ∙ length-replicate c.in-Some.count None in
    let d = ap (λ l. total_length (map (λ v. v.items) l)) c.deref.ensures.value in
    all_have_slots (map (λ v. v.items) c.lists.inside.of.items) book c.deref_mut.result.now
    (n ∙ (c.in-Some.ensures ∙ d))

pub returns : goal.returns
returns c =
    let lists = map (λ v. v.items) c.lists.inside.of.items in
    let slots = c.deref_mut.result.now in
    let n = ap length (c.deref_mut.ensures.value ∙ c.in_ok-slots.ensures) ∙ length-replicate c.in-Some.count None in
    let d = ap (λ l. total_length (map (λ v. v.items) l)) c.deref.ensures.value in
    let p = c.place_all.ensures in
    let long = ap length p ∙ lists-length lists slots ∙ c.deref_mut.ensures.len in
    let rest = take_at c.place_all.new.slots _ c.in_ok-slots.slots.len long in
    if_ok_more c.taken_out.result _ _
    (λ es is book.
    is ∙ ap somes (rest ∙ p)
    ∙ in_order_at c.args.lists lists book slots c.lists.view_is (n ∙ (c.in-Some.ensures ∙ d)))
    c.taken_out.ensures
