-- For `place` of src/order.rt: the entry of each item of a list goes into its ticket's slot.
use Rattle.std.proofs.Common.{◌≡◌, suc, ◌-◌, Some, arith, length, set, ap, sym, subst, ◌∙◌}
use Rattle.std.proofs.lemmas.List.{length-set}
use Rattle.lb_journal.specs.Ordering.{placed, HaveSlots}
use Rattle.lb_journal.proofs.order.place.Goals as goal

pub loop-drawn-preserved : goal.loop-drawn-preserved
loop-drawn-preserved c =
    let s = c.in-Some.ensures.steps.0 in
    let slots = c.loop-drawn.slots in
    let d = c.in-Some.drawn in
    let old = c.loop-drawn.invariant in
    let put : c.put.new.slots ≡ set slots (d.ticket - 1) (Some d.item.entry) =
    c.put.ensures ∙ ap (λ e. set slots (d.ticket - 1) (Some e)) c.into_entry.ensures in
    let long = ap length put ∙ length-set slots (d.ticket - 1) (Some d.item.entry) in
    let rest = subst (HaveSlots (length slots)) s old.2 in (
      tt,
      tt,
      λ k x lt. (let r = rest (suc k) x (omega arith) in (r.0, (let q = r.1 in omega arith))),
      ap (placed c.next.new.self.rest.items) put ∙ ap (λ l. placed l slots) (sym s) ∙ old.3,
    )
