-- For `place_all` of src/order.rt: the entry of each item of the lists goes into its ticket's slot.
use Rattle.std.proofs.Common.{suc, [], arith, length, map, ap, sym, subst, ◌∙◌, All}
use Rattle.lb_journal.specs.Ordering.{placed_lists, HaveSlots}
use Rattle.lb_journal.proofs.Ordering.{placed-length}
use Rattle.lb_journal.proofs.order.place_all.Goals as goal

pub loop-list-preserved : goal.loop-list-preserved
loop-list-preserved c =
    let s = ap (map (λ v. v.items)) c.in-Some.ensures.steps.0 in
    let slots = c.loop-list.slots in
    let old = c.loop-list.invariant in
    let rest = subst (All (HaveSlots (length slots))) s old.2 in
    let long = ap length c.place.ensures ∙ placed-length c.in-Some.list.items slots in (
      tt,
      tt,
      λ k x lt q y below. (let r = rest (suc k) x (omega arith) q y below in (r.0, (let z = r.1 in omega arith))),
      ap (placed_lists (map (λ v. v.items) c.next.new.self.rest.items)) c.place.ensures
          ∙ ap (λ l. placed_lists l slots) (sym s) ∙ old.3,
    )

pub place-requires : goal.place-requires
place-requires c =
    subst (All (HaveSlots (length c.loop-list.slots))) (ap (map (λ v. v.items)) c.in-Some.ensures.steps.0)
    (c.loop-list.invariant.2) 0 [] (omega arith)
