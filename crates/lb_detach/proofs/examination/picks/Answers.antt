-- For `picks` of src/examination.rt: fills `picked` with what the pull takes out of the list and what it
-- leaves there.
use Rattle.std.proofs.Common.{◌≡◌, ◌<◌, true, false, length, refl, sym, ◌∙◌, arith, rules}
use Rattle.lb_detach.specs.Picks.{task_at, ends, picked_ids}
use Rattle.lb_detach.proofs.Examining.{HasExamined-none, HasExamined-more, ends_is, examined_is, kept_are}
use Rattle.lb_detach.proofs.examination.picks.Goals as goal
use Rattle.lb_detach.proofs.examination.picks.Goals.{then-examine-test+else-not-is_over, else-examine-test}

pub examine-init : goal.examine-init
examine-init c = record {
  so_far = rw (c.clear.ensures.items, c.clear-2.ensures.items) (HasExamined-none c.args.env.now c.args.list.now);
  ids_room = omega arith;
  order_room = omega arith;
  ids_few = omega arith;
  order_few = omega arith;
  free_few = omega arith;
}

pub examine-preserved : goal.examine-preserved
unfolding task_at
examine-preserved c =
    let so = c.examine.invariant.so_far in
    let e = c.examine-in-examine.ensures in
    let took : c.len.result ≡ length c.examine.picked.ids.items = c.len.ensures ∙ c.examine.picked.ids.ok.0 in
    let on : c.is_over.result ≡ false = search rules in
    record {
      so_far = rw e.examined (HasExamined-more _ _ _ _ _ _ _ _ _ _ _ _ so c.examine-test.true
          (ends_is _ _ _ _ _ _ _ _ so took ∙ sym c.is_over.ensures ∙ on) refl e.ids e.order e.left e.free);
      ids_room = omega arith;
      order_room = omega arith;
      ids_few = omega arith;
      order_few = omega arith;
      free_few = omega arith;
    }

pub returns : goal.returns
unfolding picked_ids
returns c =
    let so = c.examine.invariant.so_far in
    let stop : c.examine.at.examined < length c.args.list.now → ends c.args.env.now c.args.list.now c.examine.at.examined ≡ true =
    elim c.examine-test.branch [
      | then-examine-test+else-not-is_over w ↦ λ lt. let over : w.is_over.result ≡ true = search rules in
          let took : w.len.result ≡ length c.examine.picked.ids.items = w.len.ensures ∙ c.examine.picked.ids.ok.0 in
          ends_is _ _ _ _ _ _ _ _ so took ∙ sym w.is_over.ensures ∙ over
      | else-examine-test w ↦ λ lt. absurd (omega arith)
    ] in
    let at = examined_is _ _ _ _ _ _ _ so stop in
    record {
      ids = rw at so.ids_are;
      order = rw (c.append_ids.ensures.items, c.reverse.ensures.items) (kept_are _ _ _ _ _ at so.order_is refl);
      some_pinned = rw (at, so.allowed_are) refl;
      all_pinned = c.is_all_pinned-picked.ensures ∙ rw (at, so.allowed_are) refl;
      left = rw at so.left_is;
      ids_capacity = omega arith;
      order_capacity = omega arith;
    }
