-- For `Summary::of` of src/summary.rt: counts the entries of a legal history, each in the state before it.
use Rattle.std.proofs.Common.{◌≡◌, arith, List, [], length, ◌∙◌, ap, drop}
use Rattle.std.proofs.lemmas.List.{drop_all}
use Rattle.lb_core.specs.declared.entry.Entry.{Entry}
use Rattle.lb_summary.proofs.Going.{goes_at, goes_on, few_in_all, few_so_far, all_counted}
use Rattle.lb_summary.proofs.summary.Summary.of.Goals as goal

pub count-requires-clause-small : goal.count-requires-clause-small
count-requires-clause-small c =
    let ready = c.ready.ensures in
    few_so_far c.loop-entry.summary _ _ _ c.loop-entry.invariant.counted
    (few_in_all ready.opens ready.stays ready.reads c.args.history.now
    c.requires.header c.requires.legal c.requires.entries c.requires.few)

pub count-requires-clause-may : goal.count-requires-clause-may
count-requires-clause-may c = (goes_at c.ready.ensures.stays c.ready.ensures.reads _ _ c.loop-entry.state
    c.loop-entry.entry-index c.entry-item.result _ _ c.as_slice-entry-items.ensures c.loop-entry.invariant
    c.loop-entry-test.true c.entry-item.is).may

pub step-requires : goal.step-requires
step-requires c = (goes_at c.ready.ensures.stays c.ready.ensures.reads _ _ c.loop-entry.state c.loop-entry.entry-index
    c.entry-item.result _ _ c.as_slice-entry-items.ensures c.loop-entry.invariant c.loop-entry-test.true c.entry-item.is).fits

pub loop-entry-preserved : goal.loop-entry-preserved
loop-entry-preserved c =
    let g = goes_at c.ready.ensures.stays c.ready.ensures.reads _ _ c.loop-entry.state c.loop-entry.entry-index
    c.entry-item.result _ _ c.as_slice-entry-items.ensures c.loop-entry.invariant c.loop-entry-test.true c.entry-item.is in
    goes_on _ _ _ _ _ _ _ _ g c.count.ensures (c.in_ok-step.ensures.taken (c.in_ok-step.ensures.judged ∙ g.added))

pub returns : goal.returns
returns c = all_counted c.loop-entry.summary _ c.loop-entry.state _ none_left c.loop-entry.invariant.counted
  where
    none_left : drop c.loop-entry.entry-index c.args.history.now.entries ≡ []
    none_left =
        let over = c.loop-entry-test.false in
        let same = ap (λ (xs : List Entry). length xs) c.as_slice-entry-items.ensures in
        drop_all c.loop-entry.entry-index c.args.history.now.entries (omega arith)
