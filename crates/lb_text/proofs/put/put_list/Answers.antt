-- For `put_list` of src/put.rt: appends the CPUs of a mask as a list of runs, each as long as it can be, or
-- `-` where there are none (docs/rules/history-text.md).
use Rattle.std.proofs.Common.{◌++◌, sym, ap, ◌∙◌}
use Rattle.lb_text.proofs.RunFacts.{list_text_none, list_text_some}
use Rattle.lb_text.proofs.put.put_list.Goals as goal

pub returns-then-is_none-clause-ok : goal.returns-then-is_none-clause-ok
returns-then-is_none-clause-ok c =
    c.in_ok-extend_from_slice.ensures.items
    ∙ ap (λ t. c.args.to.now.items ++ t) (sym
    (list_text_none c.args.mask c.first.result c.first.ensures.value c.if-is_none.ensures))

pub returns-in-Ok-clause-ok : goal.returns-in-Ok-clause-ok
returns-in-Ok-clause-ok c =
    c.in-Ok.ensures.ok ∙ ap (λ t. c.args.to.now.items ++ t)
    (sym (list_text_some c.args.mask c.first.result c.first.ensures.value c.if-is_none.ensures))
