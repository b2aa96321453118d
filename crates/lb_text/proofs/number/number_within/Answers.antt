-- For `number_within` of src/number.rt: the number from `least` to `most` that a text spells: `0`, or digits
-- of which the first is not 0 (docs/rules/history-text.md).
use Rattle.std.proofs.Common.{take, arith}
use Rattle.lb_text.proofs.Digits.{number_spelled}
use Rattle.lb_text.proofs.Prefix.{read_more, read_bad, read_empty, read_small, read_whole}
use Rattle.lb_text.proofs.number.number_within.Goals as goal

pub returns-in_default-clause-refused : goal.returns-in_default-clause-refused
returns-in_default-clause-refused c =
    let a = c.args in
    let l = c.loop-at in
    (read_bad a.least a.most a.text.now l.at l.value (omega arith) l.invariant
    (c.in_default.ensures (take l.at a.text.now) l.invariant.spelled)).0

pub loop-at-preserved : goal.loop-at-preserved
loop-at-preserved c =
    let a = c.args in
    let l = c.loop-at in
    let next = c.in-Some.ensures (take l.at a.text.now) l.invariant.spelled in
    read_more a.least a.most a.text.now l.at c.in-Some.next l.value (omega arith) l.invariant next.0 next.1

pub returns-in-Some-value-clause-number : goal.returns-in-Some-value-clause-number
returns-in-Some-value-clause-number c =
    let a = c.args in
    let l = c.loop-at in
    read_whole a.least a.most a.text.now l.at c.in-Some-value.n l.value (omega arith) (omega arith)
    (omega arith) c.in-Some-value.is l.invariant (omega arith)

pub returns-in_default-value-clause-refused : goal.returns-in_default-value-clause-refused
returns-in_default-value-clause-refused c =
    let a = c.args in
    let l = c.loop-at in
    read_small a.least a.most a.text.now l.at c.in-Some-value.n l.value (omega arith)
    (omega arith) c.in-Some-value.is l.invariant (omega arith)

pub returns-in_default-value-2-clause-refused : goal.returns-in_default-value-2-clause-refused
returns-in_default-value-2-clause-refused c =
    let a = c.args in
    let l = c.loop-at in
    read_empty a.least a.most a.text.now l.at l.value (omega arith) c.in_default-value.is l.invariant

pub returns-in-Some-value-clause-in_range : goal.returns-in-Some-value-clause-in_range
returns-in-Some-value-clause-in_range c =
    let a = c.args in
    let l = c.loop-at in
    let s = number_spelled a.least a.most c.in-Some-value.n a.text.now (omega arith)
    (read_whole a.least a.most a.text.now l.at c.in-Some-value.n l.value (omega arith) (omega arith)
    (omega arith) c.in-Some-value.is l.invariant (omega arith)) in
    (s.1, s.2)
