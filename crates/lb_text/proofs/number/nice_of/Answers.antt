-- For `nice_of` of src/number.rt: the nice value, from -20 to 19, that a text spells: a number, or `-` and a
-- number that is not 0 (docs/rules/history-text.md).
use Rattle.std.proofs.Common.{Some, ap, ◌∙◌, arith, pos, neg_ℤ}
use Rattle.std.specs.Option.{option_map}
use Rattle.std.proofs.lemmas.Int.{ints}
use Rattle.lb_text.specs.Numbers.{nice_of}
use Rattle.lb_text.proofs.NiceFacts.{nice_minus, nice_plain, minus_bad, plain_bad}
use Rattle.lb_text.proofs.number.nice_of.Goals as goal

pub returns-in-Ok-clause-nice : goal.returns-in-Ok-clause-nice
returns-in-Ok-clause-nice c =
    let r = c.in-Ok.ensures.in_range in
    ap nice_of c.in-Some.ensures ∙ nice_minus c.in-Some.digits.now
    ∙ ap (option_map (λ n. neg_ℤ (pos n))) c.in-Ok.ensures.number ∙ ap Some (omega (arith, ints, r))

pub returns-in-Err-clause-refused : goal.returns-in-Err-clause-refused
returns-in-Err-clause-refused c =
    let e = c.in-Err.ensures in
    rw c.in-Some.ensures (minus_bad c.in-Some.digits.now c.in-Err.bad.at e.refused e.place).0

pub returns-in-Err-clause-place : goal.returns-in-Err-clause-place
returns-in-Err-clause-place c =
    let e = c.in-Err.ensures in
    rw c.in-Some.ensures (minus_bad c.in-Some.digits.now c.in-Err.bad.at e.refused e.place).1

pub returns-in-Ok-number_within-clause-nice : goal.returns-in-Ok-number_within-clause-nice
returns-in-Ok-number_within-clause-nice c =
    let e = c.in-Ok-number_within.ensures in
    let r = e.in_range in
    nice_plain c.args.text.now c.in-None.ensures ∙ ap (option_map (λ n. pos n)) e.number ∙ ap Some (omega (arith, ints, r))

pub returns-in-Err-number_within-clause-refused : goal.returns-in-Err-number_within-clause-refused
returns-in-Err-number_within-clause-refused c =
    let e = c.in-Err-number_within.ensures in
    (plain_bad c.args.text.now c.in-Err-number_within.bad.at c.in-None.ensures e.refused e.place).0

pub returns-in-Err-number_within-clause-place : goal.returns-in-Err-number_within-clause-place
returns-in-Err-number_within-clause-place c =
    let e = c.in-Err-number_within.ensures in
    (plain_bad c.args.text.now c.in-Err-number_within.bad.at c.in-None.ensures e.refused e.place).1
