-- For `item_of` of src/list.rt: the first and the last CPU that an item of a list names.
use Rattle.std.proofs.Common.{◌≡◌, ℕ, ◌+◌, ◌++◌, ◌∷◌, take, drop, length, Some, sym, ap, subst, ◌∙◌, arith, rules}
use Rattle.std.proofs.lemmas.Result.{err_from_is_err_and}
use Rattle.std.proofs.lemmas.List.{length-take-le, take_rest}
use Rattle.lb_text.specs.declared.bad_text.BadText.{BadText}
use Rattle.lb_text.specs.Lists.{item_of, is_item}
use Rattle.lb_text.specs.Numbers.{number_within}
use Rattle.lb_text.specs.declared.list.TheConstants.{MAX_CPU}
use Rattle.lb_text.specs.Prefixes.{IsFirstBad}
use Rattle.lb_text.proofs.Items.{bad_alone, bad_first, bad_last, dash_item, lone_item}
use Rattle.lb_text.proofs.list.item_of.Goals as goal

pub returns-in_err-cpu-clause-refused : goal.returns-in_err-cpu-clause-refused
returns-in_err-cpu-clause-refused c =
    let p = err_from_is_err_and c.from_residual.result c.from_residual.ensures.1 in
    let e = c.in_err-cpu.ensures in
    rw p.1 (bad_alone c.args.item.now c.in_err-cpu.field-0.0.at c.in_default.ensures e.refused e.place).0

pub returns-in_err-cpu-clause-place : goal.returns-in_err-cpu-clause-place
returns-in_err-cpu-clause-place c =
    let p = err_from_is_err_and c.from_residual.result c.from_residual.ensures.1 in
    let e = c.in_err-cpu.ensures in
    rw p.1 (subst (λ (b : BadText). IsFirstBad is_item c.args.item.now b.at) (sym p.2)
    (bad_alone c.args.item.now c.in_err-cpu.field-0.0.at c.in_default.ensures e.refused e.place).1)

pub returns-in_default-clause-item : goal.returns-in_default-clause-item
returns-in_default-clause-item c = lone_item c.args.item.now c.in_ok-cpu.field-0 (search rules)

pub returns-in_err-first-clause-refused : goal.returns-in_err-first-clause-refused
returns-in_err-first-clause-refused c =
    let p = err_from_is_err_and c.from_residual-in_err-first.result c.from_residual-in_err-first.ensures.1 in
    let e = c.in_err-first.ensures in
    let d = c.in-Some.ensures in
    rw (p.1, d.2) (bad_first (take c.in-Some.dash c.args.item.now)
    (drop (c.in-Some.dash + 1) c.args.item.now) c.in_err-first.field-0.0.at d.1 e.refused e.place).0

pub returns-in_err-first-clause-place : goal.returns-in_err-first-clause-place
returns-in_err-first-clause-place c =
    let p = err_from_is_err_and c.from_residual-in_err-first.result c.from_residual-in_err-first.ensures.1 in
    let e = c.in_err-first.ensures in
    let d = c.in-Some.ensures in
    let b = bad_first (take c.in-Some.dash c.args.item.now)
    (drop (c.in-Some.dash + 1) c.args.item.now) c.in_err-first.field-0.0.at d.1 e.refused e.place in
    rw (p.1, d.2) (subst (λ (x : BadText). IsFirstBad is_item
    (take c.in-Some.dash c.args.item.now ++ 45 ∷ drop (c.in-Some.dash + 1) c.args.item.now) x.at) (sym p.2) b.1)

pub returns-in-Ok-clause-item : goal.returns-in-Ok-clause-item
returns-in-Ok-clause-item c =
    let item = c.args.item.now in
    let dash = c.in-Some.dash in
    let d = c.in-Some.ensures in
    let last : number_within c.in_ok-first.first MAX_CPU (drop (dash + 1) item) ≡ Some c.in-Ok.last =
    rw (sym (take_rest item (dash + 1))) c.in-Ok.ensures.number in
    ap item_of d.2 ∙ dash_item (take dash item) c.in_ok-first.first c.in-Ok.last
    (drop (dash + 1) item) d.1 c.in_ok-first.ensures.number last

pub returns-in-Err-clause-refused : goal.returns-in-Err-clause-refused
returns-in-Err-clause-refused c =
    let item = c.args.item.now in
    let dash = c.in-Some.dash in
    let d = c.in-Some.ensures in
    let a = c.in_ok-first.ensures in
    let e = rw (take_rest item (dash + 1)) at c.in-Err.ensures in
    rw d.2 (bad_last (take dash item) (drop (dash + 1) item) c.in_ok-first.first c.in-Err.bad.at d.1 a.number
    a.in_range e.refused e.place).0

pub returns-in-Err-clause-place : goal.returns-in-Err-clause-place
returns-in-Err-clause-place c =
    let item = c.args.item.now in
    let dash = c.in-Some.dash in
    let d = c.in-Some.ensures in
    let a = c.in_ok-first.ensures in
    let e = rw (take_rest item (dash + 1)) at c.in-Err.ensures in
    let b = bad_last (take dash item) (drop (dash + 1) item) c.in_ok-first.first c.in-Err.bad.at d.1 a.number
    a.in_range e.refused e.place in
    let len : length (take dash item) + 1 + c.in-Err.bad.at ≡ dash + 1 + c.in-Err.bad.at =
    omega (arith, length-take-le dash item (omega (arith, d.0))) in
    rw d.2 (subst (λ (n : ℕ). IsFirstBad is_item (take dash item ++ 45 ∷ drop (dash + 1) item) n) len b.1)
