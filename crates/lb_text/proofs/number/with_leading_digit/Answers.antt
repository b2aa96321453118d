-- For `with_leading_digit` of src/number.rt: the same, where some number from `least` to `most` begins so.
use Rattle.std.proofs.Common.{◌<◌, ◌^◌, ◌++◌, ◌∷◌, [], List, ℕ, Option, Some, sym, subst, refl, arith}
use Rattle.std.proofs.lemmas.Bool.{both_ways}
use Rattle.lb_text.specs.Numbers.{is_number}
use Rattle.lb_text.specs.Prefixes.{CanGoOn}
use Rattle.lb_text.specs.Scan.{Spelled}
use Rattle.lb_text.proofs.Leading.{GoesOn, goes_on_with}
use Rattle.lb_text.proofs.number.with_leading_digit.Goals as goal

pub returns-in_default : goal.returns-in_default
returns-in_default c text s =
    let a = c.args in
    let small : a.most < 2 ^ 64 = omega arith in
    subst (λ (o : Option ℕ). GoesOn a.most (text ++ a.byte ∷ []) o) (sym c.in_default.ensures)
    (goes_on_with a.most a.so_far text a.byte small s) a.least

pub returns-then-leads : goal.returns-then-leads
returns-then-leads c text s =
    let a = c.args in
    let small : a.most < 2 ^ 64 = omega arith in
    let next : Spelled (Some c.in-Some.next) (text ++ a.byte ∷ []) =
    subst (λ (o : Option ℕ). GoesOn a.most (text ++ a.byte ∷ []) o) (sym c.in-Some.ensures)
    (goes_on_with a.most a.so_far text a.byte small s) in
    (next, subst (λ (t : List ℕ). CanGoOn (is_number a.least a.most) t) (sym next.0) (c.if-leads.ensures.0 refl))

pub returns-else-leads : goal.returns-else-leads
returns-else-leads c text s go =
    let a = c.args in
    let small : a.most < 2 ^ 64 = omega arith in
    let next : Spelled (Some c.in-Some.next) (text ++ a.byte ∷ []) =
    subst (λ (o : Option ℕ). GoesOn a.most (text ++ a.byte ∷ []) o) (sym c.in-Some.ensures)
    (goes_on_with a.most a.so_far text a.byte small s) in
    both_ways c.leads.result c.if-leads.false
    (c.leads.ensures.1 (subst (λ (t : List ℕ). CanGoOn (is_number a.least a.most) t) next.0 go))
