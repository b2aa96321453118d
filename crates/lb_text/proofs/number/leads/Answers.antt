-- For `leads` of src/number.rt: whether some number from `least` to `most` begins with the digits of `value`.
use Rattle.std.proofs.Common.{◌≡◌, ◌<◌, ◌^◌, arith}
use Rattle.std.proofs.lemmas.Bool.{leb-true, le-leb, eq-eqb, eqb-true}
use Rattle.lb_text.proofs.Leading.{begins_from, cut_none, cut_more_of, cut_leads, zero_leads, zero_leads_only}
use Rattle.lb_text.proofs.number.leads.Goals as goal

pub returns-then-value-eq0 : goal.returns-then-value-eq0
returns-then-value-eq0 c =
    let a = c.args in
    let small : a.most < 2 ^ 64 = omega arith in
    let none : a.value ≡ 0 = c.if-value-eq0.true in
    rw none (
      λ yes. zero_leads a.least a.most c.requires (eqb-true a.least 0 yes),
      λ go. eq-eqb a.least 0
          (zero_leads_only a.least a.most (begins_from a.least a.most 0 small (omega arith) go) small),
    )

pub loop-least-init : goal.loop-least-init
loop-least-init c = cut_none c.args.least c.args.most c.args.value (omega arith)

pub loop-least-preserved : goal.loop-least-preserved
loop-least-preserved c = cut_more_of c.args.least c.args.most c.args.value c.loop-least.least c.loop-least.most
    c.loop-least.invariant (omega arith)

pub returns : goal.returns
returns c =
    let a = c.args in
    let both = cut_leads a.least a.most a.value c.loop-least.least c.loop-least.most (omega arith)
    (omega arith) c.requires c.loop-least.invariant c.loop-least-test.false in
    (λ yes. both.0 (leb-true a.value c.loop-least.most yes), λ go. le-leb a.value c.loop-least.most (both.1 go))
