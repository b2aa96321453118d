-- For `next_of` of src/next.rt: what comes next.
use Rattle.std.proofs.Common.{Bor, Option, sym, ◌∙◌, ap}
use Rattle.std.specs.Prelude.{option_map}
use Rattle.std.proofs.lemmas.Result.{IfOk-weaker}
use Rattle.lb_core.specs.declared.course.Course.{Course}
use Rattle.lb_trace.specs.declared.trace.Row.{Row}
use Rattle.lb_draw.proofs.Coming.{next_live, next_at_rest, none_after}
use Rattle.lb_draw.proofs.next.next_of.Goals as goal

pub returns-then-has_ended : goal.returns-then-has_ended
returns-then-has_ended c = none_after c.args.engine.now.machine c.args.lane _ (sym c.has_ended.ensures ∙ c.if-has_ended.true)

pub returns-in-Some : goal.returns-in-Some
returns-in-Some c =
    let next = next_at_rest c.args.engine.now.machine c.args.lane _ _ (sym c.has_ended.ensures ∙ c.if-has_ended.false)
    c.requires.lane
    (ap (λ (k : Course). k.form) (sym c.course.ensures) ∙ c.in-Rest.is)
    (ap (λ (o : Option (Bor Row)). option_map (λ r. r.now) o) c.in-Some.is) in
    IfOk-weaker c.taking.result _ _ (λ drawn h. h ∙ next) c.taking.ensures

pub returns-in-None : goal.returns-in-None
returns-in-None c =
    let next = next_at_rest c.args.engine.now.machine c.args.lane _ _ (sym c.has_ended.ensures ∙ c.if-has_ended.false)
    c.requires.lane
    (ap (λ (k : Course). k.form) (sym c.course.ensures) ∙ c.in-Rest.is)
    (ap (λ (o : Option (Bor Row)). option_map (λ r. r.now) o) c.in-None.is) in
    IfOk-weaker c.ending.result _ _ (λ drawn h. h ∙ next) c.ending.ensures

pub returns-in_default : goal.returns-in_default
returns-in_default c =
    let next = next_live c.args.engine.now.machine c.args.lane _ (sym c.has_ended.ensures ∙ c.if-has_ended.false)
    c.requires.lane in
    IfOk-weaker c.at_work.result _ _ (λ drawn h. h _ ∙ sym next) c.at_work.ensures
