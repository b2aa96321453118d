-- For `reply_due` of src/answers.rt: what the queue where the task is answers to the command in service.
use Rattle.std.proofs.Common.{rules, sym, ◌∙◌, subst}
use Rattle.lb_core.specs.declared.place.Place.{Place}
use Rattle.lb_queue.specs.declared.answers.Reply.TheVariants.{Done, Already, Gone}
use Rattle.lb_due.proofs.Answering.{Says, by_place, wake_says, sleep_says, exit_says, nice_says, mask_says}
use Rattle.lb_due.proofs.answers.reply_due.Goals as goal

pub returns-in-Awake : goal.returns-in-Awake
returns-in-Awake c =
    let m = c.args.engine.now.machine in
    subst (λ (p : Place). Says c.args.command.now m (by_place Already Done Gone p)) (sym c.place.ensures ∙ c.in-Awake.is)
    (wake_says c.calls_may_be_made.ensures.stand m c.requires.ready c.args.command.now c.in-Some-Wake.task
    c.requires.names (search rules))

pub returns-in-Asleep : goal.returns-in-Asleep
returns-in-Asleep c =
    let m = c.args.engine.now.machine in
    subst (λ (p : Place). Says c.args.command.now m (by_place Already Done Gone p)) (sym c.place.ensures ∙ c.in-Asleep.is)
    (wake_says c.calls_may_be_made.ensures.stand m c.requires.ready c.args.command.now c.in-Some-Wake.task
    c.requires.names (search rules))

pub returns-in-Gone : goal.returns-in-Gone
returns-in-Gone c =
    let m = c.args.engine.now.machine in
    subst (λ (p : Place). Says c.args.command.now m (by_place Already Done Gone p)) (sym c.place.ensures ∙ c.in-Gone.is)
    (wake_says c.calls_may_be_made.ensures.stand m c.requires.ready c.args.command.now c.in-Some-Wake.task
    c.requires.names (search rules))

pub returns-in-Awake-place : goal.returns-in-Awake-place
returns-in-Awake-place c =
    let m = c.args.engine.now.machine in
    subst (λ (p : Place). Says c.args.command.now m (by_place Done Already Gone p))
    (sym c.place-in-Some-Sleep.ensures ∙ c.in-Awake-place.is)
    (sleep_says c.calls_may_be_made.ensures.stand m c.requires.ready c.args.command.now c.in-Some-Sleep.task
    c.requires.names (search rules))

pub returns-in-Asleep-place : goal.returns-in-Asleep-place
returns-in-Asleep-place c =
    let m = c.args.engine.now.machine in
    subst (λ (p : Place). Says c.args.command.now m (by_place Done Already Gone p))
    (sym c.place-in-Some-Sleep.ensures ∙ c.in-Asleep-place.is)
    (sleep_says c.calls_may_be_made.ensures.stand m c.requires.ready c.args.command.now c.in-Some-Sleep.task
    c.requires.names (search rules))

pub returns-in-Gone-place : goal.returns-in-Gone-place
returns-in-Gone-place c =
    let m = c.args.engine.now.machine in
    subst (λ (p : Place). Says c.args.command.now m (by_place Done Already Gone p))
    (sym c.place-in-Some-Sleep.ensures ∙ c.in-Gone-place.is)
    (sleep_says c.calls_may_be_made.ensures.stand m c.requires.ready c.args.command.now c.in-Some-Sleep.task
    c.requires.names (search rules))

pub returns-in-Some-SetMask : goal.returns-in-Some-SetMask
returns-in-Some-SetMask c =
    rw (c.done_unless_gone-in-Some-SetMask.ensures, c.place-in-Some-SetMask.ensures, c.is_bad_mask.ensures)
    (mask_says c.calls_may_be_made.ensures.stand c.args.engine.now.machine c.requires.ready c.args.command.now
    c.in-Some-SetMask.task c.in-Some-SetMask.mask c.requires.names (search rules))

pub returns-in-Some-Exit : goal.returns-in-Some-Exit
returns-in-Some-Exit c =
    rw (c.done_unless_gone.ensures, c.place-in-Some-Exit.ensures)
    (exit_says c.calls_may_be_made.ensures.stand c.args.engine.now.machine c.requires.ready c.args.command.now
    c.in-Some-Exit.task c.requires.names (search rules))

pub returns-in-Some-Nice : goal.returns-in-Some-Nice
returns-in-Some-Nice c =
    rw (c.done_unless_gone-in-Some-Nice.ensures, c.place-in-Some-Nice.ensures)
    (nice_says c.calls_may_be_made.ensures.stand c.args.engine.now.machine c.requires.ready c.args.command.now
    c.in-Some-Nice.task c.in-Some-Nice.field-0-1 c.requires.names (search rules))
