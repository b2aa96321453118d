-- For `waits_for_push` of src/stage.rt: whether the `use` of a tick has to wait for a push of its CPU.
use Rattle.std.proofs.Common.{arith, ◌≡◌, length, sym, subst, true}
use Rattle.lb_core.specs.declared.course.Course.{Course}
use Rattle.lb_core.specs.declared.entry.What.{What}
use Rattle.lb_core.specs.Machine.{owned_queue}
use Rattle.lb_core.specs.Stage.{draws}
use Rattle.lb_ready.specs.Ready.{Speaks}
use Rattle.lb_judge.proofs.Staged.{use_cpu}
use Rattle.lb_judge.proofs.stage.waits_for_push.Goals as goal

pub queue-requires : goal.queue-requires
queue-requires c =
    let m = c.args.engine.now.machine in
    let e = c.args.entry.now in
    let k = c.args.course.now in
    let says : Speaks m.header m.ticket k =
    subst (λ (x : Course). Speaks m.header m.ticket x) (sym c.requires.course) (c.requires.ready.fits e.lane).says in
    let z : length m.header.cpus ≡ length m.queues = sym c.requires.ready.sizes.queues in
    let d = subst (λ (w : What). draws k.form m.header k (owned_queue e.owner m) e.lane w ≡ true) c.in-Adopt.is
    c.requires.drawn in
    use_cpu k.form m.header k (owned_queue e.owner m) e.lane _ _ _ (length m.queues) d says.names
    (let t = says.turned in omega arith) z
