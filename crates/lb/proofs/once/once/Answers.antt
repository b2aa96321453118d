-- For `once` of src/once.rt: does the work of the words on one thread, and answers how it ended.
use Rattle.std.proofs.Common.{Option, map, ap}
use Rattle.std.specs.Prelude.{string_bytes}
use Rattle.lb_words.specs.declared.work.Work.{Work}
use Rattle.lb_words.specs.Words.{work_of}
use Rattle.lb.specs.Invocation.{Stream, stream_of}
use Rattle.lb.specs.Works.{on_one_thread}
use Rattle.lb.proofs.Headlines.{of_step}
use Rattle.lb.proofs.once.once.Goals as goal

pub returns-clause-completes : goal.returns-clause-completes
returns-clause-completes g c =
    let asked : Option Work = on_one_thread (work_of (map string_bytes c.args.words.now)) in
    let source : Stream = stream_of g.S.Source.left g.S.Source.faults c.args.src.now c.output_alone-made.new.src in
    c.finish.ensures.completes asked source c.output_alone-made.ensures.done c.output_alone-made.ensures.failed

pub returns-clause-headline : goal.returns-clause-headline
returns-clause-headline g c is_done step =
    let asked : Option Work = on_one_thread (work_of (map string_bytes c.args.words.now)) in
    let source : Stream = stream_of g.S.Source.left g.S.Source.faults c.args.src.now c.output_alone-made.new.src in
    of_step c.histories_are_sound.ensures c.one_serial_history.ensures c.finish.result _ _
    (c.finish.ensures.answers asked source c.output_alone-made.ensures.done c.output_alone-made.ensures.failed) is_done
    (ap on_one_thread step)
