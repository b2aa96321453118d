-- For `run` of src/run.rt: does the work of `run`, and answers how it ended, if it ends: it waits for the
-- threads that it starts.
use Rattle.std.proofs.Common.{Some, refl}
use Rattle.lb_words.specs.declared.work.Work.TheVariants.{Run}
use Rattle.lb.specs.Invocation.{Stream, stream_of}
use Rattle.lb.proofs.Headlines.{of_run}
use Rattle.lb.proofs.run.run.Goals as goal

pub returns-clause-completes : goal.returns-clause-completes
returns-clause-completes g c =
    let source : Stream = stream_of g.S.Source.left g.S.Source.faults c.args.src.now c.output_of-made.new.src in
    c.finish.ensures.completes (Some Run) source c.output_of-made.ensures.done c.output_of-made.ensures.failed

pub returns-clause-headline : goal.returns-clause-headline
returns-clause-headline g c is_done =
    let source : Stream = stream_of g.S.Source.left g.S.Source.faults c.args.src.now c.output_of-made.new.src in
    of_run c.histories_are_sound.ensures c.finish.result _ _
    (c.finish.ensures.answers (Some Run) source c.output_of-made.ensures.done c.output_of-made.ensures.failed) is_done refl
