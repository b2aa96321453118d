-- For `top` of src/top.rt: all that the program does: `run` on threads, which pass the gate, and every other
-- command on one thread.
use Rattle.std.proofs.Common.{None, map, refl}
use Rattle.std.specs.Prelude.{string_bytes}
use Rattle.lb_words.specs.Words.{work_of}
use Rattle.lb.specs.Invocation.{Stream, stream_of}
use Rattle.lb.proofs.Headlines.{none_done}
use Rattle.lb.proofs.top.top.Goals as goal

pub returns-in-Err-clause-completes : goal.returns-in-Err-clause-completes
returns-in-Err-clause-completes g c =
    let source : Stream = stream_of g.S.Source.left g.S.Source.faults c.args.src.now c.args.src.now in
    c.finish.ensures.completes (work_of (map string_bytes c.args.words.now)) source tt tt

pub returns-in-Err-clause-headline : goal.returns-in-Err-clause-headline
returns-in-Err-clause-headline g c is_done step =
    let source : Stream = stream_of g.S.Source.left g.S.Source.faults c.args.src.now c.args.src.now in
    absurd (none_done c.finish.result _ _ (c.finish.ensures.answers None source tt tt) refl is_done)

pub returns-in-Err-clause-headline_of_run : goal.returns-in-Err-clause-headline_of_run
returns-in-Err-clause-headline_of_run g c is_done run =
    let source : Stream = stream_of g.S.Source.left g.S.Source.faults c.args.src.now c.args.src.now in
    absurd (none_done c.finish.result _ _ (c.finish.ensures.answers None source tt tt) refl is_done)
