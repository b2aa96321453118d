-- For `put_runs` of src/put.rt: appends the runs of a mask.
use Rattle.std.proofs.Common.{◌++◌, ◌∷◌, [], sym, ap, ◌∙◌}
use Rattle.std.proofs.lemmas.List.{append-nil}
use Rattle.lb_text.specs.Runs.{run_text}
use Rattle.lb_text.proofs.RunFacts.{put_none, put_more, mark_some, mark_none}
use Rattle.lb_text.proofs.put.put_runs.Goals as goal

pub loop-next-init : goal.loop-next-init
loop-next-init c = put_none c.args.to.now.items c.args.mask c.first-next.result c.first-next.ensures.cpus

pub loop-next-preserved-in-Continue-branch-2 : goal.loop-next-preserved-in-Continue-branch-2
loop-next-preserved-in-Continue-branch-2 c =
    let e = c.run_end-last.ensures in
    let run = run_text (c.in-Some.first, c.run_end-last.result) in
    let written = c.in_ok-extend_from_slice.ensures.items ∙ ap (λ t. t ++ 59 ∷ []) c.in_ok-put_run.ensures.ok
    ∙ ap (λ t. (c.loop-next.to.items ++ run) ++ t) (sym (mark_some c.next_after-next.result (sym c.if-is_some.ensures))) in
    put_more c.args.to.now.items c.args.mask c.loop-next.to.items c.extend_from_slice.new.self.items c.loop-next.next
    c.next_after-next.result c.in-Some.first c.run_end-last.result c.loop-next.invariant c.in-Some.is
    e.in_range.0 e.in_range.1 e.there e.ends c.next_after-next.ensures.cpus written

pub loop-next-preserved : goal.loop-next-preserved
loop-next-preserved c =
    let e = c.run_end-last.ensures in
    let run = run_text (c.in-Some.first, c.run_end-last.result) in
    let written = c.in_ok-put_run.ensures.ok ∙ sym (append-nil (c.loop-next.to.items ++ run))
    ∙ ap (λ t. (c.loop-next.to.items ++ run) ++ t) (sym (mark_none c.next_after-next.result (sym c.if-is_some.ensures))) in
    put_more c.args.to.now.items c.args.mask c.loop-next.to.items c.put_run.new.to.items c.loop-next.next
    c.next_after-next.result c.in-Some.first c.run_end-last.result c.loop-next.invariant c.in-Some.is
    e.in_range.0 e.in_range.1 e.there e.ends c.next_after-next.ensures.cpus written
