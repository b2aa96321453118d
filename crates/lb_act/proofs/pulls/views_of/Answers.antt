-- For `views_of` of src/pulls.rt: the awake tasks of a queue from the front to the back, as a pull sees them
-- at the moment `at` (ns).
use Rattle.std.proofs.Common.{arith, ◌∙◌, sym, ap, List, [], ◌∷◌, ◌++◌, ◌≡◌, ℕ, take, length}
use Rattle.lb_base.specs.declared.view.TaskView.{TaskView}
use Rattle.std.proofs.Math.Seq.{take-length}
use Rattle.std.proofs.lemmas.List.{length-map}
use Rattle.lb_queue.specs.Queue.{clock_at}
use Rattle.lb_queue.specs.Values.{views, view_at}
use Rattle.lb_act.proofs.Lists.{take_get}
use Rattle.lb_act.proofs.pulls.views_of.Goals as goal

pub loop-i-preserved : goal.loop-i-preserved
loop-i-preserved c =
    let e = take_get (views c.args.queue.now.state c.args.at) c.loop-i.i c.view.result c.view.ensures in (
      c.push_reserved.ensures.items ∙ ap (λ (l : List TaskView). l ++ c.view.result ∷ []) c.loop-i.invariant.0
          ∙ sym e,
      let k = c.loop-i.invariant.1 in omega (arith, c.push_reserved.ensures.capacity),
    )

pub returns : goal.returns
unfolding views
returns c =
    let q = c.args.queue.now.state in
    let l = length-map q.awake (view_at (clock_at q c.args.at)) in
    let end : c.loop-i.i ≡ length (views q c.args.at) = omega arith in
    c.loop-i.invariant.0 ∙ ap (λ (n : ℕ). take n (views q c.args.at)) end ∙ take-length (views q c.args.at)
