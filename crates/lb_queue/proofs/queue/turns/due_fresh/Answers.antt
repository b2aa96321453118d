-- For `due_fresh` of src/queue/turns.rt: the positions that are due by counters that are fresh at some
-- milliseconds.
use Rattle.std.proofs.Common.{◌≡◌, ◌∙◌, ◌&&◌, nat_lt, ℕ, sym, ap, arith, subst, map, length}
use Rattle.std.proofs.lemmas.List.{length-map}
use Rattle.lb_base.specs.Mask.{has}
use Rattle.lb_interval.specs.declared.Counters.{Counters}
use Rattle.lb_interval.specs.After.{is_due, fresh_counters}
use Rattle.lb_queue.specs.Turns.{counters_at, fresh_at, due_positions, no_counters}
use Rattle.lb_queue.proofs.Positions.{position_step, positions_are, get_map}
use Rattle.lb_queue.proofs.queue.turns.due_fresh.Goals as goal

pub loop-p-preserved : goal.loop-p-preserved
loop-p-preserved c =
    let f = fresh_at c.args.made in
    let here = c.fresh-counters.ensures ∙ ap (λ (w : ℕ). fresh_counters w c.args.made) c.weight.ensures
    ∙ sym (get_map f c.args.shapes.now c.loop-p.p _ no_counters c.loop-p-test.true) in
    λ k. position_step (λ p. is_due (counters_at (map f c.args.shapes.now) p) c.args.busy c.args.cpus c.args.now)
    c.loop-p.p k c.due.result (has c.loop-p.mask k) _ (c.with_position-mask.ensures k) (c.loop-p.invariant k)
    (c.due.ensures ∙ ap (λ (x : Counters). is_due x c.args.busy c.args.cpus c.args.now) here)

pub returns : goal.returns
unfolding due_positions
returns c =
    let cs = map (fresh_at c.args.made) c.args.shapes.now in
    let test = λ (p : ℕ). is_due (counters_at cs p) c.args.busy c.args.cpus c.args.now in
    let long = length-map c.args.shapes.now (fresh_at c.args.made) in
    let same : c.loop-p.p ≡ length cs = omega arith in
    positions_are test (length cs) c.loop-p.mask (omega arith)
    (λ k. subst (λ (n : ℕ). has c.loop-p.mask k ≡ (nat_lt k n && test k)) same (c.loop-p.invariant k))
