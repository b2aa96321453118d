-- For `with_group` of src/group.rt: the busiest of the groups up to the i-th.
use Rattle.std.proofs.Common.{rules, sym, ◌∙◌}
use Rattle.lb_base.proofs.Greatest.{Picks-first, Picks-takes}
use Rattle.lb_busiest.proofs.Order.{busier_ranking}
use Rattle.lb_busiest.proofs.group.with_group.Goals as goal

pub returns-in-None : goal.returns-in-None
returns-in-None c =
    let none = rw c.in-None.is at c.requires.so_far in
    Picks-first _ _ c.args.i (busier_ranking c.args.stats.now) none (sym c.is_candidate.ensures ∙ search rules)

pub returns-then-beats : goal.returns-then-beats
returns-then-beats c =
    let held = rw c.in-Some.is at c.requires.so_far in
    Picks-takes _ _ c.args.i c.in-Some.held (busier_ranking c.args.stats.now) held
    (sym c.is_candidate.ensures ∙ search rules) (sym c.beats.ensures ∙ c.if-beats.true)
