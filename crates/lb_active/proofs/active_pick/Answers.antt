-- For `active_pick` of src/lib.rt: the task that a push to the CPU `to` takes: the id of the one nearest the
-- back whose mask has `to`, or None where there is none.
use Rattle.std.proofs.Common.{rules, tests, sym, ◌∙◌, ap}
use Rattle.std.specs.Prelude.{option_map}
use Rattle.std.proofs.lemmas.Iterator.Search.{find_from_yields_List}
use Rattle.std.proofs.lemmas.Iterator.Adapters.{YieldsList-from_rev_slice}
use Rattle.lb_base.specs.Mask.{has}
use Rattle.lb_active.proofs.Last.{last_passing}
use Rattle.lb_active.proofs.active_pick.Goals as goal

pub returns : goal.returns
returns c =
    let found = find_from_yields_List (λ t. has t.mask c.args.to) _ _ c.find.result c.find.ensures.ran
    (YieldsList-from_rev_slice c.args.list.now cc) (λ x b q k. search (rules, tests)) in
    search (rules, tests) ∙ ap (option_map (λ t. t.id)) (found ∙ sym (last_passing (λ t. has t.mask c.args.to) c.args.list.now))
