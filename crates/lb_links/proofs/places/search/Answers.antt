use Rattle.std.proofs.Common.{rules}
use Rattle.std.proofs.lemmas.List.Sorted.{answers_always}
use Rattle.lb_links.proofs.Rising.{searched}
use Rattle.lb_links.proofs.places.search.Goals as goal

-- the closure gives the id of a pair
pub returns : goal.returns
returns c =
    let facts = c.binary_search_by_key.ensures in
    let by_id = facts.position (λ pair. pair.0) (answers_always _ _ _ (λ f a r g called. search rules)) in
    searched c.args.pairs.now c.requires c.args.id _ facts.bound by_id
