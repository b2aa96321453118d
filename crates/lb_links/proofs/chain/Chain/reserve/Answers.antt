use Rattle.std.proofs.Common.{ap}
use Rattle.slab.specs.Slab.{get, slab_len}
use Rattle.lb_links.proofs.Held.{same_nodes}
use Rattle.lb_links.proofs.chain.Chain.reserve.Goals as goal

pub invariant_of-self : goal.invariant_of-self
invariant_of-self g c = same_nodes c.self.inside.nodes c.reserve.new.self c.self.inside.ends
    (λ k. ap (λ s. get s k) c.reserve.ensures.rest_kept) (ap slab_len c.reserve.ensures.rest_kept) c.self.invariant

pub invariant_of-self-2 : goal.invariant_of-self-2
invariant_of-self-2 g c = same_nodes c.self.inside.nodes c.reserve.new.self c.self.inside.ends
    (λ k. ap (λ s. get s k) c.reserve.ensures.rest_kept) (ap slab_len c.reserve.ensures.rest_kept) c.self.invariant
