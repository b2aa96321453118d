-- Where no turn is open, the turn that is due opens.
-- For `positions_due`.
use Rattle.std.proofs.Common.{◌≡◌, ℕ, false, List, is_some}
use Rattle.lb_base.specs.declared.mask.Mask.{Mask}
use Rattle.lb_base.specs.declared.shape.Kind.{Kind}
use Rattle.lb_base.specs.declared.shape.Shape.{Shape}
use Rattle.lb_queue.specs.Queue.{QueueState}
use Rattle.lb_queue.specs.Turns.{opens, positions_found}
use Rattle.lb_queue.specs.declared.answers.TurnReply.TheVariants.{TurnOpen, Opened}

pub not_open : (q : QueueState) (at : ℕ) (k : Kind) (v : ℕ) (shapes : List Shape) → TurnOpen ≡ opens q at k v shapes
    → is_some q.open_turn ≡ false → ⊥
unfolding opens
not_open q at k v shapes e h = let o = rw h at e in let y : ⊥ = cc in y

pub opened : (q : QueueState) (at : ℕ) (k : Kind) (v : ℕ) (shapes : List Shape) (d : Mask)
    → Opened d ≡ opens q at k v shapes → is_some q.open_turn ≡ false → d ≡ positions_found q at k v shapes
unfolding opens
opened q at k v shapes d e h = let o = rw h at e in let y : d ≡ positions_found q at k v shapes = cc in y
