-- For `enter` of src/looker.rt: a look at what is shown now.
use Rattle.std.proofs.Common.{refl}
use Rattle.lb_topub.proofs.Books.{turns}
use Rattle.lb_topub.proofs.looker.enter.Goals as goal

pub enter_as-requires : goal.enter_as-requires
enter_as-requires c x = turns _ _ x x refl
