-- For `new_looker` of src/copies.rt: a looker that knows what is shown.
use Rattle.std.proofs.Common.{rules}
use Rattle.lb_topub.proofs.Books.{admits, forks, merges}
use Rattle.lb_topub.proofs.copies.new_looker.Goals as goal

pub reader-requires : goal.reader-requires
reader-requires g c = admits

pub tell-requires : goal.tell-requires
tell-requires g c = forks _ _

pub learn-requires : goal.learn-requires
learn-requires g c = record { own = search rules; rule = merges _ _ _ _ }
