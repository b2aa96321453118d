-- For `turn` of src/copies.rt: shows all that is pending.
use Rattle.std.proofs.Common.{ap, ◌∙◌}
use Rattle.lb_topub.proofs.Books.{turns}
use Rattle.lb_topub.proofs.copies.turn.Goals as goal

pub publish_as-requires : goal.publish_as-requires
publish_as-requires g c next is = turns _ _ c.args.copies.desk.shown.value next
    (ap (λ k. k.book) (is ∙ c.requires.last) ∙ c.requires.book)
